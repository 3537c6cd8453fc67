-- Terms in a row, taken word by word.
use Prim.Native.Nat.{ℕ, ◌+◌, ◌-◌, ◌≤◌, ◌<◌}
use native.Mathlib.Omega.{arith}
use mathlib.Core.Path.{◌≡◌, refl, sym, ap, subst, ◌∙◌}
use Rattle.std.specs.Prelude.{Some, IsSome}
use mathlib.Core.List.{List, [], ◌∷◌, ◌++◌, append_assoc, append-nil}
use lib.ListN.{length, drop, get_or}
use Rattle.logic.specs.Term.{Term, atom, var, sign, node, encode, size}
use Rattle.logic.specs.Reading.{Plain, word_shape}
use Rattle.logic.specs.Kind.{shape_children}
use Rattle.logic.proofs.Words.{head, shape_first, size_pos}
use Rattle.words.specs.Place.{At}
use Rattle.words.proofs.Places.{cons_tail, at_head}

abbrev pub AllPlain : List Term → Type 0
AllPlain [] = Unit {0}
AllPlain (t ∷ ts) = Plain t × AllPlain ts

abbrev pub encodes : List Term → List ℕ
encodes [] = []
encodes (t ∷ ts) = encode t ++ encodes ts

abbrev pub sizes : List Term → ℕ
sizes [] = 0
sizes (t ∷ ts) = size t + sizes ts

-- the terms ts stand in a row, with the words `rest` behind them
pub record TermRow (ws : List ℕ) (at : ℕ) (ts : List Term) (rest : List ℕ) : Type 0 where
  pub plain : AllPlain ts
  pub words : drop at ws ≡ encodes ts ++ rest

-- what stands behind a term's first word, in front of others
abbrev pub next_terms : Term → List Term → List Term
next_terms (atom a) ts = ts
next_terms (var n) ts = ts
next_terms (sign n q) ts = q ∷ ts
next_terms (node o a b) ts = a ∷ b ∷ ts

pub row_head : {ws : List ℕ} {at : ℕ} {t : Term} {ts : List Term} {rest : List ℕ} → TermRow ws at (t ∷ ts) rest → At ws at t
row_head {t} {ts} {rest} h = record { plain = h.plain.0; rest = encodes ts ++ rest; words = h.words ∙ append_assoc (encode t) (encodes ts) rest }

pub row_one : {ws : List ℕ} {at : ℕ} {t : Term} (h : At ws at t) → TermRow ws at (t ∷ []) h.rest
row_one {t} h = record { plain = (h.plain, tt); words = h.words ∙ ap (λ (l : List ℕ). l ++ h.rest) (sym_nil (encode t)) }
  where
    sym_nil : (l : List ℕ) → l ≡ l ++ []
    sym_nil l = cc (append-nil l)

-- one word on
pub row_next : {ws : List ℕ} {at : ℕ} {rest : List ℕ} (t : Term) (ts : List Term) → TermRow ws at (t ∷ ts) rest → TermRow ws (at + 1) (next_terms t ts) rest
unfolding encode Plain
row_next {ws} {at} (atom a) ts h = record { plain = h.plain.1; words = cons_tail ws at _ _ h.words }
row_next {ws} {at} (var n) ts h = record { plain = h.plain.1; words = cons_tail ws at _ _ h.words }
row_next {ws} {at} (sign n q) ts h = record { plain = (h.plain.0.1, h.plain.1); words = cons_tail ws at _ _ h.words }
row_next {ws} {at} {rest} (node o a b) ts h = record {
  plain = (h.plain.0.0, (h.plain.0.1, h.plain.1));
  words = cons_tail ws at _ _ h.words ∙ ap (λ (l : List ℕ). l ++ rest) (append_assoc (encode a) (encode b) (encodes ts));
}

-- ---- a count of the terms still to be read

behind_length : (t : Term) (ts : List Term) (n : ℕ) → shape_children (head t) ≡ Some n → length (next_terms t ts) ≡ length ts + n
behind_length (atom a) ts n e = let i : n ≡ 0 = cc in omega arith
behind_length (var m) ts n e = let i : n ≡ 0 = cc in omega arith
behind_length (sign m q) ts n e = let i : n ≡ 1 = cc in omega arith
behind_length (node o a b) ts n e = let i : n ≡ 2 = cc in omega arith

behind_size : (t : Term) (ts : List Term) → size t + sizes ts ≡ 1 + sizes (next_terms t ts)
unfolding size
behind_size (atom a) ts = refl
behind_size (var n) ts = refl
behind_size (sign n q) ts = omega arith
behind_size (node o a b) ts = omega arith

few : (ts : List Term) → length ts ≤ sizes ts
few [] = omega arith
few (t ∷ ts) = let h = few ts in let p = size_pos t in omega arith

-- so many terms stand in a row from a place on, and end at another
pub record TermsLeft (ws : List ℕ) (at count end : ℕ) : Type 0 where
  pub terms : List Term
  pub rest : List ℕ
  pub row : TermRow ws at terms rest
  pub number : length terms ≡ count
  pub ends : at + sizes terms ≡ end

pub left_start : {ws : List ℕ} {at : ℕ} {t : Term} → At ws at t → TermsLeft ws at 1 (at + size t)
left_start {t} h = record { terms = t ∷ []; rest = h.rest; row = row_one h; number = refl; ends = omega arith }

pub left_few : {ws : List ℕ} {at count end : ℕ} → TermsLeft ws at count end → at + count ≤ end
left_few l = omega (arith, few l.terms, l.number, l.ends)

pub left_none : {ws : List ℕ} {at count end : ℕ} → TermsLeft ws at count end → count ≤ 0 → at ≡ end
left_none {ws} {at} {count} {end} l z = go l.terms l.number l.ends
  where
    go : (ts : List Term) → length ts ≡ count → at + sizes ts ≡ end → at ≡ end
    go [] n e = omega arith
    go (t ∷ ts) n e = absurd (omega arith)

-- the word there is one of a term
head_children : (t : Term) → IsSome (shape_children (head t))
head_children (atom a) = refl
head_children (var n) = refl
head_children (sign n q) = refl
head_children (node o a b) = refl

-- as it stands in the list
children_head : {ws : List ℕ} {at : ℕ} {t : Term} → At ws at t → shape_children (word_shape (get_or ws at 0)) ≡ shape_children (head t)
children_head {t} h = ap (λ (w : ℕ). shape_children (word_shape w)) (at_head h) ∙ ap shape_children (shape_first t h.plain)

pub left_children : {ws : List ℕ} {at count end : ℕ} → 0 < count → TermsLeft ws at count end → IsSome (shape_children (word_shape (get_or ws at 0)))
left_children {ws} {at} {count} p l = go l.terms l.row l.number
  where
    go : (ts : List Term) → TermRow ws at ts l.rest → length ts ≡ count → IsSome (shape_children (word_shape (get_or ws at 0)))
    go [] r m = absurd (omega arith)
    go (t ∷ ts) r m = subst IsSome (sym (children_head (row_head r))) (head_children t)

pub left_next : {ws : List ℕ} {at count end : ℕ} (n : ℕ) → 0 < count → shape_children (word_shape (get_or ws at 0)) ≡ Some n → TermsLeft ws at count end
    → TermsLeft ws (at + 1) (count - 1 + n) end
left_next {ws} {at} {count} {end} n p e l = go l.terms l.row l.number l.ends
  where
    go : (ts : List Term) → TermRow ws at ts l.rest → length ts ≡ count → at + sizes ts ≡ end → TermsLeft ws (at + 1) (count - 1 + n) end
    go [] r m s = absurd (omega arith)
    go (t ∷ ts) r m s =
        let c : shape_children (head t) ≡ Some n = sym (children_head (row_head r)) ∙ e in
        record {
          terms = next_terms t ts;
          rest = l.rest;
          row = row_next t ts r;
          number = omega (arith, behind_length t ts n c);
          ends = omega (arith, behind_size t ts);
        }
