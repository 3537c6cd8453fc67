-- An atom's type, by its word's tag, or from the signature.
use Prim.Native.Nat.{ℕ, zero, suc, ◌+◌, ◌-◌, ◌≤◌, ◌<◌}
use native.Mathlib.Nat.{le_of_suc-le-suc}
use native.Mathlib.Omega.{arith}
use mathlib.Core.Path.{◌≡◌, refl, sym, ap, subst, ◌∙◌}
use mathlib.Core.Logic.{inl, inr}
use mathlib.Core.List.{List, [], ◌∷◌}
use mathlib.Core.Option.{Option, some, none}
use lib.ListN.{length, take, drop, set, get_or, get_elem?}
use Rattle.logic.specs.Limits.{most_type_words}
use Rattle.logic.specs.Refusals.{unknown_constant, type_too_long}
use Rattle.logic.specs.Tags.{tag_constant}
use Rattle.logic.specs.Result.{Result, ok, refused, ◌>>=◌, known}
use Rattle.logic.specs.Term.{Atom, propA, typeA, stringA, prinA, kindPA, kindTA, constA, textA, nameA, Term, atom, atom_word, tag_of}
use Rattle.logic.specs.Term.{payload_of, encode, size}
use Rattle.logic.specs.Reading.{Plain, PlainAtom, PlainType}
use Rattle.logic.specs.Infer.{measured, infer_atom}
use Rattle.logic.proofs.Basics.{clash, some_inj}
use Rattle.words.specs.Place.{At, written_at}
use Rattle.words.proofs.Lists.{written_set}
use Rattle.words.proofs.Places.{at_part}
use Rattle.rules.specs.Rule.{atom_type}
use Rattle.rules.specs.Scope.{Declared}
use Rattle.rules.specs.Form.{TypeFormed}
use Rattle.rules.specs.Atoms.{sort_of}
use Rattle.std.specs.Prelude.{Ok}
use Rattle.std.specs.Prelude.{Result as Answer}
use Rattle.logic.specs.Answer.{answer as told}
use Rattle.logic.specs.declared.refusal.Refusal.{Refusal}
use Rattle.rules.specs.declared.typed.Typed.{Typed}
use Rattle.rules.proofs.Fronts.{measured_fits, measured_long, formed_refused, writes}

-- ---- an atom's tag

-- the word of a constant
constant_word : (w : ℕ) (a : Atom) → PlainAtom a → w ≡ atom_word a → tag_of w ≡ tag_constant → a ≡ constA (payload_of w)
constant_word w propA p e t = absurd (omega arith)
constant_word w typeA p e t = absurd (omega arith)
constant_word w stringA p e t = absurd (omega arith)
constant_word w prinA p e t = absurd (omega arith)
constant_word w kindPA p e t = absurd p
constant_word w kindTA p e t = absurd p
constant_word w (constA n) p e t = let q : n ≡ payload_of w = omega arith in ap constA q
constant_word w (textA n) p e t = absurd (omega arith)
constant_word w (nameA n) p e t = absurd (omega arith)

-- every other atom has a type that is an atom
pub sort_known : (w : ℕ) (a : Atom) → PlainAtom a → w ≡ atom_word a → (tag_of w ≡ tag_constant → ⊥) → (b : Atom) × (sort_of a ≡ some b)
sort_known w propA p e t = (kindPA, refl)
sort_known w typeA p e t = (kindTA, refl)
sort_known w stringA p e t = (typeA, refl)
sort_known w prinA p e t = (typeA, refl)
sort_known w kindPA p e t = absurd p
sort_known w kindTA p e t = absurd p
sort_known w (constA n) p e t = absurd (t (omega arith))
sort_known w (textA n) p e t = (stringA, refl)
sort_known w (nameA n) p e t = (prinA, refl)

-- it is a type that may be derived
sort_plain : (a b : Atom) → sort_of a ≡ some b → PlainType (atom b)
unfolding Plain
sort_plain propA b e = inr (inl (ap atom (sym (some_inj e))))
sort_plain typeA b e = inr (inr (ap atom (sym (some_inj e))))
sort_plain stringA b e = inl (subst PlainAtom (some_inj e) tt)
sort_plain prinA b e = inl (subst PlainAtom (some_inj e) tt)
sort_plain kindPA b e = absurd (clash (cc))
sort_plain kindTA b e = absurd (clash (cc))
sort_plain (constA n) b e = absurd (clash (cc))
sort_plain (textA n) b e = inl (subst PlainAtom (some_inj e) tt)
sort_plain (nameA n) b e = inl (subst PlainAtom (some_inj e) tt)

sort_infers : (Σ : List Term) (at : ℕ) (a b : Atom) → sort_of a ≡ some b → infer_atom Σ at a ≡ ok (atom b)
sort_infers Σ at propA b e = ap (λ (b : Atom). ok (atom b)) (some_inj e)
sort_infers Σ at typeA b e = ap (λ (b : Atom). ok (atom b)) (some_inj e)
sort_infers Σ at stringA b e = ap (λ (b : Atom). ok (atom b)) (some_inj e)
sort_infers Σ at prinA b e = ap (λ (b : Atom). ok (atom b)) (some_inj e)
sort_infers Σ at kindPA b e = absurd (clash (cc))
sort_infers Σ at kindTA b e = absurd (clash (cc))
sort_infers Σ at (constA n) b e = absurd (clash (cc))
sort_infers Σ at (textA n) b e = ap (λ (b : Atom). ok (atom b)) (some_inj e)
sort_infers Σ at (nameA n) b e = ap (λ (b : Atom). ok (atom b)) (some_inj e)

-- its word was written at the front
pub sorted : (Σ : List Term) (at r : ℕ) (ws : List ℕ) (a b : Atom) → 0 < length ws → sort_of a ≡ some b → r ≡ atom_word b
    → TypeFormed (atom_type Σ at a) (at + 1) ws (set ws 0 r) (Ok (record { words = 1; end = at + 1 }))
unfolding encode size
sorted Σ at r ws a b l e q =
    writes (atom_type Σ at a) (atom b) 1 (at + 1) ws ws (set ws 0 r)
    (ap (λ (o : Result Term). o >>= measured at) (sort_infers Σ at a b e) ∙ measured_fits at (atom b) (omega arith))
    refl
    (omega arith)
    (sort_plain a b e)
    refl
    (written_set ws 0 r l ∙ ap (λ (w : ℕ). written_at ws 0 (w ∷ [])) q)

-- ---- a constant

element : (l : List Term) (n : ℕ) → n < length l → (A : Term) × (get_elem? l n ≡ some A)
element [] n h = absurd (omega arith)
element (A ∷ l) zero h = (A, refl)
element (A ∷ l) (suc n) h = element l n (le_of_suc-le-suc h)

pub no_element : (l : List Term) (n : ℕ) → length l ≤ n → get_elem? l n ≡ none
no_element [] n h = refl
no_element (A ∷ l) zero h = absurd (omega arith)
no_element (A ∷ l) (suc n) h = no_element l n (le_of_suc-le-suc h)

pub constant_unknown : {sig table : List ℕ} {Σ : List Term} {r : Answer Typed Refusal} (ws : List ℕ) (n at : ℕ) → length table ≤ n
    → told r ≡ refused unknown_constant at → Declared sig table Σ → TypeFormed (atom_type Σ at (constA n)) (at + 1) ws ws r
constant_unknown {sig} {table} {Σ} ws n at l t d =
    let c : length table ≡ length Σ = d.count in
    formed_refused (atom_type Σ at (constA n)) unknown_constant at (at + 1) ws
    (ap (λ (o : Option Term). known unknown_constant at o >>= measured at) (no_element Σ n (omega arith))) t

-- a constant's word has a constant's type
pub constant_typed : {ws new : List ℕ} {r : Answer Typed Refusal} {n : ℕ} (Σ : List Term) (at w : ℕ) (a : Atom) → PlainAtom a → w ≡ atom_word a → tag_of w
    ≡ tag_constant
    → n ≡ payload_of w → TypeFormed (atom_type Σ at (constA n)) (at + 1) ws new r → TypeFormed (atom_type Σ at a) (at + 1) ws new r
constant_typed {ws} {new} {r} Σ at w a p e t q f =
    subst (λ (x : Atom). TypeFormed (atom_type Σ at x) (at + 1) ws new r) (ap constA q ∙ sym (constant_word w a p e t)) f

-- where a constant's type stands
pub record ConstantAt (sig table : List ℕ) (n : ℕ) (Σ : List Term) : Type 0 where
  pub type : Term
  pub entry : get_elem? Σ n ≡ some type
  pub here : At sig (get_or table n 0) type
  pub behind : 1 ≤ get_or table n 0
  pub words : get_or sig (get_or table n 0 - 1) 0 ≡ size type

pub constant_placed : {sig table : List ℕ} {Σ : List Term} (n : ℕ) → n < length table → Declared sig table Σ → ConstantAt sig table n Σ
constant_placed {sig} {table} {Σ} n l d =
    let c : length table ≡ length Σ = d.count in
    let e = element Σ n (omega arith) in
    record { type = e.0; entry = e.1; here = d.type n e.0 e.1; behind = (d.length_word n e.0 e.1).0; words = (d.length_word n e.0 e.1).1 }

module _ {sig table : List ℕ} {n : ℕ} {Σ : List Term} (ws : List ℕ) (at : ℕ) (c : ConstantAt sig table n Σ) where
  constant_is : atom_type Σ at (constA n) ≡ measured at c.type
  constant_is = ap (λ (o : Option Term). known unknown_constant at o >>= measured at) c.entry

  pub constant_long : {r : Answer Typed Refusal} → most_type_words < get_or sig (get_or table n 0 - 1) 0 → told r ≡ refused type_too_long at
      → TypeFormed (atom_type Σ at (constA n)) (at + 1) ws ws r
  constant_long l t =
      let w : get_or sig (get_or table n 0 - 1) 0 ≡ size c.type = c.words in
      formed_refused (atom_type Σ at (constA n)) type_too_long at (at + 1) ws (constant_is ∙ measured_long at c.type (omega arith)) t

  pub constant_copied : {new : List ℕ} → get_or sig (get_or table n 0 - 1) 0 ≤ most_type_words
      → new ≡ written_at ws 0 (take (get_or sig (get_or table n 0 - 1) 0) (drop (get_or table n 0) sig))
      → TypeFormed (atom_type Σ at (constA n)) (at + 1) ws new (Ok (record { words = get_or sig (get_or table n 0 - 1) 0; end = at + 1 }))
  constant_copied {new} l e =
      let w : get_or sig (get_or table n 0 - 1) 0 ≡ size c.type = c.words in
      writes (atom_type Σ at (constA n)) c.type (get_or sig (get_or table n 0 - 1) 0) (at + 1) ws ws new
      (constant_is ∙ measured_fits at c.type (omega arith))
      w
      (omega arith)
      (inl c.here.plain)
      refl
      (e ∙ ap (written_at ws 0) (ap (λ (k : ℕ). take k (drop (get_or table n 0) sig)) w ∙ at_part c.here))
