-- The names in scope, as the code looks them up and enters them.
use Prim.Native.Nat.{ℕ, zero, suc, ◌+◌, ◌-◌, ◌*◌, ◌≤◌, ◌<◌}
use Rattle.std.proofs.Common.{◌≡◌, refl, sym, ap, ◌∙◌, Bool, true, false, List, [], ◌∷◌, length, drop, set, cond, eqb, ◌==◌, nat_lt, slice_get, get_or, Bor}
use Rattle.std.specs.Prelude.{Some, None, Ok, Err}
use Rattle.std.specs.Prelude.{Option as Maybe}
use Rattle.std.specs.Option.{ok_or, IfSome, MatchOption, option_copied}
use Rattle.std.specs.List.{HoldsAt, position}
use Rattle.std.proofs.lemmas.Option.{slice_get_past, slice_get_read}
use Rattle.std.proofs.Math.ListN.{get_elem?}
use Rattle.std.proofs.lemmas.List.{drop-set}
use Rattle.std.proofs.Math.Option.{some}
use native.Mathlib.Nat.{add_comm}
use native.Mathlib.Numerals.{add-one}
use native.Mathlib.Omega.{arith}
use borrow.Author.Tests.{eqb-true, eqb-false, eq-eqb, ne_eqb, ltb-true, ltb-false, lt-ltb, le-ltb}
use Rattle.logic.specs.Limits.{payloads}
use Rattle.logic.specs.Term.{tag_of, payload_of}
use Rattle.logic.specs.declared.refusal.Refusal.{Refusal}
use Rattle.logic.specs.declared.word.Class.{Class}
use Rattle.logic.specs.declared.word.Class.TheVariants.{Binder}
use Rattle.editions.specs.Convert.{one_more, nearest, enter}
use Rattle.editions.specs.declared.Edition.{Edition}
use Rattle.editions.specs.declared.Edition.TheVariants.{Counts, Names}
use Rattle.named.specs.Answers.{enter_by, relabel_by, meant}

one_later : (k l : ℕ) → meant (cond (nat_lt (1 + k) (suc l)) (Some (1 + k)) None) ≡ one_more (meant (cond (nat_lt k l) (Some k) None))
one_later k l = go (nat_lt k l) refl
  where
    go : (b : Bool) → nat_lt k l ≡ b → meant (cond (nat_lt (1 + k) (suc l)) (Some (1 + k)) None) ≡ one_more (meant (cond (nat_lt k l) (Some k) None))
    go true e = rw e (let h = ltb-true k l e in rw (lt-ltb (1 + k) (suc l) (omega arith)) (ap some (add_comm 1 k ∙ add-one k)))
    go false e = rw e (let h = ltb-false k l e in rw (le-ltb (1 + k) (suc l) (omega arith)) refl)

-- the first that is x
pub nearest_is : (x : ℕ) (ns : List ℕ) → meant (position (λ n. n == x) ns) ≡ nearest x ns
unfolding nearest
nearest_is x [] = refl
nearest_is x (y ∷ ns) = go (eqb y x) refl (nearest_is x ns)
  where
    go : (b : Bool) → eqb y x ≡ b → meant (position (λ n. n == x) ns) ≡ nearest x ns → meant (position (λ n. n == x) (y ∷ ns)) ≡ nearest x (y ∷ ns)
    go true e h = rw (e, eq-eqb x y (sym (eqb-true y x e)), lt-ltb 0 (suc (length ns)) (omega arith)) refl
    go false e h = rw (e, ne_eqb x y (λ i. eqb-false y x e (sym i))) (one_later _ _ ∙ ap one_more h)

-- the n-th
nth : (ns : List ℕ) (n : ℕ) → meant (slice_get ns n) ≡ get_elem? ns n
nth [] n = refl
nth (x ∷ ns) zero = refl
nth (x ∷ ns) (suc n) = nth ns n

-- what is read at a place
pub name_at : (ns : List ℕ) (n : ℕ) (r : Maybe (Bor ℕ)) → IfSome r (λ x. x.now ≡ get_or ns n x.now) →
    MatchOption r (length ns ≤ n) (λ x. (n < length ns) × HoldsAt (λ y. x.now ≡ y) ns n) → meant (option_copied r) ≡ get_elem? ns n
name_at ns n None e h = ap meant (sym (slice_get_past ns n h)) ∙ nth ns n
name_at ns n (Some x) e h = ap meant (sym (slice_get_read ns (length ns) n x.now refl h.0 e)) ∙ nth ns n

-- a value that has to be there is, or is not
pub there : (o : Maybe ℕ) (x : Refusal) (y : ℕ) → ok_or o x ≡ Ok y → o ≡ Some y
there (Some z) x y e = let h : z ≡ y = cc in ap Some h
there None x y e = absurd (cc)

pub missing : (o : Maybe ℕ) (x y : Refusal) → ok_or o x ≡ Err y → (o ≡ None) × (x ≡ y)
missing (Some z) x y e = absurd (cc)
missing None x y e = (refl, cc)

-- one more
pub entered_binder : (e : Edition) (k : Class) (w : ℕ) (names : List ℕ) (s x : ℕ) → k ≡ Binder → 0 < s → s ≤ length names →
    enter e true (payload_of w) (drop s names) ≡ x ∷ drop s names → drop (s - 1) (set names (s - 1) x) ≡ enter_by e k w (drop s names)
entered_binder e k w names s x h p l f =
    let z : s - 1 + 1 ≡ s = omega arith in
    rw h (drop-set names (s - 1) x (omega arith) ∙ ap (λ i. x ∷ drop i names) z ∙ sym f)

-- a binder's word in the other edition
pub relabelled_names : (e : Edition) (k : Class) (w : ℕ) (ns : List ℕ) → e ≡ Names → k ≡ Binder → tag_of w * payloads ≡ relabel_by e k w ns
relabelled_names e k w ns n h = rw (n, h) (omega arith)

pub relabelled_counts : (e : Edition) (k : Class) (w : ℕ) (ns : List ℕ) → e ≡ Counts → k ≡ Binder → tag_of w * payloads + length ns ≡ relabel_by e k w ns
relabelled_counts e k w ns n h = rw (n, h) (omega arith)
