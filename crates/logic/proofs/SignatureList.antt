-- A signature list is accepted exactly if it lists constants as specs/SignatureList
-- says, and then it is a well_formed signature.
use Prim.Native.Nat.{ℕ, zero, suc, ◌≤◌, ◌<◌}
use mathlib.Core.Path.{◌≡◌, refl, ap, subst, subst₂}
use mathlib.Core.Logic.{◌↔◌}
use mathlib.Core.Bool.{true, ◌&&◌}
use mathlib.Core.List.{List, [], ◌∷◌, ◌++◌}
use mathlib.Core.Option.{Option, some, none}
use native.Mathlib.Omega.{arith}
use native.Mathlib.Decide.{dec_lt}
use lib.Dec.{leb, ltb}
use lib.ListN.{length, take, drop, get_elem?, take-append-drop, length-append}
use lib.Seq.{take-append_seam, drop-append_seam, length-take-le}
use borrow.Author.Tests.{leb-true, le-leb, ltb-true, lt-ltb}
use Rattle.logic.specs.Limits.{most_constants, most_constant_words, most_nesting, most_words}
use Rattle.logic.specs.Result.{Result, ok, refused}
use Rattle.logic.specs.Term.{Term, P, S, KindP, Pi}
use Rattle.logic.specs.Scope.{Signature}
use Rattle.logic.specs.Infer.{same}
use Rattle.logic.specs.Check.{check_term, WordsOf, Passes}
use Rattle.logic.proofs.Basics.{clash, no_entry, same_entry}
use Rattle.logic.proofs.Results.{not_ok, ok_inj, bound, tested, bind_is, pass, both_true, true_both}
use Rattle.logic.proofs.Proposition.{same_true, same_yes}
use Rattle.logic.proofs.Signatures.{empty_signature, extend}
use Rattle.logic.proofs.Words.{plain_in_range}
use Rattle.logic.proofs.Range.{AllNamed, named_append}
use Rattle.logic.proofs.Check.{check_term_right}
use Rattle.logic.specs.SignatureList.{at_constant, constant, constants, signature, permit, receipt_of, is_type, operations, Lists, no_more, one_more}

pub well_formed : {Σ Σ' : List Term} {ws : List ℕ} → Signature Σ → Lists Σ ws Σ' → Signature Σ'
well_formed sig no_more = sig
well_formed sig (one_more l w D m ls) = well_formed (extend sig D) ls

-- the constants of an accepted signature are in range, so that every type that a check hands back is
pub accepted_named : {Σ Σ' : List Term} {ws : List ℕ} → AllNamed Σ → Lists Σ ws Σ' → AllNamed Σ'
accepted_named g no_more = g
accepted_named {Σ} g (one_more {A} l w D m ls) = accepted_named (named_append Σ A g (plain_in_range A w.plain)) ls

pub at_constant_ok : {X : Type 0} (at : ℕ) (r : Result X) {x : X} → at_constant at r ≡ ok x → r ≡ ok x
at_constant_ok at (ok x) e = e
at_constant_ok at (refused m p) e = absurd (not_ok e)

pub constant_right : (Σ : List Term) → Signature Σ → (ws : List ℕ) (A : Term) → (constant Σ ws ≡ ok A) ↔ Passes Σ ws A KindP
constant_right Σ sig ws A = (from, λ h. bind_is _ ((check_term_right Σ sig ws A KindP).1 h) (pass _ _ (same_yes refl) refl))
  where
    from : constant Σ ws ≡ ok A → Passes Σ ws A KindP
    from e = bound (check_term Σ ws) _ e λ c e₁ e₂. tested (same c.type KindP) _ _ _ e₂ λ s e₃.
        subst₂ (Passes Σ ws) (ok_inj e₃) (same_true c.type KindP s) ((check_term_right Σ sig ws c.term c.type).0 e₁)

listed : (k at : ℕ) (Σ : List Term) (ws : List ℕ) {Σ' : List Term} → Signature Σ → constants k at Σ ws ≡ ok Σ' → Lists Σ ws Σ'
unfolding constants
listed zero at Σ ws sig e = absurd (not_ok e)
listed (suc k) at Σ [] sig e = subst (Lists Σ []) (ok_inj e) no_more
listed (suc k) at Σ (n ∷ ws) {Σ'} sig e =
    tested (ltb (length Σ) most_constants && leb 1 n && leb n most_constant_words && leb n (length ws)) _ _ _ e λ h e₁.
    bound (at_constant at (constant Σ (take n ws))) _ e₁ λ A c e₂.
    let (h₁, fits) = both_true (ltb (length Σ) most_constants && leb 1 n && leb n most_constant_words) (leb n (length ws)) h in
    let (h₂, short) = both_true (ltb (length Σ) most_constants && leb 1 n) (leb n most_constant_words) h₁ in
    let (few, some_word) = both_true (ltb (length Σ) most_constants) (leb 1 n) h₂ in
    let long = length-take-le n ws (leb-true n (length ws) fits) in
    let h = (constant_right Σ sig (take n ws) A).0 (at_constant_ok at (constant Σ (take n ws)) c) in
    let w : WordsOf most_constant_words most_nesting (take n ws) A = record {
      plain = h.term.plain;
      words = h.term.words;
      some_word = h.term.some_word;
      not_more = rw long (leb-true n most_constant_words short);
      nested = h.term.nested;
    } in
    rw (long, take-append-drop n ws) at (one_more (ltb-true (length Σ) most_constants few) w h.derivation h.measured
    (listed k _ (Σ ++ (A ∷ [])) (drop n ws) (extend sig h.derivation) e₂))

-- the words of a constant's type are those of a term
pub constant_term : {q : List ℕ} {A : Term} → WordsOf most_constant_words most_nesting q A → WordsOf most_words most_nesting q A
constant_term w = record {
  plain = w.plain;
  words = w.words;
  some_word = w.some_word;
  not_more = omega (arith, w.not_more);
  nested = w.nested;
}

accepts : {Σ Σ' : List Term} {ws : List ℕ} (k at : ℕ) → Signature Σ → length ws < k → Lists Σ ws Σ' → constants k at Σ ws ≡ ok Σ'
unfolding constants
accepts zero at sig l no_more = absurd (omega arith)
accepts (suc k) at sig l no_more = refl
accepts zero at sig l (one_more f w D m ls) = absurd (omega arith)
accepts {Σ} (suc k) at sig l (one_more {q} {ws} {A} f w D m ls) =
    let h : Passes Σ q A KindP = record { term = constant_term w; derivation = D; measured = m } in
    let fits : length q ≤ length (q ++ ws) = simp length-append (omega arith) in
    rw (take-append_seam q ws, drop-append_seam q ws) (pass _ _
    (true_both (true_both (true_both (lt-ltb (length Σ) most_constants f) (le-leb 1 (length q) w.some_word))
    (le-leb (length q) most_constant_words w.not_more)) (le-leb (length q) (length (q ++ ws)) fits))
    (bind_is _ (ap (at_constant at) ((constant_right Σ sig q A).1 h)) (accepts {Σ = Σ ++ (A ∷ [])} k _ (extend sig D) (omega (arith, simp length-append at l)) ls)))

pub signature_right : (ws : List ℕ) (Σ : List Term) → (signature ws ≡ ok Σ) ↔ Lists [] ws Σ
signature_right ws Σ = (listed (suc (length ws)) 0 [] ws empty_signature, accepts (suc (length ws)) 0 empty_signature (omega arith))

-- permits and receipts

is_type_right : (A : Term) (o : Option Term) → (is_type A o ≡ true) ↔ (o ≡ some A)
is_type_right A none = (λ e. absurd (clash (cc)), λ e. absurd (no_entry e))
is_type_right A (some B) = (λ e. ap some (same_true B A e), λ e. same_yes (same_entry refl e))

-- the constants of operation i
abbrev Operation : List Term → ℕ → Type 0
Operation Σ i = (get_elem? Σ (permit i) ≡ some (Pi S P)) × (get_elem? Σ (receipt_of i) ≡ some (Pi S (Pi S P)))

pub operations_ok : (Σ : List Term) (n : ℕ) → operations Σ n ≡ true → (i : ℕ) → i < n → Operation Σ i
unfolding operations
operations_ok Σ zero e i l = absurd (omega arith)
operations_ok Σ (suc n) e i l =
    let (h, receipt) = both_true (operations Σ n && is_type (Pi S P) (get_elem? Σ (permit n))) (is_type (Pi S (Pi S P)) (get_elem? Σ (receipt_of n))) e in
    let (before, permitted) = both_true (operations Σ n) (is_type (Pi S P) (get_elem? Σ (permit n))) h in
    elim (dec_lt i n) [
      | yes k ↦ operations_ok Σ n before i k
      | no k ↦ (let q : n ≡ i = omega arith in subst (Operation Σ) q ((is_type_right (Pi S P) _).0 permitted, (is_type_right (Pi S (Pi S P)) _).0 receipt))
    ]

pub ok_operations : (Σ : List Term) (n : ℕ) → ((i : ℕ) → i < n → Operation Σ i) → operations Σ n ≡ true
unfolding operations
ok_operations Σ zero h = refl
ok_operations Σ (suc n) h =
    let (permitted, receipt) = h n (omega arith) in
    true_both (true_both (ok_operations Σ n (λ i l. h i (omega arith))) ((is_type_right (Pi S P) _).1 permitted)) ((is_type_right (Pi S (Pi S P)) _).1 receipt)
