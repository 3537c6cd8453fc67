-- The binders in scope, as words that are kept at the end of the workspace, and the constants.
use Rattle.std.specs.Prelude.{ℕ, ◌+◌, ◌-◌, ◌≤◌, ◌≡◌, List, [], ◌∷◌, ◌++◌, length, take, drop, get_or}
use Rattle.std.proofs.Math.Option.{some}
use Rattle.std.proofs.Math.ListN.{get_elem?}
use Rattle.logic.specs.Term.{Op, saysO, piO, lamO, appO, retO, bindO, Term, op_word, encode, size}
use Rattle.logic.specs.Move.{raise}
use Rattle.logic.specs.Reading.{Plain}
use Rattle.words.specs.Place.{At}
use Rattle.rules.specs.Rule.{first_child, second_child}

-- the last k words
abbrev pub tail : ℕ → List ℕ → List ℕ
tail k ws = drop (length ws - k) ws

-- the words of the scope: of the `used` words kept at the end, those before the last `floor`
abbrev pub scope_words : (floor used : ℕ) → List ℕ → List ℕ
scope_words floor used ws = take (used - floor) (tail used ws)

-- an entry begins with three words: how many words it has, where the type stands in
-- the proof, and how many words the type has
abbrev pub entry_head : ℕ
entry_head = 3

-- the words kept are those of binders of the types Γ, the nearest first. A type stands either in the proof's words or
-- in the workspace, behind words x of the entry
pub data Binders (proof : List ℕ) : List ℕ → List Term → Type 0 where
  no_entries : Binders proof [] []
  in_proof : {h : List ℕ} {Γ : List Term} {A : Term} {s : ℕ} → At proof s A → Binders proof h Γ → Binders proof (entry_head ∷ s ∷ size A ∷ h) (A ∷ Γ)
  in_workspace : {h : List ℕ} {Γ : List Term} {A : Term} {s : ℕ} (x : List ℕ) → Plain A → 1 ≤ length x → Binders proof h Γ
      → Binders proof ((entry_head + (length x + size A)) ∷ s ∷ size A ∷ (x ++ (encode A ++ h))) (A ∷ Γ)

-- the entry that is kept for the second child of a node o at the place `at`, whose first child a has the type A: of a
-- Bind, its proof's type Says p q, with p raised over the binder
abbrev pub binder_entry : Op → (at : ℕ) → Term → Term → List ℕ
binder_entry saysO at a A = []
binder_entry piO at a A = entry_head ∷ (at + 1) ∷ size a ∷ []
binder_entry lamO at a A = entry_head ∷ (at + 1) ∷ size a ∷ []
binder_entry appO at a A = []
binder_entry retO at a A = []
binder_entry bindO at a A = (entry_head + size A) ∷ 0 ∷ size (second_child A) ∷ (op_word saysO ∷ (encode (raise 1 (first_child A)) ++ encode (second_child A)))

-- the words of the constants' types: the table says where each stands in the signature, behind its length word
pub record Declared (sig table : List ℕ) (Σ : List Term) : Type 0 where
  pub count : length table ≡ length Σ
  pub type : (n : ℕ) (A : Term) → get_elem? Σ n ≡ some A → At sig (get_or table n 0) A
  pub length_word : (n : ℕ) (A : Term) → get_elem? Σ n ≡ some A → (1 ≤ get_or table n 0) × (get_or sig (get_or table n 0 - 1) 0 ≡ size A)
