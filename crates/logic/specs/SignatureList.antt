-- The signature list: for each constant a length word, and a type.
use Rattle.std.specs.Prelude.{ℕ, zero, suc, ◌+◌, ◌*◌, ◌<◌, Bool, true, false, ◌&&◌, List, [], ◌∷◌, ◌++◌, leb, ltb, length, take, drop}
use Rattle.std.proofs.Math.Option.{Option, some, none}
use Rattle.std.proofs.Math.ListN.{get_elem?}
use Rattle.logic.specs.Limits.{most_nesting, most_constants, most_constant_words, most_operations}
use Rattle.logic.specs.Refusals.{bad_signature}
use Rattle.logic.specs.Result.{Result, ok, refused, ◌>>=◌, ◌>>◌, require}
use Rattle.logic.specs.Term.{Term, P, S, KindP, Pi}
use Rattle.logic.specs.Typing.{Has}
use Rattle.logic.specs.Measured.{Measured}
use Rattle.logic.specs.Infer.{same, condition}
use Rattle.logic.specs.Check.{check_term, WordsOf}

-- whatever is wrong with a constant, the refusal is the signature's, at its length word
abbrev pub at_constant : {X : Type 0} → ℕ → Result X → Result X
at_constant at (ok x) = ok x
at_constant at (refused m p) = refused bad_signature at

-- a constant's type passes the check with type KindP under the constants before it
abbrev pub constant : List Term → List ℕ → Result Term
constant Σ ws = do
  c ← check_term Σ ws
  condition 0 (same c.type KindP)
  ok c.term

-- goes on at place `at` behind the constants Σ; the first argument bounds how many constants are looked at
unfoldable pub constants : ℕ → ℕ → List Term → List ℕ → Result (List Term)
constants zero at Σ ws = refused bad_signature at
constants (suc k) at Σ [] = ok Σ
constants (suc k) at Σ (n ∷ ws) = do
  require (ltb (length Σ) most_constants && leb 1 n && leb n most_constant_words && leb n (length ws)) bad_signature at
  A ← at_constant at (constant Σ (take n ws))
  constants k (at + 1 + n) (Σ ++ (A ∷ [])) (drop n ws)

-- test 4: the constants' types
abbrev pub signature : List ℕ → Result (List Term)
signature ws = constants (suc (length ws)) 0 [] ws

-- operation i's constants
abbrev pub permit : ℕ → ℕ
permit i = 2 * i

abbrev pub receipt_of : ℕ → ℕ
receipt_of i = 2 * i + 1

-- the type is there and is A
abbrev pub is_type : Term → Option Term → Bool
is_type A none = false
is_type A (some B) = same B A

-- operations 0 to n - 1 have their permits, Pi S P, and receipts, Pi S Pi S P
unfoldable pub operations : List Term → ℕ → Bool
operations Σ zero = true
operations Σ (suc i) = operations Σ i && is_type (Pi S P) (get_elem? Σ (permit i)) && is_type (Pi S (Pi S P)) (get_elem? Σ (receipt_of i))

-- the part of test 5 that no call's own numbers are in
abbrev pub operations_test : List Term → ℕ → Bool
operations_test Σ n = leb 1 n && leb n most_operations && operations Σ n

-- behind the constants Σ the words list those of Σ': for each a length word, 1 to 256, and the words of a type with a
-- measured derivation of KindP under the constants before it
pub data Lists : List Term → List ℕ → List Term → Type 0 where
  no_more : {Σ : List Term} → Lists Σ [] Σ
  one_more : {Σ Σ' : List Term} {q ws : List ℕ} {A : Term} → length Σ < most_constants → WordsOf most_constant_words most_nesting q A → (D : Has Σ [] A KindP)
      → Measured D → Lists (Σ ++ (A ∷ [])) ws Σ' → Lists Σ (length q ∷ (q ++ ws)) Σ'
