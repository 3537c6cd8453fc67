-- Document 02, slip 8, by examples on words that compute; words are written as document 01 writes them.
use Rattle.std.specs.Prelude.{ℕ, ◌≡◌, [], ◌∷◌, ◌++◌, replicate}
use Rattle.logic.specs.Result.{ok, refused}
use Rattle.logic.specs.Term.{word}
use Rattle.uses.specs.Uses.{uses_call}

-- ---- words, by document 01's tags

abbrev S : ℕ
S = word 3 0

abbrev Var : ℕ → ℕ
Var n = word 5 n

abbrev Const : ℕ → ℕ
Const n = word 6 n

abbrev Lam : ℕ
Lam = word 9 0

abbrev App : ℕ
App = word 10 0

abbrev Sign : ℕ → ℕ
Sign n = word 13 n

abbrev Bind : ℕ
Bind = word 15 0

pub record UsesGuards : Type 0 where
  -- "how many it met, each as often as it stands", from a number on
  pub variable : uses_call 0 (Var 0 ∷ []) ≡ ok 1
  pub from_next : uses_call 1 (Var 0 ∷ []) ≡ ok 0
  pub thrice : uses_call 0 (App ∷ Var 2 ∷ App ∷ Var 2 ∷ Var 0 ∷ []) ≡ ok 3
  pub twice : uses_call 2 (App ∷ Var 2 ∷ App ∷ Var 2 ∷ Var 0 ∷ []) ≡ ok 2
  -- a variable that has its binder in the term is not free, and none is inside a Sign
  pub bound : uses_call 0 (Lam ∷ S ∷ App ∷ Var 0 ∷ Var 1 ∷ []) ≡ ok 1
  pub proof_of_bind : uses_call 0 (Bind ∷ Var 0 ∷ Var 0 ∷ []) ≡ ok 1
  pub in_sign : uses_call 0 (App ∷ Sign 3 ∷ Var 0 ∷ Var 0 ∷ []) ≡ ok 1
  -- the last number that a variable may have, and those above it, also under a binder
  pub last : uses_call 16777215 (Var 16777215 ∷ []) ≡ ok 1
  pub past_last : uses_call 16777216 (Var 16777215 ∷ []) ≡ ok 0
  pub far_past : uses_call 4294967295 (Var 16777215 ∷ []) ≡ ok 0
  pub last_under : uses_call 16777214 (Lam ∷ S ∷ Var 16777215 ∷ []) ≡ ok 1
  pub past_under : uses_call 16777215 (Lam ∷ S ∷ Var 16777215 ∷ []) ≡ ok 0
  -- tests 6 to 8 come first, in this order, whatever the number
  pub empty : uses_call 0 [] ≡ refused 6 0
  pub too_long : uses_call 0 (replicate 2049 0) ≡ refused 6 0
  pub missing : uses_call 0 (App ∷ Const 0 ∷ []) ≡ refused 7 2
  pub word_after : uses_call 4294967295 (App ∷ Const 0 ∷ Const 0 ∷ Const 0 ∷ []) ≡ refused 7 3
  pub nested_32 : uses_call 0 (replicate 31 (Sign 3) ++ (Const 0 ∷ [])) ≡ ok 0
  pub nested_33 : uses_call 0 (replicate 32 (Sign 3) ++ (Const 0 ∷ [])) ≡ refused 8 32
  pub words_then_nesting : uses_call 0 (replicate 32 (Sign 3) ++ (Const 0 ∷ 0 ∷ [])) ≡ refused 7 33
