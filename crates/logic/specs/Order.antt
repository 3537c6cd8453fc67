-- The order of tests 6 to 12, by literals: in each line two tests fail, and the one that document 01 puts first
-- answers; 18 to 20 are "met where 11 was" (document 02, slip 2). proofs/Order computes them, so that they rest on no
-- other proof.
use Rattle.std.specs.Prelude.{ℕ, zero, suc, ◌≡◌, List, [], ◌∷◌, ◌++◌, replicate}
use Rattle.logic.specs.Result.{Result, ok, refused, ◌>>=◌}
use Rattle.logic.specs.Term.{Term, var, sign, P, T', S, Const, Text, Name, Says, Pi, Lam, App, Ret, Bind, size, encode}
use Rattle.logic.specs.Check.{check_term, check_statement}

-- number and place where words are checked as a term, behind the constants Σ
abbrev pub answer_to : List Term → List ℕ → Result Term
answer_to Σ ws = check_term Σ ws >>= λ c. ok c.type

-- the term within n Signs
unfoldable pub within_signs : ℕ → Term → Term
within_signs zero t = t
within_signs (suc n) t = sign 3 (within_signs n t)

-- a proposition, and a type of type KindP: each of 3 words, then 7, 15, .. with little nesting
unfoldable pub large_proposition : ℕ → Term
large_proposition zero = Pi P (var 0)
large_proposition (suc n) = Pi (large_proposition n) (large_proposition n)

unfoldable pub large_kind : ℕ → Term
large_kind zero = Pi P P
large_kind (suc n) = Pi (large_proposition n) (large_kind n)

pub record Order : Type 0 where
  -- 6, then 7: 2,049 words that are no term
  pub length_then_words : answer_to [] (replicate 2049 0) ≡ refused 6 0
  -- 7, then 8: 33 deep, with a word too many
  pub words_then_nesting : answer_to [] (encode (within_signs 32 (var 0)) ++ (0 ∷ [])) ≡ refused 7 33
  -- 8, then 9: V0 at depth 33, and at depth 32
  pub nesting_then_check : answer_to [] (encode (within_signs 32 (var 0))) ≡ refused 8 32
  pub check : answer_to [] (encode (within_signs 31 (var 0))) ≡ refused 9 31
  -- "Children go left to right"
  pub first_child : answer_to [] (encode (App (var 0) (Const 9))) ≡ refused 9 1
  pub first_child_too : answer_to [] (encode (App (Const 9) (var 0))) ≡ refused 10 1
  -- "a condition is tested once the children it names have types": on the first child, before the second is looked at
  pub principal_then_said : answer_to [] (encode (Says (Text 7) (var 0))) ≡ refused 11 0
  pub domain_then_body : answer_to [] (encode (Pi T' (Const 9))) ≡ refused 11 0
  pub domain_then_proof : answer_to [] (encode (Lam T' (Const 9))) ≡ refused 11 0
  pub function_then_argument : answer_to [] (encode (App (Text 7) (var 9))) ≡ refused 18 0
  pub principal_then_proof : answer_to [] (encode (Ret (Text 7) (var 0))) ≡ refused 11 0
  pub proof_then_rest : answer_to [] (encode (Bind (Text 7) (Const 9))) ≡ refused 11 0
  -- and a condition on both, after the second's own faults
  pub argument_then_both : answer_to (Pi S P ∷ []) (encode (App (Const 0) (var 9))) ≡ refused 9 2
  -- "then the node's type is formed and measured": 11, then 12. The type that would be formed has 257 words
  pub words : size (large_kind 6) ≡ 255
  pub lam_condition_then_measure : answer_to (large_kind 6 ∷ []) (encode (Lam S (Const 0))) ≡ refused 11 0
  pub ret_condition_then_measure : answer_to (large_kind 6 ∷ []) (encode (Ret (Name 0) (Const 0))) ≡ refused 11 0
  pub sign_condition_then_measure : answer_to [] (encode (sign 3 (large_kind 6))) ≡ refused 11 0
  pub say_condition_then_measure : check_statement [] 3 (encode (large_kind 6)) ≡ refused 11 0
  -- the same of App, with 19: the type that would be formed has 259 words
  pub app_condition_then_measure : answer_to (Pi S P ∷ Pi S (Pi (App (Const 0) (var 0)) P) ∷ []) (encode (App (Const 1) (large_proposition 6))) ≡ refused 19 0
  -- and 12 where the condition holds
  pub sign_measure : answer_to [] (encode (sign 3 (large_proposition 6))) ≡ refused 12 0
  pub say_measure : check_statement [] 3 (encode (large_proposition 6)) ≡ refused 12 0
