-- Document 02's slip 9, in quotation marks, by examples that compute. A comment without quotation marks says how a
-- sentence is read.
use Rattle.std.specs.Prelude.{ℕ, zero, suc, ◌≡◌, List, [], ◌∷◌, ◌++◌, replicate}
use Rattle.std.proofs.Math.Option.{some, none}
use Rattle.logic.specs.Result.{Result, ok, refused}
use Rattle.logic.specs.Term.{Term, var, sign, P, Const, Text, Name, Says, Pi, Lam, App, Ret, Bind, encode}
use Rattle.logic.specs.Worked.{consent, r, p}
use Rattle.register.specs.Calls.{check_call}
use Rattle.register.specs.History.{lent, run}
use Rattle.register.specs.Worked.{setting, opened_sample, say_consent}
use Rattle.reduction.specs.Steps.{next_step}
use Rattle.reduction.specs.Simplify.{Simplified, simplify}
use Rattle.reduction.specs.Call.{simplify_call, after_simplify}

-- ---- terms

-- App of Lam P V0, which a step turns into t
abbrev plus : Term → Term
plus t = App (Lam P (var 0)) t

-- so many copies of t, the first k times within an App
unfoldable pub copies : ℕ → Term → Term
copies zero t = t
copies (suc k) t = App (copies k t) t

-- t in the body of so many Lams
unfoldable pub nested_lams : ℕ → Term → Term
nested_lams zero t = t
nested_lams (suc k) t = Lam P (nested_lams k t)

abbrev after : ℕ → Term → Result Simplified
after n t = ok (record { steps = n; result = t })

-- document 01's proof p with two parts that are not needed: what is said in rule r stands before it, unused, and what
-- landlord 3 says is handed in
abbrev pub longer_p : Term
longer_p = Bind r (Bind r (App (Lam (Says (Name 3) consent) (Ret (Name 0) (App (App (App (var 1) (Text 7)) (Name 3)) (var 0)))) (sign 3 consent)))

-- Apps of V1 to two terms, so deep, the innermost of V0
unfoldable pub tree : ℕ → Term
tree zero = var 0
tree (suc d) = App (App (var 1) (tree d)) (tree d)

-- K = Pi A Pi Pi App C3 V0 App C3 V1 A and G = Pi A Pi A A, where A = App C2 s7
abbrev K : Term
K = Pi consent (Pi (Pi (App (Const 3) (var 0)) (App (Const 3) (var 1))) consent)

abbrev G : Term
G = Pi consent (Pi consent consent)

-- a proof of A by k : K, from another one, e
abbrev by : (k e : Term) → Term
by k e = App (App k e) (Lam (App (Const 3) e) (var 0))

-- it is handed a long proof of A, and what a step makes of that
abbrev handed : Term
handed = Lam K (Lam G (Lam consent (App (Lam consent (by (var 3) (var 0))) (tree 6))))

abbrev filled_in : Term
filled_in = Lam K (Lam G (Lam consent (by (var 2) (tree 6))))

-- ---- calls, on the register of document 01's example on day 15, before the request and before what landlord 3 says

abbrev on : List ℕ → Term → (budget room : ℕ) → Result Simplified
on reg t budget room = simplify_call (lent setting 12288) reg 15 (encode t) budget room

abbrev said_register : List ℕ
said_register = run setting (opened_sample 71) (say_consent ∷ [])

abbrev call : Term → (budget room : ℕ) → Result Simplified
call = on said_register

pub record SimplifyGuards : Type 0 where
  -- "App of a Lam fills its body": the argument is raised under binders, and the variables above go down
  pub app_lam : next_step (App (Lam P (var 0)) (Const 4)) ≡ some (Const 4)
  pub app_lam_raised : next_step (App (Lam P (Lam P (App (var 1) (var 2)))) (var 5)) ≡ some (Lam P (App (var 6) (var 1)))
  -- "Bind of a Ret fills its body"
  pub bind_ret : next_step (Bind (Ret (Name 0) (Const 4)) (App (var 0) (var 3))) ≡ some (App (Const 4) (var 2))
  -- "Bind whose variable is unused gives its body, shifted"
  pub bind_unused : next_step (Bind (Const 4) (Ret (Name 0) (var 3))) ≡ some (Ret (Name 0) (var 2))
  pub bind_used : next_step (Bind (Const 4) (Ret (Name 0) (var 0))) ≡ none
  pub bind_used_under : next_step (Bind (Const 4) (Lam P (var 1))) ≡ none
  -- a use in a domain, a proposition, a principal or an argument is one too, and a variable within a Sign is none
  pub used_in_domain : next_step (Bind (Const 4) (Lam (var 0) (Const 1))) ≡ none
  pub used_in_proposition : next_step (Bind (Const 4) (Lam (Says (Name 3) (var 0)) (Const 1))) ≡ none
  pub used_in_principal : next_step (Bind (Const 4) (Ret (var 0) (Const 1))) ≡ none
  pub used_in_argument : next_step (Bind (Const 4) (App (Const 1) (var 0))) ≡ none
  pub bind_sign : next_step (Bind (Const 4) (sign 3 (var 0))) ≡ some (sign 3 (var 0))
  -- "Steps aren't taken in arguments, domains, principals, propositions or signatures"
  pub not_argument : next_step (App (Const 0) (plus P)) ≡ none
  pub not_domain : next_step (Lam (plus P) (var 0)) ≡ none
  pub not_principal : next_step (Ret (plus (Name 0)) (var 0)) ≡ none
  pub not_says : next_step (Says (plus (Name 0)) (plus P)) ≡ none
  pub not_pi : next_step (Pi (plus P) (plus P)) ≡ none
  pub not_sign : next_step (sign 3 (plus P)) ≡ none
  -- they are taken in an App's function, a Lam's body, a Ret's proof and both children of a Bind
  pub in_function : next_step (App (plus (Const 1)) (Const 2)) ≡ some (App (Const 1) (Const 2))
  pub in_lam : next_step (Lam P (plus (var 0))) ≡ some (Lam P (var 0))
  pub in_ret : next_step (Ret (Name 0) (plus (Const 1))) ≡ some (Ret (Name 0) (Const 1))
  pub in_bound : next_step (Bind (plus (Const 1)) (var 0)) ≡ some (Bind (Const 1) (var 0))
  pub in_rest : next_step (Bind (Const 1) (plus (var 0))) ≡ some (Bind (Const 1) (var 0))
  -- "The first place in word order goes first": a node before its children, the first child before the second
  pub outermost : next_step (App (Lam P (App (Lam P (Const 1)) (Const 2))) (Const 3)) ≡ some (App (Lam P (Const 1)) (Const 2))
  pub outer_bind : next_step (Bind (Const 4) (plus (Const 1))) ≡ some (plus (Const 1))
  pub leftmost : next_step (Bind (plus (Const 1)) (plus (var 0))) ≡ some (Bind (Const 1) (plus (var 0)))
  -- "with the first fitting rule in that list": where the Ret's proof is not used, two fit
  pub two_rules : next_step (Bind (Ret (Name 0) (Const 4)) (var 1)) ≡ some (var 0)
  -- "up to a stated number of steps", "The result carries its step count"; the second of two stands in an argument before
  -- the first is taken
  pub no_step : simplify 0 (Const 1) ≡ after 0 (Const 1)
  pub two_steps : simplify 2 (plus (plus (Const 1))) ≡ after 2 (Const 1)
  pub larger_budget : simplify 9 (plus (plus (Const 1))) ≡ after 2 (Const 1)
  -- "If a step remains when the budget is used it is 26"
  pub one_of_two : simplify 1 (plus (plus (Const 1))) ≡ refused 26 0
  pub no_budget : simplify 0 (plus (Const 1)) ≡ refused 26 0
  -- "A step whose result passes the term limits ends the work with 6 or 8": with 2,049 words, with 2,048 that nest too
  -- deep, with 33 levels; 26 comes before looking at the next step's result
  pub words_2049 : simplify 1 (App (Lam P (copies 1 (var 0))) (sign 0 (copies 511 P))) ≡ refused 6 0
  pub words_2048 : simplify 1 (App (Lam P (App (var 0) (copies 1 (var 0)))) (sign 0 (copies 340 P))) ≡ refused 8 32
  pub nested_33 : simplify 1 (App (Lam P (nested_lams 16 (var 16))) (nested_lams 16 (Const 1))) ≡ refused 8 63
  pub nested_32 : simplify 1 (App (Lam P (nested_lams 16 (var 16))) (nested_lams 15 (Const 1))) ≡ after 1 (nested_lams 31 (Const 1))
  pub budget_first : simplify 0 (App (Lam P (copies 1 (var 0))) (sign 0 (copies 511 P))) ≡ refused 26 0
  -- two parts of a proof that are not needed are removed: what is left is p, of the same type
  pub removed : call longer_p 2 27 ≡ after 2 p
  pub type_before : check_call (lent setting 12288) said_register 15 (encode longer_p) ≡ ok (Says (Name 0) (App (Const 0) (Text 7)))
  pub type_after : check_call (lent setting 12288) said_register 15 (encode p) ≡ ok (Says (Name 0) (App (Const 0) (Text 7)))
  pub nothing_to_remove : call p 0 27 ≡ after 0 p
  -- "with limits 6, 8 and 12 left aside for the derivation": a term may check and its result have a type over 256 words
  pub handed_checks : check_call (lent setting 12288) said_register 15 (encode handed) ≡ ok (Pi K (Pi G (Pi consent consent)))
  pub handed_step : call handed 1 2048 ≡ after 1 filled_in
  pub handed_12 : check_call (lent setting 12288) said_register 15 (encode filled_in) ≡ refused 12 33
  -- "Check's tests come first"
  pub empty_first : simplify_call (lent setting 12288) said_register 15 [] 0 0 ≡ refused 6 0
  pub typed_first : call (App (Lam (Says (Name 3) consent) (var 0)) (Name 3)) 0 0 ≡ refused 19 0
  pub signs_first : on (opened_sample 71) longer_p 0 0 ≡ refused 14 46
  pub lapsed_first : simplify_call (lent setting 12288) said_register 19 (encode longer_p) 0 0 ≡ refused 22 46
  pub workspace_first : simplify_call (lent setting 12287) said_register 15 (encode longer_p) 0 0 ≡ refused 1 0
  -- check makes no 23: the latest day is 15
  pub day_before : simplify_call (lent setting 12288) said_register 14 (encode longer_p) 2 27 ≡ after 2 p
  -- 26, and "after that an output shorter than the result is 25"
  pub budget_before_output : call longer_p 1 0 ≡ refused 26 0
  pub output_short : call longer_p 2 26 ≡ refused 25 0
  -- "output past the result is unchanged", and a refusal writes nothing
  pub past : after_simplify (call longer_p 2 29) (replicate 29 7) ≡ encode p ++ (7 ∷ 7 ∷ [])
  pub not_written : after_simplify (call longer_p 2 26) (replicate 26 7) ≡ replicate 26 7
