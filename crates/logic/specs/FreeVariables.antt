-- Document 02, slip 8, the shift says what it moved: what its count tells, and the count by literals.
use Rattle.std.specs.Prelude.{ℕ, suc, ◌+◌, ◌≡◌, ◌↔◌, ℤ}
use Rattle.logic.specs.Limits.{payloads}
use Rattle.logic.specs.Term.{Term, var, sign, S, N, Const, Text, Name, Says, Pi, Lam, App, Ret, Bind}
use Rattle.logic.specs.Move.{shift, occurs, free_from}
use Rattle.logic.specs.Reading.{Plain}
use Rattle.logic.specs.Worked.{rule, r, p}

pub record FreeLaws : Type 0 where
  -- "Counted from a body's variable 0 on and from 1 on, the two differ by the uses of its binder"
  pub differ : (b : Term) → free_from 0 b ≡ free_from 1 b + occurs 0 b
  -- so "whether a binder is used" is whether they differ
  pub unused : (b : Term) → (occurs 0 b ≡ 0) ↔ (free_from 0 b ≡ free_from 1 b)
  -- "each as often as it stands": variable c as often as it occurs, and then those from the next on; all variables of a
  -- plain term are below the limit of payloads. The two tell every count
  pub as_often : (c : ℕ) (t : Term) → free_from c t ≡ free_from (suc c) t + occurs c t
  pub past_all : (c : ℕ) (t : Term) → Plain t → free_from (payloads + c) t ≡ 0
  -- the count is 0 exactly if no shift moves the term
  pub unmoved : (c : ℕ) (t : Term) → (free_from c t ≡ 0) ↔ ((z : ℤ) → shift c z t ≡ t)

pub record FreeExamples : Type 0 where
  -- each as often as it stands, from a number on
  pub thrice : free_from 0 (App (var 2) (App (var 2) (var 0))) ≡ 3
  pub from_1 : free_from 1 (App (var 2) (App (var 2) (var 0))) ≡ 2
  pub from_2 : free_from 2 (App (var 2) (App (var 2) (var 0))) ≡ 2
  pub from_3 : free_from 3 (App (var 2) (App (var 2) (var 0))) ≡ 0
  pub no_variable : free_from 0 (App (Const 2) (Text 7)) ≡ 0
  -- a variable that has its binder in the term is not free; the next one is
  pub bound : free_from 0 (Lam S (var 0)) ≡ 0
  pub next : free_from 0 (Lam S (App (var 0) (var 1))) ≡ 1
  pub two_binders : free_from 0 (Pi S (Pi N (App (App (var 0) (var 1)) (var 2)))) ≡ 1
  -- a domain and the proof of a Bind stand outside the binder
  pub domain : free_from 0 (Pi (var 0) (var 0)) ≡ 1
  pub lam_domain : free_from 0 (Lam (var 0) (var 0)) ≡ 1
  pub proof_of_bind : free_from 0 (Bind (var 0) (var 0)) ≡ 1
  -- Says, App and Ret bind nothing
  pub says : free_from 0 (Says (var 0) (var 0)) ≡ 2
  pub app : free_from 0 (App (var 0) (var 0)) ≡ 2
  pub ret : free_from 0 (Ret (var 0) (var 0)) ≡ 2
  -- "A signed proposition is closed": none inside a Sign
  pub in_sign : free_from 0 (App (sign 3 (var 0)) (var 0)) ≡ 1
  -- the rule of document 01 uses its string twice, its principal once and the proof that it asks for not at all
  pub rule_string : occurs 0 (Pi N (Pi (Says (var 0) (App (Const 2) (var 1))) (App (Const 0) (var 2)))) ≡ 2
  pub rule_principal : occurs 0 (Pi (Says (var 0) (App (Const 2) (var 1))) (App (Const 0) (var 2))) ≡ 1
  pub rule_proof : occurs 0 (App (Const 0) (var 2)) ≡ 0
  pub rule_closed : free_from 0 rule ≡ 0
  -- p uses what the rule says once
  pub p_rule : occurs 0 (Ret (Name 0) (App (App (App (var 0) (Text 7)) (Name 3)) (sign 3 (App (Const 2) (Text 7))))) ≡ 1
  pub p_closed : free_from 0 p ≡ 0
  pub r_closed : free_from 0 r ≡ 0
