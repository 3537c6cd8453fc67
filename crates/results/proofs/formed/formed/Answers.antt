-- `formed` gives a node's type: by the node's word, one of the results of `apply`, `bind` and `pair`, or the type of
-- the second child, tested.
use native.Mathlib.Omega.{arith}
use mathlib.Core.Path.{refl, ap}
use lib.ListN.{get_or}
use Rattle.logic.specs.Term.{propA, kindPA, lamO, retO}
use Rattle.logic.proofs.Answers.{refusal}
use Rattle.words.proofs.Places.{at_within}
use Rattle.results.proofs.Formings.{formed_app, formed_bind, formed_lam, formed_ret, appliable, bindable, pairable, formed_says, formed_no_says}
use Rattle.results.proofs.Formings.{NoOther, formed_prop, formed_kind, formed_no_pi}
use Rattle.results.proofs.formed.formed.Goals as goal
use Rattle.results.proofs.formed.formed.Goals.{else-not-front_is-2-via-then-not-front_is-2+else-not-front_is-3}
use Rattle.results.proofs.formed.formed.Goals.{else-not-front_is-2-via-else-not-front_is-2}

pub offset_bounds-proof-at : goal.offset_bounds-proof-at
offset_bounds-proof-at c = let w = at_within c.requires.forms.here in omega (arith, c.requires.short)

pub bounds-proof-at : goal.bounds-proof-at
bounds-proof-at c = at_within c.requires.forms.here

pub apply-requires : goal.apply-requires
apply-requires c = appliable c.requires c.in-167772160.is

pub returns-in-167772160 : goal.returns-in-167772160
returns-in-167772160 c = formed_app c.in-167772160.is c.apply.ensures

pub bind-requires : goal.bind-requires
bind-requires c = bindable c.requires c.in-251658240.is

pub returns-in-251658240 : goal.returns-in-251658240
returns-in-251658240 c = formed_bind c.in-251658240.is c.bind.ensures

pub pair-requires : goal.pair-requires
pair-requires c = pairable c.requires lamO refl c.in-150994944.is

pub returns-in-150994944 : goal.returns-in-150994944
returns-in-150994944 c = formed_lam c.in-150994944.is c.pair.ensures

pub pair-requires-in-234881024 : goal.pair-requires-in-234881024
pair-requires-in-234881024 c = pairable c.requires retO refl c.in-234881024.is

pub returns-in-234881024 : goal.returns-in-234881024
returns-in-234881024 c = formed_ret c.in-234881024.is c.pair-in-234881024.ensures

pub returns-then-not-front_is : goal.returns-then-not-front_is
returns-then-not-front_is c =
    formed_no_says c.in-117440512.is (λ B h. c.front_is.ensures B propA h refl tt) c.if-not-front_is.true (ap refusal c.at.ensures)

pub returns-else-not-front_is : goal.returns-else-not-front_is
returns-else-not-front_is c = formed_says c.in-117440512.is (λ B h. c.front_is.ensures B propA h refl tt) c.if-not-front_is.false

pub returns-then-not-front_is-3 : goal.returns-then-not-front_is-3
returns-then-not-front_is-3 c =
    formed_no_pi (record {
      no_app = λ e. omega arith;
      no_bind = λ e. omega arith;
      no_lam = λ e. omega arith;
      no_ret = λ e. omega arith;
      no_says = λ e. omega arith;
    }) (λ B h. c.front_is-in_default.ensures B propA h refl tt) c.if-not-front_is-2.true
    (λ B h. c.front_is-then-not-front_is-2.ensures B kindPA h refl tt) c.if-not-front_is-3.true (ap refusal c.at-then-not-front_is-3.ensures)

pub returns-else-not-front_is-2 : goal.returns-else-not-front_is-2
returns-else-not-front_is-2 c =
    let n : NoOther (get_or c.args.proof.now c.args.at 0) = record {
      no_app = λ e. omega arith;
      no_bind = λ e. omega arith;
      no_lam = λ e. omega arith;
      no_ret = λ e. omega arith;
      no_says = λ e. omega arith;
    } in
    elim c.else-not-front_is-2.branch [
      | else-not-front_is-2-via-then-not-front_is-2+else-not-front_is-3 w ↦ formed_kind n (λ B h. c.front_is-in_default.ensures B propA h refl tt)
          w.if-not-front_is-2.true (λ B h. w.front_is-then-not-front_is-2.ensures B kindPA h refl tt) w.if-not-front_is-3.false
      | else-not-front_is-2-via-else-not-front_is-2 w ↦ formed_prop n (λ B h. c.front_is-in_default.ensures B propA h refl tt) w.if-not-front_is-2.false
    ]
