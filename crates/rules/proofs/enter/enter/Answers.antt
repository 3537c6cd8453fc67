-- `enter` tests the type of a node's first child and keeps what is needed: by the node's word, a return for each
-- outcome of the test.
use mathlib.Core.Path.{refl, ap}
use native.Mathlib.Omega.{arith}
use Rattle.logic.specs.Term.{prinA}
use Rattle.logic.proofs.Answers.{refusal}
use Rattle.logic.proofs.Words.{size_pos}
use Rattle.words.proofs.Places.{at_end}
use Rattle.rules.proofs.Enters.{app_passes, app_fails, bind_passes, bind_fails, bind_keeps, binder_passes, binder_fails, plain_passes, plain_fails}
use Rattle.rules.proofs.enter.enter.Goals as goal

pub returns-then-ws-ne-PI : goal.returns-then-ws-ne-PI
returns-then-ws-ne-PI c =
    λ o a A j. app_fails c.args.used c.requires.room c.requires.small j c.in-167772160.is c.if-ws-ne-PI.true (ap refusal c.at.ensures)

pub returns-else-ws-ne-PI : goal.returns-else-ws-ne-PI
returns-else-ws-ne-PI c = λ o a A j. app_passes c.args.used c.requires.room c.requires.small j c.in-167772160.is c.if-ws-ne-PI.false

pub keep_says-used-requires : goal.keep_says-used-requires
keep_says-used-requires c = bind_keeps c.args.used c.requires.room c.requires.small c.requires.enters c.if-ws-ne-SAYS.false

pub returns-then-ws-ne-SAYS : goal.returns-then-ws-ne-SAYS
returns-then-ws-ne-SAYS c =
    λ o a A j. bind_fails c.args.used c.requires.room c.requires.small j c.in-251658240.is c.if-ws-ne-SAYS.true (ap refusal c.at-then-ws-ne-SAYS.ensures)

pub returns-else-ws-ne-SAYS : goal.returns-else-ws-ne-SAYS
returns-else-ws-ne-SAYS c =
    λ o a A j. bind_passes c.args.used c.requires.room c.requires.small j c.in-251658240.is c.if-ws-ne-SAYS.false c.keep_says-used.ensures

pub keep_domain-used-requires : goal.keep_domain-used-requires
keep_domain-used-requires c =
    let j = c.requires.enters in
    let e = at_end j.here in
    let p = size_pos c.requires.a in
    (omega (arith, c.requires.room), omega (arith, j.next_is), omega (arith, j.next_is, c.requires.short))

pub returns-then-not-domain : goal.returns-then-not-domain
returns-then-not-domain c =
    λ o a A j. binder_fails c.args.used c.requires.room c.requires.small j c.in-134217728.is c.if-not-domain.true c.domain.ensures
    (ap refusal c.at-then-not-domain.ensures)

pub returns-else-not-domain : goal.returns-else-not-domain
returns-else-not-domain c =
    λ o a A j. binder_passes c.args.used c.requires.room c.requires.small j c.in-134217728.is c.if-not-domain.false c.domain.ensures
    c.keep_domain-used.ensures

pub returns-then-not-front_is : goal.returns-then-not-front_is
returns-then-not-front_is c =
    λ o a A j. plain_fails c.args.used c.requires.room c.requires.small j
    (record { no_app = λ e. omega arith; no_bind = λ e. omega arith; no_pi = λ e. grind arith; no_lam = λ e. grind arith })
    c.if-not-front_is.true (c.front_is.ensures A prinA j.type refl tt) (ap refusal c.at-then-not-front_is.ensures)

pub returns-else-not-front_is : goal.returns-else-not-front_is
returns-else-not-front_is c =
    λ o a A j. plain_passes c.args.used c.requires.room c.requires.small j
    (record { no_app = λ e. omega arith; no_bind = λ e. omega arith; no_pi = λ e. grind arith; no_lam = λ e. grind arith })
    c.if-not-front_is.false (c.front_is.ensures A prinA j.type refl tt)
