-- What is filled, and with what, where a rule fits: by the first word of the node and of its first child.
use native.Mathlib.Omega.{arith}
use Rattle.std.proofs.lemmas.Bool.{eq-eqb, ne_eqb}
use Rattle.words.proofs.Places.{at_within, at_left}
use Rattle.steps.proofs.Heads.{second_child_at}
use Rattle.steps.proofs.Fillings.{inner_at, app_parts, lam_body_at, argument_at, app_filling, ret_filling, unused_filling, principal_stands}
use Rattle.steps.proofs.step.filling_at.Goals as goal

-- ---- the needs
pub offset_bounds-words-at : goal.offset_bounds-words-at
offset_bounds-words-at c = let r = at_within (at_left c.requires.here) in omega arith

pub bounds-words-at : goal.bounds-words-at
bounds-words-at c = let r = at_within (at_left c.requires.here) in omega arith

pub skip-body-requires : goal.skip-body-requires
skip-body-requires c =
    let p = c.requires in
    let r = app_parts p.o p.a p.b p.result p.here p.rule c.if-words-at-eq-APP.true in
    record { term = r.d; here = inner_at r.here }

pub skip-from-requires : goal.skip-from-requires
skip-from-requires c =
    let p = c.requires in
    let r = app_parts p.o p.a p.b p.result p.here p.rule c.if-words-at-eq-APP.true in
    record { term = r.x; here = lam_body_at r c.skip-body.ensures }

pub skip-end-requires : goal.skip-end-requires
skip-end-requires c =
    let p = c.requires in
    let r = app_parts p.o p.a p.b p.result p.here p.rule c.if-words-at-eq-APP.true in
    record { term = r.e; here = argument_at r c.skip-body.ensures c.skip-from.ensures }

pub returns-then-words-at-eq-APP : goal.returns-then-words-at-eq-APP
returns-then-words-at-eq-APP c =
    let e = c.if-words-at-eq-APP.true in
    λ o a b u h r. app_filling (app_parts o a b u h r e) c.skip-body.ensures c.skip-from.ensures c.skip-end.ensures

pub overflow_add-at-2 : goal.overflow_add-at-2
overflow_add-at-2 c = let r = at_within (at_left c.requires.here) in omega arith

pub skip-body-requires-2 : goal.skip-body-requires-2
skip-body-requires-2 c = let p = c.requires in record { term = p.a; here = at_left p.here }

pub skip-end-requires-2 : goal.skip-end-requires-2
skip-end-requires-2 c = let p = c.requires in record { term = p.b; here = second_child_at p.here c.skip-body-2.ensures }

pub overflow_add-at-3 : goal.overflow_add-at-3
overflow_add-at-3 c = let r = at_within (at_left c.requires.here) in omega arith

pub offset_bounds-words-at-2 : goal.offset_bounds-words-at-2
offset_bounds-words-at-2 c = let r = at_within (at_left c.requires.here) in omega arith

pub bounds-words-at-2 : goal.bounds-words-at-2
bounds-words-at-2 c = let r = at_within (at_left c.requires.here) in omega arith

pub skip-from-requires-then-words-at-eq-RET : goal.skip-from-requires-then-words-at-eq-RET
skip-from-requires-then-words-at-eq-RET c = principal_stands c.requires.here (eq-eqb _ _ c.if-words-at-eq-RET.true)

pub returns-then-words-at-eq-RET : goal.returns-then-words-at-eq-RET
returns-then-words-at-eq-RET c =
    ret_filling c.if-words-at-eq-APP.false c.skip-body-2.ensures c.skip-end-2.ensures (eq-eqb _ _ c.if-words-at-eq-RET.true)
    c.skip-from-then-words-at-eq-RET.ensures

pub overflow_add-from : goal.overflow_add-from
overflow_add-from c = let r = at_within (at_left c.requires.here) in omega arith

pub returns-else-words-at-eq-RET : goal.returns-else-words-at-eq-RET
returns-else-words-at-eq-RET c =
    unused_filling c.if-words-at-eq-APP.false c.skip-body-2.ensures c.skip-end-2.ensures (ne_eqb _ _ c.if-words-at-eq-RET.false)
