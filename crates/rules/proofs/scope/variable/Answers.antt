-- `variable` gives a variable's type: no binder has its number, or the type is too long, or it is raised to where the
-- variable stands, by way of the small buffer or the large one.
use mathlib.Core.Path.{refl, ap}
use native.Mathlib.Omega.{arith}
use Rattle.std.proofs.lemmas.Bool.{lt-ltb, le-ltb}
use Rattle.logic.proofs.Answers.{refusal}
use Rattle.rules.proofs.Variables.{FromIs, from_workspace, from_proof, entry_here, variable_unbound, variable_long, looked_up, raisable, variable_found}
use Rattle.rules.proofs.scope.variable.Goals as goal
use Rattle.rules.proofs.scope.variable.Goals.{then-in_workspace, else-in_workspace}

pub returns-in_default : goal.returns-in_default
returns-in_default c = λ Γ b r. variable_unbound c.args.at (c.in_default.ensures c.args.proof.now Γ b) (ap refusal c.at.ensures)

-- ---- the entry that was found
pub bounds-ws-head-2 : goal.bounds-ws-head-2
bounds-ws-head-2 c = let e = entry_here c.requires.room (c.in-Some.ensures _ _ c.requires.binders) in omega (arith, e.fits, e.head, e.inside)

pub bounds-ws-head-3 : goal.bounds-ws-head-3
bounds-ws-head-3 c = let e = entry_here c.requires.room (c.in-Some.ensures _ _ c.requires.binders) in omega (arith, e.fits, e.head, e.inside)

pub returns-then-size-gt-MOST_TYPE_WORDS : goal.returns-then-size-gt-MOST_TYPE_WORDS
returns-then-size-gt-MOST_TYPE_WORDS c =
    λ Γ b r. variable_long c.args.at (entry_here c.requires.room (c.in-Some.ensures _ _ b)) (omega (arith, c.if-size-gt-MOST_TYPE_WORDS.true))
    (ap refusal c.at-then-size-gt-MOST_TYPE_WORDS.ensures)

pub overflow_sub-from : goal.overflow_sub-from
overflow_sub-from c =
    let e = entry_here c.requires.room (c.in-Some.ensures _ _ c.requires.binders) in omega (arith, e.within (lt-ltb _ _ c.if-in_workspace.true))

-- ---- its type, by way of either buffer
pub raised-requires : goal.raised-requires
raised-requires c =
    let e = entry_here c.requires.room (c.in-Some.ensures _ _ c.requires.binders) in
    let from : FromIs c.args.ws.now c.in-Some.kept c.if-in_workspace.from = elim c.if-in_workspace.branch [
      | then-in_workspace w ↦ from_workspace c.args.ws.now c.in-Some.kept (lt-ltb _ _ w.if-in_workspace.true) w.from-is
      | else-in_workspace w ↦ from_proof c.args.ws.now c.in-Some.kept (le-ltb _ _ w.if-in_workspace.false) w.from-is
    ] in
    raisable c.args.at e c.args.used from c.requires.room c.if-size-gt-MOST_TYPE_WORDS.false c.if-size-le-SMALL.true c.requires.number c.requires.place

pub raised-requires-2 : goal.raised-requires-2
raised-requires-2 c =
    let e = entry_here c.requires.room (c.in-Some.ensures _ _ c.requires.binders) in
    let from : FromIs c.args.ws.now c.in-Some.kept c.if-in_workspace.from = elim c.if-in_workspace.branch [
      | then-in_workspace w ↦ from_workspace c.args.ws.now c.in-Some.kept (lt-ltb _ _ w.if-in_workspace.true) w.from-is
      | else-in_workspace w ↦ from_proof c.args.ws.now c.in-Some.kept (le-ltb _ _ w.if-in_workspace.false) w.from-is
    ] in
    raisable c.args.at e c.args.used from c.requires.room c.if-size-gt-MOST_TYPE_WORDS.false c.if-size-gt-MOST_TYPE_WORDS.false
    c.requires.number c.requires.place

pub returns-then-size-le-SMALL : goal.returns-then-size-le-SMALL
returns-then-size-le-SMALL c =
    let from : FromIs c.args.ws.now c.in-Some.kept c.if-in_workspace.from = elim c.if-in_workspace.branch [
      | then-in_workspace w ↦ from_workspace c.args.ws.now c.in-Some.kept (lt-ltb _ _ w.if-in_workspace.true) w.from-is
      | else-in_workspace w ↦ from_proof c.args.ws.now c.in-Some.kept (le-ltb _ _ w.if-in_workspace.false) w.from-is
    ] in
    λ Γ b r. let e = entry_here c.requires.room (c.in-Some.ensures _ _ b) in
    variable_found c.args.at e c.if-size-gt-MOST_TYPE_WORDS.false (looked_up c.args.at e from refl) c.raised.ensures r

pub returns : goal.returns
returns c =
    let from : FromIs c.args.ws.now c.in-Some.kept c.if-in_workspace.from = elim c.if-in_workspace.branch [
      | then-in_workspace w ↦ from_workspace c.args.ws.now c.in-Some.kept (lt-ltb _ _ w.if-in_workspace.true) w.from-is
      | else-in_workspace w ↦ from_proof c.args.ws.now c.in-Some.kept (le-ltb _ _ w.if-in_workspace.false) w.from-is
    ] in
    λ Γ b r. let e = entry_here c.requires.room (c.in-Some.ensures _ _ b) in
    variable_found c.args.at e c.if-size-gt-MOST_TYPE_WORDS.false (looked_up c.args.at e from refl) c.raised-2.ensures r
