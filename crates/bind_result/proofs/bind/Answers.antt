-- `bind` gives a Bind's type: another principal says the body's type, or the two shifts count otherwise, since it uses
-- the binder, or it is shifted down in place.
use mathlib.Core.Path.{ap}
use native.Mathlib.Omega.{arith}
use Rattle.logic.proofs.Answers.{refusal}
use Rattle.words.proofs.Places.{at_end}
use Rattle.bind_result.proofs.Results.{sizes, said_is, bind_short, bind_differs, said_at, said_still, bind_used, bind_unused}
use Rattle.bind_result.proofs.bind.Goals as goal
use Rattle.bind_result.proofs.bind.Goals.{then-m-said-via-then-m-said, then-m-said-via-else-m-said+then-not-same}

pub bounds-ws-head-2 : goal.bounds-ws-head-2
bounds-ws-head-2 c = let s = sizes c.requires in omega (arith, s.inside, s.some)

pub slice_bounds-same-end-else-m-said : goal.slice_bounds-same-end-else-m-said
slice_bounds-same-end-else-m-said c = let s = sizes c.requires in omega (arith, s)

pub returns-then-m-said : goal.returns-then-m-said
returns-then-m-said c = λ p q B j. elim c.then-m-said.branch [
  | then-m-said-via-then-m-said w ↦ bind_short c.args.at c.args.end j (said_is c.args.at c.args.end j) w.if-m-said.true (ap refusal c.at.ensures)
  | then-m-said-via-else-m-said+then-not-same w ↦ bind_differs c.args.at c.args.end j (said_is c.args.at c.args.end j) _ w.if-not-same.true
      w.same.ensures.1 (ap refusal c.at.ensures)
]

pub shift_within-from_1-requires : goal.shift_within-from_1-requires
shift_within-from_1-requires c =
    let p = c.requires in
    let h = said_at 0 0 p.binds (said_is 0 0 p.binds) (c.same.ensures.0 c.if-not-same.false) in
    record { term = p.B; here = h; fits = omega (arith, at_end h); deep = omega (arith, p.binds.type_words, p.small); near = omega arith }

pub shift_within-from_0-requires : goal.shift_within-from_0-requires
shift_within-from_0-requires c =
    let p = c.requires in
    let h = said_still 0 0 p.binds (said_is 0 0 p.binds) (c.same.ensures.0 c.if-not-same.false) c.shift_within-from_1.ensures in
    record { term = p.B; here = h; fits = omega (arith, at_end h); deep = omega (arith, p.binds.type_words, p.small); near = omega arith }

pub returns-then-from_0-from_1 : goal.returns-then-from_0-from_1
returns-then-from_0-from_1 c =
    let agree = c.same.ensures.0 c.if-not-same.false in
    λ p q B j. let is = said_is 0 0 j in
    bind_used c.args.at c.args.end j is agree (c.shift_within-from_1.ensures B (said_at 0 0 j is agree))
    (c.shift_within-from_0.ensures B (said_still 0 0 j is agree c.shift_within-from_1.ensures)) c.requires.small c.if-from_0-from_1.true
    (ap refusal c.at-then-from_0-from_1.ensures)

pub returns : goal.returns
returns c =
    let agree = c.same.ensures.0 c.if-not-same.false in
    λ p q B j. let is = said_is 0 0 j in
    bind_unused c.args.at c.args.end j is agree (c.shift_within-from_1.ensures B (said_at 0 0 j is agree))
    (c.shift_within-from_0.ensures B (said_still 0 0 j is agree c.shift_within-from_1.ensures)) c.requires.small c.if-from_0-from_1.false
