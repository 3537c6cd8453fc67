-- `apply` gives an App's type: the argument's type is not the domain, or the body is filled into the small buffer or,
-- where that has no room, into the large one, and copied from there to the front.
use mathlib.Core.Path.{refl, ap}
use native.Mathlib.Omega.{arith}
use Rattle.logic.proofs.Answers.{refusal}
use Rattle.results.proofs.Results.{app_sizes, body_fillable, apply_short, apply_differs, body_at, argument_is, filled_fits, apply_over, apply_done}
use Rattle.results.proofs.apply.apply.Goals as goal
use Rattle.results.proofs.apply.apply.Goals.{then-n-body-via-then-n-body, then-n-body-via-else-n-body+then-not-same}

pub returns-then-n-body : goal.returns-then-n-body
returns-then-n-body c = λ d C e E j. elim c.then-n-body.branch [
  | then-n-body-via-then-n-body w ↦ apply_short c.args.at j w.if-n-body.true (ap refusal c.at.ensures)
  | then-n-body-via-else-n-body+then-not-same w ↦ apply_differs c.args.at j w.if-not-same.true w.same.ensures.1 (ap refusal c.at.ensures)
]

pub offset_bounds-proof-next : goal.offset_bounds-proof-next
offset_bounds-proof-next c = let s = app_sizes c.requires in omega arith

pub slice_bounds-filler-end : goal.slice_bounds-filler-end
slice_bounds-filler-end c = let s = app_sizes c.requires in omega (arith, s.argument)

pub fill_into-requires : goal.fill_into-requires
fill_into-requires c = (omega arith, body_fillable c.requires (c.same.ensures.0 c.if-not-same.false))

pub copy-requires : goal.copy-requires
copy-requires c =
    let p = c.requires in
    let agree = c.same.ensures.0 c.if-not-same.false in
    let w = filled_fits 0 p.applies agree (c.fill_into.ensures p.C p.e (body_at 0 p.applies agree) (argument_is 0 p.applies agree)) _ c.in-Some.is in
    let s = app_sizes p in
    let k = c.fill_into.auto.out in
    (omega (arith, w, k), omega (arith, w, s))

pub returns-in-Some : goal.returns-in-Some
returns-in-Some c =
    let agree = c.same.ensures.0 c.if-not-same.false in
    λ d C e E j. apply_done c.args.at j agree (c.fill_into.ensures C e (body_at 0 j agree) (argument_is 0 j agree)) (omega arith) _
    c.in-Some.is c.copy.ensures

pub copy-requires-2 : goal.copy-requires-2
copy-requires-2 c =
    let p = c.requires in
    let agree = c.same.ensures.0 c.if-not-same.false in
    let w = filled_fits 0 p.applies agree (c.fill_into-2.ensures p.C p.e (body_at 0 p.applies agree) (argument_is 0 p.applies agree)) _
    c.in-Some-fill_into.is in
    let s = app_sizes p in
    let k = c.fill_into-2.auto.out in
    (omega (arith, w, k), omega (arith, w, s))

pub returns-in_default-fill_into : goal.returns-in_default-fill_into
returns-in_default-fill_into c =
    let agree = c.same.ensures.0 c.if-not-same.false in
    λ d C e E j. apply_over c.args.at j agree (c.fill_into-2.ensures C e (body_at 0 j agree) (argument_is 0 j agree)) refl
    c.in_default-fill_into.is (ap refusal c.at-in_default-fill_into.ensures)

pub fill_into-requires-2 : goal.fill_into-requires-2
fill_into-requires-2 c = (omega arith, body_fillable c.requires (c.same.ensures.0 c.if-not-same.false))

pub returns : goal.returns
returns c =
    let agree = c.same.ensures.0 c.if-not-same.false in
    λ d C e E j. apply_done c.args.at j agree (c.fill_into-2.ensures C e (body_at 0 j agree) (argument_is 0 j agree)) (omega arith) _
    c.in-Some-fill_into.is c.copy-2.ensures
