-- The result of a step is written in three parts: the words before the node, the filled body, the words behind it.
use Prim.Native.Nat.{ℕ, ◌-◌, ◌≤◌}
use mathlib.Core.Path.{◌≡◌, sym, subst}
use mathlib.Core.List.{List}
use mathlib.Core.Option.{some}
use Rattle.std.specs.Prelude.{Some, None}
use Rattle.std.specs.Prelude.{Option as Maybe}
use Rattle.std.proofs.Common.{rules}
use native.Mathlib.Omega.{arith}
use lib.ListN.{length, take, drop}
use Rattle.logic.specs.Term.{Op, Term, node}
use Rattle.words.specs.Place.{At, Is}
use Rattle.words.proofs.Places.{at_end, part_is, size_is}
use Rattle.reduction.specs.Steps.{contracted, next_step}
use Rattle.steps.specs.declared.step.Filling.{Filling}
use Rattle.steps.specs.Step.{Steppable, FillingOf, SteppedTo}
use Rattle.steps.proofs.Sites.{TakenAt, taken_at}
use Rattle.steps.proofs.StepWords.{the_step, node_at, StepSizes, step_sizes, step_written, step_over, step_formed, filled_from, filled_over}
use Rattle.steps.proofs.step.step_into.Goals as goal

-- ---- what holds once the node was read

module _ {ws : List ℕ} {n at len : ℕ} (p : Steppable ws n at len) where
  -- the step of the term that `requires` brought
  step : TakenAt 0 p.term at
  step = taken_at 0 at p.term p.taken

  sizes : StepSizes p.here step.site
  sizes = step_sizes p.here step.site

  -- the node at the place of the step
  abbrev FillingHere : Filling → Type 0
  FillingHere r = let x = step.site in FillingOf ws at (node x.o x.a x.b) x.result r

  filling : (r : Filling) → ((o : Op) (a b u : Term) → At ws at (node o a b) → contracted o a b ≡ some u → FillingOf ws at (node o a b) u r) → FillingHere r
  filling r f = let x = step.site in f x.o x.a x.b x.result (node_at p.here x) x.rule

  -- the words are within both lists
  record Within : Type 0 where
    pub behind : n ≤ length ws
    pub room : n ≤ len

  within : Within
  within = let e = at_end p.here in record { behind = omega (arith, p.count); room = omega (arith, p.count, p.fits) }

  -- the words behind the node
  record Rest (e : ℕ) : Type 0 where
    pub end : e ≤ n
    pub count : n - e ≡ length step.site.behind

  rest : {r : Filling} → FillingHere r → Rest r.end
  rest f = let z = sizes in record { end = omega (arith, z.old, p.count, f.end); count = omega (arith, z.old, p.count, f.end) }

-- the term that is filled in
filler : {ws : List ℕ} {at : ℕ} {t u : Term} {r : Filling} (f : FillingOf ws at t u r) → Is (take (r.upto - r.from) (drop r.from ws)) f.filler
filler {r = r} f = record { plain = f.filler_at.plain; words = part_is r.upto f.filler_at f.filler_end }

-- ---- the needs

pub filling_at-f-requires : goal.filling_at-f-requires
filling_at-f-requires c =
    let x = (step c.requires).site in
    record { o = x.o; a = x.a; b = x.b; result = x.result; here = node_at c.requires.here x; rule = x.rule }

pub copy-requires : goal.copy-requires
copy-requires c = let w = within c.requires in let z = sizes c.requires in
    (omega (arith, w.behind, z.old, c.requires.count), omega (arith, w.room, z.old, c.requires.count))

pub offset_bounds-words-f : goal.offset_bounds-words-f
offset_bounds-words-f c = let f = filling c.requires _ c.filling_at-f.ensures in let e = at_end f.filler_at in omega arith

pub slice_bounds-fill_into-count : goal.slice_bounds-fill_into-count
slice_bounds-fill_into-count c = let f = filling c.requires _ c.filling_at-f.ensures in omega (arith, f.filler_end)

pub slice_bounds-fill_into-start : goal.slice_bounds-fill_into-start
slice_bounds-fill_into-start c = let f = filling c.requires _ c.filling_at-f.ensures in omega (arith, f.filler_end)

pub slice_bounds-fill_into-end : goal.slice_bounds-fill_into-end
slice_bounds-fill_into-end c = let f = filling c.requires _ c.filling_at-f.ensures in let e = at_end f.filler_at in omega (arith, f.filler_end)

pub fill_into-requires : goal.fill_into-requires
fill_into-requires c =
    let p = c.requires in
    let f = filling p _ c.filling_at-f.ensures in
    let w = within p in
    let z = sizes p in (
      omega (arith, w.room, z.old, p.count, c.copy.auto.out),
      record {
        term = f.body;
        here = f.body_at;
        deep = omega (arith, f.smaller, z.old, p.few);
        filler = f.filler;
        lends = filler f;
        short = omega (arith, size_is _ _ (filler f), f.smaller, z.old, p.few);
      },
    )

pub returns-in_err-end : goal.returns-in_err-end
returns-in_err-end c =
    let p = c.requires in
    let f = filling p _ c.filling_at-f.ensures in
    let o = filled_over f.filled (c.fill_into.ensures f.body f.filler f.body_at (filler f)) c.in_err-end.was in
    let r : c.from_residual.result ≡ None = search rules in
    subst (λ (r : Maybe ℕ). (t u : Term) → At c.args.words.now 0 t → next_step t ≡ some u → SteppedTo u c.args.out.now c.fill_into.new.out r) (sym r)
    (the_step (λ u. SteppedTo u _ _ None) p.here (step p).step (step_over (omega (arith, o, (sizes p).new, c.copy.auto.out))))

pub overflow_sub-rest : goal.overflow_sub-rest
overflow_sub-rest c = let r = rest c.requires (filling c.requires _ c.filling_at-f.ensures) in omega (arith, r.end)

pub overflow_sub-out : goal.overflow_sub-out
overflow_sub-out c =
    let f = filling c.requires _ c.filling_at-f.ensures in
    let d = filled_from f.filled (c.fill_into.ensures f.body f.filler f.body_at (filler f)) c.in_ok-end.was in
    omega (arith, d.fits, d.end_is, c.fill_into.auto.out)

pub returns-then-out-end : goal.returns-then-out-end
returns-then-out-end c =
    let p = c.requires in
    let f = filling p _ c.filling_at-f.ensures in
    let d = filled_from f.filled (c.fill_into.ensures f.body f.filler f.body_at (filler f)) c.in_ok-end.was in
    let r = rest p f in
    the_step (λ u. SteppedTo u _ _ None) p.here (step p).step
    (step_over (omega (arith, c.if-out-end.true, d.end_is, r.count, c.fill_into.auto.out, c.copy.auto.out, (sizes p).new)))

pub copy-requires-2 : goal.copy-requires-2
copy-requires-2 c =
    let p = c.requires in
    let f = filling p _ c.filling_at-f.ensures in
    let d = filled_from f.filled (c.fill_into.ensures f.body f.filler f.body_at (filler f)) c.in_ok-end.was in
    let w = within p in
    let r = rest p f in
    (omega (arith, w.behind, r.end), omega (arith, c.if-out-end.false, d.fits, d.end_is, c.fill_into.auto.out))

pub overflow_add-result : goal.overflow_add-result
overflow_add-result c =
    let p = c.requires in
    let f = filling p _ c.filling_at-f.ensures in
    let d = filled_from f.filled (c.fill_into.ensures f.body f.filler f.body_at (filler f)) c.in_ok-end.was in
    omega (arith, c.if-out-end.false, d.end_is, c.fill_into.auto.out, c.copy.auto.out, c.well_formed)

pub returns : goal.returns
returns c =
    let p = c.requires in
    let x = (step p).site in
    let f = filling p _ c.filling_at-f.ensures in
    let d = filled_from f.filled (c.fill_into.ensures f.body f.filler f.body_at (filler f)) c.in_ok-end.was in
    let r = rest p f in
    let z = sizes p in
    let o = c.fill_into.auto.out in
    the_step (λ u. SteppedTo u _ _ (Some _)) p.here (step p).step
    (step_formed (omega (arith, c.if-out-end.false, d.end_is, d.fits, r.count, o, c.copy.auto.out, z.new))
    (omega (arith, d.end_is, r.count, z.new))
    (step_written p.here x c.args.out.now c.copy.new.out c.fill_into.new.out _ _ _ _ c.copy.ensures d.words
    c.copy-2.ensures d.end_is f.end r.count))
