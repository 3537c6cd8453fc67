-- Each test that fails breaks the form, and the last two decide it.
use mathlib.Core.Path.{sym, ap, ◌∙◌}
use mathlib.Core.Bool.{◌&&◌}
use Rattle.homes.proofs.Forms.{many_homes, many_rows, short_output, lists_decide}
use Rattle.homes.specs.Homes.{rows}
use Rattle.homes.proofs.well_formed.Goals as goal
use Rattle.homes.proofs.well_formed.Goals.{then-homes-gt-MOST_HOMES-via-then-homes-gt-MOST_HOMES}
use Rattle.homes.proofs.well_formed.Goals.{then-homes-gt-MOST_HOMES-via-else-homes-gt-MOST_HOMES+then-surveys}
use Rattle.homes.proofs.well_formed.Goals.{then-homes-gt-MOST_HOMES-via-else-homes-gt-MOST_HOMES+else-surveys+then-room-homes}

pub returns-then-homes-gt-MOST_HOMES : goal.returns-then-homes-gt-MOST_HOMES
returns-then-homes-gt-MOST_HOMES c =
    elim c.then-homes-gt-MOST_HOMES.branch [
      | then-homes-gt-MOST_HOMES-via-then-homes-gt-MOST_HOMES w ↦ many_homes _ _ _ w.if-homes-gt-MOST_HOMES.true
      | then-homes-gt-MOST_HOMES-via-else-homes-gt-MOST_HOMES+then-surveys w ↦ many_rows _ _ _ w.if-homes-gt-MOST_HOMES.false w.if-surveys.true
      | then-homes-gt-MOST_HOMES-via-else-homes-gt-MOST_HOMES+else-surveys+then-room-homes w ↦
          short_output _ _ _ w.if-homes-gt-MOST_HOMES.false w.if-surveys.false w.if-room-homes.true
    ]

pub returns-then-homes_rise : goal.returns-then-homes_rise
returns-then-homes_rise c =
    c.rows_rise.ensures ∙ ap (λ b. b && rows 0 c.args.surveys.now) (sym c.if-homes_rise.true ∙ c.homes_rise.ensures)
    ∙ lists_decide _ _ _ c.if-homes-gt-MOST_HOMES.false c.if-surveys.false c.if-room-homes.false

pub returns-else-homes_rise : goal.returns-else-homes_rise
returns-else-homes_rise c =
    c.if-homes_rise.false ∙ ap (λ b. b && rows 0 c.args.surveys.now) (sym c.if-homes_rise.false ∙ c.homes_rise.ensures)
    ∙ lists_decide _ _ _ c.if-homes-gt-MOST_HOMES.false c.if-surveys.false c.if-room-homes.false
