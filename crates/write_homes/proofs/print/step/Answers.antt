-- Each way out tells what the step answers on the two files.
use native.Mathlib.Omega.{arith}
use mathlib.Core.Path.{sym, ap, ◌∙◌}
use Rattle.write_homes.specs.Printed.{given}
use Rattle.write_homes.proofs.Prints.{none_stepped, no_list, no_table, long_list, long_table, broken_list, broken_table, read_front, step_refused, step_done}
use Rattle.write_homes.proofs.print.step.Goals as goal
use Rattle.write_homes.proofs.print.step.Goals.{then-list-gt-MOST_LIST-via-then-list-gt-MOST_LIST}
use Rattle.write_homes.proofs.print.step.Goals.{then-list-gt-MOST_LIST-via-else-list-gt-MOST_LIST+then-table-gt-MOST_TABLE}

pub returns-in_err-list : goal.returns-in_err-list
returns-in_err-list c = rw c.from_residual.ensures (none_stepped _ _ _ (no_list _ _ (ap given c.in_err-list.was)))

pub returns-in_err-table : goal.returns-in_err-table
returns-in_err-table c = rw c.from_residual-in_err-table.ensures (none_stepped _ _ _ (no_table _ _ (ap given c.in_err-table.was)))

pub returns-then-list-gt-MOST_LIST : goal.returns-then-list-gt-MOST_LIST
returns-then-list-gt-MOST_LIST c =
    let a = ap given c.in_ok-list.was in
    let b = ap given c.in_ok-table.was in
    none_stepped _ _ _ (elim c.then-list-gt-MOST_LIST.branch [
      | then-list-gt-MOST_LIST-via-then-list-gt-MOST_LIST w ↦ long_list _ _ a b w.if-list-gt-MOST_LIST.true
      | then-list-gt-MOST_LIST-via-else-list-gt-MOST_LIST+then-table-gt-MOST_TABLE w ↦ long_table _ _ a b w.if-table-gt-MOST_TABLE.true
    ])

pub returns-in_err-n : goal.returns-in_err-n
returns-in_err-n c =
    rw c.from_residual-in_err-n.ensures
    (none_stepped _ _ _ (broken_list _ _ (ap given c.in_ok-list.was) (ap given c.in_ok-table.was) c.read.ensures c.in_err-n.was))

pub returns-in_err-m : goal.returns-in_err-m
returns-in_err-m c =
    rw c.from_residual-in_err-m.ensures
    (none_stepped _ _ _ (broken_table _ _ (ap given c.in_ok-list.was) (ap given c.in_ok-table.was) c.read-2.ensures c.in_err-m.was))

pub slice_bounds-homes-end : goal.slice_bounds-homes-end
slice_bounds-homes-end c = (read_front _ _ c.read.ensures c.in_ok-n.was).within

pub slice_bounds-write-end : goal.slice_bounds-write-end
slice_bounds-write-end c = (read_front _ _ c.read.ensures c.in_ok-n.was).count

pub slice_bounds-surveys-end : goal.slice_bounds-surveys-end
slice_bounds-surveys-end c = (read_front _ _ c.read-2.ensures c.in_ok-m.was).within

pub slice_bounds-write-end-2 : goal.slice_bounds-write-end-2
slice_bounds-write-end-2 c = (read_front _ _ c.read-2.ensures c.in_ok-m.was).count

pub returns-in_err-ok : goal.returns-in_err-ok
returns-in_err-ok c =
    let h = read_front _ _ c.read.ensures c.in_ok-n.was in
    let t = read_front _ _ c.read-2.ensures c.in_ok-m.was in
    rw c.from_residual-in_err-ok.ensures
    (none_stepped _ _ _ (step_refused _ _ (ap given c.in_ok-list.was) (ap given c.in_ok-table.was) _ _ h.is t.is c.requires c.write.ensures
    (sym c.ok.ensures.value ∙ c.in_err-ok.was)))

pub overflow_mul-result : goal.overflow_mul-result
overflow_mul-result c = omega (arith, (read_front _ _ c.read.ensures c.in_ok-n.was).within)

pub returns : goal.returns
returns c =
    let h = read_front _ _ c.read.ensures c.in_ok-n.was in
    let t = read_front _ _ c.read-2.ensures c.in_ok-m.was in
    step_done _ _ (ap given c.in_ok-list.was) (ap given c.in_ok-table.was) _ _ h.is t.is c.requires c.write.ensures
    (sym c.ok.ensures.value ∙ c.in_ok-ok.was) h.count
