-- The words of the rules, each once. The invariant: the total is what the rules before the place take. The measure: the
-- words that are left.
use mathlib.Core.Path.{sym, ◌∙◌}
use mathlib.Core.List.{[]}
use mathlib.Core.Bool.{true, false}
use native.Mathlib.Omega.{arith}
use Rattle.register.specs.History.{each_once}
use Rattle.rule_list.proofs.RuleList.{turn, reads_before, counting_start, counting_turn, counting_end}
use Rattle.rule_list.proofs.opening.opening_words.Goals as goal
use Rattle.rule_list.proofs.opening.opening_words.Goals.{then-not-stands, else-not-stands}

pub loop-at-init : goal.loop-at-init
loop-at-init c = (omega arith, counting_start _ c.requires)

pub rule_at-rule-requires : goal.rule_at-rule-requires
rule_at-rule-requires c = (turn _ _ c.loop-at.invariant.1.place c.loop-at-test.true).fits

pub stands-requires : goal.stands-requires
stands-requires c = record {
  found = each_once [] c.loop-at.invariant.1.place.before;
  reads = reads_before _ _ c.loop-at.invariant.1.place c.rules_before.ensures.list c.rules_before.ensures.span;
}

pub loop-at-preserved : goal.loop-at-preserved
loop-at-preserved c =
    let k = c.loop-at.invariant.1 in
    let told = sym (c.stands.ensures _ (reads_before _ _ k.place c.rules_before.ensures.list c.rules_before.ensures.span)) in
    elim c.if-not-stands.branch [
      | then-not-stands w ↦ counting_turn _ _ _ k c.loop-at-test.true _ c.rule_at-rule.ensures false (told ∙ w.if-not-stands.true) _ w.total-is
      | else-not-stands w ↦ counting_turn _ _ _ k c.loop-at-test.true _ c.rule_at-rule.ensures true (told ∙ w.if-not-stands.false) _ (omega arith)
    ]

pub returns : goal.returns
returns c = counting_end _ _ _ c.loop-at.invariant.1 (omega arith)
