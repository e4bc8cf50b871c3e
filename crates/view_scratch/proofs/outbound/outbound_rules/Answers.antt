use Rattle.mark_rules.proofs.Counts.{cost_stops}
use Rattle.view_scratch.specs.Reads.{rule_marks}
use Rattle.view_scratch.proofs.outbound.outbound_rules.Goals as goal

pub returns-in_err-outbound_rule-clause-steps : goal.returns-in_err-outbound_rule-clause-steps
returns-in_err-outbound_rule-clause-steps g c =
    cost_stops c.args.from.now.store.now.objects rule_marks c.args.rules.now c.loop-rule.rule-index c.rule-item.result c.args.steps.now c.loop-rule.steps c.outbound_rule.new.steps
    c.loop-rule-test.true c.rule-item.is c.loop-rule.invariant.steps c.outbound_rule.ensures.steps

pub returns-in_err-add-clause-steps : goal.returns-in_err-add-clause-steps
returns-in_err-add-clause-steps g c =
    cost_stops c.args.from.now.store.now.objects rule_marks c.args.rules.now c.loop-rule.rule-index c.rule-item.result c.args.steps.now c.loop-rule.steps c.outbound_rule.new.steps
    c.loop-rule-test.true c.rule-item.is c.loop-rule.invariant.steps c.outbound_rule.ensures.steps
