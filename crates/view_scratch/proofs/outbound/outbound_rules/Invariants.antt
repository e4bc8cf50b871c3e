use Rattle.std.proofs.Common.{◌≡◌, ◌+◌, ◌≤◌, map, take}
use Rattle.std.specs.List.{flat_map}
use Rattle.mark_rules.specs.Reads.{cost}
use Rattle.view_rules.specs.Outbound.{outbound_rule}
use Rattle.view_scratch.specs.Reads.{rule_marks}
use Rattle.view_scratch.proofs.outbound.outbound_rules.Given as goal

-- the rows of the rules so far
abbrev pub invariant-loop-rule : goal.invariant-loop-rule
invariant-loop-rule g l = record {
  rows : l.rows ≡ map (outbound_rule l.from.store.now.objects) (take l.rule-index l.rules);
  steps : l.steps ≤ l.initial.steps + cost l.from.store.now.objects (flat_map rule_marks (take l.rule-index l.rules));
}
