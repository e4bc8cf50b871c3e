use Rattle.std.proofs.Common.{◌≡◌, map, take}
use Rattle.view_rules.specs.Inbound.{inbound_rule}
use Rattle.view_scratch.proofs.inbound.inbound_rules.Given as goal

-- the rows of the rules so far
abbrev pub invariant-loop-rule : goal.invariant-loop-rule
invariant-loop-rule l = l.rows ≡ map inbound_rule (take l.rule-index l.rules)
