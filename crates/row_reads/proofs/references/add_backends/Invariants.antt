use Rattle.std.proofs.Common.{◌≡◌, ◌++◌, take}
use Rattle.std.specs.List.{flat_map}
use Rattle.row_reads.specs.References.{rule_backends}
use Rattle.row_reads.proofs.references.add_backends.Given as goal

-- the marks of the rules so far are added
abbrev pub invariant-loop-rule : goal.invariant-loop-rule
invariant-loop-rule l = l.marks ≡ l.initial.marks ++ flat_map rule_backends (take l.rule-index l.route.rules)
