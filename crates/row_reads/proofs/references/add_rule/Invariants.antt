use Rattle.std.proofs.Common.{◌≡◌, ◌++◌, take}
use Rattle.std.specs.List.{flat_map}
use Rattle.mark_rules.specs.Reads.{backend_marks}
use Rattle.row_reads.proofs.references.add_rule.Given as goal

-- the marks of the backends so far are added
abbrev pub invariant-loop-backend : goal.invariant-loop-backend
invariant-loop-backend l = l.marks ≡ l.initial.marks ++ flat_map backend_marks (take l.backend-index l.rule.backends)
