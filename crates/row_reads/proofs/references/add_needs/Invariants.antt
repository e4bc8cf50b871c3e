use Rattle.std.proofs.Common.{◌≡◌, ◌++◌, take}
use Rattle.std.specs.List.{flat_map}
use Rattle.view_rules.specs.Policies.{ns_of}
use Rattle.mark_rules.specs.Reads.{need_marks}
use Rattle.row_reads.proofs.references.add_needs.Given as goal

-- the marks of the references so far are added
abbrev pub invariant-loop-need : goal.invariant-loop-need
invariant-loop-need l = l.marks ≡ l.initial.marks ++ flat_map (λ need. need_marks (ns_of l.policy.meta.ns need) need.name need.kind) (take l.need-index l.policy.needs)
