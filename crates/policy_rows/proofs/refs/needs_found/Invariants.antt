use Rattle.std.proofs.Common.{◌≡◌, ◌+◌, ◌≤◌, take, true}
use Rattle.std.specs.List.{flat_map, list_all}
use Rattle.view_rules.specs.Policies.{ns_of}
use Rattle.mark_rules.specs.Reads.{cost, need_marks}
use Rattle.policy_rows.proofs.References.{all_given, there}
use Rattle.policy_rows.proofs.refs.needs_found.Given as goal

-- the references so far are there, and give this
abbrev pub invariant-loop-need : goal.invariant-loop-need
invariant-loop-need g l = record {
  there : list_all (there l.from.store.now.objects l.policy.meta.ns) (take l.need-index l.need-items) ≡ true;
  given : l.found ≡ all_given l.from.store.now.objects l.policy.meta.ns (take l.need-index l.need-items);
  steps : l.steps ≤ l.initial.steps + cost l.from.store.now.objects (flat_map (λ need. need_marks (ns_of l.policy.meta.ns need) need.name need.kind) (take l.need-index l.need-items));
}
