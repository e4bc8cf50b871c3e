use Rattle.std.proofs.Common.{◌≡◌, ◌+◌, ◌≤◌, map, take}
use Rattle.std.specs.List.{filter, filter_map, flat_map}
use Rattle.view_rules.specs.Policies.{authz_row}
use Rattle.mark_rules.specs.Reads.{cost, needs_of}
use Rattle.policy_rows.proofs.rows.rows_among.Given as goal

-- the rows of those so far that apply
abbrev pub invariant-loop-object : goal.invariant-loop-object
invariant-loop-object g l = record {
  rows : l.rows ≡ filter_map (authz_row l.from.config.now l.from.store.now.objects) (filter (g.S.Subject.applies l.from.store.now.objects l.subject) (map (λ o. o.now) (take l.object-index l.objects)));
  steps : l.steps ≤ l.initial.steps + cost l.from.store.now.objects (flat_map (λ o. needs_of o.now) (take l.object-index l.objects));
}
