use Rattle.std.proofs.Common.{◌≡◌, ◌+◌, ◌≤◌, take, option_to_list}
use Rattle.std.specs.List.{flat_map, sum_by}
use Rattle.view_rules.specs.Endpoints.{slice_rows}
use Rattle.view_rules.specs.PodRows.{row_for}
use Rattle.view_scratch.proofs.SliceSteps.{slice_at, steps_at}
use Rattle.view_scratch.proofs.collect.rows_of_places.Given as goal

-- the rows of the slices at the keys so far are there
abbrev pub invariant-loop-key : goal.invariant-loop-key
invariant-loop-key g l = record {
  rows : l.rows ≡ flat_map (λ key. flat_map (slice_rows (row_for l.from.config.now l.from.store.now.objects) l.port_name) (option_to_list (slice_at l.from.store.now.objects l.ns l.name key))) (take l.key-index l.keys);
  steps : l.steps ≤ l.initial.steps + sum_by (steps_at l.from.store.now.objects l.ns l.name) (take l.key-index l.keys);
}
