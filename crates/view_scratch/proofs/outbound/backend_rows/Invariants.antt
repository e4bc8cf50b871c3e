use Rattle.std.proofs.Common.{◌≡◌, ◌+◌, ◌≤◌, map, take}
use Rattle.std.specs.List.{flat_map}
use Rattle.mark_rules.specs.Reads.{backend_marks, cost}
use Rattle.view_rules.specs.Outbound.{backend_row}
use Rattle.view_scratch.proofs.outbound.backend_rows.Given as goal

-- the rows of the backends so far
abbrev pub invariant-loop-backend : goal.invariant-loop-backend
invariant-loop-backend g l = record {
  rows : l.rows ≡ map (backend_row l.from.store.now.objects) (take l.backend-index l.backends);
  steps : l.steps ≤ l.initial.steps + cost l.from.store.now.objects (flat_map backend_marks (take l.backend-index l.backends));
}
