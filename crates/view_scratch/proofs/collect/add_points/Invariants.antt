use Rattle.std.proofs.Common.{◌≡◌, ◌+◌, ◌≤◌, ◌++◌, take}
use Rattle.std.specs.List.{flat_map}
use Rattle.mark_rules.specs.Reads.{cost, point_marks}
use Rattle.view_rules.specs.PodRows.{row_for}
use Rattle.view_scratch.specs.Parts.{rows_of_point}
use Rattle.view_scratch.proofs.collect.add_points.Given as goal

-- the rows of the points so far are added
abbrev pub invariant-loop-point : goal.invariant-loop-point
invariant-loop-point g l = record {
  rows : l.rows ≡ l.initial.rows ++ flat_map (rows_of_point (row_for l.from.config.now l.from.store.now.objects) l.numbers) (take l.point-index l.points);
  steps : l.steps ≤ l.initial.steps + cost l.from.store.now.objects (flat_map point_marks (take l.point-index l.points));
}
