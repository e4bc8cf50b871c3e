use Rattle.std.proofs.Common.{◌≡◌, ◌++◌, take}
use Rattle.std.specs.List.{flat_map}
use Rattle.mark_rules.specs.Reads.{point_marks}
use Rattle.row_reads.proofs.references.add_points.Given as goal

-- the marks of the endpoints so far are added
abbrev pub invariant-loop-point : goal.invariant-loop-point
invariant-loop-point l = l.marks ≡ l.initial.marks ++ flat_map point_marks (take l.point-index l.points)
