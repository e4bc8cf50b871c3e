use Rattle.std.proofs.Common.{◌≡◌, ◌+◌, ◌≤◌, false, take}
use Rattle.std.specs.List.{sum_by}
use Rattle.route_index.specs.Placed.{names_route}
use Rattle.route_index.proofs.Followed.{AreUpBut, two_if}
use Rattle.route_index.proofs.kept.follow_marks.Given as goal

-- the names of the marks so far are up
abbrev pub invariant-loop-mark : goal.invariant-loop-mark
invariant-loop-mark g l = record {
  rows : AreUpBut l.server.store.now.objects l.server.key.now l.changed l.mark-index l.initial.rows.items l.rows.items;
  same : l.differs ≡ false → l.rows.items ≡ l.initial.rows.items;
  steps : l.steps ≤ l.initial.steps + sum_by (λ mark. two_if (names_route l.server.key.now.ns mark)) (take l.mark-index l.changed);
}
