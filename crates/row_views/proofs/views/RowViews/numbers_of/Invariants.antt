use Rattle.std.proofs.Common.{◌≡◌, take}
use Rattle.std.specs.List.{filter_map}
use Rattle.row_views.proofs.views.RowViews.numbers_of.Given as goal

-- the numbers of the keys so far
abbrev pub invariant-loop-key : goal.invariant-loop-key
invariant-loop-key g l = l.numbers ≡ filter_map (g.I.RowIndex.number_at l.self.index) (take l.key-index l.keys)
