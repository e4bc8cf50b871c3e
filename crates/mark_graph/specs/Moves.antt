-- The marks of a row from which some are removed, and to which some are added.
use Rattle.std.specs.Prelude.{◌&&◌, ◌||◌, not, Bool}
use Rattle.std.specs.declared.cmp.Ordering.{Ordering}
use Rattle.mark_graph.specs.RowMarks.{has_mark}
use Rattle.mark_graph.specs.declared.moves.MarkMoves.{MarkMoves}

-- the mark is added, or it was there and is not removed
abbrev pub has_after : {M : Type 0} → (M → M → Ordering) → MarkMoves M → (M → Bool) → M → Bool
has_after cmp moves before mark = has_mark cmp moves.come mark || (not (has_mark cmp moves.gone mark) && before mark)
