-- The marks that a row reads after a change, as its rule reports them.
use Rattle.std.specs.Prelude.{◌≡◌, List}
use Rattle.view_types.specs.declared.mark.Mark.{Mark}
use Rattle.mark_graph.specs.Moves.{has_after}
use Rattle.mark_rules.specs.Marks.{has_mark, mark_cmp}
use Rattle.row_table.specs.IndexRows.{HaveSame}
use Rattle.row_table.specs.declared.row_rule.MarksAfter.{MarksAfter}
use Rattle.row_table.specs.declared.row_rule.MarksAfter.TheVariants.{Same, Moved, Other}

-- the report is correct for the marks before and after
abbrev pub MarksFollow : MarksAfter → List Mark → List Mark → Type 0
MarksFollow Same old new = HaveSame new old
MarksFollow (Moved moves) old new = (mark : Mark) → has_mark new mark ≡ has_after mark_cmp moves (has_mark old) mark
MarksFollow (Other before) old new = before ≡ old
