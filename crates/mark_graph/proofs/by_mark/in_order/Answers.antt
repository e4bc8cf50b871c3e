use Rattle.std.proofs.Common.{sym, ap, ◌∙◌}
use Rattle.mark_graph.specs.RowMarks.{has_row}
use Rattle.mark_graph.proofs.Rows.{as_in_set}
use Rattle.mark_graph.proofs.by_mark.in_order.Goals as goal

pub returns-clause-rows : goal.returns-clause-rows
returns-clause-rows c = λ r. ap (has_row r) c.from_vec.ensures ∙ as_in_set r c.sorted.result.items ∙ c.sorted.ensures.same r ∙ sym (as_in_set r c.args.rows)
