use Rattle.std.proofs.Common.{◌&&◌, not, nat_eq, sym, ap, ◌∙◌}
use Rattle.std.specs.Ordering.{eq_by_cmp}
use Rattle.mark_graph.specs.RowMarks.{RemovesRow, row_at}
use Rattle.mark_rules.specs.Marks.{mark_cmp, same_mark}
use Rattle.slice_marks.proofs.Orders.{by_marks}
use Rattle.slice_marks.proofs.slices.SliceMarks.take_if_read.Goals as goal

pub returns-then-is_read : goal.returns-then-is_read
returns-then-is_read c = λ m r.
    let by = c.args.by.now in
    let row = c.args.row in
    by_marks (λ cmp. RemovesRow cmp (eq_by_cmp cmp c.args.mark.now) row by c.take_one.new.by) c.take_one.ensures.taken m r
    ∙ ap (λ b. not ((b && same_mark c.args.mark.now m) && nat_eq r row) && row_at mark_cmp by m r) (sym c.if-is_read.true ∙ c.is_read.ensures)
