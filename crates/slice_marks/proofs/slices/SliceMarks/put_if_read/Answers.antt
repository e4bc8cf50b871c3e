use Rattle.std.proofs.Common.{◌&&◌, ◌||◌, nat_eq, sym, ap, ◌∙◌}
use Rattle.std.specs.Ordering.{eq_by_cmp}
use Rattle.mark_graph.specs.RowMarks.{AddsRow, row_at}
use Rattle.mark_rules.specs.Marks.{mark_cmp, same_mark}
use Rattle.slice_marks.proofs.Orders.{by_marks}
use Rattle.slice_marks.proofs.slices.SliceMarks.put_if_read.Goals as goal

pub returns : goal.returns
returns c = λ m r.
    let by = c.args.by.now in
    let row = c.args.row in
    by_marks (λ cmp. AddsRow cmp (eq_by_cmp cmp c.args.mark.now) row by c.put_one.new.by) c.in_ok-put_one.ensures.added m r
    ∙ ap (λ b. ((b && same_mark c.args.mark.now m) && nat_eq r row) || row_at mark_cmp by m r) (sym c.if-not-is_read.false ∙ c.is_read.ensures)
