use Rattle.std.proofs.Common.{nat_eq}
use Rattle.mark_graph.specs.RowMarks.{row_at}
use Rattle.mark_rules.specs.Marks.{mark_cmp}
use Rattle.slice_marks.specs.Marked.{is_read}
use Rattle.slice_marks.proofs.Reading.{take_next}
use Rattle.slice_marks.proofs.slices.SliceMarks.take_row.Goals as goal

pub loop-mark-preserved : goal.loop-mark-preserved
loop-mark-preserved c = λ m r.
    take_next (is_read c.args.self.now.by_mark) m (nat_eq r c.args.row) c.in-Some.mark.now c.loop-mark.mark-iterator c.next.new.self _ (row_at mark_cmp c.loop-mark.by m r) (row_at mark_cmp c.take_if_read.new.by m r)
    c.in-Some.ensures.steps (c.take_if_read.ensures m r) (c.loop-mark.invariant m r)
