use Rattle.std.proofs.Common.{sym, ◌∙◌}
use Rattle.slice_marks.specs.Marked.{marks_at}
use Rattle.slice_marks.proofs.Agreeing.{put_same}
use Rattle.slice_marks.proofs.slices.SliceMarks.put.Goals as goal

pub returns-then-are_same-clause-put : goal.returns-then-are_same-clause-put
returns-then-are_same-clause-put c = λ k.
    put_same (marks_at c.args.self.now.by_slice) c.args.key k c.args.marks
    (sym c.as_slice.ensures ∙ c.are_same.ensures c.if-are_same.true ∙ c.of.ensures)
