use Rattle.std.proofs.Common.{List, nat_eq, subst}
use Rattle.view_types.specs.declared.mark.Mark.{Mark}
use Rattle.mark_rules.specs.Marks.{has_mark}
use Rattle.row_table.specs.AtMarks.{RemovesAt, at_mark}
use Rattle.slice_marks.specs.Marked.{marks_read}
use Rattle.endpoint_index.proofs.Standing.{both_taken}
use Rattle.endpoint_index.proofs.kept.KeptEndpoints.unwatch.Goals as goal

pub returns : goal.returns
returns c = λ m r.
    let self = c.args.self.now in
    let number = c.args.number in
    let before = c.args.at_marks.now in
    let middle = c.take.new.self in
    let first = subst (λ (marks : List Mark). RemovesAt (has_mark marks) number before middle) c.as_slice.ensures c.take.ensures in
    both_taken self.own (marks_read self.slices.read.by_mark) m (nat_eq r number) (at_mark before m r) (at_mark middle m r) (at_mark (record middle { by_mark = c.take_row.new.by }) m r) (first m r) (c.take_row.ensures m r)
