use Rattle.std.proofs.Common.{List, nat_eq, subst}
use Rattle.view_types.specs.declared.mark.Mark.{Mark}
use Rattle.mark_graph.proofs.Rows.{on_ok}
use Rattle.mark_rules.specs.Marks.{has_mark}
use Rattle.row_table.specs.AtMarks.{AddsAt, at_mark}
use Rattle.slice_marks.specs.Marked.{marks_read}
use Rattle.endpoint_index.proofs.Standing.{both_put}
use Rattle.endpoint_index.proofs.kept.KeptEndpoints.watch.Goals as goal

pub returns : goal.returns
returns c =
    let self = c.args.self.now in
    let number = c.args.number in
    let before = c.args.at_marks.now in
    let middle = c.put.new.self in
    let first = subst (λ (marks : List Mark). AddsAt (has_mark marks) number before middle) c.as_slice.ensures c.in_ok-put.ensures in
    on_ok c.put_row.result (λ adds m r. both_put self.own (marks_read self.slices.read.by_mark) m (nat_eq r number) (at_mark before m r) (at_mark middle m r) (at_mark (record middle { by_mark = c.put_row.new.by }) m r) (first m r) (adds m r))
    c.put_row.ensures
