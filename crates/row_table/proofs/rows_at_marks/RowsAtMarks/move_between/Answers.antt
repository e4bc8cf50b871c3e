use Rattle.std.proofs.Common.{◌≡◌, if◌then◌else◌, OnOk, nat_eq, sym, ap, ◌∙◌}
use Rattle.view_types.specs.contracts.mark.MarkOrd as order
use Rattle.view_types.specs.declared.mark.Mark.{Mark}
use Rattle.mark_graph.specs.RowMarks.{MovesRow, has_mark, row_at}
use Rattle.row_table.proofs.ByCmp.{by_mark_cmp}
use Rattle.row_table.proofs.Users.{ok_then}
use Rattle.row_table.proofs.rows_at_marks.RowsAtMarks.move_between.Goals as goal

pub returns : goal.returns
returns c = λ stood.
    let by = c.args.self.now.by_mark in
    let n = c.args.number in
    by_mark_cmp (λ cmp. ((mark : Mark) → row_at cmp by mark n ≡ has_mark cmp c.args.old mark) → OnOk c.move_between.result (MovesRow cmp (has_mark cmp c.args.new) n by c.move_between.new.by))
    (λ at. ok_then c.move_between.result (c.move_between.ensures.moved (λ mark. at mark ∙ sym (c.of_list-old.ensures mark)))
    (λ moves mark r. moves mark r ∙ ap (λ b. if nat_eq r n then b else row_at order.TheImpl.cmp-value.it by mark r) (c.of_list-new.ensures mark)))
    stood
