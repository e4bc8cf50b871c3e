use Rattle.std.proofs.Common.{List, sym, ap, subst, ◌∙◌}
use Rattle.view_types.specs.declared.mark.Mark.{Mark}
use Rattle.key_lists.specs.Keys.{has_key}
use Rattle.endpoint_rows.proofs.Orders.{on_ok}
use Rattle.slice_marks.specs.Marked.{OthersStay}
use Rattle.slice_marks.proofs.Reading.{one_moves, put_again}
use Rattle.slice_marks.proofs.keys.put_if_new.Goals as goal

pub returns-then-has_key-clause-put : goal.returns-then-has_key-clause-put
returns-then-has_key-clause-put c =
    put_again c.args.by.now c.args.mark.now c.args.key.now (ap (has_key c.args.key.now) (sym c.keys_at.ensures.value) ∙ sym c.has_key.ensures ∙ c.if-has_key.true)

pub returns-clause-moved : goal.returns-clause-moved
returns-clause-moved c =
    on_ok c.put_key.result (λ put before stay.
    subst (λ (marks : List Mark). OthersStay marks before c.put_key.new.by) (sym c.in_ok-add_copy.ensures)
    (one_moves c.args.moved.now before c.args.by.now c.put_key.new.by c.args.mark.now c.args.key.now put stay)) c.put_key.ensures
