use Rattle.std.proofs.Common.{List, ◌++◌, [], ◌∷◌, take, sym, ap, subst, ◌∙◌}
use Rattle.std.proofs.lemmas.List.{take_more}
use Rattle.view_types.specs.declared.mark.Mark.{Mark}
use Rattle.slice_marks.specs.Marked.{Leaves}
use Rattle.slice_marks.proofs.Reading.{one_passed}
use Rattle.slice_marks.proofs.slices.left_out.Goals as goal

pub loop-mark-preserved : goal.loop-mark-preserved
loop-mark-preserved c =
    let done = take c.loop-mark.mark-index c.args.before.now in
    let mark = c.mark-item.result in
    let more = take_more c.args.before.now c.loop-mark.mark-index mark c.loop-mark-test.true ∙ ap (λ mark. done ++ mark ∷ []) (sym c.mark-item.is) in
    subst (λ marks. Leaves marks c.args.marks.now c.leave_unless.new.left) (sym more)
    (subst (λ (left : List Mark). Leaves (done ++ mark ∷ []) c.args.marks.now left) (sym c.in_ok-leave_unless.ensures)
    (one_passed done c.args.marks.now c.loop-mark.left mark c.stands_at-stands.result c.stands_at-stands.ensures c.loop-mark.invariant))
