use Rattle.std.proofs.Common.{◌≡◌, ◌++◌, List, length, rules, ap, ◌∙◌}
use Rattle.view_types.specs.declared.mark.Mark.{Mark}
use Rattle.slice_marks.proofs.Reading.{moves_lead}
use Rattle.endpoint_index.proofs.Standing.{none_in, none_moved, some_moved}
use Rattle.endpoint_index.proofs.kept.marks_after.Goals as goal

pub returns-then-len-eq0 : goal.returns-then-len-eq0
returns-then-len-eq0 c = λ old stay.
    let none : length c.args.moved ≡ 0 = search rules in
    none_moved c.args.kept.now.own old c.args.kept.now.slices.read.by_mark (λ m. stay m (none_in c.args.moved m none))

pub returns : goal.returns
returns c = λ old stay.
    let new = c.args.kept.now.slices.read.by_mark in
    let moves = c.in_ok-gone.field-0 in
    some_moved c.args.kept.now.own old new moves.gone moves.come c.add_copies.new.marks
    (c.in_ok-add_copies.ensures ∙ ap (λ (more : List Mark). moves.come ++ more) c.as_slice.ensures)
    (moves_lead old new c.args.moved moves stay c.in_ok-gone.ensures.gone c.in_ok-gone.ensures.come)
