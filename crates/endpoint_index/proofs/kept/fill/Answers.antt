use Rattle.std.proofs.Common.{sym, ap, subst, ◌∙◌}
use Rattle.std.specs.Option.{option_copied}
use Rattle.endpoint_index.specs.Slices.{AreUpBut}
use Rattle.endpoint_index.proofs.Filling.{empty_up}
use Rattle.endpoint_index.proofs.SliceSums.{slices_rise, steps_within}
use Rattle.endpoint_index.proofs.Standing.{slices_as}
use Rattle.endpoint_index.proofs.kept.fill.Goals as goal

pub returns-clause-stands : goal.returns-clause-stands
returns-clause-stands g c = λ empty there.
    let config = c.args.source.now.from.now.config.now in
    let held = c.args.source.now.from.now.store.now.objects in
    let key = c.args.source.now.key.now in
    let name = option_copied c.args.source.now.port.name in
    let s = c.args.kept.now.slices in
    let up = subst (λ keys. AreUpBut keys config held key name s) (sym (c.slices_of-slices.ensures c.requires.going)) (empty_up config held key name s c.keys_by_mark.ensures.keys c.stand_at_keys.ensures empty) in
    let stand = c.in_ok-bring_up.ensures.stands empty.keeps empty.agree up in
    record {
      slices = slices_as config held key c.bring_up.new.kept _ _ _ _ (there ∙ c.requires.port.exists_is) (sym c.in_ok-kept.ensures) stand;
      name = c.in_ok-kept.ensures ∙ c.requires.port.name_is;
      own = c.in_ok-kept-2.ensures;
    }

pub returns-clause-steps : goal.returns-clause-steps
returns-clause-steps g c =
    let held = c.args.source.now.from.now.store.now.objects in
    let key = c.args.source.now.key.now in
    let slices = c.slices_of-slices.result.now in
    let rises = slices_rise held key slices (c.slices_of-slices.ensures c.requires.going) c.stand_at_keys.ensures c.keys_by_mark.ensures.keys in
    steps_within held key slices rises c.stand_at_keys.ensures c.keys_by_mark.ensures.found c.rows_by_marks.ensures.slices c.args.steps.now c.bring_up.new.steps c.bring_up.ensures.steps

pub returns-in_err-bring_up-clause-steps : goal.returns-in_err-bring_up-clause-steps
returns-in_err-bring_up-clause-steps g c =
    let held = c.args.source.now.from.now.store.now.objects in
    let key = c.args.source.now.key.now in
    let slices = c.slices_of-slices.result.now in
    let rises = slices_rise held key slices (c.slices_of-slices.ensures c.requires.going) c.stand_at_keys.ensures c.keys_by_mark.ensures.keys in
    steps_within held key slices rises c.stand_at_keys.ensures c.keys_by_mark.ensures.found c.rows_by_marks.ensures.slices c.args.steps.now c.bring_up.new.steps c.bring_up.ensures.steps

pub returns-in_err-kept-clause-steps : goal.returns-in_err-kept-clause-steps
returns-in_err-kept-clause-steps g c =
    let held = c.args.source.now.from.now.store.now.objects in
    let key = c.args.source.now.key.now in
    let slices = c.slices_of-slices.result.now in
    let rises = slices_rise held key slices (c.slices_of-slices.ensures c.requires.going) c.stand_at_keys.ensures c.keys_by_mark.ensures.keys in
    steps_within held key slices rises c.stand_at_keys.ensures c.keys_by_mark.ensures.found c.rows_by_marks.ensures.slices c.args.steps.now c.bring_up.new.steps c.bring_up.ensures.steps

pub returns-in_err-kept-2-clause-steps : goal.returns-in_err-kept-2-clause-steps
returns-in_err-kept-2-clause-steps g c =
    let held = c.args.source.now.from.now.store.now.objects in
    let key = c.args.source.now.key.now in
    let slices = c.slices_of-slices.result.now in
    let rises = slices_rise held key slices (c.slices_of-slices.ensures c.requires.going) c.stand_at_keys.ensures c.keys_by_mark.ensures.keys in
    steps_within held key slices rises c.stand_at_keys.ensures c.keys_by_mark.ensures.found c.rows_by_marks.ensures.slices c.args.steps.now c.bring_up.new.steps c.bring_up.ensures.steps
