use Rattle.std.proofs.Common.{Result, Ok, Err, IfOk, sym, ap, subst, ◌∙◌}
use Rattle.key_lists.specs.Keys.{Rises, has_key}
use Rattle.endpoint_rows.proofs.Orders.{always_ok}
use Rattle.endpoint_index.specs.Slices.{AreUpBut}
use Rattle.endpoint_index.proofs.SliceSums.{steps_within}
use Rattle.endpoint_index.proofs.Standing.{slices_as}
use Rattle.endpoint_index.proofs.Untouched.{up_but}
use Rattle.endpoint_index.proofs.kept.follow_in_place.Goals as goal

right_of : {A E : Type 0} {P Q : A → Type 0} (r : Result A E) → IfOk r P → ((a : A) → P a → Q a) → IfOk r Q
right_of (Ok a) p f = f a p
right_of (Err e) p f = tt

pub returns-clause-stands : goal.returns-clause-stands
returns-clause-stands g c = always_ok c.marks_after.result (λ held well leads.
    let config = c.args.source.now.from.now.config.now in
    let after = c.args.source.now.from.now.store.now.objects in
    let key = c.args.source.now.key.now in
    let old = c.args.kept.now in
    let touched = c.as_slice.result.now in
    let up = up_but leads config key _ old.name old.slices well.slices touched (λ k. ap (has_key k) c.as_slice.ensures.value ∙ c.in_ok-touched.ensures k) in
    let stand = c.in_ok-moved.ensures.stands well.slices.keeps well.slices.agree (subst (λ name. AreUpBut touched config after key name old.slices) c.requires.name up) in
    let exists = c.requires.exists ∙ c.requires.port.exists_is in
    record {
      slices = slices_as config after key c.bring_up.new.kept _ _ _ old.name exists (sym c.requires.name) stand;
      name = c.requires.name ∙ c.requires.port.name_is;
      own = well.own;
    })

pub returns-clause-marks : goal.returns-clause-marks
returns-clause-marks g c = right_of c.marks_after.result c.marks_after.ensures (λ after right. right c.args.kept.now.slices.read.by_mark c.in_ok-moved.ensures.moved)

pub returns-clause-steps : goal.returns-clause-steps
returns-clause-steps g c =
    let held = c.args.source.now.from.now.store.now.objects in
    let key = c.args.source.now.key.now in
    let rises = subst Rises (sym c.as_slice.ensures.value) c.as_slice.ensures.rise in
    steps_within held key c.as_slice.result.now rises c.stand_at_keys.ensures c.keys_by_mark.ensures.found c.rows_by_marks.ensures.slices c.args.steps.now c.bring_up.new.steps c.bring_up.ensures.steps

pub returns-in_err-moved-clause-steps : goal.returns-in_err-moved-clause-steps
returns-in_err-moved-clause-steps g c =
    let held = c.args.source.now.from.now.store.now.objects in
    let key = c.args.source.now.key.now in
    let rises = subst Rises (sym c.as_slice.ensures.value) c.as_slice.ensures.rise in
    steps_within held key c.as_slice.result.now rises c.stand_at_keys.ensures c.keys_by_mark.ensures.found c.rows_by_marks.ensures.slices c.args.steps.now c.bring_up.new.steps c.bring_up.ensures.steps
