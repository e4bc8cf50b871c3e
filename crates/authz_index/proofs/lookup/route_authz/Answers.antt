use Rattle.std.proofs.Common.{◌∷◌, Bor, map, sym, ap, ◌∙◌}
use Rattle.std.specs.List.{filter, filter_map, flat_map}
use Rattle.view_types.specs.declared.mark.Mark.TheVariants.{PolicyOn}
use Rattle.view_types.specs.declared.object.Object.{Object}
use Rattle.view_rules.specs.Policies.{applies_to_route, authz_row}
use Rattle.mark_rules.specs.Reads.{needs_of}
use Rattle.authz_index.proofs.AuthzCosts.{route_found_within, route_shown_within}
use Rattle.authz_index.proofs.lookup.route_authz.Goals as goal

pub returns-clause-row : goal.returns-clause-row
returns-clause-row g c =
    let held = c.args.from.now.store.now.objects in
    let row = authz_row c.args.from.now.config.now held in
    let applies = applies_to_route held c.args.key.now in
    c.in_ok-row.ensures.rows
    ∙ ap (λ objects. filter_map row (filter applies (map (λ (o : Bor Object). o.now) objects))) c.as_slice.ensures.value
    ∙ ap (filter_map row) (sym c.in_ok-objects.ensures.among)

pub returns-clause-marks : goal.returns-clause-marks
returns-clause-marks g c =
    let key = c.args.key.now in
    c.in_ok-marks.ensures
    ∙ ap (λ objects. PolicyOn key.ns c.args.target key.name ∷ flat_map needs_of objects) (ap (map (λ (o : Bor Object). o.now)) c.as_slice-2.ensures.value ∙ c.in_ok-objects.ensures.objects)

pub returns-in_err-objects-clause-steps : goal.returns-in_err-objects-clause-steps
returns-in_err-objects-clause-steps g c =
    route_found_within c.args.from.now.store.now.objects c.args.key.now c.args.steps.now c.candidates.new.steps c.candidates.ensures.steps

pub returns-in_err-row-clause-steps : goal.returns-in_err-row-clause-steps
returns-in_err-row-clause-steps g c =
    route_shown_within c.args.from.now.store.now.objects c.args.key.now c.args.steps.now c.candidates.new.steps c.candidates.ensures.steps
    _ _ c.as_slice.ensures.value c.in_ok-objects.ensures.objects _ c.rows_among.ensures.steps

pub returns-in_err-marks-clause-steps : goal.returns-in_err-marks-clause-steps
returns-in_err-marks-clause-steps g c =
    route_shown_within c.args.from.now.store.now.objects c.args.key.now c.args.steps.now c.candidates.new.steps c.candidates.ensures.steps
    _ _ c.as_slice.ensures.value c.in_ok-objects.ensures.objects _ c.rows_among.ensures.steps

pub returns-clause-steps : goal.returns-clause-steps
returns-clause-steps g c =
    route_shown_within c.args.from.now.store.now.objects c.args.key.now c.args.steps.now c.candidates.new.steps c.candidates.ensures.steps
    _ _ c.as_slice.ensures.value c.in_ok-objects.ensures.objects _ c.rows_among.ensures.steps
