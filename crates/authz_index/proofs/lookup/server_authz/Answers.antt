use Rattle.std.proofs.Common.{◌++◌, ◌∷◌, Bor, map, ap, ◌∙◌}
use Rattle.std.specs.List.{flat_map}
use Rattle.view_types.specs.declared.mark.Mark.TheVariants.{Obj}
use Rattle.view_types.specs.declared.object.Object.{Object}
use Rattle.mark_rules.specs.Reads.{needs_of, server_authz_marks}
use Rattle.authz_index.proofs.AuthzCosts.{server_found_within, server_shown_within}
use Rattle.authz_index.proofs.lookup.server_authz.Goals as goal

pub returns-clause-row : goal.returns-clause-row
returns-clause-row g c = c.in_ok-row.ensures.rows (ap (map (λ (o : Bor Object). o.now)) c.as_slice.ensures.value ∙ c.in_ok-objects.ensures.objects)

pub returns-clause-marks : goal.returns-clause-marks
returns-clause-marks g c =
    let key = c.args.key.now in
    c.in_ok-marks.ensures
    ∙ ap (λ objects. Obj key ∷ (server_authz_marks key.ns key.name ++ flat_map needs_of objects)) (ap (map (λ (o : Bor Object). o.now)) c.as_slice-2.ensures.value ∙ c.in_ok-objects.ensures.objects)

pub returns-in_err-objects-clause-steps : goal.returns-in_err-objects-clause-steps
returns-in_err-objects-clause-steps g c =
    server_found_within c.args.from.now.store.now.objects c.args.key.now c.args.steps.now _ c.server_candidates.ensures.steps

pub returns-in_err-row-clause-steps : goal.returns-in_err-row-clause-steps
returns-in_err-row-clause-steps g c =
    server_shown_within c.args.from.now.store.now.objects c.args.key.now c.args.steps.now _ c.server_candidates.ensures.steps
    _ _ c.as_slice.ensures.value c.in_ok-objects.ensures.objects _ c.server_rows.ensures.steps

pub returns-in_err-marks-clause-steps : goal.returns-in_err-marks-clause-steps
returns-in_err-marks-clause-steps g c =
    server_shown_within c.args.from.now.store.now.objects c.args.key.now c.args.steps.now _ c.server_candidates.ensures.steps
    _ _ c.as_slice.ensures.value c.in_ok-objects.ensures.objects _ c.server_rows.ensures.steps

pub returns-clause-steps : goal.returns-clause-steps
returns-clause-steps g c =
    server_shown_within c.args.from.now.store.now.objects c.args.key.now c.args.steps.now _ c.server_candidates.ensures.steps
    _ _ c.as_slice.ensures.value c.in_ok-objects.ensures.objects _ c.server_rows.ensures.steps
