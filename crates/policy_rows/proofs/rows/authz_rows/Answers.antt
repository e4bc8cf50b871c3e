use Rattle.std.proofs.Common.{Bor, map, sym, ap, ◌∙◌, arith}
use Rattle.std.proofs.lemmas.Result.{IfOk-weaker}
use Rattle.std.specs.List.{filter, filter_map, flat_map}
use Rattle.view_types.specs.declared.object.Object.{Object}
use Rattle.view_rules.specs.Policies.{authz_row}
use Rattle.mark_rules.specs.Marks.{objects_with}
use Rattle.mark_rules.specs.Reads.{cost, needs_of}
use Rattle.mark_rules.proofs.Counts.{cost_append}
use Rattle.policy_rows.proofs.Costs.{with_needs_cost}
use Rattle.policy_rows.proofs.rows.authz_rows.Goals as goal

pub returns-in_err-objects-clause-steps : goal.returns-in_err-objects-clause-steps
returns-in_err-objects-clause-steps g c =
    let held = c.args.from.now.store.now.objects in
    let marks = g.S.Subject.marks c.args.subject.now in
    let all = cost_append held marks (flat_map needs_of (objects_with held marks)) in
    let first = c.candidates.ensures.steps in
    omega (arith, all, first)

pub returns-clause-rows : goal.returns-clause-rows
returns-clause-rows g c =
    let held = c.args.from.now.store.now.objects in
    let row = authz_row c.args.from.now.config.now held in
    let applies = g.S.Subject.applies held c.args.subject.now in
    IfOk-weaker c.rows_among.result _ _
    (λ rows is. is ∙ ap (λ objects. filter_map row (filter applies (map (λ o. o.now) objects))) c.as_slice.ensures.value ∙ ap (filter_map row) (sym c.in_ok-objects.ensures.among))
    c.rows_among.ensures.rows

pub returns-clause-steps : goal.returns-clause-steps
returns-clause-steps g c =
    let held = c.args.from.now.store.now.objects in
    let all = with_needs_cost held (g.S.Subject.marks c.args.subject.now) c.in_ok-objects.objects.items c.in_ok-objects.ensures.objects in
    let first = c.candidates.ensures.steps in
    let each = c.rows_among.ensures.steps in
    let seen = ap (λ objects. cost held (flat_map (λ (o : Bor Object). needs_of o.now) objects)) c.as_slice.ensures.value in
    omega (arith, all, first, each, seen)
