use Rattle.std.proofs.Common.{Bor, map, ap, ◌∙◌, arith}
use Rattle.std.specs.List.{filter, filter_map, flat_map}
use Rattle.std.proofs.lemmas.List.{take_all}
use Rattle.view_types.specs.declared.object.Object.{Object}
use Rattle.view_rules.specs.Policies.{authz_row}
use Rattle.mark_rules.specs.Reads.{cost, needs_of}
use Rattle.mark_rules.proofs.Counts.{cost_steps, cost_stops}
use Rattle.policy_rows.proofs.Steps.{shows}
use Rattle.policy_rows.proofs.rows.rows_among.Goals as goal

pub loop-object-preserved : goal.loop-object-preserved
loop-object-preserved g c =
    let held = c.args.from.now.store.now.objects in
    let objects = c.args.objects.now in
    record {
      rows = shows (authz_row c.args.from.now.config.now held) (g.S.Subject.applies held c.args.subject.now) (λ o. o.now) objects c.loop-object.object-index c.object-item.result c.loop-object.rows c.add_if_applies.new.rows
          c.loop-object-test.true c.object-item.is c.loop-object.invariant.rows c.in_ok-add_if_applies.ensures.rows;
      steps = cost_steps held (λ (o : Bor Object). needs_of o.now) objects c.loop-object.object-index c.object-item.result c.args.steps.now c.loop-object.steps c.add_if_applies.new.steps
          c.loop-object-test.true c.object-item.is c.loop-object.invariant.steps c.add_if_applies.ensures.steps;
    }

pub returns-in_err-add_if_applies-clause-steps : goal.returns-in_err-add_if_applies-clause-steps
returns-in_err-add_if_applies-clause-steps g c =
    cost_stops c.args.from.now.store.now.objects (λ (o : Bor Object). needs_of o.now) c.args.objects.now c.loop-object.object-index c.object-item.result c.args.steps.now c.loop-object.steps c.add_if_applies.new.steps
    c.loop-object-test.true c.object-item.is c.loop-object.invariant.steps c.add_if_applies.ensures.steps

pub returns-clause-rows : goal.returns-clause-rows
returns-clause-rows g c =
    let held = c.args.from.now.store.now.objects in
    c.loop-object.invariant.rows
    ∙ ap (λ objects. filter_map (authz_row c.args.from.now.config.now held) (filter (g.S.Subject.applies held c.args.subject.now) (map (λ o. o.now) objects))) (take_all c.loop-object.object-index c.args.objects.now c.loop-object-test.false)

pub returns-clause-steps : goal.returns-clause-steps
returns-clause-steps g c =
    let so_far = c.loop-object.invariant.steps in
    let all = ap (λ objects. cost c.args.from.now.store.now.objects (flat_map (λ (o : Bor Object). needs_of o.now) objects)) (take_all c.loop-object.object-index c.args.objects.now c.loop-object-test.false) in
    omega (arith, so_far, all)
