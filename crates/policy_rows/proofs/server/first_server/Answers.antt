use Rattle.std.proofs.Common.{sym, ap, ◌∙◌, arith}
use Rattle.std.specs.Prelude.{is_some}
use Rattle.std.specs.FinMap.{get}
use Rattle.std.specs.List.{sum_by}
use Rattle.std.specs.Option.{option_copied}
use Rattle.std.proofs.lemmas.List.{take_all}
use Rattle.mesh_base.specs.declared.key.ObjKey.{ObjKey}
use Rattle.view_rules.specs.Servers.{is_server_for}
use Rattle.mark_rules.proofs.Counts.{found_count, one_if, sum_steps, sum_stops}
use Rattle.policy_rows.proofs.Steps.{first_more, first_of_all}
use Rattle.policy_rows.proofs.server.first_server.Goals as goal

pub returns-in-Some-clause-value : goal.returns-in-Some-clause-value
returns-in-Some-clause-value g c =
    let asked = c.args.asked.now in
    first_of_all (get c.args.store.now.objects) (is_server_for asked.ns.now asked.pod.now asked.port) c.args.keys.now c.loop-key.key-index c.key-item.result
    c.loop-key-test.true c.key-item.is c.loop-key.invariant.none c.in-Some.server.now (sym c.server_at.ensures.value ∙ ap option_copied c.in-Some.is)

pub returns-in-Some-clause-steps : goal.returns-in-Some-clause-steps
returns-in-Some-clause-steps g c =
    let found = get c.args.store.now.objects in
    let there = λ (key : ObjKey). one_if (is_some (found key)) in
    let stops = sum_stops there c.args.keys.now c.loop-key.key-index c.key-item.result c.args.steps.now c.loop-key.steps c.server_at.new.steps
    c.loop-key-test.true c.key-item.is c.loop-key.invariant.steps c.server_at.ensures.steps in
    let all = found_count found c.args.keys.now in
    omega (arith, stops, all)

pub loop-key-preserved : goal.loop-key-preserved
loop-key-preserved g c =
    let asked = c.args.asked.now in
    let there = λ (key : ObjKey). one_if (is_some (get c.args.store.now.objects key)) in
    record {
      none = first_more (get c.args.store.now.objects) (is_server_for asked.ns.now asked.pod.now asked.port) c.args.keys.now c.loop-key.key-index c.key-item.result
          c.loop-key-test.true c.key-item.is c.loop-key.invariant.none
          ∙ sym c.server_at.ensures.value ∙ ap option_copied c.in-None.is;
      steps = sum_steps there c.args.keys.now c.loop-key.key-index c.key-item.result c.args.steps.now c.loop-key.steps c.server_at.new.steps
          c.loop-key-test.true c.key-item.is c.loop-key.invariant.steps c.server_at.ensures.steps;
    }

pub returns-clause-steps : goal.returns-clause-steps
returns-clause-steps g c =
    let found = get c.args.store.now.objects in
    let there = λ (key : ObjKey). one_if (is_some (found key)) in
    let so_far = c.loop-key.invariant.steps in
    let all = ap (sum_by there) (take_all c.loop-key.key-index c.args.keys.now c.loop-key-test.false) ∙ found_count found c.args.keys.now in
    omega (arith, so_far, all)
