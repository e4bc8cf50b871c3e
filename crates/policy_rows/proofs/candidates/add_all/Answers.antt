use Rattle.std.proofs.Common.{◌++◌, map, option_to_list, ap, ◌∙◌, arith}
use Rattle.std.specs.Prelude.{is_some}
use Rattle.std.specs.FinMap.{get}
use Rattle.std.specs.List.{sum_by}
use Rattle.std.proofs.lemmas.List.{take_all}
use Rattle.mesh_base.specs.declared.key.ObjKey.{ObjKey}
use Rattle.mark_rules.proofs.Counts.{found_count, one_if, sum_steps, sum_stops}
use Rattle.object_store.proofs.Counts.{found_one}
use Rattle.policy_rows.proofs.Steps.{adds_more}
use Rattle.policy_rows.proofs.candidates.add_all.Goals as goal

pub loop-key-preserved : goal.loop-key-preserved
loop-key-preserved g c =
    let held = get c.args.store.now.objects in
    let there = λ (key : ObjKey). one_if (is_some (held key)) in
    let so_far = map (λ o. o.now) c.loop-key.found.items in
    record {
      objects = adds_more held c.args.keys.now c.loop-key.key-index c.key-item.result (map (λ o. o.now) c.args.found.now.items) so_far (map (λ o. o.now) c.add.new.found.items)
          c.loop-key-test.true c.key-item.is c.loop-key.invariant.objects (c.in_ok-add.ensures ∙ ap (λ found. so_far ++ option_to_list found) c.get.ensures.value);
      steps = sum_steps there c.args.keys.now c.loop-key.key-index c.key-item.result c.args.steps.now c.loop-key.steps c.get.new.steps
          c.loop-key-test.true c.key-item.is c.loop-key.invariant.steps (found_one c.get.result (held c.key-item.result) c.loop-key.steps c.get.new.steps c.get.ensures.value c.get.ensures.steps);
    }

pub returns-in_err-add-clause-steps : goal.returns-in_err-add-clause-steps
returns-in_err-add-clause-steps g c =
    let held = get c.args.store.now.objects in
    let there = λ (key : ObjKey). one_if (is_some (held key)) in
    let stops = sum_stops there c.args.keys.now c.loop-key.key-index c.key-item.result c.args.steps.now c.loop-key.steps c.get.new.steps
    c.loop-key-test.true c.key-item.is c.loop-key.invariant.steps (found_one c.get.result (held c.key-item.result) c.loop-key.steps c.get.new.steps c.get.ensures.value c.get.ensures.steps) in
    let all = found_count held c.args.keys.now in
    omega (arith, stops, all)

pub returns-clause-steps : goal.returns-clause-steps
returns-clause-steps g c =
    let held = get c.args.store.now.objects in
    let there = λ (key : ObjKey). one_if (is_some (held key)) in
    let so_far = c.loop-key.invariant.steps in
    let all = ap (sum_by there) (take_all c.loop-key.key-index c.args.keys.now c.loop-key-test.false) ∙ found_count held c.args.keys.now in
    omega (arith, so_far, all)
