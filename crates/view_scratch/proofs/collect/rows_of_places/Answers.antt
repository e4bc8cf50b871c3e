use Rattle.std.proofs.Common.{◌+◌, ◌≤◌, ◌++◌, [], ap, subst, option_to_list, ◌∙◌, arith}
use Rattle.std.specs.List.{flat_map, sum_by}
use Rattle.std.proofs.lemmas.List.{take_all}
use Rattle.mark_rules.proofs.Counts.{sum_steps, sum_stops}
use Rattle.mark_rules.specs.Reads.{cost, pods_of}
use Rattle.view_rules.specs.Endpoints.{slice_rows}
use Rattle.view_rules.specs.PodRows.{row_for}
use Rattle.view_scratch.proofs.Found.{each_found, flat_more}
use Rattle.view_scratch.proofs.SliceSteps.{all_steps, slice_at, slices_are, steps_at}
use Rattle.view_scratch.proofs.collect.rows_of_places.Goals as goal

pub loop-key-preserved : goal.loop-key-preserved
loop-key-preserved g c =
    let held = c.args.from.now.store.now.objects in
    let at = slice_at held c.args.ns.now c.args.name.now in
    let rows_of = slice_rows (row_for c.args.from.now.config.now held) c.args.port_name.now in
    let keys = c.in_ok-keys.keys.now in
    let i = c.loop-key.key-index in
    let key = c.key-item.result in
    let found = c.slice_at-slice.ensures.steps in
    let pods = subst (λ slice. c.add_found.new.steps ≤ c.slice_at-slice.new.steps + cost held (flat_map pods_of (option_to_list slice))) c.slice_at-slice.ensures.value c.add_found.ensures.steps in
    record {
      rows = flat_more (λ key. flat_map rows_of (option_to_list (at key))) [] c.loop-key.rows c.add_found.new.rows keys i key c.loop-key-test.true c.key-item.is c.loop-key.invariant.rows
          (c.in_ok-add_found.ensures.rows ∙ ap (λ slice. c.loop-key.rows ++ flat_map rows_of (option_to_list slice)) c.slice_at-slice.ensures.value);
      steps = sum_steps (steps_at held c.args.ns.now c.args.name.now) keys i key c.args.steps.now c.loop-key.steps c.add_found.new.steps c.loop-key-test.true c.key-item.is c.loop-key.invariant.steps (omega (arith, found, pods));
    }

pub returns-clause-value : goal.returns-clause-value
returns-clause-value g c =
    let held = c.args.from.now.store.now.objects in
    let ns = c.args.ns.now in
    let name = c.args.name.now in
    let rows_of = slice_rows (row_for c.args.from.now.config.now held) c.args.port_name.now in
    let keys = c.in_ok-keys.keys.now in
    c.loop-key.invariant.rows
    ∙ ap (flat_map (λ key. flat_map rows_of (option_to_list (slice_at held ns name key)))) (take_all c.loop-key.key-index keys c.loop-key-test.false)
    ∙ each_found rows_of (slice_at held ns name) keys
    ∙ ap (flat_map rows_of) (slices_are held ns name keys c.in_ok-keys.ensures c.rows_by_marks.ensures.slices)

pub returns-clause-steps : goal.returns-clause-steps
returns-clause-steps g c =
    let held = c.args.from.now.store.now.objects in
    let ns = c.args.ns.now in
    let name = c.args.name.now in
    let keys = c.in_ok-keys.keys.now in
    let so_far = c.loop-key.invariant.steps in
    let all = ap (sum_by (steps_at held ns name)) (take_all c.loop-key.key-index keys c.loop-key-test.false) ∙ all_steps held ns name keys c.in_ok-keys.ensures c.rows_by_marks.ensures.slices in
    omega (arith, so_far, all)

pub returns-in_err-add_found-clause-steps : goal.returns-in_err-add_found-clause-steps
returns-in_err-add_found-clause-steps g c =
    let held = c.args.from.now.store.now.objects in
    let ns = c.args.ns.now in
    let name = c.args.name.now in
    let keys = c.in_ok-keys.keys.now in
    let found = c.slice_at-slice.ensures.steps in
    let pods = subst (λ slice. c.add_found.new.steps ≤ c.slice_at-slice.new.steps + cost held (flat_map pods_of (option_to_list slice))) c.slice_at-slice.ensures.value c.add_found.ensures.steps in
    let stops = sum_stops (steps_at held ns name) keys c.loop-key.key-index c.key-item.result c.args.steps.now c.loop-key.steps c.add_found.new.steps c.loop-key-test.true c.key-item.is c.loop-key.invariant.steps (omega (arith, found, pods)) in
    let all = all_steps held ns name keys c.in_ok-keys.ensures c.rows_by_marks.ensures.slices in
    omega (arith, stops, all)
