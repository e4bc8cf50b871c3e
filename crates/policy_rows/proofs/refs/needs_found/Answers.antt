use Rattle.std.proofs.Common.{◌≡◌, ◌+◌, ◌≤◌, ◌&&◌, ◌∷◌, ◌++◌, [], Some, take, sym, ap, ◌∙◌, arith}
use Rattle.std.specs.Prelude.{is_some}
use Rattle.std.specs.List.{flat_map}
use Rattle.std.proofs.lemmas.List.{take_more}
use Rattle.std.proofs.lemmas.List.Folds.{list_all_more}
use Rattle.view_types.specs.declared.authn.Ref.{Ref}
use Rattle.view_rules.specs.Policies.{ns_of}
use Rattle.mark_rules.specs.Reads.{cost, need_marks}
use Rattle.mark_rules.proofs.Counts.{cost_steps, cost_stops}
use Rattle.policy_rows.specs.References.{given_by, with_given}
use Rattle.policy_rows.proofs.References.{all_given, gives, gives_more, there, there_gives}
use Rattle.policy_rows.proofs.refs.needs_found.Goals as goal

pub loop-need-preserved : goal.loop-need-preserved
loop-need-preserved g c =
    let held = c.args.from.now.store.now.objects in
    let own = c.args.policy.now.meta.ns in
    let needs = c.as_slice-need-items.result.now in
    let i = c.loop-need.need-index in
    let need = c.need-item.result in
    let given : gives held own need ≡ Some c.in-Some.given = ap (λ ns. given_by held ns need.name need.kind) (sym c.ns_of.ensures) ∙ sym c.in_ok-given.ensures.value ∙ c.in-Some.is in
    let more : c.given_by.new.steps ≤ c.loop-need.steps + cost held (need_marks (ns_of own need) need.name need.kind) =
    let marks = ap (λ ns. cost held (need_marks ns need.name need.kind)) c.ns_of.ensures in
    let steps = c.given_by.ensures.steps in
    omega (arith, marks, steps) in
    record {
      there = list_all_more (there held own) needs i need c.loop-need-test.true
          ∙ (λ j. c.loop-need.invariant.there j && (ap (there held own) (sym c.need-item.is) ∙ there_gives held own need ∙ ap is_some given) j);
      given = c.keep.ensures ∙ ap (λ found. with_given found c.in-Some.given) c.loop-need.invariant.given
          ∙ sym (gives_more held own (take i needs) need c.in-Some.given given)
          ∙ ap (all_given held own) (ap (λ n. take i needs ++ n ∷ []) c.need-item.is ∙ sym (take_more needs i need c.loop-need-test.true));
      steps = cost_steps held (λ (need : Ref). need_marks (ns_of own need) need.name need.kind) needs i need c.args.steps.now c.loop-need.steps c.given_by.new.steps
          c.loop-need-test.true c.need-item.is c.loop-need.invariant.steps more;
    }

pub returns-in_err-given-clause-steps : goal.returns-in_err-given-clause-steps
returns-in_err-given-clause-steps g c =
    let held = c.args.from.now.store.now.objects in
    let own = c.args.policy.now.meta.ns in
    let needs = c.as_slice-need-items.result.now in
    let need = c.need-item.result in
    let marks = ap (λ ns. cost held (need_marks ns need.name need.kind)) c.ns_of.ensures in
    let steps = c.given_by.ensures.steps in
    let all = ap (λ needs. cost held (flat_map (λ (need : Ref). need_marks (ns_of own need) need.name need.kind) needs)) c.as_slice-need-items.ensures in
    let stops = cost_stops held (λ (need : Ref). need_marks (ns_of own need) need.name need.kind) needs c.loop-need.need-index need c.args.steps.now c.loop-need.steps c.given_by.new.steps
    c.loop-need-test.true c.need-item.is c.loop-need.invariant.steps (omega (arith, marks, steps)) in
    omega (arith, stops, all)

pub returns-in-None-clause-steps : goal.returns-in-None-clause-steps
returns-in-None-clause-steps g c =
    let held = c.args.from.now.store.now.objects in
    let own = c.args.policy.now.meta.ns in
    let needs = c.as_slice-need-items.result.now in
    let need = c.need-item.result in
    let marks = ap (λ ns. cost held (need_marks ns need.name need.kind)) c.ns_of.ensures in
    let steps = c.given_by.ensures.steps in
    let all = ap (λ needs. cost held (flat_map (λ (need : Ref). need_marks (ns_of own need) need.name need.kind) needs)) c.as_slice-need-items.ensures in
    let stops = cost_stops held (λ (need : Ref). need_marks (ns_of own need) need.name need.kind) needs c.loop-need.need-index need c.args.steps.now c.loop-need.steps c.given_by.new.steps
    c.loop-need-test.true c.need-item.is c.loop-need.invariant.steps (omega (arith, marks, steps)) in
    omega (arith, stops, all)
