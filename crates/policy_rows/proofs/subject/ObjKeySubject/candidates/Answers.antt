use Rattle.std.proofs.Common.{[], map, sym, ap, ◌∙◌, arith}
use Rattle.std.proofs.lemmas.Result.{IfOk-weaker}
use Rattle.std.specs.List.{filter}
use Rattle.view_types.specs.declared.mark.Mark.TheVariants.{PolicyOn}
use Rattle.view_rules.specs.Policies.{applies_to_route}
use Rattle.mark_rules.specs.Marks.{objects_with}
use Rattle.mark_rules.specs.Reads.{cost}
use Rattle.mark_rules.proofs.Counts.{cost_cons}
use Rattle.policy_rows.specs.References.{route_marks}
use Rattle.policy_rows.proofs.AmongMarked.{among_none, among_route}
use Rattle.policy_rows.proofs.Costs.{with_none}
use Rattle.policy_rows.proofs.subject.ObjKeySubject.candidates.Goals as goal

pub returns-in-Some-clause-objects : goal.returns-in-Some-clause-objects
returns-in-Some-clause-objects g c =
    let marks = ap (λ target. objects_with c.args.store.now.objects (route_marks c.args.self.now target)) (sym c.in-Some.is ∙ c.route_target.ensures) in
    IfOk-weaker c.route_candidates.result _ _ (λ found is. is ∙ marks) c.route_candidates.ensures.objects

pub returns-in-Some-clause-among : goal.returns-in-Some-clause-among
returns-in-Some-clause-among g c =
    let held = c.args.store.now.objects in
    let route = c.args.self.now in
    IfOk-weaker c.route_candidates.result _ _
    (λ found is. among_route held route c.in-Some.target (sym c.in-Some.is ∙ c.route_target.ensures) ∙ ap (filter (applies_to_route held route)) (sym is))
    c.route_candidates.ensures.objects

pub returns-in-Some-clause-steps : goal.returns-in-Some-clause-steps
returns-in-Some-clause-steps g c =
    let held = c.args.store.now.objects in
    let route = c.args.self.now in
    let mark = PolicyOn route.ns c.in-Some.target route.name in
    let one = cost_cons held mark [] in
    let marks = ap (λ target. cost held (route_marks route target)) (sym c.in-Some.is ∙ c.route_target.ensures) in
    let steps = c.route_candidates.ensures.steps in
    omega (arith, one, marks, steps)

pub returns-in-None-clause-objects : goal.returns-in-None-clause-objects
returns-in-None-clause-objects g c =
    let held = c.args.store.now.objects in
    ap (map (λ o. o.now)) c.new.ensures.items ∙ sym (with_none held)
    ∙ ap (λ target. objects_with held (route_marks c.args.self.now target)) (sym c.in-None.is ∙ c.route_target.ensures)

pub returns-in-None-clause-among : goal.returns-in-None-clause-among
returns-in-None-clause-among g c =
    let held = c.args.store.now.objects in
    let route = c.args.self.now in
    among_none held route (sym c.in-None.is ∙ c.route_target.ensures) ∙ ap (λ objects. filter (applies_to_route held route) (map (λ o. o.now) objects)) (sym c.new.ensures.items)
