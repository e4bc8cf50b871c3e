use Rattle.std.proofs.Common.{◌≤◌, ◌++◌, Bor, [], ◌∷◌, length, map, Option, Some, None, ap, ◌∙◌, arith}
use Rattle.std.specs.FinMap.{get}
use Rattle.std.specs.List.{cons_option, filter_map}
use Rattle.view_types.specs.declared.object.Object.{Object}
use Rattle.route_index.proofs.found.objects_named.Goals as goal

two : {X : Type 0} (a b : Option X) → length (cons_option a (cons_option b [])) ≤ 2
two None None = omega arith
two None (Some b) = omega arith
two (Some a) None = omega arith
two (Some a) (Some b) = omega arith

pub returns-clause-objects : goal.returns-clause-objects
returns-clause-objects g c =
    let held = get c.args.server.now.store.now.objects in
    c.in_ok-add_all.ensures.objects
    ∙ ap (λ items. map (λ (o : Bor Object). o.now) items ++ filter_map held (c.in_ok-linkerd.linkerd ∷ c.in_ok-gateway.gateway ∷ [])) c.new-objects.ensures.items
    ∙ (λ i. filter_map held (c.in_ok-linkerd.ensures i ∷ c.in_ok-gateway.ensures i ∷ []))

pub returns-clause-steps : goal.returns-clause-steps
returns-clause-steps g c =
    let held = get c.args.server.now.store.now.objects in
    let few = two (held c.in_ok-linkerd.linkerd) (held c.in_ok-gateway.gateway) in
    let steps = c.add_all.ensures.steps in
    omega (arith, few, steps)

pub returns-in_err-add_all-clause-steps : goal.returns-in_err-add_all-clause-steps
returns-in_err-add_all-clause-steps g c =
    let held = get c.args.server.now.store.now.objects in
    let few = two (held c.in_ok-linkerd.linkerd) (held c.in_ok-gateway.gateway) in
    let steps = c.add_all.ensures.steps in
    omega (arith, few, steps)
