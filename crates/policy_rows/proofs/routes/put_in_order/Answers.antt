use Rattle.std.proofs.Common.{map, ap, rules, Bor, ◌∙◌}
use Rattle.std.proofs.lemmas.Fn.{dedup_same}
use Rattle.std.proofs.lemmas.List.Sorted.{answers_always, ranks_by}
use Rattle.view_types.specs.declared.route.Route.{Route}
use Rattle.view_rules.specs.Routes.{RoutePlace, place_of}
use Rattle.view_rules.proofs.Attached.{places_exact, route_order_is_total}
use Rattle.view_rules.proofs.FirstOfEach.{first_of_each}
use Rattle.policy_rows.proofs.InOrder.{in_order_through}
use Rattle.policy_rows.proofs.routes.put_in_order.Goals as goal

abbrev shown : Bor Route → Route
shown route = route.now

abbrev place : Bor Route → RoutePlace
place route = place_of route.now

pub returns : goal.returns
returns c =
    ap (map shown)
    (dedup_same _ _ _ (λ x y b f' x' y' called. search rules) _ _ c.dedup_by.ensures.filtered
    ∙ first_of_each route_order_is_total places_exact place c.args.routes.now.items c.sort_by.new.self.items
    (c.in_ok-sort_by.ensures.sorted _ (ranks_by route_order_is_total place) (answers_always _ _ _ (λ f a r g called. search rules)))
    (c.sort_by.ensures.stable _ (ranks_by route_order_is_total place) (answers_always _ _ _ (λ f a r g called. search rules))))
    ∙ in_order_through route_order_is_total shown place_of c.args.routes.now.items
