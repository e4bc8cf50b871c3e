use Rattle.std.proofs.Common.{◌≡◌, ◌≤◌, ◌+◌, ℕ, List, length, ap, ◌∙◌, arith}
use Rattle.std.proofs.lemmas.Result.{on_ok_weaker}
use Rattle.std.specs.List.{count_by}
use Rattle.mesh_base.specs.declared.key.ObjKey.{ObjKey}
use Rattle.view_types.specs.Objects.{ObjectMap}
use Rattle.view_types.specs.declared.mark.Mark.{Mark}
use Rattle.view_types.specs.declared.mark.Mark.TheVariants.{RouteOn}
use Rattle.view_types.specs.declared.route.ParentKind.TheVariants as parent
use Rattle.mark_rules.proofs.Counts.{keys_count}
use Rattle.mark_rules.specs.MarkLookups.{keys_at}
use Rattle.mark_rules.specs.Reads.{cost, route_reads}
use Rattle.mark_rules.specs.declared.keys.RouteKey.{RouteKey}
use Rattle.route_index.specs.Placed.{names_route}
use Rattle.route_index.proofs.Followed.{followed}
use Rattle.route_index.proofs.RouteCosts.{within_reads}
use Rattle.route_index.proofs.kept.follow.Goals as goal

-- two look-ups for each route that the change names are no more than one for each route of the Server
within : (held : ObjectMap) (key : RouteKey) (routes : List ObjKey) (changed : List Mark) (before after : ℕ) → routes ≡ keys_at held (RouteOn key.ns parent.Server key.server)
    → count_by (names_route key.ns) changed + count_by (names_route key.ns) changed ≤ length routes
    → after ≤ before + (count_by (names_route key.ns) changed + count_by (names_route key.ns) changed) → after ≤ before + cost held (route_reads key)
within held key routes changed before after are few steps =
    let count = ap length are ∙ keys_count (RouteOn key.ns parent.Server key.server) held in
    within_reads held key before after (omega (arith, count, few, steps))

pub returns-then-not-is_in_place-clause-rows : goal.returns-then-not-is_in_place-clause-rows
returns-then-not-is_in_place-clause-rows g c = λ held is leads. c.in_ok-rows.ensures.rows

pub returns-clause-rows : goal.returns-clause-rows
returns-clause-rows g c =
    on_ok_weaker c.follow_in_place.result (λ brought held is leads. followed leads c.args.server.now.key.now c.args.rows.now c.follow_in_place.new.rows is brought) c.follow_in_place.ensures.rows

pub returns-clause-steps : goal.returns-clause-steps
returns-clause-steps g c =
    let server = c.args.server.now in
    within server.store.now.objects server.key.now c.routes_on-routes.result.now c.args.changed.now c.args.steps.now c.follow_in_place.new.steps
    (c.routes_on-routes.ensures c.requires) (c.is_in_place.ensures c.if-not-is_in_place.false) c.follow_in_place.ensures.steps
