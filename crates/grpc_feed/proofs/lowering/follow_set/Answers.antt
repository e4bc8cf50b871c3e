use Rattle.std.proofs.Common.{sym, ap, ◌∙◌}
use Rattle.std.specs.FinMap.{insert}
use Rattle.view_types.specs.Objects.{ObjectMap, key_of}
use Rattle.grpc_feed.proofs.RouteMaps.{follows_other, follows_put}
use Rattle.grpc_feed.proofs.lowering.follow_set.Goals as goal

pub returns-in_ok-set : goal.returns-in_ok-set
returns-in_ok-set c = λ held follows.
    let object = c.args.object.now in
    let own = sym (rw c.kind.ensures at c.is_gateway_route.ensures) ∙ c.if-is_gateway_route.true in
    rw (c.in_ok-set.ensures.ok, c.in_ok-copy.ensures) (ap (λ (routes : ObjectMap). insert routes (key_of object) object) follows ∙ follows_put held object own)

pub returns-else-is_gateway_route : goal.returns-else-is_gateway_route
returns-else-is_gateway_route c = λ held follows.
    let other = sym (rw c.kind.ensures at c.is_gateway_route.ensures) ∙ c.if-is_gateway_route.false in
    follows ∙ follows_other held c.args.object.now other
