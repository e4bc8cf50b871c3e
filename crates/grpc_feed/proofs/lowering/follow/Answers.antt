use Rattle.std.proofs.Common.{sym, ap, ◌∙◌}
use Rattle.std.specs.FinMap.{remove}
use Rattle.view_types.specs.Objects.{ObjectMap}
use Rattle.grpc_feed.proofs.RouteMaps.{follows_list, follows_other_list, follows_removed}
use Rattle.grpc_feed.proofs.lowering.follow.Goals as goal

pub copy_of-requires : goal.copy_of-requires
copy_of-requires c = let list = rw c.in-Relist.is at c.requires in list.0.apart

pub returns-in-Delete : goal.returns-in-Delete
returns-in-Delete c = λ held follows.
    rw (c.in-Delete.is, c.remove.ensures) (ap (λ (routes : ObjectMap). remove routes c.in-Delete.key) follows ∙ follows_removed held c.in-Delete.key)

pub returns-in_ok-routes-in-Relist : goal.returns-in_ok-routes-in-Relist
returns-in_ok-routes-in-Relist c = λ held follows.
    let list = rw c.in-Relist.is at c.requires in
    let own = sym c.is_gateway_route.ensures ∙ c.if-is_gateway_route.true in
    rw (c.in-Relist.is, c.in_ok-routes-in-Relist.ensures) (follows_list held c.in-Relist.kind c.in-Relist.items list.0 own)

pub returns-else-is_gateway_route : goal.returns-else-is_gateway_route
returns-else-is_gateway_route c = λ held follows.
    let list = rw c.in-Relist.is at c.requires in
    let other = sym c.is_gateway_route.ensures ∙ c.if-is_gateway_route.false in
    rw c.in-Relist.is (follows ∙ follows_other_list held c.in-Relist.kind c.in-Relist.items list.0 other)
