-- The HTTPRoutes of gateway.networking.k8s.io that are held, lowered or not.
use Rattle.std.specs.Prelude.{◌≡◌}
use Rattle.std.specs.FinMap.{retain_keys}
use Rattle.view_types.specs.Objects.{ObjectMap}
use Rattle.grpc_feed.specs.FeedKinds.{is_gateway_route}

abbrev pub routes_of : ObjectMap → ObjectMap
routes_of held = retain_keys held (λ key. is_gateway_route key.kind)

-- the routes kept are those held
abbrev pub Follows : ObjectMap → ObjectMap → Type 0
Follows routes held = routes ≡ routes_of held
