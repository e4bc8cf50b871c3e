-- The members of an HTTPRoute.
use Rattle.std.specs.Prelude.{Bool, true, false, Result, Ok}
use Rattle.k8s_meta.specs.Lists.{each, each_some}
use Rattle.k8s_meta.specs.Metadata.{meta_at}
use Rattle.k8s_meta.specs.Spots.{Spot, ◌·◌, ◌>>=◌}
use Rattle.k8s_meta.specs.Words.{part, text}
use Rattle.k8s_meta.specs.declared.fault.ReadFault.{ReadFault}
use Rattle.k8s_meta.specs.declared.key.Key.TheVariants as keys
use Rattle.mesh_base.specs.declared.key.Kind.{Kind}
use Rattle.mesh_base.specs.declared.key.Kind.TheVariants.{LinkerdRoute, GatewayRoute}
use Rattle.route_objects.specs.Parents.{parent_at}
use Rattle.route_objects.specs.Rules.{rules_at}
use Rattle.view_types.specs.declared.route.Route.{Route}

-- the kinds of routes
abbrev pub is_route : Kind → Bool
is_route LinkerdRoute = true
is_route GatewayRoute = true
is_route _ = false

unfoldable pub route_at : Kind → Spot → Result Route ReadFault
route_at kind s = do
  meta ← meta_at s
  spec ← part (s · keys.Spec)
  parents ← each_some (parent_at meta.ns) (spec · keys.ParentRefs)
  hosts ← each text (spec · keys.Hostnames)
  rules ← rules_at meta.ns (spec · keys.Rules)
  Ok (record { kind = kind; meta = meta; parents = parents; hosts = hosts; rules = rules })
