-- The routes that are attached to a Server or a Service, their order, and the row of one in a view.
use Rattle.std.specs.Prelude.{◌&&◌, ◌==◌, ℕ, Bool, true, false, List, Option, Some, None, codes, filter, filter_map, map, not}
use Rattle.std.specs.Cmp.Lexicographic.{slice_cmp}
use Rattle.std.specs.FinMap.{values}
use Rattle.std.specs.List.{list_any}
use Rattle.std.specs.Ordering.{nat_cmp, ordering_then}
use Rattle.std.specs.Str.{bytes_eq}
use Rattle.std.specs.declared.cmp.Ordering.{Ordering}
use Rattle.std.specs.declared.cmp.Ordering.TheVariants.{Less, Equal, Greater}
use Rattle.mesh_base.specs.declared.key.Kind.{Kind}
use Rattle.mesh_base.specs.declared.key.Kind.TheVariants as kind
use Rattle.mesh_base.specs.declared.key.ObjKey.{ObjKey}
use Rattle.view_types.specs.Objects.{ObjectMap}
use Rattle.view_types.specs.declared.object.Object.{Object}
use Rattle.view_types.specs.declared.object.Object.TheVariants as object
use Rattle.view_types.specs.declared.route.Parent.{Parent}
use Rattle.view_types.specs.declared.route.ParentKind.{ParentKind}
use Rattle.view_types.specs.declared.route.ParentKind.TheVariants.{Server, Service}
use Rattle.view_types.specs.declared.route.Route.{Route}
use Rattle.view_types.specs.declared.route.Rule.{Rule}
use Rattle.view_types.specs.declared.server_view.AuthzRow.{AuthzRow}
use Rattle.view_types.specs.declared.server_view.RouteRow.{RouteRow}
use Rattle.view_types.specs.declared.server_view.RuleRow.{RuleRow}
use Rattle.view_rules.specs.InOrder.{in_order_by}

-- the routes of both groups
abbrev pub as_route : Object → Option Route
as_route (object.LinkerdRoute route) = Some route
as_route (object.GatewayRoute route) = Some route
as_route _ = None

-- ---- parents

abbrev pub is_server : ParentKind → Bool
is_server Server = true
is_server Service = false

-- the port is that of the traffic, or there is none
abbrev pub is_port_or_none : ℕ → Option ℕ → Bool
is_port_or_none port None = true
is_port_or_none port (Some asked) = asked == port

-- the Server of the name, at any port
abbrev pub is_server_parent : List ℕ → Parent → Bool
is_server_parent name parent = is_server parent.kind && bytes_eq parent.name name

-- the Service of the name, at the port or at all its ports
abbrev pub is_service_parent : List ℕ → ℕ → Parent → Bool
is_service_parent name port parent = not (is_server parent.kind) && bytes_eq parent.name name && is_port_or_none port parent.port

-- a route of the namespace with a parent that passes
abbrev pub has_parent : List ℕ → (Parent → Bool) → Route → Bool
has_parent ns is_parent route = bytes_eq route.meta.ns ns && list_any is_parent route.parents

-- ---- their order

abbrev pub created_cmp : Option (List ℕ) → Option (List ℕ) → Ordering
created_cmp None None = Equal
created_cmp None (Some time) = Greater
created_cmp (Some time) None = Less
created_cmp (Some time) (Some other) = slice_cmp nat_cmp time other

abbrev pub route_group : Kind → List ℕ
route_group kind.GatewayRoute = codes "gateway.networking.k8s.io"
route_group _ = codes "policy.linkerd.io"

-- by creation time, the oldest first and those without a time last; then by name; then by group
pub record RoutePlace : Type 0 where
  pub created : Option (List ℕ)
  pub name : List ℕ
  pub group : List ℕ

abbrev pub place_of : Route → RoutePlace
place_of route = record { created = route.meta.created; name = route.meta.name; group = route_group route.kind }

abbrev pub route_cmp : RoutePlace → RoutePlace → Ordering
route_cmp a b = ordering_then (created_cmp a.created b.created) (ordering_then (slice_cmp nat_cmp a.name b.name) (slice_cmp nat_cmp a.group b.group))

-- the routes of the namespace with a parent that passes, each once, in order
abbrev pub attached_routes : ObjectMap → List ℕ → (Parent → Bool) → List Route
attached_routes held ns is_parent = in_order_by route_cmp place_of (filter (has_parent ns is_parent) (filter_map as_route (values held)))

-- ---- rows

abbrev pub route_key : Route → ObjKey
route_key route = record { kind = route.kind; ns = route.meta.ns; name = route.meta.name }

-- the row of a route, with these rules and authorizations
abbrev pub route_row : (Rule → RuleRow) → List AuthzRow → Route → RouteRow
route_row rule_row authz route = record {
  kind = route.kind;
  name = route.meta.name;
  created = route.meta.created;
  hosts = route.hosts;
  rules = map rule_row route.rules;
  authz = authz;
}
