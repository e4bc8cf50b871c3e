-- The meaning of the definitions of Servers, authorizations and routes over the objects held.
use Rattle.std.specs.Prelude.{◌≡◌, ◌↔◌, ℕ, Bool, true, false, List, Some, Contains, map}
use Rattle.std.specs.Bool.{Decides}
use Rattle.std.specs.Cmp.{IsTotalOrder}
use Rattle.std.specs.Cmp.Lexicographic.{slice_cmp}
use Rattle.std.specs.FinMap.{get}
use Rattle.std.specs.List.Sorted.{IsStrictlySortedBy}
use Rattle.std.specs.Ordering.{nat_cmp}
use Rattle.label_select.specs.Selects.{LabelMap, Selects}
use Rattle.label_select.specs.declared.selector.Selector.{Selector}
use Rattle.mesh_base.specs.declared.key.Kind.TheVariants as kind
use Rattle.mesh_base.specs.declared.key.ObjKey.{ObjKey}
use Rattle.view_types.specs.Lawful.{IsLawful}
use Rattle.view_types.specs.Objects.{AtKeys, ObjectMap, key_of}
use Rattle.view_types.specs.declared.config.Config.{Config}
use Rattle.view_types.specs.declared.object.Object.{Object}
use Rattle.view_types.specs.declared.object.Object.TheVariants as object
use Rattle.view_types.specs.declared.pod.Pod.{Pod}
use Rattle.view_types.specs.declared.route.BackendRef.{BackendRef}
use Rattle.view_types.specs.declared.route.Parent.{Parent}
use Rattle.view_types.specs.declared.route.Route.{Route}
use Rattle.view_types.specs.declared.server.PortRef.{PortRef}
use Rattle.view_types.specs.declared.server.PortRef.TheVariants.{Number, Named}
use Rattle.view_types.specs.declared.server.ServerSpec.{ServerSpec}
use Rattle.view_types.specs.declared.server_view.AuthzRow.{AuthzRow}
use Rattle.view_types.specs.declared.service.NamedPort.{NamedPort}
use Rattle.view_types.specs.declared.service.Service.{Service}
use Rattle.view_rules.specs.AuthzOrder.{RowsRise}
use Rattle.view_rules.specs.Endpoints.{service_key}
use Rattle.view_rules.specs.InOrder.{in_byte_order}
use Rattle.view_rules.specs.Laws.{FindsLeast}
use Rattle.view_rules.specs.Outbound.{is_missing}
use Rattle.view_rules.specs.Policies.{applies_to_route, applies_to_server, authz_row, authz_rows}
use Rattle.view_rules.specs.Routes.{as_route, attached_routes, place_of, route_cmp, route_key}
use Rattle.view_rules.specs.Selects.{selects}
use Rattle.view_rules.specs.Servers.{chosen_server}

-- ---- the tests

abbrev pub SelectsDecides : Type 0
SelectsDecides = (selector : Selector) (labels : LabelMap) → Decides (selects selector labels) (Selects selector labels)

-- strings ascend in byte order, and are those of the list
pub record AreInByteOrder (strings sorted : List (List ℕ)) : Type 0 where
  pub rise : IsStrictlySortedBy (slice_cmp nat_cmp) sorted
  pub same : (string : List ℕ) → Contains sorted string ↔ Contains strings string

abbrev pub StringsAreInOrder : Type 0
StringsAreInOrder = (strings : List (List ℕ)) → AreInByteOrder strings (in_byte_order strings)

-- ---- the Server of a port

-- the Pod has a TCP container port of the name and number
pub record HasPort (pod : Pod) (name : List ℕ) (number : ℕ) : Type 0 where
  pub entry : NamedPort
  pub among_ports : Contains pod.ports entry
  pub tcp : entry.tcp ≡ true
  pub same_name : entry.name ≡ name
  pub same_number : entry.port ≡ number

abbrev pub MeansPort : PortRef → Pod → ℕ → Type 0
MeansPort (Number port) pod number = port ≡ number
MeansPort (Named name) pod number = HasPort pod name number

abbrev pub server_key : List ℕ → List ℕ → ObjKey
server_key ns name = record { kind = kind.Server; ns = ns; name = name }

-- a Server of the namespace that selects the Pod and the port
pub record IsServerFor (held : ObjectMap) (ns : List ℕ) (pod : Pod) (number : ℕ) (server : ServerSpec) : Type 0 where
  pub at_key : get held (server_key ns server.meta.name) ≡ Some (object.Server server)
  pub selector : Selector
  pub with_selector : server.pods ≡ Some selector
  pub selected : Selects selector pod.meta.labels
  pub port : MeansPort server.port pod number

-- the one with the least name is chosen, and none exactly if there is none
abbrev pub ServersAreTheLeast : Type 0
ServersAreTheLeast = (held : ObjectMap) → AtKeys held → (ns : List ℕ) (pod : Pod) (number : ℕ)
    → FindsLeast (λ (s : ServerSpec). s.meta) (IsServerFor held ns pod number) (chosen_server held ns pod number)

-- ---- authorizations

-- the row is that of an object that is held and applies
pub record IsShown (config : Config) (held : ObjectMap) (applies : Object → Bool) (row : AuthzRow) : Type 0 where
  pub object : Object
  pub at_key : get held (key_of object) ≡ Some object
  pub passes : applies object ≡ true
  pub made : authz_row config held object ≡ Some row

abbrev pub RowsAreOfThoseThatApply : Type 0
RowsAreOfThoseThatApply = (config : Config) (held : ObjectMap) → AtKeys held → (applies : Object → Bool) (row : AuthzRow)
    → Contains (authz_rows config held applies) row ↔ IsShown config held applies row

-- the rows of a Server, and those of a route, ascend by kind and name
abbrev pub RowsAreInOrder : Type 0
RowsAreInOrder = (config : Config) (held : ObjectMap) → AtKeys held
    → ((server : ServerSpec) → RowsRise (authz_rows config held (applies_to_server held server)))
    × ((route : ObjKey) → RowsRise (authz_rows config held (applies_to_route held route)))

-- ---- routes

abbrev pub AreLawful : ObjectMap → Type 0
AreLawful held = (key : ObjKey) (o : Object) → get held key ≡ Some o → IsLawful o

-- a route of the namespace that is held and has a parent that passes
pub record IsAttached (held : ObjectMap) (ns : List ℕ) (is_parent : Parent → Bool) (route : Route) : Type 0 where
  pub object : Object
  pub at_key : get held (route_key route) ≡ Some object
  pub of_object : as_route object ≡ Some route
  pub in_namespace : route.meta.ns ≡ ns
  pub parent : Parent
  pub among_parents : Contains route.parents parent
  pub passes : is_parent parent ≡ true

-- they ascend by creation time, name and group, and are the routes that are attached
pub record AreAttached (held : ObjectMap) (ns : List ℕ) (is_parent : Parent → Bool) (routes : List Route) : Type 0 where
  pub rise : IsStrictlySortedBy route_cmp (map place_of routes)
  pub same : (route : Route) → Contains routes route ↔ IsAttached held ns is_parent route

abbrev pub RoutesAreInOrder : Type 0
RoutesAreInOrder = (held : ObjectMap) → AtKeys held → AreLawful held → (ns : List ℕ) (is_parent : Parent → Bool)
    → AreAttached held ns is_parent (attached_routes held ns is_parent)

abbrev pub RouteOrderIsTotal : Type 0
RouteOrderIsTotal = IsTotalOrder route_cmp

-- ---- backends

-- the Service of a backend is held and is not of the type ExternalName
pub record IsPresent (held : ObjectMap) (backend : BackendRef) : Type 0 where
  pub of_service : backend.service ≡ true
  pub service : Service
  pub at_key : get held (service_key backend.ns backend.name) ≡ Some (object.Service service)
  pub inside : service.external ≡ false

abbrev pub MissingDecides : Type 0
MissingDecides = (held : ObjectMap) (backend : BackendRef) → Decides (is_missing held backend) (¬ IsPresent held backend)
