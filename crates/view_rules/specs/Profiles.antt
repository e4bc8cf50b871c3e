-- The profile of a target: the routes and traffic splits of its ServiceProfile, whether its port is
-- opaque, and the endpoint of an address.
use Rattle.std.specs.Prelude.{codes, ◌&&◌, ◌||◌, ℕ, Bool, false, if◌then◌else◌, List, [], Option, Some, None, find, not}
use Rattle.std.specs.FinMap.{get, values}
use Rattle.std.specs.List.{list_any}
use Rattle.std.specs.Option.{option_map, option_or}
use Rattle.std.specs.Ordering.{eq_by_cmp}
use Rattle.k8s_meta.specs.PortSet.{is_within}
use Rattle.mesh_base.specs.declared.key.Kind.TheVariants as kind
use Rattle.mesh_base.specs.declared.key.ObjKey.{ObjKey}
use Rattle.mesh_text.specs.Mesh.{is_some_text, opaque_ranges, ranges_from}
use Rattle.mesh_text.specs.Targets.{full_name}
use Rattle.net_cidr.specs.Address.{ip_cmp}
use Rattle.net_cidr.specs.declared.ip.Ip.{Ip}
use Rattle.view_types.specs.Objects.{ObjectMap}
use Rattle.view_types.specs.declared.config.Config.{Config}
use Rattle.view_types.specs.declared.object.Object.{Object}
use Rattle.view_types.specs.declared.object.Object.TheVariants as object
use Rattle.view_types.specs.declared.outbound.ProfileView.{ProfileView}
use Rattle.view_types.specs.declared.pod.Pod.{Pod}
use Rattle.view_types.specs.declared.profile.Override.{Override}
use Rattle.view_types.specs.declared.profile.Profile.{Profile}
use Rattle.view_types.specs.declared.profile.ProfileRoute.{ProfileRoute}
use Rattle.view_types.specs.declared.query.Target.{Target}
use Rattle.view_types.specs.declared.query.Target.TheVariants.{Service as ToService, Address as ToAddress}
use Rattle.view_types.specs.declared.service.Service.{Service}
use Rattle.view_rules.specs.Endpoints.{service_found, service_held}
use Rattle.view_rules.specs.PodRows.{pod_found, row_of}

-- ---- the ServiceProfile of a Service

abbrev pub profile_key : List ℕ → List ℕ → ObjKey
profile_key ns name = record { kind = kind.ServiceProfile; ns = ns; name = name }

abbrev pub as_profile : Object → Option Profile
as_profile (object.ServiceProfile p) = Some p
as_profile _ = None

abbrev pub profile_found : Option Object → Option Profile
profile_found None = None
profile_found (Some o) = as_profile o

abbrev pub profile_held : ObjectMap → List ℕ → List ℕ → Option Profile
profile_held held ns name = profile_found (get held (profile_key ns name))

-- the profile of the full name in the client's namespace, if it has one, or in the Service's
abbrev pub profile_for : ObjectMap → Option (List ℕ) → List ℕ → List ℕ → Option Profile
profile_for held None ns full = profile_held held ns full
profile_for held (Some client) ns full = option_or (profile_held held client full) (profile_held held ns full)

abbrev pub routes_in : Option Profile → List ProfileRoute
routes_in None = []
routes_in (Some p) = p.routes

abbrev pub overrides_in : Option Profile → List Override
overrides_in None = []
overrides_in (Some p) = p.overrides

-- the opaque ports of a Service; the default if it is not held, or is of the type ExternalName
abbrev pub service_ranges : Option Service → List (ℕ × ℕ)
service_ranges None = ranges_from None
service_ranges (Some s) = if s.external then ranges_from None else opaque_ranges s.meta

abbrev pub service_profile : Config → ObjectMap → Option (List ℕ) → List ℕ → List ℕ → ℕ → ProfileView
service_profile config held client ns name port =
    let full = full_name name ns config.cluster_domain in
    let found = profile_for held client ns full in
    record {
      fqn = full;
      opaque = is_within (service_ranges (service_held held ns name)) port;
      routes = routes_in found;
      overrides = overrides_in found;
      endpoint = None;
    }

-- ---- the owner of an address

abbrev pub has_ip : Ip → List Ip → Bool
has_ip ip addrs = list_any (eq_by_cmp ip_cmp ip) addrs

-- a Service with this cluster IP
abbrev pub is_service_with : Ip → Object → Bool
is_service_with ip (object.Service s) = not s.external && has_ip ip s.addrs
is_service_with ip _ = false

-- its phase is that of a Pod that has ended
abbrev pub has_ended : Pod → Bool
has_ended pod = is_some_text (codes "Succeeded") pod.phase || is_some_text (codes "Failed") pod.phase

-- a Pod with this address of its own: not the node's, and not that of a Pod that has ended
abbrev pub is_pod_with : Ip → Object → Bool
is_pod_with ip (object.Pod p) = not p.host_network && not (has_ended p) && has_ip ip p.addrs
is_pod_with ip _ = false

-- The objects of a kind are in the order of namespaces and names, so that the first is the least.
abbrev pub service_at : ObjectMap → Ip → Option Service
service_at held ip = service_found (find (is_service_with ip) (values held))

abbrev pub pod_at : ObjectMap → Ip → Option Pod
pod_at held ip = pod_found (find (is_pod_with ip) (values held))

-- ---- the profile of a target

-- the opaque ports of a Pod; the default for an address that has no owner
abbrev pub pod_ranges : Option Pod → List (ℕ × ℕ)
pod_ranges None = ranges_from None
pod_ranges (Some pod) = opaque_ranges pod.meta

-- for an address that has no owner, only whether the port is opaque is known
abbrev pub pod_profile : Config → Option Pod → Ip → ℕ → ProfileView
pod_profile config found ip port =
    record {
      fqn = [];
      opaque = is_within (pod_ranges found) port;
      routes = [];
      overrides = [];
      endpoint = option_map (λ pod. row_of config (Some pod) ip port) found;
    }

-- the Service takes precedence over a Pod
abbrev pub address_profile : Config → ObjectMap → Option (List ℕ) → Ip → ℕ → Option Service → ProfileView
address_profile config held client ip port (Some s) = service_profile config held client s.meta.ns s.meta.name port
address_profile config held client ip port None = pod_profile config (pod_at held ip) ip port

-- the profile of a target, for a client in this namespace if it declares one, over these objects
abbrev pub profile : Config → ObjectMap → Target → Option (List ℕ) → ProfileView
profile config held (ToService ns name port) client = service_profile config held client ns name port
profile config held (ToAddress ip port) client = address_profile config held client ip port (service_at held ip)
