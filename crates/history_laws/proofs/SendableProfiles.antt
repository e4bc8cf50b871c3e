-- What a profile of lawful objects shows can be sent: its routes and overrides are those of a held ServiceProfile, and its
-- other strings those of the query, of a held Service or Pod and of the configuration.
use Rattle.std.proofs.Common.{ℕ, ◌<◌, List, ◌∷◌, ◌++◌, Option, Some, None, IfSome, refl}
use Rattle.std.specs.Prelude.{codes}
use Rattle.std.specs.List.{AllByRecursion}
use Rattle.std.specs.FinMap.{get}
use Rattle.std.specs.Option.{option_or}
use lib.Utf8.{encode}
use Rattle.std.specs.Str.{IsUtf8, chars, is_utf8}
use Rattle.std.proofs.lemmas.Str.{IsUtf8-append, IsUtf8-from_is_utf8, IsUtf8-nil}
use Rattle.net_cidr.specs.Texts.{FitsIp}
use Rattle.net_cidr.specs.declared.ip.Ip.{Ip}
use Rattle.mesh_text.specs.Targets.{full_name}
use Rattle.view_types.specs.Lawful.{IsLawful, IsLawfulOverride, IsLawfulPod, IsLawfulProfile, IsLawfulProfileRoute, IsLawfulService}
use Rattle.view_types.specs.Objects.{ObjectMap}
use Rattle.view_types.specs.declared.config.Config.{Config}
use Rattle.view_types.specs.declared.object.Object.{Object}
use Rattle.view_types.specs.declared.object.Object.TheVariants as objects
use Rattle.view_types.specs.declared.pod.Pod.{Pod}
use Rattle.view_types.specs.declared.profile.Profile.{Profile}
use Rattle.view_types.specs.declared.query.Target.{Target}
use Rattle.view_types.specs.declared.query.Target.TheVariants.{Service as ToService, Address as ToAddress}
use Rattle.view_types.specs.declared.service.Service.{Service}
use Rattle.watch_events.specs.Lawful.{IsLawfulTarget}
use Rattle.view_rules.specs.Endpoints.{as_service, service_found}
use Rattle.view_rules.specs.Profiles.{address_profile, as_profile, is_service_with, overrides_in, pod_at, pod_profile, profile, profile_for, profile_found, profile_held, profile_key, routes_in, service_at, service_profile}
use Rattle.proxy_proto.specs.Sendable.{IsSendableProfile}
use Rattle.feed_history.specs.Sendable.{IsLawfulConfig}
use Rattle.feed_history.specs.Lawful.{AreLawfulHeld}
use Rattle.history_laws.proofs.SendableRows.{dot_and, of_first, of_found, pod_at_is_lawful, row_is_sendable}

-- ---- what is found

profile_of_object : (o : Object) → IsLawful o → IfSome (as_profile o) IsLawfulProfile
profile_of_object (objects.ServiceProfile p) lawful = lawful
profile_of_object _ lawful = tt

either_profile : (first second : Option Profile) → IfSome first IsLawfulProfile → IfSome second IsLawfulProfile → IfSome (option_or first second) IsLawfulProfile
either_profile None second one other = other
either_profile (Some p) second one other = one

service_of_object : (o : Object) → IsLawful o → IfSome (as_service o) IsLawfulService
service_of_object (objects.Service s) lawful = lawful
service_of_object _ lawful = tt

pub service_at_is_lawful : (held : ObjectMap) → AreLawfulHeld held → (ip : Ip) → IfSome (service_at held ip) IsLawfulService
service_at_is_lawful held lawful ip = of_first held lawful (λ found. IfSome (service_found found) IsLawfulService) tt service_of_object (is_service_with ip)

-- ---- full names

suffix_is_text : IsUtf8 (codes "svc.")
unfolding is_utf8 chars encode
suffix_is_text = IsUtf8-from_is_utf8 (codes "svc.") refl

full_name_is_text : (name ns domain : List ℕ) → IsUtf8 name → IsUtf8 ns → IsUtf8 domain → IsUtf8 (full_name name ns domain)
full_name_is_text name ns domain name_text ns_text domain_text =
    IsUtf8-append name (46 ∷ (ns ++ 46 ∷ (codes "svc." ++ domain))) name_text
    (dot_and (ns ++ 46 ∷ (codes "svc." ++ domain))
    (IsUtf8-append ns (46 ∷ (codes "svc." ++ domain)) ns_text
    (dot_and (codes "svc." ++ domain) (IsUtf8-append (codes "svc.") domain suffix_is_text domain_text))))

-- ---- profiles

module _ (config : Config) (usual : IsLawfulConfig config) (held : ObjectMap) (lawful : AreLawfulHeld held) (client : Option (List ℕ)) where
  held_profile : (ns full : List ℕ) → IfSome (profile_held held ns full) IsLawfulProfile
  held_profile ns full = of_found (λ found. IfSome (profile_found found) IsLawfulProfile) tt profile_of_object (get held (profile_key ns full)) (lawful (profile_key ns full))

  found_profile : (said : Option (List ℕ)) (ns full : List ℕ) → IfSome (profile_for held said ns full) IsLawfulProfile
  found_profile None ns full = held_profile ns full
  found_profile (Some client) ns full = either_profile (profile_held held client full) (profile_held held ns full) (held_profile client full) (held_profile ns full)

  routes_are_lawful : (found : Option Profile) → IfSome found IsLawfulProfile → AllByRecursion IsLawfulProfileRoute (routes_in found)
  routes_are_lawful None is = tt
  routes_are_lawful (Some p) is = is.routes

  overrides_are_lawful : (found : Option Profile) → IfSome found IsLawfulProfile → AllByRecursion IsLawfulOverride (overrides_in found)
  overrides_are_lawful None is = tt
  overrides_are_lawful (Some p) is = is.overrides

  of_service : (ns name : List ℕ) (port : ℕ) → IsUtf8 ns → IsUtf8 name → IsSendableProfile (service_profile config held client ns name port)
  of_service ns name port ns_text name_text =
      let full = full_name name ns config.cluster_domain in
      let found = found_profile client ns full in
      record {
        fqn = full_name_is_text name ns config.cluster_domain name_text ns_text usual.cluster_domain;
        routes = routes_are_lawful (profile_for held client ns full) found;
        overrides = overrides_are_lawful (profile_for held client ns full) found;
        endpoint = tt;
      }

  of_pod : (pod : Option Pod) → IfSome pod IsLawfulPod → (ip : Ip) (port : ℕ) → FitsIp ip → port < 65536 → IsSendableProfile (pod_profile config pod ip port)
  of_pod None is ip port ip_fits port_fits = record { fqn = IsUtf8-nil; routes = tt; overrides = tt; endpoint = tt }
  of_pod (Some pod) is ip port ip_fits port_fits = record {
    fqn = IsUtf8-nil;
    routes = tt;
    overrides = tt;
    endpoint = row_is_sendable config usual (Some pod) is ip port ip_fits port_fits;
  }

  of_address : (ip : Ip) (port : ℕ) → FitsIp ip → port < 65536 → (found : Option Service) → IfSome found IsLawfulService → IsSendableProfile (address_profile config held client ip port found)
  of_address ip port ip_fits port_fits (Some s) is = of_service s.meta.ns s.meta.name port is.meta.ns_text is.meta.name_text
  of_address ip port ip_fits port_fits None is = of_pod (pod_at held ip) (pod_at_is_lawful held lawful ip) ip port ip_fits port_fits

  pub profile_is_sendable : (target : Target) → IsLawfulTarget target → IsSendableProfile (profile config held target client)
  profile_is_sendable (ToService ns name port) is = of_service ns name port is.ns_text is.name_text
  profile_is_sendable (ToAddress ip port) is = of_address ip port is.0 is.1 (service_at held ip) (service_at_is_lawful held lawful ip)
