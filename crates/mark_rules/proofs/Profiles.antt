-- Profiles stay where no mark of a change is asked for.
use Rattle.std.proofs.Common.{◌≡◌, ℕ, false, List, [], ◌∷◌, Some, None, Option, refl, sym, ap, ◌∙◌}
use Rattle.std.specs.Option.{option_or}
use Rattle.mesh_text.specs.Targets.{full_name}
use Rattle.net_cidr.specs.declared.ip.Ip.{Ip}
use Rattle.view_types.specs.Objects.{ObjectMap}
use Rattle.view_types.specs.declared.config.Config.{Config}
use Rattle.view_types.specs.declared.mark.Mark.{Mark}
use Rattle.view_types.specs.declared.mark.Mark.TheVariants.{IpService, Obj}
use Rattle.view_types.specs.declared.profile.Profile.{Profile}
use Rattle.view_types.specs.declared.query.Target.{Target}
use Rattle.view_types.specs.declared.query.Target.TheVariants as target
use Rattle.view_types.specs.declared.service.Service.{Service}
use Rattle.view_rules.specs.Endpoints.{service_key}
use Rattle.k8s_meta.specs.PortSet.{is_within}
use Rattle.view_rules.specs.Profiles.{address_profile, overrides_in, pod_profile, profile, profile_for, profile_found, profile_held, profile_key, routes_in, service_at, service_profile, service_ranges}
use Rattle.mark_rules.specs.Changes.{Leads}
use Rattle.mark_rules.specs.Laws.{ProfilesStay}
use Rattle.mark_rules.specs.Marks.{has_mark, meets}
use Rattle.mark_rules.specs.Reads.{address_reads, client_marks, profile_reads_of, service_profile_reads}
use Rattle.mark_rules.proofs.Addresses.{pod_at_stays, service_at_stays}
use Rattle.mark_rules.proofs.Endpoints.{service_stays}
use Rattle.mark_rules.proofs.MarkedObjects.{held_stays}
use Rattle.mark_rules.proofs.MarkTests.{misses_left, misses_one, misses_right, neither_first, neither_second}

module _ {changed : List Mark} {before after : ObjectMap} (leads : Leads changed before after) where
  profile_held_stays : (ns full : List ℕ) → meets (Obj (profile_key ns full) ∷ []) changed ≡ false → profile_held before ns full ≡ profile_held after ns full
  profile_held_stays ns full misses = ap profile_found (held_stays leads (profile_key ns full) (neither_first _ _ misses))

  for_stays : (client : Option (List ℕ)) (ns full : List ℕ) → meets (client_marks client full) changed ≡ false → meets (Obj (profile_key ns full) ∷ []) changed ≡ false
      → profile_for before client ns full ≡ profile_for after client ns full
  for_stays None ns full own misses = profile_held_stays ns full misses
  for_stays (Some client) ns full own misses = λ i. option_or (profile_held_stays client full own i) (profile_held_stays ns full misses i)

  module _ (config : Config) (client : Option (List ℕ)) where
    of_service : (ns name : List ℕ) (port : ℕ) → meets (service_profile_reads config client ns name) changed ≡ false → service_profile config before client ns name port ≡ service_profile config after client ns name port
    of_service ns name port misses =
        let full = full_name name ns config.cluster_domain in
        let own = misses_left changed (client_marks client full) (Obj (profile_key ns full) ∷ Obj (service_key ns name) ∷ []) misses in
        let rest = misses_right changed (client_marks client full) (Obj (profile_key ns full) ∷ Obj (service_key ns name) ∷ []) misses in
        let found = for_stays client ns full own (misses_one changed (Obj (profile_key ns full)) (neither_first _ _ rest)) in
        let service = service_stays leads ns name (neither_second (has_mark changed (Obj (profile_key ns full))) _ rest) in
        ap (λ (both : Option Profile × Option Service). record {
          fqn = full;
          opaque = is_within (service_ranges both.1) port;
          routes = routes_in both.0;
          overrides = overrides_in both.0;
          endpoint = None;
        })
        (λ i. (found i, service i))

    at_address : (ip : Ip) (port : ℕ) (found : Option Service) → meets (address_reads (service_profile_reads config client) ip found) changed ≡ false
        → address_profile config before client ip port found ≡ address_profile config after client ip port found
    at_address ip port None misses = ap (λ pod. pod_profile config pod ip port) (pod_at_stays leads ip misses)
    at_address ip port (Some service) misses = of_service service.meta.ns service.meta.name port misses

    of_target : (t : Target) → meets (profile_reads_of config before client t) changed ≡ false
        → (profile config after t client ≡ profile config before t client) × (profile_reads_of config after client t ≡ profile_reads_of config before client t)
    of_target (target.Service ns name port) misses = (sym (of_service ns name port misses), refl)
    of_target (target.Address ip port) misses =
        let found = service_at_stays leads ip (misses_one changed (IpService ip) (neither_first _ _ misses)) in (
          sym (at_address ip port (service_at before ip) (neither_second (has_mark changed (IpService ip)) _ misses) ∙ ap (address_profile config after client ip port) found),
          ap (λ found. IpService ip ∷ address_reads (service_profile_reads config client) ip found) (sym found),
        )

pub profiles_stay : ProfilesStay
profiles_stay config key changed before after leads misses = of_target leads config key.client key.target misses
