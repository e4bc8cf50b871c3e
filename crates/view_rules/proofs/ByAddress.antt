-- The Service and the Pod that an address leads to.
use Rattle.std.proofs.Common.{◌≡◌, Bool, true, false, not, ◌&&◌, ◌||◌, List, [], ◌∷◌, Some, inl, inr, refl, sym, ap, ◌∙◌}
use Rattle.std.specs.FinMap.{get}
use Rattle.std.specs.Ordering.{eq_by_cmp, is_eq}
use Rattle.std.specs.Cmp.{tied_itself}
use Rattle.net_cidr.specs.Address.{ip_cmp}
use Rattle.net_cidr.specs.declared.ip.Ip.{Ip}
use Rattle.view_types.specs.Objects.{ObjectMap, key_of}
use Rattle.view_types.specs.declared.object.Object.{Object}
use Rattle.view_types.specs.declared.object.Object.TheVariants as object
use Rattle.view_types.specs.declared.pod.Pod.{Pod}
use Rattle.view_types.specs.declared.service.Service.{Service}
use Rattle.view_rules.specs.Endpoints.{service_found}
use Rattle.view_rules.specs.Laws.{IsPodWith, IsServiceWith, PodsAreTheLeast, ServicesAreTheLeast}
use Rattle.view_rules.specs.PodRows.{pod_found}
use Rattle.view_rules.specs.Profiles.{has_ended, has_ip, is_pod_with, is_service_with}
use Rattle.view_rules.proofs.Among.{Among, among_from, contained}
use Rattle.view_rules.proofs.Entries.{equal}
use Rattle.view_rules.proofs.FirstHeld.{finds_least}
use Rattle.view_rules.proofs.Pairs.{ips_exact, ips_total}

has_from : (ip : Ip) (addrs : List Ip) → has_ip ip addrs ≡ true → Among ip addrs
has_from ip [] e = absurd (cc e)
has_from ip (a ∷ as') e =
    elim (eq_by_cmp ip_cmp ip a) as (λ b. eq_by_cmp ip_cmp ip a ≡ b → (b || has_ip ip as') ≡ true → Among ip (a ∷ as')) [
      | true ↦ λ t e. inl (sym (ips_exact ip a (equal _ t)))
      | false ↦ λ t e. inr (has_from ip as' e)
    ] refl e

either : (b : Bool) → (b || true) ≡ true
either true = refl
either false = refl

has_among : (ip : Ip) (addrs : List Ip) → Among ip addrs → has_ip ip addrs ≡ true
has_among ip [] at = absurd at
has_among ip (a ∷ as') at = elim at [
  | inl e ↦ ap (λ b. b || has_ip ip as') (ap (λ a. is_eq (ip_cmp ip a)) e ∙ ap is_eq (tied_itself ips_total ip))
  | inr rest ↦ ap (λ b. eq_by_cmp ip_cmp ip a || b) (has_among ip as' rest) ∙ either (eq_by_cmp ip_cmp ip a)
]

both : (a b : Bool) → (not a && b) ≡ true → (a ≡ false) × (b ≡ true)
both true b e = absurd (cc e)
both false b e = (refl, e)

all_three : (a b c : Bool) → (not a && not b && c) ≡ true → (a ≡ false) × (b ≡ false) × (c ≡ true)
all_three true b c e = absurd (cc e)
all_three false true c e = absurd (cc e)
all_three false false c e = (refl, refl, e)

-- ---- Services

service_is : (held : ObjectMap) (ip : Ip) (o : Object) → is_service_with ip o ≡ true → get held (key_of o) ≡ Some o → (s : Service) × (object.Service s ≡ o) × IsServiceWith held ip s
service_is held ip (object.Service s) e at =
    let is = both s.external (has_ip ip s.addrs) e in
    (s, refl, record { at_key = at; inside = is.0; has = contained s.addrs ip (has_from ip s.addrs is.1) })
service_is held ip _ e at = absurd (cc e)

service_told : (held : ObjectMap) (ip : Ip) (s : Service) → IsServiceWith held ip s → (is_service_with ip (object.Service s) ≡ true) × (get held (key_of (object.Service s)) ≡ Some (object.Service s))
service_told held ip s is = (rw is.inside (has_among ip s.addrs (among_from s.addrs ip is.has)), is.at_key)

pub services_are_the_least : ServicesAreTheLeast
services_are_the_least held at_keys ip =
    finds_least (is_service_with ip) held at_keys (λ (s : Service). s.meta) (IsServiceWith held ip) object.Service service_found refl (λ s. refl) (λ s t. refl) (service_told held ip) (service_is held ip)

-- ---- Pods

pod_is : (held : ObjectMap) (ip : Ip) (o : Object) → is_pod_with ip o ≡ true → get held (key_of o) ≡ Some o → (p : Pod) × (object.Pod p ≡ o) × IsPodWith held ip p
pod_is held ip (object.Pod p) e at =
    let is = all_three p.host_network (has_ended p) (has_ip ip p.addrs) e in
    (p, refl, record { at_key = at; apart = is.0; running = is.1; has = contained p.addrs ip (has_from ip p.addrs is.2) })
pod_is held ip _ e at = absurd (cc e)

pod_told : (held : ObjectMap) (ip : Ip) (p : Pod) → IsPodWith held ip p → (is_pod_with ip (object.Pod p) ≡ true) × (get held (key_of (object.Pod p)) ≡ Some (object.Pod p))
pod_told held ip p is = (rw (is.apart, is.running) (has_among ip p.addrs (among_from p.addrs ip is.has)), is.at_key)

pub pods_are_the_least : PodsAreTheLeast
pods_are_the_least held at_keys ip =
    finds_least (is_pod_with ip) held at_keys (λ (p : Pod). p.meta) (IsPodWith held ip) object.Pod pod_found refl (λ p. refl) (λ p q. refl) (pod_told held ip) (pod_is held ip)
