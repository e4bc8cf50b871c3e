-- The objects that a row is made of have the marks that the row asks for.
use Rattle.std.proofs.Common.{◌≡◌, ℕ, Bool, true, false, cond, not, ◌&&◌, ◌||◌, List, [], ◌∷◌, map, Some, None, Option, refl, sym, ap, subst, ◌∙◌}
use Rattle.std.specs.Cmp.Lexicographic.{bytes_decides}
use Rattle.std.specs.List.{list_any}
use Rattle.std.specs.Ordering.{eq_by_cmp}
use Rattle.std.specs.Prelude.{is_some}
use Rattle.std.specs.Str.{bytes_eq}
use Rattle.net_cidr.specs.Address.{ip_cmp}
use Rattle.net_cidr.specs.declared.ip.Ip.{Ip}
use Rattle.view_types.specs.Objects.{key_of}
use Rattle.view_types.specs.declared.mark.Mark.{Mark}
use Rattle.view_types.specs.declared.mark.Mark.TheVariants.{Obj, SlicesOf, ServersIn, RouteOn, IpService, IpPod}
use Rattle.view_types.specs.declared.object.Object.{Object}
use Rattle.view_types.specs.declared.object.Object.TheVariants as object
use Rattle.view_types.specs.declared.pod.Pod.{Pod}
use Rattle.view_types.specs.declared.route.Parent.{Parent}
use Rattle.view_types.specs.declared.route.ParentKind.{ParentKind}
use Rattle.view_types.specs.declared.route.ParentKind.TheVariants as parent
use Rattle.view_types.specs.declared.route.Route.{Route}
use Rattle.view_rules.specs.Endpoints.{is_text, service_of, slice_in}
use Rattle.view_rules.specs.Profiles.{has_ip, is_pod_with, is_service_with}
use Rattle.view_rules.specs.Routes.{as_route, has_parent, is_port_or_none, is_server, is_server_parent, is_service_parent}
use Rattle.view_rules.specs.Servers.{is_server_for, selects_pod, selects_port}
use Rattle.view_rules.proofs.Given.{both_hold}
use Rattle.mark_rules.specs.Marks.{has_mark, has_own_addresses, label_marks, marks_of, meets, other_marks, parent_mark, same_mark}
use Rattle.mark_rules.proofs.MarkTests.{either_second, has_one, is_itself}

pub meets_one : (mark : Mark) (marks : List Mark) → has_mark marks mark ≡ true → meets (mark ∷ []) marks ≡ true
meets_one mark marks e = rw e refl

-- an object with the mark, besides that of its key
pub among_others : (mark : Mark) (o : Object) → has_mark (other_marks o) mark ≡ true → meets (mark ∷ []) (marks_of o) ≡ true
among_others mark o e = meets_one mark (marks_of o) (either_second (same_mark mark (Obj (key_of o))) (has_mark (other_marks o) mark) e)

-- ---- slices

label_has : (ns name own : List ℕ) (label : Option (List ℕ)) → bytes_eq own ns ≡ true → is_text name label ≡ true → has_mark (label_marks own label) (SlicesOf ns name) ≡ true
label_has ns name own None here is = absurd (cc is)
label_has ns name own (Some found) here is =
    subst (λ (marks : List Mark). has_mark marks (SlicesOf ns name) ≡ true) (λ i. SlicesOf (sym ((bytes_decides own ns).0 here) i) (sym ((bytes_decides found name).0 is) i) ∷ []) (has_one (SlicesOf ns name))

passed : {A : Type 0} (b : Bool) (x : A) → is_some (cond b (Some x) None) ≡ true → b ≡ true
passed true x e = refl
passed false x e = absurd (cc e)

pub slice_has : (ns name : List ℕ) (o : Object) → is_some (slice_in ns name o) ≡ true → meets (SlicesOf ns name ∷ []) (marks_of o) ≡ true
slice_has ns name (object.EndpointSlice s) e =
    let tests = both_hold _ _ (passed (bytes_eq s.meta.ns ns && is_text name (service_of s)) s e) in
    among_others (SlicesOf ns name) (object.EndpointSlice s) (label_has ns name s.meta.ns (service_of s) tests.0 tests.1)
slice_has ns name _ e = absurd (cc e)

-- ---- Servers

pub server_has : (ns : List ℕ) (pod : Pod) (number : ℕ) (o : Object) → is_server_for ns pod number o ≡ true → meets (ServersIn ns ∷ []) (marks_of o) ≡ true
server_has ns pod number (object.Server s) e =
    let here = (both_hold _ _ (both_hold (bytes_eq s.meta.ns ns && selects_pod s.pods pod) (selects_port s.port pod number) e).0).0 in
    among_others (ServersIn ns) (object.Server s)
    (subst (λ (own : List ℕ). has_mark (ServersIn own ∷ []) (ServersIn ns) ≡ true) (sym ((bytes_decides s.meta.ns ns).0 here)) (has_one (ServersIn ns)))
server_has ns pod number _ e = absurd (cc e)

-- ---- addresses

pub services_have : (ip : Ip) (addrs : List Ip) → has_mark (map IpService addrs) (IpService ip) ≡ has_ip ip addrs
services_have ip [] = refl
services_have ip (a ∷ as') = ap (λ b. eq_by_cmp ip_cmp ip a || b) (services_have ip as')

pub pods_have : (ip : Ip) (addrs : List Ip) → has_mark (map IpPod addrs) (IpPod ip) ≡ has_ip ip addrs
pods_have ip [] = refl
pods_have ip (a ∷ as') = ap (λ b. eq_by_cmp ip_cmp ip a || b) (pods_have ip as')

marks_inside : (external : Bool) (marks : List Mark) (mark : Mark) (has : Bool) → has_mark marks mark ≡ has → (not external && has) ≡ true → has_mark (cond external [] marks) mark ≡ true
marks_inside true marks mark has e t = absurd (cc t)
marks_inside false marks mark has e t = e ∙ t

pub service_has : (ip : Ip) (o : Object) → is_service_with ip o ≡ true → meets (IpService ip ∷ []) (marks_of o) ≡ true
service_has ip (object.Service s) e =
    among_others (IpService ip) (object.Service s) (marks_inside s.external (map IpService s.addrs) (IpService ip) (has_ip ip s.addrs) (services_have ip s.addrs) e)
service_has ip _ e = absurd (cc e)

marks_own : (own : Bool) (marks : List Mark) (mark : Mark) (has : Bool) → has_mark marks mark ≡ has → (own && has) ≡ true → has_mark (cond own marks []) mark ≡ true
marks_own true marks mark has e t = e ∙ t
marks_own false marks mark has e t = absurd (cc t)

pub pod_has : (ip : Ip) (o : Object) → is_pod_with ip o ≡ true → meets (IpPod ip ∷ []) (marks_of o) ≡ true
pod_has ip (object.Pod p) e =
    among_others (IpPod ip) (object.Pod p) (marks_own (has_own_addresses p) (map IpPod p.addrs) (IpPod ip) (has_ip ip p.addrs) (pods_have ip p.addrs) e)
pod_has ip _ e = absurd (cc e)

-- ---- routes

-- a test that only parents of the kind and name pass
abbrev pub IsOnly : ParentKind → List ℕ → (Parent → Bool) → Type 0
IsOnly kind name is_parent = (p : Parent) → is_parent p ≡ true → (p.kind ≡ kind) × (p.name ≡ name)

module _ (ns : List ℕ) (kind : ParentKind) (name : List ℕ) (is_parent : Parent → Bool) (only : IsOnly kind name is_parent) where
  parents_have : (parents : List Parent) → list_any is_parent parents ≡ true → has_mark (map (parent_mark ns) parents) (RouteOn ns kind name) ≡ true
  parents_have [] e = absurd (cc e)
  parents_have (p ∷ ps) e =
      elim (is_parent p) as (λ b. is_parent p ≡ b → (b || list_any is_parent ps) ≡ true → has_mark (parent_mark ns p ∷ map (parent_mark ns) ps) (RouteOn ns kind name) ≡ true) [
        | true ↦ λ t e.
            let same = only p t in
            let itself : same_mark (RouteOn ns kind name) (RouteOn ns p.kind p.name) ≡ true =
            subst (λ (m : Mark). same_mark (RouteOn ns kind name) m ≡ true) (λ i. RouteOn ns (sym same.0 i) (sym same.1 i)) (is_itself (RouteOn ns kind name)) in
            rw itself refl
        | false ↦ λ t e. either_second (same_mark (RouteOn ns kind name) (parent_mark ns p)) _ (parents_have ps e)
      ] refl e

  of_route : (r : Route) → has_parent ns is_parent r ≡ true → has_mark (map (parent_mark r.meta.ns) r.parents) (RouteOn ns kind name) ≡ true
  of_route r e =
      let tests = both_hold (bytes_eq r.meta.ns ns) (list_any is_parent r.parents) e in
      subst (λ (own : List ℕ). has_mark (map (parent_mark own) r.parents) (RouteOn ns kind name) ≡ true) (sym ((bytes_decides r.meta.ns ns).0 tests.0)) (parents_have r.parents tests.1)

  pub route_has : (o : Object) (r : Route) → as_route o ≡ Some r → has_parent ns is_parent r ≡ true → meets (RouteOn ns kind name ∷ []) (marks_of o) ≡ true
  route_has (object.LinkerdRoute own) r is e =
      let same : r ≡ own = sym (cc is) in
      among_others (RouteOn ns kind name) (object.LinkerdRoute own) (of_route own (ap (has_parent ns is_parent) (sym same) ∙ e))
  route_has (object.GatewayRoute own) r is e =
      let same : r ≡ own = sym (cc is) in
      among_others (RouteOn ns kind name) (object.GatewayRoute own) (of_route own (ap (has_parent ns is_parent) (sym same) ∙ e))
  route_has _ r is e = absurd (cc is)

of_server : (p : ParentKind) → is_server p ≡ true → p ≡ parent.Server
of_server parent.Server e = refl
of_server parent.Service e = absurd (cc e)

of_service : (p : ParentKind) → not (is_server p) ≡ true → p ≡ parent.Service
of_service parent.Server e = absurd (cc e)
of_service parent.Service e = refl

pub only_server : (name : List ℕ) → IsOnly parent.Server name (is_server_parent name)
only_server name p e = let tests = both_hold _ _ e in (of_server p.kind tests.0, (bytes_decides p.name name).0 tests.1)

pub only_service : (name : List ℕ) (port : ℕ) → IsOnly parent.Service name (is_service_parent name port)
only_service name port p e = let tests = both_hold _ _ (both_hold _ (is_port_or_none port p.port) e).0 in (of_service p.kind tests.0, (bytes_decides p.name name).0 tests.1)
