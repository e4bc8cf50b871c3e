-- What rows are made of is found by marks.
use Rattle.std.proofs.Common.{◌≡◌, ℕ, Bool, true, false, cond, not, ◌&&◌, ◌||◌, List, [], ◌∷◌, map, Some, None, Option, inl, inr, refl, sym, ap, subst, ◌∙◌}
use Rattle.std.specs.FinMap.{get, values}
use Rattle.std.specs.List.{cons_option, filter_map, find, slice_get}
use Rattle.std.specs.Option.{option_and_then}
use Rattle.mesh_base.proofs.KeyOrder.{keys_total}
use Rattle.mesh_base.specs.declared.key.Kind.{Kind}
use Rattle.mesh_base.specs.declared.key.Kind.TheVariants as kind
use Rattle.mesh_base.specs.declared.key.ObjKey.{ObjKey}
use Rattle.net_cidr.specs.declared.ip.Ip.{Ip}
use Rattle.view_types.specs.declared.authn.RefKind.{RefKind}
use Rattle.view_types.specs.declared.authn.RefKind.TheVariants as ref
use Rattle.view_types.specs.Objects.{AtKeys, ObjectMap, key_of}
use Rattle.view_types.specs.declared.mark.Mark.{Mark}
use Rattle.view_types.specs.declared.mark.Mark.TheVariants.{IpPod, IpService, PolicyOn, RouteOn, ServersIn, SlicesOf}
use Rattle.view_types.specs.declared.object.Object.{Object}
use Rattle.view_types.specs.declared.object.Object.TheVariants as object
use Rattle.view_types.specs.declared.route.Parent.{Parent}
use Rattle.view_types.specs.declared.route.ParentKind.TheVariants as parent
use Rattle.view_rules.specs.Endpoints.{service_found, service_of, slice_in}
use Rattle.view_rules.specs.InOrder.{in_order_by}
use Rattle.view_rules.specs.PodRows.{pod_found}
use Rattle.view_rules.specs.Policies.{applies_to_route, applies_to_server, authz_row as shown_row, is_route_kind}
use Rattle.view_rules.specs.Profiles.{has_ip, is_pod_with, is_service_with}
use Rattle.view_rules.specs.Routes.{as_route, has_parent, is_server_parent, is_service_parent, place_of, route_cmp}
use Rattle.view_rules.specs.Servers.{is_server_for, server_found}
use Rattle.view_rules.proofs.FoundInOrder.{found_in_order}
use Rattle.std.specs.List.Sorted.{IsStrictlySortedBy}
use Rattle.mesh_base.specs.KeyOrder.{key_cmp}
use Rattle.view_rules.proofs.Among.{Among, from_kept, among_from, among_kept, among_map, contained, from_map}
use Rattle.view_rules.proofs.Entries.{held_somewhere, stands}
use Rattle.mark_rules.specs.MarkLookups.{AuthzByMarks, FoundAtKeys, KeysStay, PodsByMark, RouteAuthzByMark, ServerRoutesByMark, ServersByMark, ServiceRoutesByMark, ServicesByMark, SlicesByMark, first_at, route_key, KeysByMark, is_marked, keys_at}
use Rattle.mark_rules.specs.Marks.{has_mark, has_own_addresses, label_marks, objects_with, marks_of, meets, other_marks, parent_mark, targets_own}
use Rattle.mark_rules.specs.Reads.{server_authz_marks}
use Rattle.mark_rules.proofs.Authz.{only_gateway, only_linkerd, route_authz_have, server_authz_have}
use Rattle.mark_rules.proofs.MarkedObjects.{marked_stay}
use Rattle.mark_rules.proofs.MarkTests.{misses_one}
use Rattle.mark_rules.proofs.FilterLists.{first_among, found_among, kept_among, kept_found_among, kept_is_found, kept_one}
use Rattle.mark_rules.proofs.SortsOfMarks.{only_server, only_service, pod_has, pods_have, route_has, server_has, service_has, services_have, slice_has, meets_one}

abbrev has_some : List Mark → Object → Bool
has_some marks o = meets marks (marks_of o)

-- ---- keys

module _ (held : ObjectMap) (own : AtKeys held) where
  -- an object that is held is found at its own key
  own_key : (o : Object) → Among o (values held) → get held (key_of o) ≡ Some o
  own_key o at =
      let somewhere = held_somewhere keys_total held o at in
      ap (get held) (own somewhere.0 o somewhere.1) ∙ somewhere.1

  found_again : (os : List Object) → ((o : Object) → Among o os → Among o (values held)) → filter_map (get held) (map key_of os) ≡ os
  found_again [] all = refl
  found_again (o ∷ os) all = ap (λ found. cons_option found (filter_map (get held) (map key_of os))) (own_key o (all o (inl refl))) ∙ ap (λ rest. o ∷ rest) (found_again os (λ p at. all p (inr at)))

  marked_held : (marks : List Mark) (o : Object) → Among o (objects_with held marks) → Among o (values held)
  marked_held marks o at = (from_kept (has_some marks) (values held) o at).0

  first_again : (os : List Object) → ((o : Object) → Among o os → Among o (values held)) → option_and_then (get held) (slice_get (map key_of os) 0) ≡ slice_get os 0
  first_again [] all = refl
  first_again (o ∷ os) all = own_key o (all o (inl refl))

  pub first_marked : (mark : Mark) → first_at held mark ≡ slice_get (objects_with held (mark ∷ [])) 0
  first_marked mark = first_again (objects_with held (mark ∷ [])) (marked_held (mark ∷ []))

-- ---- which keys these are

kept_same : (q : Object → Bool) (o x : Object) → kept_one q o ≡ Some x → o ≡ x
kept_same q o x =
    elim (q o) as (λ b. cond b (Some o) None ≡ Some x → o ≡ x) [
      | true ↦ λ is. cc is
      | false ↦ λ is. absurd (cc is)
    ]

kept_level : (q : Object → Bool) (o p x y : Object) → kept_one q o ≡ Some x → kept_one q p ≡ Some y → key_cmp (key_of o) (key_of p) ≡ key_cmp (key_of x) (key_of y)
kept_level q o p x y is is' = λ i. key_cmp (key_of (kept_same q o x is i)) (key_of (kept_same q p y is' i))

keys_rise : (held : ObjectMap) → AtKeys held → (mark : Mark) → IsStrictlySortedBy key_cmp (keys_at held mark)
keys_rise held own mark =
    let q = has_some (mark ∷ []) in
    subst (λ os. IsStrictlySortedBy key_cmp (map key_of os)) (sym (kept_is_found q (values held))) (found_in_order key_cmp (kept_one q) key_of (kept_level q) held own)

nor_false : (b : Bool) → (b || false) ≡ true → b ≡ true
nor_false true e = refl
nor_false false e = absurd (cc e)

key_marked : (held : ObjectMap) → AtKeys held → (mark : Mark) (key : ObjKey) → Among key (keys_at held mark) → is_marked mark (get held key) ≡ true
key_marked held own mark key at =
    let from = from_map key_of (objects_with held (mark ∷ [])) key at in
    let kept = from_kept (has_some (mark ∷ [])) (values held) from.0 from.1 in
    subst (λ k. is_marked mark (get held k) ≡ true) from.2 (ap (is_marked mark) (own_key held own from.0 kept.0) ∙ nor_false (has_mark (marks_of from.0) mark) kept.1)

marked_key : (held : ObjectMap) → AtKeys held → (mark : Mark) (key : ObjKey) (found : Option Object) → get held key ≡ found → is_marked mark found ≡ true → Among key (keys_at held mark)
marked_key held own mark key None is has = absurd (cc has)
marked_key held own mark key (Some o) is has =
    subst (λ k. Among k (keys_at held mark)) (own key o is)
    (among_map key_of (objects_with held (mark ∷ [])) o (among_kept (has_some (mark ∷ [])) (values held) o (stands keys_total held key o is) (meets_one mark (marks_of o) has)))

pub keys_by_mark : KeysByMark
keys_by_mark held own mark = record {
  rise = keys_rise held own mark;
  each = λ key. (
    λ h. key_marked held own mark key (among_from (keys_at held mark) key h),
    λ has. contained (keys_at held mark) key (marked_key held own mark key (get held key) refl has),
  );
}

pub found_at_keys : FoundAtKeys
found_at_keys held own mark = found_again held own (objects_with held (mark ∷ [])) (marked_held held own (mark ∷ []))

pub keys_stay : KeysStay
keys_stay mark changed before after leads misses = ap (map key_of) (sym (marked_stay leads (mark ∷ []) (misses_one changed mark misses)))

-- ---- objects

pub slices_by_mark : SlicesByMark
slices_by_mark held ns name = found_among (slice_in ns name) (has_some (SlicesOf ns name ∷ [])) (slice_has ns name) (values held)

pub servers_by_mark : ServersByMark
servers_by_mark held ns pod number = ap server_found (first_among (is_server_for ns pod number) (has_some (ServersIn ns ∷ [])) (server_has ns pod number) (values held))

pub server_routes_by_mark : ServerRoutesByMark
server_routes_by_mark held ns name =
    ap (in_order_by route_cmp place_of)
    (kept_found_among as_route (has_parent ns (is_server_parent name)) (has_some (RouteOn ns parent.Server name ∷ [])) (route_has ns parent.Server name (is_server_parent name) (only_server name)) (values held))

pub service_routes_by_mark : ServiceRoutesByMark
service_routes_by_mark held ns name port =
    ap (in_order_by route_cmp place_of)
    (kept_found_among as_route (has_parent ns (is_service_parent name port)) (has_some (RouteOn ns parent.Service name ∷ [])) (route_has ns parent.Service name (is_service_parent name port) (only_service name port)) (values held))

pub authz_by_marks : AuthzByMarks
authz_by_marks config held server =
    ap (filter_map (shown_row config held)) (kept_among (applies_to_server held server) (has_some (server_authz_marks server.meta.ns server.meta.name)) (server_authz_have held server) (values held))

route_authz_by_mark : (k : Kind) (target : RefKind) → ((t : RefKind) → is_route_kind k t ≡ true → t ≡ target) → RouteAuthzByMark k target
route_authz_by_mark k target only config held ns name =
    let route : ObjKey = route_key k ns name in
    ap (filter_map (shown_row config held)) (kept_among (applies_to_route held route) (has_some (PolicyOn ns target name ∷ [])) (route_authz_have held route target only) (values held))

pub linkerd_authz_by_mark : RouteAuthzByMark kind.LinkerdRoute ref.LinkerdRoute
linkerd_authz_by_mark = route_authz_by_mark kind.LinkerdRoute ref.LinkerdRoute only_linkerd

pub gateway_authz_by_mark : RouteAuthzByMark kind.GatewayRoute ref.GatewayRoute
gateway_authz_by_mark = route_authz_by_mark kind.GatewayRoute ref.GatewayRoute only_gateway

-- ---- addresses

-- where all pass, the first that passes is the first
first_of_all : (p : Object → Bool) (os : List Object) → ((o : Object) → Among o os → p o ≡ true) → find p os ≡ slice_get os 0
first_of_all p [] all = refl
first_of_all p (o ∷ os) all = rw (all o (inl refl)) refl

no_pods : (ip : Ip) (addrs : List Ip) → has_mark (map IpPod addrs) (IpService ip) ≡ false
no_pods ip [] = refl
no_pods ip (a ∷ as') = no_pods ip as'

no_services : (ip : Ip) (addrs : List Ip) → has_mark (map IpService addrs) (IpPod ip) ≡ false
no_services ip [] = refl
no_services ip (a ∷ as') = no_services ip as'

no_service_parents : (ip : Ip) (ns : List ℕ) (parents : List Parent) → has_mark (map (parent_mark ns) parents) (IpService ip) ≡ false
no_service_parents ip ns [] = refl
no_service_parents ip ns (p ∷ ps) = no_service_parents ip ns ps

no_pod_parents : (ip : Ip) (ns : List ℕ) (parents : List Parent) → has_mark (map (parent_mark ns) parents) (IpPod ip) ≡ false
no_pod_parents ip ns [] = refl
no_pod_parents ip ns (p ∷ ps) = no_pod_parents ip ns ps

no_label : (ip : Ip) (ns : List ℕ) (label : Option (List ℕ)) → (has_mark (label_marks ns label) (IpService ip) ≡ false) × (has_mark (label_marks ns label) (IpPod ip) ≡ false)
no_label ip ns None = (refl, refl)
no_label ip ns (Some service) = (refl, refl)

neither : (b : Bool) (marks others : List Mark) (mark : Mark) → has_mark marks mark ≡ false → has_mark others mark ≡ false → has_mark (cond b marks others) mark ≡ false
neither true marks others mark e f = e
neither false marks others mark e f = f

refuted : {A : Type 0} (b : Bool) → b ≡ true → b ≡ false → A
refuted b e f = absurd (let wrong : true ≡ false = sym e ∙ f in cc wrong)

-- an object with the mark of a Service's address is a Service with it
service_told : (ip : Ip) (o : Object) → has_mark (other_marks o) (IpService ip) ≡ true → is_service_with ip o ≡ true
service_told ip (object.Service s) has =
    elim s.external as (λ b. has_mark (cond b [] (map IpService s.addrs)) (IpService ip) ≡ true → (not b && has_ip ip s.addrs) ≡ true) [
      | true ↦ λ has. absurd (cc has)
      | false ↦ λ has. sym (services_have ip s.addrs) ∙ has
    ] has
service_told ip (object.Pod p) has = refuted _ has (neither (has_own_addresses p) (map IpPod p.addrs) [] (IpService ip) (no_pods ip p.addrs) refl)
service_told ip (object.EndpointSlice s) has = refuted _ has (no_label ip s.meta.ns (service_of s)).0
service_told ip (object.AuthorizationPolicy a) has = refuted _ has (neither (targets_own a) (PolicyOn a.meta.ns a.target.kind a.target.name ∷ []) [] (IpService ip) refl refl)
service_told ip (object.LinkerdRoute r) has = refuted _ has (no_service_parents ip r.meta.ns r.parents)
service_told ip (object.GatewayRoute r) has = refuted _ has (no_service_parents ip r.meta.ns r.parents)
service_told ip _ has = absurd (cc has)

pod_told : (ip : Ip) (o : Object) → has_mark (other_marks o) (IpPod ip) ≡ true → is_pod_with ip o ≡ true
pod_told ip (object.Pod p) has =
    elim (has_own_addresses p) as (λ b. has_mark (cond b (map IpPod p.addrs) []) (IpPod ip) ≡ true → (b && has_ip ip p.addrs) ≡ true) [
      | true ↦ λ has. sym (pods_have ip p.addrs) ∙ has
      | false ↦ λ has. absurd (cc has)
    ] has
pod_told ip (object.Service s) has = refuted _ has (neither s.external [] (map IpService s.addrs) (IpPod ip) refl (no_services ip s.addrs))
pod_told ip (object.EndpointSlice s) has = refuted _ has (no_label ip s.meta.ns (service_of s)).1
pod_told ip (object.AuthorizationPolicy a) has = refuted _ has (neither (targets_own a) (PolicyOn a.meta.ns a.target.kind a.target.name ∷ []) [] (IpPod ip) refl refl)
pod_told ip (object.LinkerdRoute r) has = refuted _ has (no_pod_parents ip r.meta.ns r.parents)
pod_told ip (object.GatewayRoute r) has = refuted _ has (no_pod_parents ip r.meta.ns r.parents)
pod_told ip _ has = absurd (cc has)

pub services_by_mark : ServicesByMark
services_by_mark held own ip =
    let marks = IpService ip ∷ [] in
    ap service_found
    (first_among (is_service_with ip) (has_some marks) (service_has ip) (values held)
    ∙ first_of_all (is_service_with ip) (objects_with held marks) (λ o at. service_told ip o (nor_false (has_mark (other_marks o) (IpService ip)) (from_kept (has_some marks) (values held) o at).1))
    ∙ sym (first_marked held own (IpService ip)))

pub pods_by_mark : PodsByMark
pods_by_mark held own ip =
    let marks = IpPod ip ∷ [] in
    ap pod_found
    (first_among (is_pod_with ip) (has_some marks) (pod_has ip) (values held)
    ∙ first_of_all (is_pod_with ip) (objects_with held marks) (λ o at. pod_told ip o (nor_false (has_mark (other_marks o) (IpPod ip)) (from_kept (has_some marks) (values held) o at).1))
    ∙ sym (first_marked held own (IpPod ip)))
