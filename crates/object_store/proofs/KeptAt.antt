-- A key put to the lists of one mark, or taken from them, and the keys that are kept for all marks.
use Rattle.std.proofs.Common.{◌≡◌, ℕ, ◌+◌, ◌<◌, Bool, true, false, cond, not, ◌&&◌, ◌||◌, get_or, length, take, List, [], ◌∷◌, Option, Some, None, Result, Ok, Err, OnOk, Ordering, refl, sym, ap, ◌∙◌, map}
use Rattle.std.specs.BTreeMap.{BTreeMap}
use Rattle.std.specs.FinMap.{get}
use Rattle.std.specs.Ordering.{eq_by_cmp, is_eq, ordering_then, ordering_reverse}
use Rattle.std.specs.declared.cmp.Ordering.TheVariants.{Less, Equal, Greater}
use Rattle.key_lists.specs.Keys.{Nested, is_key, key_at, key_by_kind, nested_at}
use Rattle.mark_rules.specs.Marks.{has_mark, has_own_addresses, label_marks, other_marks, parent_mark, same_mark, targets_own}
use Rattle.mark_rules.proofs.MarkOrder.{marks_total}
use Rattle.mesh_base.specs.declared.key.ObjKey.{ObjKey}
use Rattle.net_cidr.specs.Address.{ip_cmp}
use Rattle.net_cidr.specs.declared.ip.Ip.{Ip}
use Rattle.object_store.specs.KeyLists.{has_other, is_among, is_for, is_kept, is_of_key, is_new, parent_cmp, ref_cmp, text_cmp}
use Rattle.object_store.proofs.OneMore.{any_more}
use Rattle.object_store.specs.declared.mark_keys.MarkKeys.{MarkKeys}
use Rattle.view_rules.specs.Endpoints.{service_of}
use Rattle.view_types.specs.Objects.{ObjectMap}
use Rattle.view_types.specs.declared.authn.RefKind.{RefKind}
use Rattle.view_types.specs.declared.mark.Mark.{Mark}
use Rattle.view_types.specs.declared.mark.Mark.TheVariants.{Obj, SlicesOf, ServersIn, ServerAuthzIn, PolicyOn, RouteOn, IpService, IpPod}
use Rattle.view_types.specs.declared.object.Object.{Object}
use Rattle.view_types.specs.declared.object.Object.TheVariants as object
use Rattle.view_types.specs.declared.route.ParentKind.{ParentKind}

-- ---- tests

reversed : (r : Ordering) → is_eq (ordering_reverse r) ≡ is_eq r
reversed Less = refl
reversed Equal = refl
reversed Greater = refl

-- marks are the same in either order
turned : (a b : Mark) → same_mark a b ≡ same_mark b a
turned a b = ap is_eq (marks_total.antisymm a b) ∙ reversed _

two_parts : (a b : Ordering) (c : Bool) → (is_eq a && (is_eq b && c)) ≡ (is_eq (ordering_then a b) && c)
two_parts Less b c = refl
two_parts Equal b c = refl
two_parts Greater b c = refl

neither : (b : Bool) → (b && false) ≡ false
neither true = refl
neither false = refl

kind_parts : (kind a b : Ordering) (c : Bool) → (is_eq kind && (is_eq a && (is_eq b && c))) ≡ (is_eq (ordering_then a (ordering_then kind b)) && c)
kind_parts kind Less b c = neither (is_eq kind)
kind_parts kind Greater b c = neither (is_eq kind)
kind_parts Less Equal b c = refl
kind_parts Equal Equal b c = refl
kind_parts Greater Equal b c = refl

-- ---- one mark: what is found at it changes by f, and at every other it stays

module _ (f : Bool → Bool → Bool) (stays : (b : Bool) → f false b ≡ b) (keys : MarkKeys) (own_key : ObjKey → Bool) where
  abbrev Changed : MarkKeys → Mark → Type 0
  Changed after mark = (m : Mark) (k : ObjKey) → is_kept after m k ≡ f (is_for mark m && own_key k) (is_kept keys m k)

  own : (mark m : Mark) (k : ObjKey) (before : Bool) → f (same_mark mark m && own_key k) before ≡ f (same_mark m mark && own_key k) before
  own mark m k before = ap (λ same. f (same && own_key k) before) (turned mark m)

  pub slices_changed : (ns service : List ℕ) (by : Nested (List ℕ) (List ℕ))
      → ((x y : List ℕ) (k : ObjKey) → nested_at text_cmp text_cmp by x y k ≡ f (eq_by_cmp text_cmp ns x && (eq_by_cmp text_cmp service y && own_key k)) (nested_at text_cmp text_cmp keys.slices x y k))
      → Changed (record { slices = by; servers = keys.servers; server_authz = keys.server_authz; policies = keys.policies; routes = keys.routes; services = keys.services; pods = keys.pods }) (SlicesOf ns service)
  slices_changed ns service by change (SlicesOf x y) k =
      change x y k ∙ ap (λ there. f there (is_kept keys (SlicesOf x y) k)) (two_parts (text_cmp ns x) (text_cmp service y) (own_key k)) ∙ own (SlicesOf ns service) (SlicesOf x y) k _
  slices_changed ns service by change m k = sym (stays (is_kept keys m k))

  pub servers_changed : (ns : List ℕ) (by : BTreeMap (List ℕ) (List ObjKey))
      → ((x : List ℕ) (k : ObjKey) → key_at text_cmp by x k ≡ f (eq_by_cmp text_cmp ns x && own_key k) (key_at text_cmp keys.servers x k))
      → Changed (record { slices = keys.slices; servers = by; server_authz = keys.server_authz; policies = keys.policies; routes = keys.routes; services = keys.services; pods = keys.pods }) (ServersIn ns)
  servers_changed ns by change (ServersIn x) k = change x k ∙ own (ServersIn ns) (ServersIn x) k _
  servers_changed ns by change m k = sym (stays (is_kept keys m k))

  pub server_authz_changed : (ns : List ℕ) (by : BTreeMap (List ℕ) (List ObjKey))
      → ((x : List ℕ) (k : ObjKey) → key_at text_cmp by x k ≡ f (eq_by_cmp text_cmp ns x && own_key k) (key_at text_cmp keys.server_authz x k))
      → Changed (record { slices = keys.slices; servers = keys.servers; server_authz = by; policies = keys.policies; routes = keys.routes; services = keys.services; pods = keys.pods }) (ServerAuthzIn ns)
  server_authz_changed ns by change (ServerAuthzIn x) k = change x k ∙ own (ServerAuthzIn ns) (ServerAuthzIn x) k _
  server_authz_changed ns by change m k = sym (stays (is_kept keys m k))

  pub policies_changed : (ns : List ℕ) (kind : RefKind) (name : List ℕ) (by : BTreeMap RefKind (Nested (List ℕ) (List ℕ)))
      → ((q : RefKind) (x y : List ℕ) (k : ObjKey)
      → key_by_kind ref_cmp text_cmp text_cmp by q x y k
      ≡ f (eq_by_cmp ref_cmp kind q && (eq_by_cmp text_cmp ns x && (eq_by_cmp text_cmp name y && own_key k))) (key_by_kind ref_cmp text_cmp text_cmp keys.policies q x y k))
      → Changed (record { slices = keys.slices; servers = keys.servers; server_authz = keys.server_authz; policies = by; routes = keys.routes; services = keys.services; pods = keys.pods }) (PolicyOn ns kind name)
  policies_changed ns kind name by change (PolicyOn x q y) k =
      change q x y k ∙ ap (λ there. f there (is_kept keys (PolicyOn x q y) k)) (kind_parts (ref_cmp kind q) (text_cmp ns x) (text_cmp name y) (own_key k))
      ∙ own (PolicyOn ns kind name) (PolicyOn x q y) k _
  policies_changed ns kind name by change m k = sym (stays (is_kept keys m k))

  pub routes_changed : (ns : List ℕ) (kind : ParentKind) (name : List ℕ) (by : BTreeMap ParentKind (Nested (List ℕ) (List ℕ)))
      → ((q : ParentKind) (x y : List ℕ) (k : ObjKey)
      → key_by_kind parent_cmp text_cmp text_cmp by q x y k
      ≡ f (eq_by_cmp parent_cmp kind q && (eq_by_cmp text_cmp ns x && (eq_by_cmp text_cmp name y && own_key k))) (key_by_kind parent_cmp text_cmp text_cmp keys.routes q x y k))
      → Changed (record { slices = keys.slices; servers = keys.servers; server_authz = keys.server_authz; policies = keys.policies; routes = by; services = keys.services; pods = keys.pods }) (RouteOn ns kind name)
  routes_changed ns kind name by change (RouteOn x q y) k =
      change q x y k ∙ ap (λ there. f there (is_kept keys (RouteOn x q y) k)) (kind_parts (parent_cmp kind q) (text_cmp ns x) (text_cmp name y) (own_key k))
      ∙ own (RouteOn ns kind name) (RouteOn x q y) k _
  routes_changed ns kind name by change m k = sym (stays (is_kept keys m k))

  pub services_changed : (ip : Ip) (by : BTreeMap Ip (List ObjKey)) → ((x : Ip) (k : ObjKey) → key_at ip_cmp by x k ≡ f (eq_by_cmp ip_cmp ip x && own_key k) (key_at ip_cmp keys.services x k))
      → Changed (record { slices = keys.slices; servers = keys.servers; server_authz = keys.server_authz; policies = keys.policies; routes = keys.routes; services = by; pods = keys.pods }) (IpService ip)
  services_changed ip by change (IpService x) k = change x k ∙ own (IpService ip) (IpService x) k _
  services_changed ip by change m k = sym (stays (is_kept keys m k))

  pub pods_changed : (ip : Ip) (by : BTreeMap Ip (List ObjKey)) → ((x : Ip) (k : ObjKey) → key_at ip_cmp by x k ≡ f (eq_by_cmp ip_cmp ip x && own_key k) (key_at ip_cmp keys.pods x k))
      → Changed (record { slices = keys.slices; servers = keys.servers; server_authz = keys.server_authz; policies = keys.policies; routes = keys.routes; services = keys.services; pods = by }) (IpPod ip)
  pods_changed ip by change (IpPod x) k = change x k ∙ own (IpPod ip) (IpPod x) k _
  pods_changed ip by change m k = sym (stays (is_kept keys m k))

-- ---- one mark more

put_step : (one some key s : Bool) → ((one && key) || ((some && key) || s)) ≡ (((some || one) && key) || s)
put_step true true true s = refl
put_step true true false s = refl
put_step true false true s = refl
put_step true false false s = refl
put_step false true true s = refl
put_step false true false s = refl
put_step false false true s = refl
put_step false false false s = refl

take_step : (one some key s : Bool) → (not (one && key) && (not (some && key) && s)) ≡ (not ((some || one) && key) && s)
take_step true true true s = refl
take_step true true false s = refl
take_step true false true s = refl
take_step true false false s = refl
take_step false true true s = refl
take_step false true false s = refl
take_step false false true s = refl
take_step false false false s = refl

module _ (marks : List Mark) (i : ℕ) (mark : Mark) (lt : i < length marks) (at : mark ≡ get_or marks i mark) (m : Mark) (key after mid start : Bool) where
  among_more : is_among (take (i + 1) marks) m ≡ (is_among (take i marks) m || is_for mark m)
  among_more = ap (λ b. not (is_of_key m) && b) (any_more (same_mark m) marks i mark after mid start lt at) ∙ shared (not (is_of_key m)) (has_mark (take i marks) m) (same_mark m mark)
    where
      shared : (a b c : Bool) → (a && (b || c)) ≡ ((a && b) || (a && c))
      shared true b c = refl
      shared false b c = refl

  pub put_mark : after ≡ ((is_for mark m && key) || mid) → mid ≡ ((is_among (take i marks) m && key) || start) → after ≡ ((is_among (take (i + 1) marks) m && key) || start)
  put_mark is so_far =
      is ∙ ap (λ b. (is_for mark m && key) || b) so_far ∙ put_step (is_for mark m) (is_among (take i marks) m) key start ∙ ap (λ b. (b && key) || start) (sym among_more)

  pub take_mark : after ≡ (not (is_for mark m && key) && mid) → mid ≡ (not (is_among (take i marks) m && key) && start) → after ≡ (not (is_among (take (i + 1) marks) m && key) && start)
  take_mark is so_far =
      is ∙ ap (λ b. not (is_for mark m && key) && b) so_far ∙ take_step (is_for mark m) (is_among (take i marks) m) key start ∙ ap (λ b. not (b && key) && start) (sym among_more)

-- what holds where there is no error
pub on_ok : {X E : Type 0} {P Q : Type 0} (r : Result X E) → (P → Q) → OnOk r P → OnOk r Q
on_ok (Ok x) more p = more p
on_ok (Err e) more p = tt

-- ---- the marks of an object besides that of its key

mapped : {X : Type 0} (f : X → Mark) (key : ObjKey) → ((x : X) → same_mark (Obj key) (f x) ≡ false) → (xs : List X) → has_mark (map f xs) (Obj key) ≡ false
mapped f key other [] = refl
mapped f key other (x ∷ xs) = (λ i. other x i || mapped f key other xs i)

no_label : (key : ObjKey) (ns : List ℕ) (service : Option (List ℕ)) → has_mark (label_marks ns service) (Obj key) ≡ false
no_label key ns None = refl
no_label key ns (Some service) = refl

no_key : (o : Object) (key : ObjKey) → has_mark (other_marks o) (Obj key) ≡ false
no_key (object.Pod o) key = elim (has_own_addresses o) as (λ b. has_mark (cond b (map IpPod o.addrs) []) (Obj key) ≡ false) [
  | true ↦ mapped IpPod key (λ _. refl) o.addrs
  | false ↦ refl
]
no_key (object.Service o) key = elim o.external as (λ b. has_mark (cond b [] (map IpService o.addrs)) (Obj key) ≡ false) [
  | true ↦ refl
  | false ↦ mapped IpService key (λ _. refl) o.addrs
]
no_key (object.EndpointSlice o) key = no_label key o.meta.ns (service_of o)
no_key (object.AuthorizationPolicy o) key = elim (targets_own o) as (λ b. has_mark (cond b (PolicyOn o.meta.ns o.target.kind o.target.name ∷ []) []) (Obj key) ≡ false) [
  | true ↦ refl
  | false ↦ refl
]
no_key (object.LinkerdRoute o) key = mapped (parent_mark o.meta.ns) key (λ _. refl) o.parents
no_key (object.GatewayRoute o) key = mapped (parent_mark o.meta.ns) key (λ _. refl) o.parents
no_key _ key = refl

-- keys are kept for all of them
among_others : (o : Object) (m : Mark) → is_among (other_marks o) m ≡ has_mark (other_marks o) m
among_others o (Obj key) = sym (no_key o key)
among_others o m = refl

pub is_put : (o : Object) (m : Mark) (k : ObjKey) (objects : ObjectMap) (key : ObjKey) → Some o ≡ get objects key → (is_among (other_marks o) m && is_key k key) ≡ is_new objects m k key
is_put o m k objects key found =
    ap (λ has. has && is_key k key) (among_others o m) ∙ swapped (has_mark (other_marks o) m) (is_key k key) ∙ ap (λ at. is_key k key && has_other m at) found
  where
    swapped : (a b : Bool) → (a && b) ≡ (b && a)
    swapped true true = refl
    swapped true false = refl
    swapped false true = refl
    swapped false false = refl
