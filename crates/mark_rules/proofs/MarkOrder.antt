-- The order of marks is total, and tells all marks apart.
use Rattle.std.proofs.Common.{◌≡◌, ℕ, List, [], refl, ap, subst}
use Rattle.std.specs.Cmp.{IsTotalOrder}
use Rattle.std.specs.Cmp.Lexicographic.{nat_list_cmp_total, slice_cmp}
use Rattle.std.specs.FinMap.{IsAntisymmetric}
use Rattle.std.specs.Ordering.{nat_cmp, ordering_then}
use Rattle.std.specs.declared.cmp.Ordering.{Ordering}
use Rattle.std.specs.declared.cmp.Ordering.TheVariants.{Less, Equal, Greater}
use Rattle.std.proofs.lemmas.Cmp.{nat_cmp_total, on_total, then_total}
use Rattle.std.proofs.lemmas.Map.Lookups.{exact_bytes, exact_pairs}
use Rattle.mesh_base.proofs.KeyOrder.{keys_exact, keys_total}
use Rattle.mesh_base.specs.KeyOrder.{key_cmp}
use Rattle.mesh_base.specs.declared.key.Kind.TheVariants as kind
use Rattle.mesh_base.specs.declared.key.ObjKey.{ObjKey}
use Rattle.net_cidr.specs.Address.{ip_cmp}
use Rattle.net_cidr.specs.declared.ip.Ip.{Ip}
use Rattle.net_cidr.specs.declared.ip.Ip.TheVariants.{V4}
use Rattle.view_types.specs.declared.authn.RefKind.{RefKind}
use Rattle.view_types.specs.declared.authn.RefKind.TheVariants as ref
use Rattle.view_types.specs.declared.mark.Mark.{Mark}
use Rattle.view_types.specs.declared.mark.Mark.TheVariants.{Obj, SlicesOf, ServersIn, ServerAuthzIn, PolicyOn, RouteOn, IpService, IpPod}
use Rattle.view_types.specs.declared.route.ParentKind.{ParentKind}
use Rattle.view_types.specs.declared.route.ParentKind.TheVariants as parent
use Rattle.view_rules.proofs.Pairs.{ips_exact, ips_total}
use Rattle.mark_rules.specs.Marks.{mark_cmp, named_cmp, parent_place, ref_place}

-- ---- it is total, since marks can be told by parts that are ordered in turn

record Parts : Type 0 where
  pub place : ℕ
  pub key : ObjKey
  pub ns : List ℕ
  pub kind : ℕ
  pub name : List ℕ
  pub ip : Ip

abbrev no_key : ObjKey
no_key = record { kind = kind.Pod; ns = []; name = [] }

parts_of : Mark → Parts
parts_of (Obj key) = record { place = 0; key = key; ns = []; kind = 0; name = []; ip = V4 0 }
parts_of (SlicesOf ns service) = record { place = 1; key = no_key; ns = ns; kind = 0; name = service; ip = V4 0 }
parts_of (ServersIn ns) = record { place = 2; key = no_key; ns = ns; kind = 0; name = []; ip = V4 0 }
parts_of (ServerAuthzIn ns) = record { place = 3; key = no_key; ns = ns; kind = 0; name = []; ip = V4 0 }
parts_of (PolicyOn ns k name) = record { place = 4; key = no_key; ns = ns; kind = ref_place k; name = name; ip = V4 0 }
parts_of (RouteOn ns k name) = record { place = 5; key = no_key; ns = ns; kind = parent_place k; name = name; ip = V4 0 }
parts_of (IpService ip) = record { place = 6; key = no_key; ns = []; kind = 0; name = []; ip = ip }
parts_of (IpPod ip) = record { place = 7; key = no_key; ns = []; kind = 0; name = []; ip = ip }

abbrev parts_cmp : Parts → Parts → Ordering
parts_cmp a b =
    ordering_then (nat_cmp a.place b.place)
    (ordering_then (key_cmp a.key b.key)
    (ordering_then (slice_cmp nat_cmp a.ns b.ns) (ordering_then (nat_cmp a.kind b.kind) (ordering_then (slice_cmp nat_cmp a.name b.name) (ip_cmp a.ip b.ip)))))

then_equal : (r : Ordering) → ordering_then r Equal ≡ r
then_equal Less = refl
then_equal Equal = refl
then_equal Greater = refl

by_parts : (a b : Mark) → parts_cmp (parts_of a) (parts_of b) ≡ mark_cmp a b
unfolding parts_of
by_parts (Obj key) (Obj other) = then_equal (key_cmp key other)
by_parts (SlicesOf ns service) (SlicesOf other_ns other) = ap (ordering_then (slice_cmp nat_cmp ns other_ns)) (then_equal (slice_cmp nat_cmp service other))
by_parts (ServersIn ns) (ServersIn other) = then_equal (slice_cmp nat_cmp ns other)
by_parts (ServerAuthzIn ns) (ServerAuthzIn other) = then_equal (slice_cmp nat_cmp ns other)
by_parts (PolicyOn ns k name) (PolicyOn other_ns other_k other) =
    ap (λ r. ordering_then (slice_cmp nat_cmp ns other_ns) (ordering_then (nat_cmp (ref_place k) (ref_place other_k)) r)) (then_equal (slice_cmp nat_cmp name other))
by_parts (RouteOn ns k name) (RouteOn other_ns other_k other) =
    ap (λ r. ordering_then (slice_cmp nat_cmp ns other_ns) (ordering_then (nat_cmp (parent_place k) (parent_place other_k)) r)) (then_equal (slice_cmp nat_cmp name other))
by_parts (IpService ip) (IpService other) = refl
by_parts (IpPod ip) (IpPod other) = refl
by_parts _ _ = refl

parts_total : IsTotalOrder parts_cmp
parts_total =
    then_total (on_total (λ (p : Parts). p.place) nat_cmp_total)
    (then_total (on_total (λ (p : Parts). p.key) keys_total)
    (then_total (on_total (λ (p : Parts). p.ns) nat_list_cmp_total)
    (then_total (on_total (λ (p : Parts). p.kind) nat_cmp_total) (then_total (on_total (λ (p : Parts). p.name) nat_list_cmp_total) (on_total (λ (p : Parts). p.ip) ips_total)))))

pub marks_total : IsTotalOrder mark_cmp
marks_total = subst IsTotalOrder (λ i a b. by_parts a b i) (on_total parts_of parts_total)

-- ---- and tells marks apart

exact_refs : (a b : RefKind) → nat_cmp (ref_place a) (ref_place b) ≡ Equal → a ≡ b
exact_refs ref.Server ref.Server e = refl
exact_refs ref.LinkerdRoute ref.LinkerdRoute e = refl
exact_refs ref.GatewayRoute ref.GatewayRoute e = refl
exact_refs ref.Namespace ref.Namespace e = refl
exact_refs ref.ServiceAccount ref.ServiceAccount e = refl
exact_refs ref.MeshAuthn ref.MeshAuthn e = refl
exact_refs ref.NetAuthn ref.NetAuthn e = refl
exact_refs ref.Other ref.Other e = refl
exact_refs _ _ e = absurd (cc e)

exact_parents : (a b : ParentKind) → nat_cmp (parent_place a) (parent_place b) ≡ Equal → a ≡ b
exact_parents parent.Server parent.Server e = refl
exact_parents parent.Service parent.Service e = refl
exact_parents _ _ e = absurd (cc e)

exact_texts : IsAntisymmetric (λ (a b : List ℕ × List ℕ). ordering_then (slice_cmp nat_cmp a.0 b.0) (slice_cmp nat_cmp a.1 b.1))
exact_texts = exact_pairs (slice_cmp nat_cmp) (slice_cmp nat_cmp) exact_bytes exact_bytes

module _ {K : Type 0} (place : K → ℕ) (exact : (a b : K) → nat_cmp (place a) (place b) ≡ Equal → a ≡ b) where
  exact_named : IsAntisymmetric (λ (a b : List ℕ × (K × List ℕ)). named_cmp (a.0, place a.1.0, a.1.1) (b.0, place b.1.0, b.1.1))
  exact_named = exact_pairs (slice_cmp nat_cmp) _ exact_bytes (exact_pairs (λ a b. nat_cmp (place a) (place b)) (slice_cmp nat_cmp) exact exact_bytes)

pub marks_exact : IsAntisymmetric mark_cmp
marks_exact (Obj key) (Obj other) e = ap Obj (keys_exact key other e)
marks_exact (SlicesOf ns service) (SlicesOf other_ns other) e = ap (λ (p : List ℕ × List ℕ). SlicesOf p.0 p.1) (exact_texts (ns, service) (other_ns, other) e)
marks_exact (ServersIn ns) (ServersIn other) e = ap ServersIn (exact_bytes ns other e)
marks_exact (ServerAuthzIn ns) (ServerAuthzIn other) e = ap ServerAuthzIn (exact_bytes ns other e)
marks_exact (PolicyOn ns k name) (PolicyOn other_ns other_k other) e =
    ap (λ (p : List ℕ × (RefKind × List ℕ)). PolicyOn p.0 p.1.0 p.1.1) (exact_named ref_place exact_refs (ns, (k, name)) (other_ns, (other_k, other)) e)
marks_exact (RouteOn ns k name) (RouteOn other_ns other_k other) e =
    ap (λ (p : List ℕ × (ParentKind × List ℕ)). RouteOn p.0 p.1.0 p.1.1) (exact_named parent_place exact_parents (ns, (k, name)) (other_ns, (other_k, other)) e)
marks_exact (IpService ip) (IpService other) e = ap IpService (ips_exact ip other e)
marks_exact (IpPod ip) (IpPod other) e = ap IpPod (ips_exact ip other e)
marks_exact _ _ e = absurd (cc e)
