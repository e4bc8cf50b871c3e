-- The orders of keys, and of addresses with their ports, are those of the definitions.
use Rattle.std.proofs.Common.{◌≡◌, Ordering, OnOk, Result, Ok, Err, ap, subst}
use Rattle.std.specs.Ordering.{nat_cmp, ordering_then}
use Rattle.mark_rules.proofs.MarkCmp.{mark_cmp_is}
use Rattle.mesh_base.specs.KeyOrder.{key_cmp}
use Rattle.mesh_base.specs.contracts.key.ObjKeyOrd as key_order
use Rattle.mesh_base.specs.declared.key.ObjKey.{ObjKey}
use Rattle.net_cidr.specs.contracts.ip.IpOrd as ip_order
use Rattle.view_rules.specs.Endpoints.{pair_cmp}
use Rattle.view_types.specs.declared.mark.Mark.TheVariants.{IpPod, Obj}
use Rattle.endpoint_rows.specs.Kept.{Pair}

pub by_keys : (P : (ObjKey → ObjKey → Ordering) → Type 0) → P key_order.TheImpl.cmp-value.it → P key_cmp
by_keys P p = subst P (λ i a b. mark_cmp_is (Obj a) (Obj b) i) p

pair_cmp_is : (a b : Pair) → ordering_then (ip_order.TheImpl.cmp-value.it a.0 b.0) (nat_cmp a.1 b.1) ≡ pair_cmp a b
pair_cmp_is a b = ap (λ (o : Ordering). ordering_then o (nat_cmp a.1 b.1)) (mark_cmp_is (IpPod a.0) (IpPod b.0))

pub by_pairs : (P : (Pair → Pair → Ordering) → Type 0) → P (λ a b. ordering_then (ip_order.TheImpl.cmp-value.it a.0 b.0) (nat_cmp a.1 b.1)) → P pair_cmp
by_pairs P p = subst P (λ i a b. pair_cmp_is a b i) p

pub on_ok : {X E : Type 0} {P Q : Type 0} (r : Result X E) → (P → Q) → OnOk r P → OnOk r Q
on_ok (Ok x) more p = more p
on_ok (Err e) more p = tt

pub both_ok : {X E : Type 0} {P Q R : Type 0} (r : Result X E) → OnOk r P → OnOk r Q → (P → Q → R) → OnOk r R
both_ok (Ok x) p q more = more p q
both_ok (Err e) p q more = tt

pub always_ok : {X E : Type 0} {P : Type 0} (r : Result X E) → P → OnOk r P
always_ok (Ok x) p = p
always_ok (Err e) p = tt
