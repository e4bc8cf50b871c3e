-- The orders by which the parts of marks are kept are those of the definitions.
use Rattle.std.proofs.Common.{◌≡◌, [], Ordering, refl, sym, subst, ◌∙◌}
use Rattle.std.specs.Ordering.{ordering_then}
use Rattle.std.specs.declared.cmp.Ordering.TheVariants.{Less, Equal, Greater}
use Rattle.mark_rules.proofs.MarkCmp.{mark_cmp_is}
use Rattle.net_cidr.specs.Address.{ip_cmp}
use Rattle.net_cidr.specs.contracts.ip.IpOrd as ip_order
use Rattle.net_cidr.specs.declared.ip.Ip.{Ip}
use Rattle.object_store.specs.KeyLists.{parent_cmp, ref_cmp}
use Rattle.view_types.specs.contracts.authn.RefKindOrd as ref_order
use Rattle.view_types.specs.contracts.route.ParentKindOrd as parent_order
use Rattle.view_types.specs.declared.authn.RefKind.{RefKind}
use Rattle.view_types.specs.declared.mark.Mark.TheVariants.{PolicyOn, RouteOn, IpPod}
use Rattle.view_types.specs.declared.route.ParentKind.{ParentKind}

then_equal : (r : Ordering) → ordering_then r Equal ≡ r
then_equal Less = refl
then_equal Equal = refl
then_equal Greater = refl

ref_cmp_is : (a b : RefKind) → ref_order.TheImpl.cmp-value.it a b ≡ ref_cmp a b
ref_cmp_is a b = sym (then_equal _) ∙ mark_cmp_is (PolicyOn [] a []) (PolicyOn [] b []) ∙ then_equal _

parent_cmp_is : (a b : ParentKind) → parent_order.TheImpl.cmp-value.it a b ≡ parent_cmp a b
parent_cmp_is a b = sym (then_equal _) ∙ mark_cmp_is (RouteOn [] a []) (RouteOn [] b []) ∙ then_equal _

pub by_ref_cmp : (P : (RefKind → RefKind → Ordering) → Type 0) → P ref_order.TheImpl.cmp-value.it → P ref_cmp
by_ref_cmp P p = subst P (λ i a b. ref_cmp_is a b i) p

pub by_parent_cmp : (P : (ParentKind → ParentKind → Ordering) → Type 0) → P parent_order.TheImpl.cmp-value.it → P parent_cmp
by_parent_cmp P p = subst P (λ i a b. parent_cmp_is a b i) p

pub by_ip_cmp : (P : (Ip → Ip → Ordering) → Type 0) → P ip_order.TheImpl.cmp-value.it → P ip_cmp
by_ip_cmp P p = subst P (λ i a b. mark_cmp_is (IpPod a) (IpPod b) i) p
