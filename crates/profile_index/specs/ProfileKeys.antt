-- The keys of profiles. Equal keys are the same key.
use Rattle.std.proofs.Common.{◌≡◌, Some, None, refl, sym, ap, subst}
use Rattle.std.specs.Prelude.{T}
use Rattle.std.specs.Cmp.Lexicographic.{slice_cmp}
use Rattle.std.specs.FinMap.{IsAntisymmetric, nat_cmp-IsAntisymmetric, slice_cmp-IsAntisymmetric}
use Rattle.std.specs.Option.{option_cmp}
use Rattle.std.specs.Ordering.{is_eq, nat_cmp, ordering_then}
use Rattle.std.specs.declared.cmp.Ordering.{Ordering}
use Rattle.std.specs.declared.cmp.Ordering.TheVariants.{Less, Equal, Greater}
use Rattle.net_cidr.specs.declared.ip.Ip.TheVariants.{V4, V6}
use Rattle.net_cidr.specs.contracts.ip.IpOrd as ip_order
use Rattle.view_types.specs.contracts.query.TargetOrd as target_order
use Rattle.view_types.specs.declared.query.Target.TheVariants.{Service, Address}
use Rattle.mark_rules.specs.contracts.keys.ProfileKeyOrd as key_order

less_apart : Less ≡ Equal → ⊥
less_apart e = subst (λ (r : Ordering). T (is_eq r)) (sym e) tt

greater_apart : Greater ≡ Equal → ⊥
greater_apart e = subst (λ (r : Ordering). T (is_eq r)) (sym e) tt

both_equal : (a b : Ordering) → ordering_then a b ≡ Equal → (a ≡ Equal) × (b ≡ Equal)
both_equal Less b e = absurd (less_apart e)
both_equal Equal b e = (refl, e)
both_equal Greater b e = absurd (greater_apart e)

texts_exact : IsAntisymmetric (slice_cmp nat_cmp)
texts_exact = slice_cmp-IsAntisymmetric nat_cmp-IsAntisymmetric

ips_exact : IsAntisymmetric ip_order.TheImpl.cmp-value.it
ips_exact (V4 n) (V4 m) e = ap V4 (nat_cmp-IsAntisymmetric n m e)
ips_exact (V4 n) (V6 m) e = absurd (less_apart e)
ips_exact (V6 n) (V4 m) e = absurd (greater_apart e)
ips_exact (V6 n) (V6 m) e = ap V6 (nat_cmp-IsAntisymmetric n m e)

pub targets_exact : IsAntisymmetric target_order.TheImpl.cmp-value.it
targets_exact (Service ns name port) (Service other_ns other other_port) e =
    let first = both_equal (slice_cmp nat_cmp ns other_ns) (ordering_then (slice_cmp nat_cmp name other) (nat_cmp port other_port)) e in
    let rest = both_equal (slice_cmp nat_cmp name other) (nat_cmp port other_port) first.1 in
    λ i. Service (texts_exact ns other_ns first.0 i) (texts_exact name other rest.0 i) (nat_cmp-IsAntisymmetric port other_port rest.1 i)
targets_exact (Service ns name port) (Address ip other_port) e = absurd (less_apart e)
targets_exact (Address ip port) (Service ns name other_port) e = absurd (greater_apart e)
targets_exact (Address ip port) (Address other other_port) e =
    let parts = both_equal (ip_order.TheImpl.cmp-value.it ip other) (nat_cmp port other_port) e in
    λ i. Address (ips_exact ip other parts.0 i) (nat_cmp-IsAntisymmetric port other_port parts.1 i)

clients_exact : IsAntisymmetric (option_cmp (slice_cmp nat_cmp))
clients_exact None None e = refl
clients_exact None (Some other) e = absurd (less_apart e)
clients_exact (Some client) None e = absurd (greater_apart e)
clients_exact (Some client) (Some other) e = ap Some (texts_exact client other e)

pub profile_keys_exact : IsAntisymmetric key_order.TheImpl.cmp-value.it
profile_keys_exact a b e =
    let parts = both_equal (target_order.TheImpl.cmp-value.it a.target b.target) (option_cmp (slice_cmp nat_cmp) a.client b.client) e in
    λ i. record { target = targets_exact a.target b.target parts.0 i; client = clients_exact a.client b.client parts.1 i }
