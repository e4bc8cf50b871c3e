-- Equal keys of endpoints are the same key.
use Rattle.std.proofs.Common.{◌≡◌}
use Rattle.std.specs.Cmp.Lexicographic.{slice_cmp}
use Rattle.std.specs.FinMap.{IsAntisymmetric, nat_cmp-IsAntisymmetric, slice_cmp-IsAntisymmetric}
use Rattle.std.specs.Ordering.{nat_cmp, ordering_then}
use Rattle.std.specs.declared.cmp.Ordering.{Ordering}
use Rattle.std.specs.declared.cmp.Ordering.TheVariants.{Less, Equal, Greater}
use Rattle.std.proofs.Common.{refl}
use Rattle.mark_rules.specs.contracts.keys.EndpointKeyOrd as key_order

both_equal : (a b : Ordering) → ordering_then a b ≡ Equal → (a ≡ Equal) × (b ≡ Equal)
both_equal Less b e = absurd (cc e)
both_equal Equal b e = (refl, e)
both_equal Greater b e = absurd (cc e)

texts_exact : IsAntisymmetric (slice_cmp nat_cmp)
texts_exact = slice_cmp-IsAntisymmetric nat_cmp-IsAntisymmetric

pub endpoint_keys_exact : IsAntisymmetric key_order.TheImpl.cmp-value.it
endpoint_keys_exact a b e =
    let first = both_equal (slice_cmp nat_cmp a.name b.name) (ordering_then (slice_cmp nat_cmp a.ns b.ns) (nat_cmp a.port b.port)) e in
    let rest = both_equal (slice_cmp nat_cmp a.ns b.ns) (nat_cmp a.port b.port) first.1 in
    λ i. record { name = texts_exact a.name b.name first.0 i; ns = texts_exact a.ns b.ns rest.0 i; port = nat_cmp-IsAntisymmetric a.port b.port rest.1 i }
