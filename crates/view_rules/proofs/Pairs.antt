-- The order of pairs of an address and a port is total, and tells all pairs apart.
use Rattle.std.proofs.Common.{◌≡◌, ℕ, refl, sym, ap, subst}
use Rattle.std.specs.Cmp.{IsTotalOrder}
use Rattle.std.specs.Ordering.{nat_cmp, ordering_then}
use Rattle.std.specs.FinMap.{IsAntisymmetric}
use Rattle.std.proofs.lemmas.Cmp.{on_total, then_total, nat_cmp_total}
use Rattle.std.proofs.lemmas.Map.Lookups.{exact_pairs, exact_unsigned}
use Rattle.net_cidr.specs.Address.{ip_cmp}
use Rattle.net_cidr.specs.declared.ip.Ip.{Ip}
use Rattle.net_cidr.specs.declared.ip.Ip.TheVariants.{V4, V6}
use Rattle.view_rules.specs.Endpoints.{pair_cmp}

-- an address by its family and its number
family : Ip → ℕ
family (V4 n) = 4
family (V6 n) = 6

number : Ip → ℕ
number (V4 n) = n
number (V6 n) = n

by_family : (a b : Ip) → ip_cmp a b ≡ ordering_then (nat_cmp (family a) (family b)) (nat_cmp (number a) (number b))
unfolding family number
by_family (V4 n) (V4 m) = refl
by_family (V4 n) (V6 m) = refl
by_family (V6 n) (V4 m) = refl
by_family (V6 n) (V6 m) = refl

pub ips_total : IsTotalOrder ip_cmp
ips_total = subst IsTotalOrder (λ i a b. sym (by_family a b) i) (then_total (on_total family nat_cmp_total) (on_total number nat_cmp_total))

pub ips_exact : IsAntisymmetric ip_cmp
ips_exact (V4 n) (V4 m) e = ap V4 (exact_unsigned n m e)
ips_exact (V4 n) (V6 m) e = cc
ips_exact (V6 n) (V4 m) e = cc
ips_exact (V6 n) (V6 m) e = ap V6 (exact_unsigned n m e)

pub pairs_total : IsTotalOrder pair_cmp
pairs_total = then_total (on_total (λ (p : Ip × ℕ). p.0) ips_total) (on_total (λ (p : Ip × ℕ). p.1) nat_cmp_total)

pub pairs_exact : IsAntisymmetric pair_cmp
pairs_exact = exact_pairs ip_cmp nat_cmp ips_exact exact_unsigned
