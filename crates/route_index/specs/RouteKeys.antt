-- The keys of Servers' routes. Equal keys are the same key.
use Rattle.std.proofs.Common.{ℕ, List, ap}
use Rattle.std.specs.Cmp.Lexicographic.{slice_cmp}
use Rattle.std.specs.FinMap.{IsAntisymmetric}
use Rattle.std.specs.Ordering.{nat_cmp}
use Rattle.std.proofs.lemmas.Map.Lookups.{exact_bytes, exact_pairs}
use Rattle.mark_rules.specs.contracts.keys.RouteKeyOrd as key_order

pub route_keys_exact : IsAntisymmetric key_order.TheImpl.cmp-value.it
route_keys_exact a b e =
    ap (λ (p : List ℕ × List ℕ). record { server = p.0; ns = p.1 }) (exact_pairs (slice_cmp nat_cmp) (slice_cmp nat_cmp) exact_bytes exact_bytes (a.server, a.ns) (b.server, b.ns) e)
