-- Equal keys of ports of Pods are the same key.
use Rattle.std.proofs.Common.{ℕ, List}
use Rattle.std.proofs.lemmas.Map.Lookups.{CmpEqualImpliesEq, exact_bytes, exact_pairs, exact_unsigned}
use Rattle.std.specs.Cmp.Lexicographic.{slice_cmp}
use Rattle.std.specs.FinMap.{IsAntisymmetric}
use Rattle.std.specs.Ordering.{nat_cmp, ordering_then}
use Rattle.mark_rules.specs.contracts.keys.ServerKeyOrd as key_order

-- of namespaces and ports
places_exact : CmpEqualImpliesEq (λ (p q : List ℕ × ℕ). ordering_then (slice_cmp nat_cmp p.0 q.0) (nat_cmp p.1 q.1))
places_exact = exact_pairs (slice_cmp nat_cmp) nat_cmp exact_bytes exact_unsigned

pub server_keys_exact : IsAntisymmetric key_order.TheImpl.cmp-value.it
server_keys_exact a b e =
    let same = exact_pairs (slice_cmp nat_cmp) (λ (p q : List ℕ × ℕ). ordering_then (slice_cmp nat_cmp p.0 q.0) (nat_cmp p.1 q.1)) exact_bytes places_exact (a.pod, (a.ns, a.port)) (b.pod, (b.ns, b.port)) e in
    λ i. record { pod = (same i).0; ns = (same i).1.0; port = (same i).1.1 }
