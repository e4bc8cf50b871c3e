-- The order of authorizations by kind and name is total, and tells all kinds and names apart.
use Rattle.std.proofs.Common.{◌≡◌, refl}
use Rattle.std.specs.Cmp.{IsTotalOrder}
use Rattle.std.specs.Cmp.Lexicographic.{nat_list_cmp_total, slice_cmp}
use Rattle.std.specs.FinMap.{IsAntisymmetric}
use Rattle.std.specs.Ordering.{nat_cmp}
use Rattle.std.specs.declared.cmp.Ordering.TheVariants.{Equal}
use Rattle.std.proofs.lemmas.Cmp.{nat_cmp_total, on_total, then_total}
use Rattle.std.proofs.lemmas.Map.Lookups.{exact_bytes, exact_pairs}
use Rattle.view_types.specs.Numbers.{authz_number}
use Rattle.view_types.specs.declared.server_view.AuthzKind.{AuthzKind}
use Rattle.view_types.specs.declared.server_view.AuthzKind.TheVariants.{ServerAuthorization, AuthorizationPolicy}
use Rattle.view_rules.specs.AuthzOrder.{AuthzKey, authz_cmp}

pub authz_total : IsTotalOrder authz_cmp
authz_total = then_total (on_total (λ (k : AuthzKey). authz_number k.0) nat_cmp_total) (on_total (λ (k : AuthzKey). k.1) nat_list_cmp_total)

kinds_exact : (j k : AuthzKind) → nat_cmp (authz_number j) (authz_number k) ≡ Equal → j ≡ k
kinds_exact ServerAuthorization ServerAuthorization e = refl
kinds_exact ServerAuthorization AuthorizationPolicy e = cc
kinds_exact AuthorizationPolicy ServerAuthorization e = cc
kinds_exact AuthorizationPolicy AuthorizationPolicy e = refl

pub authz_exact : IsAntisymmetric authz_cmp
authz_exact = exact_pairs (λ j k. nat_cmp (authz_number j) (authz_number k)) (slice_cmp nat_cmp) kinds_exact exact_bytes
