-- The names of policies.
use Rattle.std.specs.Prelude.{codes, ℕ, List, Option, Some, None, bytes_eq, if◌then◌else◌}
use Rattle.view_types.specs.declared.policy.Policy.{Policy}
use Rattle.view_types.specs.declared.policy.Policy.TheVariants.{AllUnauthenticated, AllAuthenticated, ClusterUnauthenticated, ClusterAuthenticated, Deny, Audit}

abbrev pub policy_of : List ℕ → Option Policy
policy_of t =
    if bytes_eq t (codes "all-unauthenticated") then Some AllUnauthenticated else
    if bytes_eq t (codes "all-authenticated") then Some AllAuthenticated else
    if bytes_eq t (codes "cluster-unauthenticated") then Some ClusterUnauthenticated else
    if bytes_eq t (codes "cluster-authenticated") then Some ClusterAuthenticated else
    if bytes_eq t (codes "deny") then Some Deny else
    if bytes_eq t (codes "audit") then Some Audit else None
