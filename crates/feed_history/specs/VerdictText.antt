-- The text of a verdict.
use Rattle.std.specs.Prelude.{ℕ, List, ◌++◌, codes}
use Rattle.std.specs.Fmt.{decimal}
use Rattle.view_types.specs.declared.policy.Policy.{Policy}
use Rattle.view_types.specs.declared.policy.Policy.TheVariants.{AllUnauthenticated, AllAuthenticated, ClusterUnauthenticated, ClusterAuthenticated, Deny, Audit}
use Rattle.view_types.specs.declared.server_view.AuthzKind.{AuthzKind}
use Rattle.view_types.specs.declared.server_view.AuthzKind.TheVariants.{ServerAuthorization, AuthorizationPolicy}
use Rattle.view_types.specs.declared.verdict.Decider.{Decider}
use Rattle.view_types.specs.declared.verdict.Decider.TheVariants.{Authz, Default, Probe}
use Rattle.view_types.specs.declared.verdict.Verdict.{Verdict}
use Rattle.view_types.specs.declared.verdict.Verdict.TheVariants.{Allowed, Denied, NotFound, NoWorkload}

abbrev pub policy_text : Policy → List ℕ
policy_text AllUnauthenticated = codes "all-unauthenticated"
policy_text AllAuthenticated = codes "all-authenticated"
policy_text ClusterUnauthenticated = codes "cluster-unauthenticated"
policy_text ClusterAuthenticated = codes "cluster-authenticated"
policy_text Deny = codes "deny"
policy_text Audit = codes "audit"

abbrev pub kind_text : AuthzKind → List ℕ
kind_text ServerAuthorization = codes "ServerAuthorization"
kind_text AuthorizationPolicy = codes "AuthorizationPolicy"

-- An authorization is named with the namespace of the request's Pod.
abbrev pub decider_text : List ℕ → Decider → List ℕ
decider_text ns (Authz kind name) = kind_text kind ++ (codes " " ++ (ns ++ (codes "/" ++ name)))
decider_text ns (Default policy) = codes "default " ++ policy_text policy
decider_text ns (Probe place) = codes "probe " ++ decimal place

abbrev pub verdict_text : List ℕ → Verdict → List ℕ
verdict_text ns (Allowed decider) = codes "allowed " ++ decider_text ns decider
verdict_text ns (Denied decider) = codes "denied " ++ decider_text ns decider
verdict_text ns NotFound = codes "not-found"
verdict_text ns NoWorkload = codes "no-workload"

-- `verdict <line> <text>`
abbrev pub verdict_line : ℕ → List ℕ → Verdict → List ℕ
verdict_line number ns found = codes "verdict " ++ (decimal number ++ (codes " " ++ (verdict_text ns found ++ codes "\n")))
