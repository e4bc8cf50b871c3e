-- The numbers of protocols, policies and kinds of authorizations: the order of their lists, from 1.
use Rattle.std.specs.Prelude.{ℕ}
use Rattle.view_types.specs.declared.policy.Policy.{Policy}
use Rattle.view_types.specs.declared.policy.Policy.TheVariants.{AllUnauthenticated, AllAuthenticated, ClusterUnauthenticated, ClusterAuthenticated, Deny, Audit}
use Rattle.view_types.specs.declared.policy.Protocol.{Protocol}
use Rattle.view_types.specs.declared.policy.Protocol.TheVariants.{Unknown, Http1, Http2, Grpc, Opaque, Tls}
use Rattle.view_types.specs.declared.server_view.AuthzKind.{AuthzKind}
use Rattle.view_types.specs.declared.server_view.AuthzKind.TheVariants.{ServerAuthorization, AuthorizationPolicy}

abbrev pub protocol_number : Protocol → ℕ
protocol_number Unknown = 1
protocol_number Http1 = 2
protocol_number Http2 = 3
protocol_number Grpc = 4
protocol_number Opaque = 5
protocol_number Tls = 6

abbrev pub policy_number : Policy → ℕ
policy_number AllUnauthenticated = 1
policy_number AllAuthenticated = 2
policy_number ClusterUnauthenticated = 3
policy_number ClusterAuthenticated = 4
policy_number Deny = 5
policy_number Audit = 6

abbrev pub authz_number : AuthzKind → ℕ
authz_number ServerAuthorization = 1
authz_number AuthorizationPolicy = 2
