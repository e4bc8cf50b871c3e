-- Kinds of objects by name and API group.
use Rattle.std.specs.Prelude.{ℕ, List, [], ◌∷◌, Option, Some, None, codes, unwrap_or, ◌&&◌, if◌then◌else◌}
use Rattle.std.specs.Str.{bytes_eq}
use Rattle.k8s_meta.specs.Spots.{Spot, ◌·◌}
use Rattle.k8s_meta.specs.Words.{string_in}
use Rattle.k8s_meta.specs.declared.key.Key.TheVariants as keys
use Rattle.mesh_base.specs.Pieces.{pieces}
use Rattle.mesh_base.specs.declared.key.Kind.{Kind}
use Rattle.mesh_base.specs.declared.key.Kind.TheVariants.{Pod, Service, EndpointSlice, ServiceProfile, Server, ServerAuthorization, AuthorizationPolicy, MeshTLSAuthentication, NetworkAuthentication, LinkerdRoute, GatewayRoute}

-- the part of an API version before its first '/', or empty without one
abbrev pub before_slash : List (List ℕ) → List ℕ
before_slash (group ∷ version ∷ more) = group
before_slash _ = []

unfoldable pub group_in : List ℕ → List ℕ
group_in version = before_slash (pieces 47 version)

-- the string at a spot, or the empty string if there is none
abbrev pub text_or_empty : Spot → List ℕ
text_or_empty s = unwrap_or (string_in s.value) []

unfoldable pub group_of : Spot → List ℕ
group_of s = group_in (text_or_empty (s · keys.ApiVersion))

-- the kinds of policy.linkerd.io
unfoldable pub policy_kind : List ℕ → Option Kind
policy_kind kind =
    if bytes_eq kind (codes "Server") then Some Server else
    if bytes_eq kind (codes "ServerAuthorization") then Some ServerAuthorization else
    if bytes_eq kind (codes "AuthorizationPolicy") then Some AuthorizationPolicy else
    if bytes_eq kind (codes "MeshTLSAuthentication") then Some MeshTLSAuthentication else
    if bytes_eq kind (codes "NetworkAuthentication") then Some NetworkAuthentication else
    if bytes_eq kind (codes "HTTPRoute") then Some LinkerdRoute else None

-- the kind with this name in this group
unfoldable pub kind_named : List ℕ → List ℕ → Option Kind
kind_named kind group =
    if bytes_eq group (codes "policy.linkerd.io") then policy_kind kind else
    if bytes_eq kind (codes "Pod") && bytes_eq group [] then Some Pod else
    if bytes_eq kind (codes "Service") && bytes_eq group [] then Some Service else
    if bytes_eq kind (codes "EndpointSlice") && bytes_eq group (codes "discovery.k8s.io") then Some EndpointSlice else
    if bytes_eq kind (codes "ServiceProfile") && bytes_eq group (codes "linkerd.io") then Some ServiceProfile else
    if bytes_eq kind (codes "HTTPRoute") && bytes_eq group (codes "gateway.networking.k8s.io") then Some GatewayRoute else None
