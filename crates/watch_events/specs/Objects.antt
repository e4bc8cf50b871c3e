-- An object of any kind, by the table of its kind.
use Rattle.std.specs.Prelude.{Result, Ok}
use Rattle.k8s_meta.specs.Spots.{Spot, ◌>>=◌}
use Rattle.k8s_meta.specs.declared.fault.ReadFault.{ReadFault}
use Rattle.mesh_base.specs.declared.key.Kind.{Kind}
use Rattle.mesh_base.specs.declared.key.Kind.TheVariants as kinds
use Rattle.k8s_core.specs.Pods.{pod_at}
use Rattle.k8s_core.specs.Services.{service_at}
use Rattle.k8s_core.specs.Slices.{slice_at}
use Rattle.policy_objects.specs.Authentications.{mesh_authn_at, net_authn_at}
use Rattle.policy_objects.specs.AuthorizationPolicies.{authz_policy_at}
use Rattle.policy_objects.specs.ServerAuthorizations.{server_authz_at}
use Rattle.policy_objects.specs.Servers.{server_at}
use Rattle.profile_objects.specs.Profiles.{profile_at}
use Rattle.route_objects.specs.Routes.{route_at}
use Rattle.view_types.specs.declared.object.Object.{Object}
use Rattle.view_types.specs.declared.object.Object.TheVariants as objects

abbrev pub made : {A : Type 0} → (A → Object) → Result A ReadFault → Result Object ReadFault
made make read = read >>= λ x. Ok (make x)

unfoldable pub object_at : Kind → Spot → Result Object ReadFault
object_at kinds.Pod s = made objects.Pod (pod_at s)
object_at kinds.Service s = made objects.Service (service_at s)
object_at kinds.EndpointSlice s = made objects.EndpointSlice (slice_at s)
object_at kinds.ServiceProfile s = made objects.ServiceProfile (profile_at s)
object_at kinds.Server s = made objects.Server (server_at s)
object_at kinds.ServerAuthorization s = made objects.ServerAuthorization (server_authz_at s)
object_at kinds.AuthorizationPolicy s = made objects.AuthorizationPolicy (authz_policy_at s)
object_at kinds.MeshTLSAuthentication s = made objects.MeshTLSAuthentication (mesh_authn_at s)
object_at kinds.NetworkAuthentication s = made objects.NetworkAuthentication (net_authn_at s)
object_at kinds.LinkerdRoute s = made objects.LinkerdRoute (route_at kinds.LinkerdRoute s)
object_at kinds.GatewayRoute s = made objects.GatewayRoute (route_at kinds.GatewayRoute s)
