-- An object of any kind is lawful, where those of each kind are.
use Rattle.std.proofs.Common.{refl}
use Rattle.k8s_meta.specs.Given.{GivesOnly}
use Rattle.k8s_meta.specs.Spots.{Reading}
use Rattle.k8s_meta.proofs.Given.{after, last}
use Rattle.k8s_core.specs.Pods.{pod_at}
use Rattle.k8s_core.specs.Services.{service_at}
use Rattle.k8s_core.specs.Slices.{slice_at}
use Rattle.mesh_base.specs.declared.key.Kind.{Kind}
use Rattle.mesh_base.specs.declared.key.Kind.TheVariants as kinds
use Rattle.policy_objects.specs.Authentications.{mesh_authn_at, net_authn_at}
use Rattle.policy_objects.specs.AuthorizationPolicies.{authz_policy_at}
use Rattle.policy_objects.specs.ServerAuthorizations.{server_authz_at}
use Rattle.policy_objects.specs.Servers.{server_at}
use Rattle.profile_objects.specs.Profiles.{profile_at}
use Rattle.route_objects.specs.Routes.{route_at}
use Rattle.view_types.specs.Lawful.{IsLawfulMeshAuthn, IsLawfulNetAuthn, IsLawfulPod, IsLawfulPolicy, IsLawfulProfile, IsLawfulRoute, IsLawfulServer, IsLawfulServerAuthz, IsLawfulService, IsLawfulSlice}
use Rattle.view_types.specs.declared.object.Object.{Object}
use Rattle.view_types.specs.declared.object.Object.TheVariants as objects
use Rattle.watch_events.specs.Lawful.{IsLawfulOf, ObjectsAreLawful}
use Rattle.watch_events.specs.Objects.{made, object_at}

made_gives : {A : Type 0} (P : A → Type 0) (make : A → Object) (kind : Kind) (read : Reading A) → ((x : A) → P x → IsLawfulOf kind (make x)) → GivesOnly P read → GivesOnly (IsLawfulOf kind) (λ s. made make (read s))
made_gives P make kind read each gives s = after (IsLawfulOf kind) _ _ (λ x is. last (IsLawfulOf kind) (make x) (each x (gives s x is)))

pub record EachIsLawful : Type 0 where
  pub pods : GivesOnly IsLawfulPod pod_at
  pub services : GivesOnly IsLawfulService service_at
  pub slices : GivesOnly IsLawfulSlice slice_at
  pub servers : GivesOnly IsLawfulServer server_at
  pub server_authzs : GivesOnly IsLawfulServerAuthz server_authz_at
  pub policies : GivesOnly IsLawfulPolicy authz_policy_at
  pub mesh_authns : GivesOnly IsLawfulMeshAuthn mesh_authn_at
  pub net_authns : GivesOnly IsLawfulNetAuthn net_authn_at
  pub profiles : GivesOnly IsLawfulProfile profile_at
  pub routes : (kind : Kind) → GivesOnly (IsLawfulRoute kind) (route_at kind)

pub object_gives : EachIsLawful → ObjectsAreLawful
unfolding object_at
object_gives each kinds.Pod = made_gives IsLawfulPod objects.Pod kinds.Pod pod_at (λ x h. (h, refl)) each.pods
object_gives each kinds.Service = made_gives IsLawfulService objects.Service kinds.Service service_at (λ x h. (h, refl)) each.services
object_gives each kinds.EndpointSlice = made_gives IsLawfulSlice objects.EndpointSlice kinds.EndpointSlice slice_at (λ x h. (h, refl)) each.slices
object_gives each kinds.ServiceProfile = made_gives IsLawfulProfile objects.ServiceProfile kinds.ServiceProfile profile_at (λ x h. (h, refl)) each.profiles
object_gives each kinds.Server = made_gives IsLawfulServer objects.Server kinds.Server server_at (λ x h. (h, refl)) each.servers
object_gives each kinds.ServerAuthorization = made_gives IsLawfulServerAuthz objects.ServerAuthorization kinds.ServerAuthorization server_authz_at (λ x h. (h, refl)) each.server_authzs
object_gives each kinds.AuthorizationPolicy = made_gives IsLawfulPolicy objects.AuthorizationPolicy kinds.AuthorizationPolicy authz_policy_at (λ x h. (h, refl)) each.policies
object_gives each kinds.MeshTLSAuthentication = made_gives IsLawfulMeshAuthn objects.MeshTLSAuthentication kinds.MeshTLSAuthentication mesh_authn_at (λ x h. (h, refl)) each.mesh_authns
object_gives each kinds.NetworkAuthentication = made_gives IsLawfulNetAuthn objects.NetworkAuthentication kinds.NetworkAuthentication net_authn_at (λ x h. (h, refl)) each.net_authns
object_gives each kinds.LinkerdRoute = made_gives (IsLawfulRoute kinds.LinkerdRoute) objects.LinkerdRoute kinds.LinkerdRoute (route_at kinds.LinkerdRoute) (λ x h. (h, refl)) (each.routes kinds.LinkerdRoute)
object_gives each kinds.GatewayRoute = made_gives (IsLawfulRoute kinds.GatewayRoute) objects.GatewayRoute kinds.GatewayRoute (route_at kinds.GatewayRoute) (λ x h. (h, refl)) (each.routes kinds.GatewayRoute)
