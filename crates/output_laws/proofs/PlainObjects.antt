-- The faults of objects have plain paths.
use Rattle.std.proofs.Common.{Result}
use Rattle.k8s_meta.specs.Spots.{◌·◌}
use Rattle.k8s_meta.specs.declared.key.Key.TheVariants as keys
use Rattle.output_laws.proofs.PlainReads.{IsPlainRead, ReadsPlainly, at_member, default_plain, object_then, part_then, required_plain, then_plain, within_label, within_name}
use Rattle.k8s_meta.specs.declared.fault.ReadFault.{ReadFault}
use Rattle.mesh_base.specs.declared.key.Kind.{Kind}
use Rattle.mesh_base.specs.declared.key.Kind.TheVariants as kinds
use Rattle.view_types.specs.declared.object.Object.{Object}
use Rattle.view_types.specs.declared.object.Object.TheVariants as objects
use Rattle.watch_events.specs.Keys.{key_at}
use Rattle.watch_events.specs.Objects.{made, object_at}
use Rattle.output_laws.proofs.PlainCore.{pod_at_plain, service_at_plain}
use Rattle.output_laws.proofs.PlainPolicies.{authz_policy_at_plain, mesh_authn_at_plain, net_authn_at_plain, server_at_plain, server_authz_at_plain}
use Rattle.output_laws.proofs.PlainProfiles.{profile_at_plain}
use Rattle.output_laws.proofs.PlainRoutes.{route_at_plain}
use Rattle.output_laws.proofs.PlainSlices.{slice_at_plain}

pub key_at_plain : (kind : Kind) → ReadsPlainly (key_at kind)
unfolding key_at
key_at_plain kind o here = object_then o _ here (part_then (o · keys.Metadata) _ (at_member o keys.Metadata here) (then_plain _ _ ((required_plain _ (within_name 253)) ((o · keys.Metadata) · keys.Name) (at_member (o · keys.Metadata) keys.Name (at_member o keys.Metadata here))) (λ name. then_plain _ _ ((default_plain _ (within_label 63) _) ((o · keys.Metadata) · keys.Namespace) (at_member (o · keys.Metadata) keys.Namespace (at_member o keys.Metadata here))) (λ ns. tt))))

made_plain : {A : Type 0} (make : A → Object) (r : Result A ReadFault) → IsPlainRead r → IsPlainRead (made make r)
made_plain make r plain = then_plain r _ plain (λ x. tt)

pub object_at_plain : (kind : Kind) → ReadsPlainly (object_at kind)
unfolding object_at
object_at_plain kinds.Pod s here = made_plain objects.Pod _ (pod_at_plain s here)
object_at_plain kinds.Service s here = made_plain objects.Service _ (service_at_plain s here)
object_at_plain kinds.EndpointSlice s here = made_plain objects.EndpointSlice _ (slice_at_plain s here)
object_at_plain kinds.ServiceProfile s here = made_plain objects.ServiceProfile _ (profile_at_plain s here)
object_at_plain kinds.Server s here = made_plain objects.Server _ (server_at_plain s here)
object_at_plain kinds.ServerAuthorization s here = made_plain objects.ServerAuthorization _ (server_authz_at_plain s here)
object_at_plain kinds.AuthorizationPolicy s here = made_plain objects.AuthorizationPolicy _ (authz_policy_at_plain s here)
object_at_plain kinds.MeshTLSAuthentication s here = made_plain objects.MeshTLSAuthentication _ (mesh_authn_at_plain s here)
object_at_plain kinds.NetworkAuthentication s here = made_plain objects.NetworkAuthentication _ (net_authn_at_plain s here)
object_at_plain kinds.LinkerdRoute s here = made_plain objects.LinkerdRoute _ (route_at_plain kinds.LinkerdRoute s here)
object_at_plain kinds.GatewayRoute s here = made_plain objects.GatewayRoute _ (route_at_plain kinds.GatewayRoute s here)
