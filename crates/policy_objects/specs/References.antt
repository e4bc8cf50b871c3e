-- References to other objects.
use Rattle.std.specs.Prelude.{codes, ℕ, ◌&&◌, Bool, List, [], Result, Ok, Err, bytes_eq, nat_le, if◌then◌else◌}
use Rattle.k8s_meta.specs.Scalars.{name, namespace}
use Rattle.k8s_meta.specs.Spots.{Spot, ◌·◌, ◌>>=◌}
use Rattle.k8s_meta.specs.Words.{default, object, optional, required, text}
use Rattle.k8s_meta.specs.declared.fault.What.TheVariants as what
use Rattle.k8s_meta.specs.declared.fault.ReadFault.{ReadFault}
use Rattle.k8s_meta.specs.declared.fault.ReadFault.TheVariants as faults
use Rattle.k8s_meta.specs.declared.key.Key.TheVariants as keys
use Rattle.mesh_text.specs.Groups.{is_core}
use Rattle.view_types.specs.Lawful.{count_of, gives_clients, gives_networks}
use Rattle.view_types.specs.declared.authn.Ref.{Ref}
use Rattle.view_types.specs.declared.authn.RefKind.{RefKind}
use Rattle.view_types.specs.declared.authn.RefKind.TheVariants.{Server, LinkerdRoute, GatewayRoute, Namespace, ServiceAccount, MeshAuthn, NetAuthn, Other}

abbrev pub linkerd_kind : List ℕ → RefKind
linkerd_kind kind =
    if bytes_eq kind (codes "Server") then Server else
    if bytes_eq kind (codes "HTTPRoute") then LinkerdRoute else
    if bytes_eq kind (codes "MeshTLSAuthentication") then MeshAuthn else
    if bytes_eq kind (codes "NetworkAuthentication") then NetAuthn else Other

abbrev pub gateway_kind : List ℕ → RefKind
gateway_kind kind = if bytes_eq kind (codes "HTTPRoute") then GatewayRoute else Other

abbrev pub core_kind : List ℕ → RefKind
core_kind kind =
    if bytes_eq kind (codes "Namespace") then Namespace else
    if bytes_eq kind (codes "ServiceAccount") then ServiceAccount else Other

-- the meaning of a group and a kind
abbrev pub ref_kind : List ℕ → List ℕ → RefKind
ref_kind group kind =
    if bytes_eq group (codes "policy.linkerd.io") then linkerd_kind kind else
    if bytes_eq group (codes "gateway.networking.k8s.io") then gateway_kind kind else
    if is_core group then core_kind kind else Other

unfoldable pub ref_at : Spot → Result Ref ReadFault
ref_at r = do
  r ← object r
  group ← default [] text (r · keys.Group)
  kind ← required text (r · keys.Kind)
  name ← required name (r · keys.Name)
  ns ← optional namespace (r · keys.Namespace)
  Ok (record { kind = ref_kind group kind; ns = ns; name = name })

-- at most one reference to networks, and at most one to clients
abbrev pub is_single : List Ref → Bool
is_single needs = nat_le (count_of gives_networks needs) 1 && nat_le (count_of gives_clients needs) 1

abbrev pub single : List ℕ → List Ref → Result (List Ref) ReadFault
single at needs = if is_single needs then Ok needs else Err (faults.BadValue at what.TwoReferences)
