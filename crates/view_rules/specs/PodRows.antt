-- The row of an endpoint: its address and port, and what its Pod adds.
use Rattle.std.specs.Prelude.{codes, ◌&&◌, ℕ, Bool, false, List, Option, Some, None, not, if◌then◌else◌}
use Rattle.std.specs.Cmp.Lexicographic.{slice_cmp}
use Rattle.std.specs.FinMap.{FinMap, empty, get, insert}
use Rattle.std.specs.Ordering.{nat_cmp}
use Rattle.k8s_meta.specs.PortSet.{is_within}
use Rattle.mesh_base.specs.declared.key.Kind.TheVariants as kind
use Rattle.mesh_base.specs.declared.key.ObjKey.{ObjKey}
use Rattle.mesh_text.specs.Mesh.{identity_of, is_meshed, opaque_ranges}
use Rattle.net_cidr.specs.declared.ip.Ip.{Ip}
use Rattle.view_types.specs.Objects.{ObjectMap}
use Rattle.view_types.specs.declared.config.Config.{Config}
use Rattle.view_types.specs.declared.endpoint.EndpointRow.{EndpointRow}
use Rattle.view_types.specs.declared.object.Object.{Object}
use Rattle.view_types.specs.declared.object.Object.TheVariants as object
use Rattle.view_types.specs.declared.pod.Pod.{Pod}

-- ---- the Pod that is held

abbrev pub pod_key : List ℕ → List ℕ → ObjKey
pod_key ns name = record { kind = kind.Pod; ns = ns; name = name }

abbrev pub as_pod : Object → Option Pod
as_pod (object.Pod pod) = Some pod
as_pod _ = None

abbrev pub pod_found : Option Object → Option Pod
pod_found None = None
pod_found (Some o) = as_pod o

-- the target of an endpoint, by namespace and name
abbrev pub pod_held : ObjectMap → Option (List ℕ × List ℕ) → Option Pod
pod_held held None = None
pod_held held (Some target) = pod_found (get held (pod_key target.0 target.1))

-- ---- its row

-- an endpoint of which only the address and port are known
abbrev pub bare_row : Ip → ℕ → EndpointRow
bare_row ip port = record { ip = ip; port = port; weight = 10000; labels = empty; identity = None; tunnel = None; h2 = false }

abbrev pub is_opaque : Pod → ℕ → Bool
is_opaque pod port = is_within (opaque_ranges pod.meta) port

-- the port at which proxies accept tunnelled connections
abbrev pub tunnel_port : ℕ
tunnel_port = 4143

abbrev pub meshed_row : Config → Pod → ℕ → EndpointRow → EndpointRow
meshed_row config pod port row = record {
  ip = row.ip;
  port = row.port;
  weight = row.weight;
  labels = row.labels;
  identity = Some (identity_of config pod.meta.ns pod.account);
  tunnel = Some tunnel_port;
  h2 = not (is_opaque pod port);
}

abbrev pub labels_of : Pod → FinMap (slice_cmp nat_cmp) (List ℕ)
labels_of pod = insert (insert empty (codes "pod") pod.meta.name) (codes "serviceaccount") pod.account

abbrev pub labelled_row : Pod → EndpointRow → EndpointRow
labelled_row pod row = record {
  ip = row.ip;
  port = row.port;
  weight = row.weight;
  labels = labels_of pod;
  identity = row.identity;
  tunnel = row.tunnel;
  h2 = row.h2;
}

-- an endpoint of a Pod has its labels and, if the Pod is meshed, its identity, the tunnel, and
-- HTTP/2 except at an opaque port
abbrev pub row_of : Config → Option Pod → Ip → ℕ → EndpointRow
row_of config None ip port = bare_row ip port
row_of config (Some pod) ip port =
    let row = labelled_row pod (bare_row ip port) in
    if is_meshed config pod.meta then meshed_row config pod port row else row

-- the row of an endpoint with this target, over these objects
abbrev pub row_for : Config → ObjectMap → Option (List ℕ × List ℕ) → Ip → ℕ → EndpointRow
row_for config held target = row_of config (pod_held held target)
