-- The part of the rows of an endpoint that is the same for each address and port. It is computed
-- once, and the rows of `PodRows` are made from it.
use Rattle.std.specs.Prelude.{◌&&◌, ℕ, false, List, [], Option, Some, None, flat_map, map, not, if◌then◌else◌}
use Rattle.std.specs.Cmp.Lexicographic.{slice_cmp}
use Rattle.std.specs.FinMap.{FinMap, empty}
use Rattle.std.specs.Ordering.{nat_cmp}
use Rattle.k8s_meta.specs.PortSet.{is_within}
use Rattle.mesh_text.specs.Mesh.{identity_of, is_meshed, opaque_ranges}
use Rattle.net_cidr.specs.declared.ip.Ip.{Ip}
use Rattle.view_types.specs.declared.config.Config.{Config}
use Rattle.view_types.specs.declared.endpoint.EndpointRow.{EndpointRow}
use Rattle.view_types.specs.declared.pod.Pod.{Pod}
use Rattle.view_types.specs.declared.service.NamedPort.{NamedPort}
use Rattle.view_types.specs.declared.slice.Point.{Point}
use Rattle.std.specs.Str.{bytes_eq}
use Rattle.view_rules.specs.Endpoints.{RowFor}
use Rattle.view_rules.specs.PodRows.{labels_of, tunnel_port}
use Rattle.view_scratch.specs.declared.endpoint.Endpoint.{Endpoint}
use Rattle.view_scratch.specs.declared.endpoint.Mesh.{Mesh}

-- the part for a meshed Pod
abbrev pub mesh_of : Config → Pod → Option Mesh
mesh_of config pod =
    if is_meshed config pod.meta then Some record { identity = identity_of config pod.meta.ns pod.account; opaque = record { ranges = opaque_ranges pod.meta } }
    else None

abbrev pub endpoint_of : Config → Option Pod → Endpoint
endpoint_of config None = record { labels = empty; mesh = None }
endpoint_of config (Some pod) = record { labels = labels_of pod; mesh = mesh_of config pod }

abbrev pub row_with : Option Mesh → FinMap (slice_cmp nat_cmp) (List ℕ) → Ip → ℕ → EndpointRow
row_with None labels ip port = record { ip = ip; port = port; weight = 10000; labels = labels; identity = None; tunnel = None; h2 = false }
row_with (Some mesh) labels ip port = record {
  ip = ip;
  port = port;
  weight = 10000;
  labels = labels;
  identity = Some mesh.identity;
  tunnel = Some tunnel_port;
  h2 = not (is_within mesh.opaque.ranges port);
}

-- the row for an address and port
abbrev pub row_at : Endpoint → Ip → ℕ → EndpointRow
row_at endpoint ip port = row_with endpoint.mesh endpoint.labels ip port

-- the number of a TCP port with the name
abbrev pub number_at : List ℕ → NamedPort → Option ℕ
number_at name port = if port.tcp && bytes_eq port.name name then Some port.port else None

-- the rows of an endpoint at ports with these numbers
abbrev pub rows_of_point : RowFor → List ℕ → Point → List EndpointRow
rows_of_point row numbers point = if point.ready then flat_map (λ ip. map (row point.pod ip) numbers) point.addrs else []
