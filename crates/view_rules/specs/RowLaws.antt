-- What a row of endpoints contains of the Pod that its endpoint targets.
use Rattle.std.specs.Prelude.{◌≡◌, ◌↔◌, ◌⊎◌, ℕ, false, IsTrue, List, Option, Some, None, Contains, codes}
use Rattle.std.specs.FinMap.{get}
use Rattle.k8s_meta.specs.PortSet.{is_within}
use Rattle.mesh_text.specs.Mesh.{identity_of, is_meshed, opaque_ranges}
use Rattle.net_cidr.specs.declared.ip.Ip.{Ip}
use Rattle.view_types.specs.Objects.{AtKeys, ObjectMap}
use Rattle.view_types.specs.declared.config.Config.{Config}
use Rattle.view_types.specs.declared.endpoint.EndpointRow.{EndpointRow}
use Rattle.view_types.specs.declared.object.Object.TheVariants as object
use Rattle.view_types.specs.declared.pod.Pod.{Pod}
use Rattle.view_rules.specs.Endpoints.{endpoints, pair_of, service_held}
use Rattle.view_rules.specs.Laws.{IsOfTheLeast, name_of_port}
use Rattle.view_rules.specs.PodRows.{pod_key, row_of}

-- a label of a row: the Pod's name, or its service account
abbrev pub IsLabel : Pod → List ℕ → List ℕ → Type 0
IsLabel pod key value = ((key ≡ codes "pod") × (value ≡ pod.meta.name)) ⊎ ((key ≡ codes "serviceaccount") × (value ≡ pod.account))

-- Exactly what a row contains, if `IsPod` holds of the Pod of its endpoint and of no other.
pub record SaysOfItsPod (config : Config) (IsPod : Pod → Type 0) (row : EndpointRow) : Type 0 where
  pub weight : row.weight ≡ 10000
  pub labels : (key value : List ℕ) → (get row.labels key ≡ Some value) ↔ ((pod : Pod) × IsPod pod × IsLabel pod key value)
  -- an identity, a tunnel and the hint for HTTP/2 are those of a Pod that is meshed
  pub identity : (name : List ℕ) → (row.identity ≡ Some name)
      ↔ ((pod : Pod) × IsPod pod × IsTrue (is_meshed config pod.meta) × (name ≡ identity_of config pod.meta.ns pod.account))
  pub tunnel : (port : ℕ) → (row.tunnel ≡ Some port) ↔ ((pod : Pod) × IsPod pod × IsTrue (is_meshed config pod.meta) × (port ≡ 4143))
  -- the hint, if no opaque range of the Pod contains the port
  pub h2 : IsTrue row.h2 ↔ ((pod : Pod) × IsPod pod × IsTrue (is_meshed config pod.meta) × (is_within (opaque_ranges pod.meta) row.port ≡ false))

-- the endpoint targets the Pod, by its namespace and name, and the Pod is held
abbrev pub IsTarget : ObjectMap → Option (List ℕ × List ℕ) → Pod → Type 0
IsTarget held None pod = ⊥
IsTarget held (Some target) pod = get held (pod_key target.0 target.1) ≡ Some (object.Pod pod)

-- the row has the address and port of the least place that yields them, and what the Pod there adds
pub record IsRowOfItsEndpoint (config : Config) (held : ObjectMap) (ns name port_name : List ℕ) (row : EndpointRow) : Type 0 where
  pub place : IsOfTheLeast config held ns name port_name row
  pub address : row.ip ≡ place.gives.from.ip
  pub port : row.port ≡ place.gives.from.entry.port
  pub says : SaysOfItsPod config (IsTarget held place.gives.from.point.pod) row

-- so is each row of a view of a Service
abbrev pub RowsSayOfTheirPods : Type 0
RowsSayOfTheirPods = (config : Config) (held : ObjectMap) → AtKeys held → (ns name port_name : List ℕ) (number : ℕ) (row : EndpointRow)
    → name_of_port number (service_held held ns name) ≡ Some port_name → Contains (endpoints config held ns name number).rows row
    → IsRowOfItsEndpoint config held ns name port_name row

-- so does a row that is made for the Pod that was found, if any, as for a target that is an address
abbrev pub RowOfSaysOfThePod : Type 0
RowOfSaysOfThePod = (config : Config) (found : Option Pod) (ip : Ip) (port : ℕ)
    → (pair_of (row_of config found ip port) ≡ (ip, port)) × SaysOfItsPod config (λ pod. found ≡ Some pod) (row_of config found ip port)
