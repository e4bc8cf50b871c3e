-- The endpoints of a port of a Service.
use Rattle.std.specs.Prelude.{◌&&◌, ◌==◌, ℕ, Bool, true, false, if◌then◌else◌, List, [], ◌∷◌, Option, Some, None, codes, find, filter_map, flat_map, option_map}
use Rattle.std.specs.Ordering.{nat_cmp, ordering_then}
use Rattle.std.specs.Str.{bytes_eq}
use Rattle.std.specs.FinMap.{get, values}
use Rattle.std.specs.declared.cmp.Ordering.{Ordering}
use Rattle.mesh_base.specs.declared.key.Kind.TheVariants as kind
use Rattle.mesh_base.specs.declared.key.ObjKey.{ObjKey}
use Rattle.net_cidr.specs.Address.{ip_cmp}
use Rattle.net_cidr.specs.declared.ip.Ip.{Ip}
use Rattle.view_types.specs.Objects.{ObjectMap}
use Rattle.view_types.specs.declared.config.Config.{Config}
use Rattle.view_types.specs.declared.object.Object.{Object}
use Rattle.view_types.specs.declared.object.Object.TheVariants as object
use Rattle.view_types.specs.declared.service.Service.{Service}
use Rattle.view_types.specs.declared.service.NamedPort.{NamedPort}
use Rattle.view_types.specs.declared.slice.Slice.{Slice}
use Rattle.view_types.specs.declared.slice.Point.{Point}
use Rattle.view_types.specs.declared.slice.Family.{Family}
use Rattle.view_types.specs.declared.slice.Family.TheVariants.{V4, V6, Fqdn}
use Rattle.view_types.specs.declared.endpoint.EndpointRow.{EndpointRow}
use Rattle.view_types.specs.declared.endpoint.EndpointView.{EndpointView}
use Rattle.view_rules.specs.InOrder.{in_order_by}
use Rattle.view_rules.specs.PodRows.{row_for}

-- the key of a Service
abbrev pub service_key : List ℕ → List ℕ → ObjKey
service_key ns name = record { kind = kind.Service; ns = ns; name = name }

abbrev pub as_service : Object → Option Service
as_service (object.Service s) = Some s
as_service _ = None

abbrev pub service_found : Option Object → Option Service
service_found None = None
service_found (Some o) = as_service o

abbrev pub service_held : ObjectMap → List ℕ → List ℕ → Option Service
service_held held ns name = service_found (get held (service_key ns name))

-- the name of the first TCP port with the number
abbrev pub port_name : ℕ → List NamedPort → Option (List ℕ)
port_name number ports = option_map (λ p. p.name) (find (λ p. p.tcp && (p.port == number)) ports)

-- the Service that a slice's label names
abbrev pub service_of : Slice → Option (List ℕ)
service_of s = get s.meta.labels (codes "kubernetes.io/service-name")

abbrev pub is_text : List ℕ → Option (List ℕ) → Bool
is_text text None = false
is_text text (Some found) = bytes_eq found text

-- the slice, if the object is one of the Service's
abbrev pub slice_in : List ℕ → List ℕ → Object → Option Slice
slice_in ns name (object.EndpointSlice s) = if bytes_eq s.meta.ns ns && is_text name (service_of s) then Some s else None
slice_in ns name _ = None

abbrev pub slices_among : List ℕ → List ℕ → List Object → List Slice
slices_among ns name objects = filter_map (slice_in ns name) objects

-- the slices of a Service, in the order of their keys
abbrev pub slices_held : ObjectMap → List ℕ → List ℕ → List Slice
slices_held held ns name = slices_among ns name (values held)

-- makes a row for an address and port
abbrev pub RowAt : Type 0
RowAt = Ip → ℕ → EndpointRow

-- by the target of its endpoint
abbrev pub RowFor : Type 0
RowFor = Option (List ℕ × List ℕ) → RowAt

-- the rows from the places of a slice, in the order of the places
abbrev pub port_rows : RowAt → List ℕ → Ip → NamedPort → List EndpointRow
port_rows row port_name ip port = if port.tcp && bytes_eq port.name port_name then row ip port.port ∷ [] else []

abbrev pub address_rows : RowAt → List ℕ → List NamedPort → Ip → List EndpointRow
address_rows row port_name ports ip = flat_map (port_rows row port_name ip) ports

abbrev pub point_rows : RowFor → List ℕ → List NamedPort → Point → List EndpointRow
point_rows row port_name ports point = if point.ready then flat_map (address_rows (row point.pod) port_name ports) point.addrs else []

abbrev pub has_addresses : Family → Bool
has_addresses V4 = true
has_addresses V6 = true
has_addresses Fqdn = false

abbrev pub slice_rows : RowFor → List ℕ → Slice → List EndpointRow
slice_rows row port_name s = if has_addresses s.family then flat_map (point_rows row port_name s.ports) s.points else []

-- by address, and then by port
abbrev pub pair_cmp : Ip × ℕ → Ip × ℕ → Ordering
pair_cmp a b = ordering_then (ip_cmp a.0 b.0) (nat_cmp a.1 b.1)

abbrev pub pair_of : EndpointRow → Ip × ℕ
pair_of row = (row.ip, row.port)

-- each pair of address and port once, in order, by the first row of the pair
abbrev pub first_rows : List EndpointRow → List EndpointRow
first_rows rows = in_order_by pair_cmp pair_of rows

-- the rows at the ports with a name
abbrev pub rows_from : RowFor → List Slice → Option (List ℕ) → List EndpointRow
rows_from row slices None = []
rows_from row slices (Some port_name) = first_rows (flat_map (slice_rows row port_name) slices)

abbrev pub no_endpoints : EndpointView
no_endpoints = record { exists = false; rows = [] }

-- the endpoints of the port of a Service with these slices
abbrev pub endpoints_from : RowFor → List Slice → ℕ → Option Service → EndpointView
endpoints_from row slices port None = no_endpoints
endpoints_from row slices port (Some s) =
    if s.external then no_endpoints
    else record { exists = true; rows = rows_from row slices (port_name port s.ports) }

-- the endpoints of the port of the Service of the namespace and name, over these objects
abbrev pub endpoints : Config → ObjectMap → List ℕ → List ℕ → ℕ → EndpointView
endpoints config held ns name port = endpoints_from (row_for config held) (slices_held held ns name) port (service_held held ns name)
