-- The rows that come of an endpoint's parts are those of the definition.
use Rattle.std.proofs.Common.{◌≡◌, ℕ, Bool, true, false, cond, List, [], ◌∷◌, ◌++◌, Some, None, Option, map, refl, sym, ap, ◌∙◌}
use Rattle.std.specs.List.{filter_map, cons_option, flat_map}
use Rattle.net_cidr.specs.declared.ip.Ip.{Ip}
use Rattle.mesh_text.specs.Mesh.{is_meshed}
use Rattle.view_types.specs.declared.config.Config.{Config}
use Rattle.view_types.specs.declared.endpoint.EndpointRow.{EndpointRow}
use Rattle.view_types.specs.declared.pod.Pod.{Pod}
use Rattle.view_types.specs.declared.service.NamedPort.{NamedPort}
use Rattle.view_types.specs.declared.slice.Point.{Point}
use Rattle.view_rules.specs.Endpoints.{RowAt, RowFor, address_rows, point_rows, port_rows}
use Rattle.view_rules.specs.PodRows.{row_of}
use Rattle.view_scratch.specs.declared.endpoint.Endpoint.{Endpoint}
use Rattle.view_scratch.specs.Parts.{endpoint_of, number_at, row_at, rows_of_point}

pub rows_of_parts : (config : Config) (pod : Option Pod) (ip : Ip) (port : ℕ) → row_at (endpoint_of config pod) ip port ≡ row_of config pod ip port
rows_of_parts config None ip port = refl
rows_of_parts config (Some pod) ip port = of_pod (is_meshed config pod.meta) refl
  where
    of_pod : (meshed : Bool) → is_meshed config pod.meta ≡ meshed → row_at (endpoint_of config (Some pod)) ip port ≡ row_of config (Some pod) ip port
    of_pod true is = rw is refl
    of_pod false is = rw is refl

-- the rows at the ports of the name are those at their numbers
module _ (row : Ip → ℕ → EndpointRow) (name : List ℕ) (ip : Ip) where
  at_one : (rest : List NamedPort) (port : NamedPort) (named : Bool) → (cond named (row ip port.port ∷ []) []) ++ map (row ip) (filter_map (number_at name) rest) ≡ map (row ip) (cons_option (cond named (Some port.port) None) (filter_map (number_at name) rest))
  at_one rest port true = refl
  at_one rest port false = refl

  pub rows_at_numbers : (ports : List NamedPort) → address_rows row name ports ip ≡ map (row ip) (filter_map (number_at name) ports)
  rows_at_numbers [] = refl
  rows_at_numbers (port ∷ rest) = ap (λ rows. port_rows row name ip port ++ rows) (rows_at_numbers rest) ∙ at_one rest port _

-- and so for an endpoint, and for all of a slice
pub points_at_numbers : (row : RowFor) (name : List ℕ) (ports : List NamedPort) (points : List Point)
    → flat_map (rows_of_point row (filter_map (number_at name) ports)) points ≡ flat_map (point_rows row name ports) points
points_at_numbers row name ports points = λ i. flat_map (λ point. at_point point i) points
  where
    at_ready : (point : Point) (ready : Bool) → cond ready (flat_map (λ ip. map (row point.pod ip) (filter_map (number_at name) ports)) point.addrs) [] ≡ cond ready (flat_map (address_rows (row point.pod) name ports) point.addrs) []
    at_ready point true = λ i. flat_map (λ ip. sym (rows_at_numbers (row point.pod) name ip ports) i) point.addrs
    at_ready point false = refl

    at_point : (point : Point) → rows_of_point row (filter_map (number_at name) ports) point ≡ point_rows row name ports point
    at_point point = at_ready point point.ready

-- the rows of a ready endpoint that are added by its parts
pub adds_by_parts : (config : Config) (row : RowAt) (pod : Option Pod) (endpoint : Endpoint) (slice addrs : List Ip) (numbers : List ℕ) (before after : List EndpointRow)
    → after ≡ before ++ flat_map (λ ip. map (row_at endpoint ip) numbers) slice → slice ≡ addrs → endpoint ≡ endpoint_of config pod → row_of config pod ≡ row
    → after ≡ before ++ flat_map (λ ip. map (row ip) numbers) addrs
adds_by_parts config row pod endpoint slice addrs numbers before after adds here is same =
    adds ∙ (λ i. before ++ flat_map (λ ip. map (row_at (is i) ip) numbers) (here i))
    ∙ (λ i. before ++ flat_map (λ ip. map (λ port. rows_of_parts config pod ip port i) numbers) addrs)
    ∙ (λ i. before ++ flat_map (λ ip. map (same i ip) numbers) addrs)

-- the rows of a slice's endpoints that are added by the numbers of its ports
pub adds_by_numbers : (row : RowFor) (name : List ℕ) (numbers : List ℕ) (ports listed : List NamedPort) (slice points : List Point) (before after : List EndpointRow)
    → after ≡ before ++ flat_map (rows_of_point row numbers) slice → slice ≡ points → numbers ≡ filter_map (number_at name) listed → listed ≡ ports
    → after ≡ before ++ flat_map (point_rows row name ports) points
adds_by_numbers row name numbers ports listed slice points before after adds here are there =
    adds ∙ (λ i. before ++ flat_map (rows_of_point row (are i)) (here i))
    ∙ (λ i. before ++ flat_map (rows_of_point row (filter_map (number_at name) (there i))) points)
    ∙ ap (λ rows. before ++ rows) (points_at_numbers row name ports points)
