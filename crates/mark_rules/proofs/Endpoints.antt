-- Endpoints stay where no mark of a change is asked for.
use Rattle.std.proofs.Common.{◌≡◌, ℕ, true, false, cond, List, [], ◌∷◌, Some, None, Option, refl, sym, ap, ◌∙◌}
use Rattle.std.specs.List.{flat_map}
use Rattle.view_types.specs.Objects.{ObjectMap}
use Rattle.view_types.specs.declared.config.Config.{Config}
use Rattle.view_types.specs.declared.endpoint.EndpointRow.{EndpointRow}
use Rattle.view_types.specs.declared.mark.Mark.{Mark}
use Rattle.view_types.specs.declared.mark.Mark.TheVariants.{Obj, SlicesOf}
use Rattle.view_types.specs.declared.service.NamedPort.{NamedPort}
use Rattle.view_types.specs.declared.service.Service.{Service}
use Rattle.view_types.specs.declared.slice.Point.{Point}
use Rattle.view_types.specs.declared.slice.Slice.{Slice}
use Rattle.view_rules.specs.Endpoints.{address_rows, endpoints_from, first_rows, has_addresses, no_endpoints, point_rows, port_name, rows_from, service_found, service_held, service_key, slice_in, slice_rows, slices_held}
use Rattle.view_rules.specs.PodRows.{pod_found, pod_held, pod_key, row_for, row_of}
use Rattle.mark_rules.specs.Changes.{Leads}
use Rattle.mark_rules.specs.Laws.{EndpointsStay}
use Rattle.mark_rules.specs.Marks.{meets}
use Rattle.mark_rules.specs.Reads.{endpoint_reads, point_marks, pods_of, target_marks}
use Rattle.mark_rules.specs.Rows.{endpoint_row}
use Rattle.mark_rules.specs.declared.keys.EndpointKey.{EndpointKey}
use Rattle.mark_rules.proofs.MarkedObjects.{found_stay, held_stays}
use Rattle.mark_rules.proofs.MarkTests.{misses_one, neither_first, neither_second, stay_joined}
use Rattle.mark_rules.proofs.SortsOfMarks.{slice_has}

module _ {changed : List Mark} {before after : ObjectMap} (leads : Leads changed before after) where
  target_stays : (target : Option (List ℕ × List ℕ)) → meets (target_marks target) changed ≡ false → pod_held before target ≡ pod_held after target
  target_stays None misses = refl
  target_stays (Some pod) misses = ap pod_found (held_stays leads (pod_key pod.0 pod.1) (neither_first _ _ misses))

  module _ (config : Config) (port_name : List ℕ) where
    point_stays : (ports : List NamedPort) (point : Point) → meets (point_marks point) changed ≡ false
        → point_rows (row_for config before) port_name ports point ≡ point_rows (row_for config after) port_name ports point
    point_stays ports point misses =
        elim (point.ready) as (λ b. meets (cond b (target_marks point.pod) []) changed ≡ false
        → cond b (flat_map (address_rows (row_for config before point.pod) port_name ports) point.addrs) []
        ≡ cond b (flat_map (address_rows (row_for config after point.pod) port_name ports) point.addrs) []) [
          | true ↦ λ e. ap (λ pod. flat_map (address_rows (row_of config pod) port_name ports) point.addrs) (target_stays point.pod e)
          | false ↦ λ e. refl
        ] misses

    pub slice_stays : (slice : Slice) → meets (pods_of slice) changed ≡ false → slice_rows (row_for config before) port_name slice ≡ slice_rows (row_for config after) port_name slice
    slice_stays slice misses =
        elim (has_addresses slice.family) as (λ b. meets (cond b (flat_map point_marks slice.points) []) changed ≡ false
        → cond b (flat_map (point_rows (row_for config before) port_name slice.ports) slice.points) []
        ≡ cond b (flat_map (point_rows (row_for config after) port_name slice.ports) slice.points) []) [
          | true ↦ λ e. stay_joined changed point_marks (point_rows (row_for config before) port_name slice.ports) (point_rows (row_for config after) port_name slice.ports) (point_stays slice.ports) slice.points e
          | false ↦ λ e. refl
        ] misses

  -- a Service
  pub service_stays : (ns name : List ℕ) → meets (Obj (service_key ns name) ∷ []) changed ≡ false → service_held before ns name ≡ service_held after ns name
  service_stays ns name misses = ap service_found (held_stays leads (service_key ns name) (neither_first _ _ misses))

  module _ (config : Config) (key : EndpointKey) (misses : meets (endpoint_reads before key) changed ≡ false) where
    its_service : service_held before key.ns key.name ≡ service_held after key.ns key.name
    its_service = service_stays key.ns key.name (misses_one changed (Obj (service_key key.ns key.name)) (neither_first _ _ misses))

    its_slices : slices_held before key.ns key.name ≡ slices_held after key.ns key.name
    its_slices = found_stay leads (SlicesOf key.ns key.name ∷ []) (misses_one changed (SlicesOf key.ns key.name) (neither_first _ _ (neither_second _ _ misses))) (slice_in key.ns key.name) (slice_has key.ns key.name)

    rows_stay : (named : Option (List ℕ)) → rows_from (row_for config before) (slices_held before key.ns key.name) named ≡ rows_from (row_for config after) (slices_held after key.ns key.name) named
    rows_stay None = refl
    rows_stay (Some port_name) = ap first_rows
        (stay_joined changed pods_of (slice_rows (row_for config before) port_name) (slice_rows (row_for config after) port_name) (slice_stays config port_name) (slices_held before key.ns key.name) (neither_second _ _ (neither_second _ _ misses))
        ∙ ap (flat_map (slice_rows (row_for config after) port_name)) its_slices)

    view_stays : (found : Option Service)
        → endpoints_from (row_for config before) (slices_held before key.ns key.name) key.port found ≡ endpoints_from (row_for config after) (slices_held after key.ns key.name) key.port found
    view_stays None = refl
    view_stays (Some s) = ap (λ (rows : List EndpointRow). cond s.external no_endpoints (record { exists = true; rows = rows })) (rows_stay (port_name key.port s.ports))

    row_stays : endpoint_row config after key ≡ endpoint_row config before key
    row_stays = sym (view_stays (service_held before key.ns key.name) ∙ ap (endpoints_from (row_for config after) (slices_held after key.ns key.name) key.port) its_service)

    reads_stay : endpoint_reads after key ≡ endpoint_reads before key
    reads_stay = ap (λ slices. Obj (service_key key.ns key.name) ∷ SlicesOf key.ns key.name ∷ flat_map pods_of slices) (sym its_slices)

pub endpoints_stay : EndpointsStay
endpoints_stay config key changed before after leads misses = (row_stays leads config key misses, reads_stay leads config key misses)
