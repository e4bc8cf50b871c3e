-- A pair stands in a view exactly where some place gives it.
use Rattle.std.proofs.Common.{◌≡◌, ◌↔◌, ℕ, Bool, true, false, cond, ◌&&◌, List, [], ◌∷◌, map, Option, Some, None, inl, inr, refl, sym, ap, subst, ◌∙◌}
use Rattle.std.specs.List.{Contains, flat_map}
use Rattle.std.specs.Str.{bytes_eq}
use Rattle.std.specs.Cmp.Lexicographic.{bytes_decides}
use Rattle.std.specs.FinMap.{values}
use Rattle.mesh_base.proofs.KeyOrder.{keys_total}
use Rattle.mesh_text.specs.Mesh.{is_meshed}
use Rattle.net_cidr.specs.declared.ip.Ip.{Ip}
use Rattle.view_types.specs.declared.config.Config.{Config}
use Rattle.view_types.specs.declared.pod.Pod.{Pod}
use Rattle.view_types.specs.declared.endpoint.EndpointRow.{EndpointRow}
use Rattle.view_types.specs.declared.endpoint.EndpointView.{EndpointView}
use Rattle.view_types.specs.Objects.{ObjectMap}
use Rattle.view_types.specs.declared.object.Object.{Object}
use Rattle.view_types.specs.declared.object.Object.TheVariants.{EndpointSlice}
use Rattle.view_types.specs.declared.service.Service.{Service}
use Rattle.view_types.specs.declared.slice.Slice.{Slice}
use Rattle.view_rules.specs.Endpoints.{RowFor, address_rows, endpoints_from, has_addresses, is_text, pair_of, point_rows, port_name, port_rows, rows_from, service_held, service_of, slice_in, slice_rows, slices_held}
use Rattle.view_rules.specs.PodRows.{bare_row, labelled_row, meshed_row, pod_held, row_for, row_of}
use Rattle.view_rules.specs.Laws.{IsGiven, PairsAreGiven, name_of_port}
use Rattle.view_rules.proofs.Among.{Among, among_flat, among_found, among_from, among_map, contained, from_flat, from_found, from_map}
use Rattle.view_rules.proofs.Entries.{held_somewhere, stands}
use Rattle.view_rules.proofs.FirstRows.{pairs_from, pairs_kept}

pub both_hold : (a b : Bool) → a && b ≡ true → (a ≡ true) × (b ≡ true)
both_hold true b e = (refl, e)
both_hold false b e = absurd (cc e)

-- items that stand only where a test holds
held_back : {X : Type 0} (b : Bool) (xs : List X) (x : X) → Among x (cond b xs []) → (b ≡ true) × Among x xs
held_back true xs x h = (refl, h)
held_back false xs x h = absurd h

pub let_through : {X : Type 0} (b : Bool) (xs : List X) (x : X) → b ≡ true → Among x xs → Among x (cond b xs [])
let_through b xs x e h = subst (λ b. Among x (cond b xs [])) (sym e) h

only : {X : Type 0} (x y : X) → Among y (x ∷ []) → x ≡ y
only x y h = elim h [ inl e ↦ e | inr r ↦ absurd r ]

text_is : (text : List ℕ) (found : Option (List ℕ)) → is_text text found ≡ true → found ≡ Some text
text_is text None e = absurd (cc e)
text_is text (Some found) e = ap Some ((bytes_decides found text).0 e)

pub if_so : {X : Type 0} (b : Bool) (x y : X) → cond b (Some x) None ≡ Some y → (b ≡ true) × (x ≡ y)
if_so true x y e = (refl, cc e)
if_so false x y e = absurd (cc e)

-- a slice of the Service, and its object
pub slice_is : (ns name : List ℕ) (o : Object) (s : Slice) → slice_in ns name o ≡ Some s → (EndpointSlice s ≡ o) × (s.meta.ns ≡ ns) × (service_of s ≡ Some name)
slice_is ns name (EndpointSlice t) s e =
    let is = if_so _ t s e in
    let tests = both_hold _ _ is.0 in
    (ap EndpointSlice (sym is.1), subst (λ s. s.meta.ns ≡ ns) is.1 ((bytes_decides t.meta.ns ns).0 tests.0), subst (λ s. service_of s ≡ Some name) is.1 (text_is name (service_of t) tests.1))
slice_is ns name _ s e = absurd (cc e)

pub is_slice : (ns name : List ℕ) (s : Slice) → s.meta.ns ≡ ns → service_of s ≡ Some name → slice_in ns name (EndpointSlice s) ≡ Some s
is_slice ns name s here named =
    let in_ns = (bytes_decides s.meta.ns ns).1 here in
    let same : is_text name (service_of s) ≡ true = ap (is_text name) named ∙ (bytes_decides name name).1 refl in
    rw (in_ns, same) refl

-- a row has the address and port that it is made at
abbrev IsOwn : RowFor → Type 0
IsOwn row_of = (target : Option (List ℕ × List ℕ)) (ip : Ip) (port : ℕ) → pair_of (row_of target ip port) ≡ (ip, port)

made_at : (row_of : RowFor) → IsOwn row_of → (target : Option (List ℕ × List ℕ)) (ip : Ip) (port : ℕ) (row : EndpointRow) (pair : Ip × ℕ) → Among row (row_of target ip port ∷ []) → pair_of row ≡ pair → (ip, port) ≡ pair
made_at row_of own target ip port row pair at is = sym (own target ip port) ∙ ap pair_of (only (row_of target ip port) row at) ∙ is

module _ (row_of : RowFor) (own : IsOwn row_of) (held : ObjectMap) (ns name port_name : List ℕ) where
  -- the rows of all places
  abbrev placed : List EndpointRow
  placed = flat_map (slice_rows row_of port_name) (slices_held held ns name)

  place_of : (pair : Ip × ℕ) → Among pair (map pair_of placed) → IsGiven held ns name (Some port_name) pair.0 pair.1
  place_of pair h =
      let at_row = from_map pair_of placed pair h in
      let row = at_row.0 in
      let at_slice = from_flat (slice_rows row_of port_name) (slices_held held ns name) row at_row.1 in
      let slice = at_slice.0 in
      let at_object = from_found (slice_in ns name) (values held) slice at_slice.1 in
      let is = slice_is ns name at_object.0 slice at_object.2 in
      let at_key = held_somewhere keys_total held (EndpointSlice slice) (subst (λ o. Among o (values held)) (sym is.0) at_object.1) in
      let points = held_back (has_addresses slice.family) _ row at_slice.2 in
      let at_point = from_flat (point_rows row_of port_name slice.ports) slice.points row points.1 in
      let point = at_point.0 in
      let addresses = held_back point.ready _ row at_point.2 in
      let at_address = from_flat (address_rows (row_of point.pod) port_name slice.ports) point.addrs row addresses.1 in
      let at_port = from_flat (port_rows (row_of point.pod) port_name at_address.0) slice.ports row at_address.2 in
      let entry = at_port.0 in
      let tests = held_back (entry.tcp && bytes_eq entry.name port_name) _ row at_port.2 in
      let tcp = both_hold entry.tcp _ tests.0 in
      let made : (at_address.0, entry.port) ≡ pair = made_at row_of own point.pod at_address.0 entry.port row pair tests.1 at_row.2 in
      record {
        slice = slice;
        key = at_key.0;
        at_key = at_key.1;
        in_namespace = is.1;
        of_service = is.2;
        with_addresses = points.0;
        point = point;
        among_points = contained slice.points point at_point.1;
        ready = addresses.0;
        among_addresses = contained point.addrs pair.0 (subst (λ (ip : Ip). Among ip point.addrs) (ap (λ (p : Ip × ℕ). p.0) made) at_address.1);
        entry = entry;
        among_ports = contained slice.ports entry at_port.1;
        tcp = tcp.0;
        same_name = ap Some (sym ((bytes_decides entry.name port_name).0 tcp.1));
        number = ap (λ (p : Ip × ℕ). p.1) made;
      }

  at_place : (ip : Ip) (port : ℕ) → IsGiven held ns name (Some port_name) ip port → Among (ip, port) (map pair_of placed)
  at_place ip port g =
      let named : g.entry.name ≡ port_name = cc g.same_name in
      let row = row_of g.point.pod ip g.entry.port in
      let tests : g.entry.tcp && bytes_eq g.entry.name port_name ≡ true = rw (g.tcp, (bytes_decides g.entry.name port_name).1 named) refl in
      let of_port = let_through _ (row ∷ []) row tests (inl refl) in
      let of_address = among_flat (port_rows (row_of g.point.pod) port_name ip) g.slice.ports g.entry row (among_from g.slice.ports g.entry g.among_ports) of_port in
      let of_addresses = among_flat (address_rows (row_of g.point.pod) port_name g.slice.ports) g.point.addrs ip row (among_from g.point.addrs ip g.among_addresses) of_address in
      let of_point = let_through g.point.ready _ row g.ready of_addresses in
      let of_points = among_flat (point_rows row_of port_name g.slice.ports) g.slice.points g.point row (among_from g.slice.points g.point g.among_points) of_point in
      let of_slice = let_through (has_addresses g.slice.family) _ row g.with_addresses of_points in
      let slice_found = among_found (slice_in ns name) (values held) (EndpointSlice g.slice) g.slice (stands keys_total held g.key (EndpointSlice g.slice) g.at_key) (is_slice ns name g.slice g.in_namespace g.of_service) in
      let all = among_flat (slice_rows row_of port_name) (slices_held held ns name) g.slice row slice_found of_slice in
      subst (λ (pair : Ip × ℕ). Among pair (map pair_of placed)) (own g.point.pod ip g.entry.port ∙ (λ i. (ip, g.number i))) (among_map pair_of placed row all)

not_given : (held : ObjectMap) (ns name : List ℕ) (ip : Ip) (port : ℕ) → IsGiven held ns name None ip port → ⊥
not_given held ns name ip port g = absurd (cc g.same_name)

by_name : (row_of : RowFor) → IsOwn row_of → (held : ObjectMap) (ns name : List ℕ) (ip : Ip) (port : ℕ) (named : Option (List ℕ))
    → Contains (map pair_of (rows_from row_of (slices_held held ns name) named)) (ip, port) ↔ IsGiven held ns name named ip port
by_name row_of own held ns name ip port None = (λ h. absurd (among_from [] (ip, port) h), λ g. absurd (not_given held ns name ip port g))
by_name row_of own held ns name ip port (Some port_name) = (
  λ h. place_of row_of own held ns name port_name (ip, port) (pairs_from (placed row_of own held ns name port_name) (ip, port) (among_from _ (ip, port) h)),
  λ g. contained _ (ip, port) (pairs_kept (placed row_of own held ns name port_name) (ip, port) (at_place row_of own held ns name port_name ip port g)),
)

by_service : (row_of : RowFor) → IsOwn row_of → (held : ObjectMap) (ns name : List ℕ) (number : ℕ) (ip : Ip) (port : ℕ) (found : Option Service)
    → Contains (map pair_of (endpoints_from row_of (slices_held held ns name) number found).rows) (ip, port) ↔ IsGiven held ns name (name_of_port number found) ip port
by_service row_of own held ns name number ip port None = by_name row_of own held ns name ip port None
by_service row_of own held ns name number ip port (Some s) =
    elim s.external as (λ b. Contains (map pair_of (cond {A = EndpointView} b (record { exists = false; rows = [] }) (record { exists = true; rows = rows_from row_of (slices_held held ns name) (port_name number s.ports) })).rows) (ip, port)
    ↔ IsGiven held ns name (cond b None (port_name number s.ports)) ip port) [
      | true ↦ by_name row_of own held ns name ip port None
      | false ↦ by_name row_of own held ns name ip port (port_name number s.ports)
    ]

-- what a Pod adds leaves the address and port
pub keeps_pair : (config : Config) (pod : Option Pod) (ip : Ip) (port : ℕ) → pair_of (row_of config pod ip port) ≡ (ip, port)
keeps_pair config None ip port = refl
keeps_pair config (Some pod) ip port =
    let row = labelled_row pod (bare_row ip port) in
    elim (is_meshed config pod.meta) as (λ b. pair_of (cond b (meshed_row config pod port row) row) ≡ (ip, port)) [ true ↦ refl | false ↦ refl ]

pub pairs_are_given : PairsAreGiven
pairs_are_given config held ns name number ip port = by_service (row_for config held) (λ target. keeps_pair config (pod_held held target)) held ns name number ip port (service_held held ns name)
