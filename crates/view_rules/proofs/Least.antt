-- The row of an address and port comes from the least place that gives it.
use Rattle.std.proofs.Common.{◌≡◌, ◌≢◌, ℕ, zero, suc, ◌<◌, Bool, true, false, cond, ◌&&◌, List, [], ◌∷◌, map, Option, Some, None, inl, refl, sym, ap, subst, ◌∙◌, arith}
use Rattle.std.specs.List.{AllByRecursion, Contains, find, flat_map, slice_get}
use Rattle.std.specs.List.Sorted.{IsStrictlySortedBy}
use Rattle.std.specs.FinMap.{get, values}
use Rattle.std.specs.Str.{bytes_eq}
use Rattle.std.specs.Cmp.{ranks, tied_itself}
use Rattle.std.specs.Cmp.Lexicographic.{bytes_decides, nat_list_cmp_total, slice_cmp}
use Rattle.std.specs.Ordering.{MatchOrdering, is_eq, nat_cmp, ordering_then}
use Rattle.std.specs.declared.cmp.Ordering.{Ordering}
use Rattle.std.specs.declared.cmp.Ordering.TheVariants.{Less, Equal, Greater}
use Rattle.mesh_base.proofs.KeyOrder.{keys_total}
use Rattle.mesh_base.specs.declared.key.ObjKey.{ObjKey}
use Rattle.net_cidr.specs.declared.ip.Ip.{Ip}
use Rattle.view_types.specs.Objects.{AtKeys, ObjectMap}
use Rattle.view_types.specs.declared.config.Config.{Config}
use Rattle.view_types.specs.declared.endpoint.EndpointRow.{EndpointRow}
use Rattle.view_types.specs.declared.endpoint.EndpointView.{EndpointView}
use Rattle.view_types.specs.declared.object.Object.TheVariants as object
use Rattle.view_types.specs.declared.service.Service.{Service}
use Rattle.view_types.specs.declared.slice.Point.{Point}
use Rattle.view_types.specs.declared.slice.Slice.{Slice}
use Rattle.view_rules.specs.Endpoints.{RowFor, address_rows, endpoints_from, first_rows, has_addresses, no_endpoints, pair_cmp, pair_of, point_rows, port_name, port_rows, rows_from, service_held, service_of, slice_in, slice_rows, slices_held}
use Rattle.view_rules.specs.PodRows.{row_for}
use Rattle.view_rules.specs.Laws.{Gives, GivesFrom, IsOfTheLeast, Place, RowsAreOfTheLeast, is_at, name_of_port, place_cmp, slice_key}
use Rattle.view_rules.proofs.Among.{Among, among_flat, among_found, from_found}
use Rattle.view_rules.proofs.Entries.{held_somewhere, stands}
use Rattle.view_rules.proofs.FirstRows.{are_first}
use Rattle.view_rules.proofs.Firsts.{FirstAt, first_at, found_behind, found_only, level, level_end, not_before, some_place, stands_at}
use Rattle.view_rules.proofs.Given.{both_hold, is_slice, let_through, slice_is}
use Rattle.view_rules.proofs.Pairs.{pairs_total}
use Rattle.view_rules.proofs.Slices.{slices_by_name}

-- what stands at one place is one thing
one_at : {X : Type 0} (xs : List X) (j k : ℕ) (x y : X) → j ≡ k → slice_get xs j ≡ Some x → slice_get xs k ≡ Some y → y ≡ x
one_at xs j k x y same at at' = let e : Some y ≡ Some x = sym at' ∙ ap (slice_get xs) (sym same) ∙ at in cc e

-- ---- a place that gives a row, in the lists of rows

module _ (row_of : RowFor) (port_name : List ℕ) (s : Slice) (place : Place) (row : EndpointRow) (g : GivesFrom row_of port_name s place row) where
  of_port : Among row (port_rows (row_of g.point.pod) port_name g.ip g.entry)
  of_port =
      let tests : g.entry.tcp && bytes_eq g.entry.name port_name ≡ true = rw (g.tcp, (bytes_decides g.entry.name port_name).1 g.same_name) refl in
      let_through _ (row_of g.point.pod g.ip g.entry.port ∷ []) row tests (inl g.made)

  of_address : Among row (address_rows (row_of g.point.pod) port_name s.ports g.ip)
  of_address = among_flat (port_rows (row_of g.point.pod) port_name g.ip) s.ports g.entry row (stands_at s.ports place.port g.entry g.at_port) of_port

  of_point : Among row (point_rows row_of port_name s.ports g.point)
  of_point =
      let_through g.point.ready _ row g.ready
      (among_flat (address_rows (row_of g.point.pod) port_name s.ports) g.point.addrs g.ip row (stands_at g.point.addrs place.address g.ip g.at_address) of_address)

  of_slice : Among row (slice_rows row_of port_name s)
  of_slice =
      let_through (has_addresses s.family) _ row g.with_addresses
      (among_flat (point_rows row_of port_name s.ports) s.points g.point row (stands_at s.points place.point g.point g.at_point) of_point)

-- ---- the first place

module _ (row_of : RowFor) (port_name : List ℕ) (p : EndpointRow → Bool) (row : EndpointRow) where
  record First (s : Slice) : Type 0 where
    with_addresses : has_addresses s.family ≡ true
    points : FirstAt p (point_rows row_of port_name s.ports) s.points row
    ready : points.item.ready ≡ true
    addresses : FirstAt p (address_rows (row_of points.item.pod) port_name s.ports) points.item.addrs row
    ports : FirstAt p (port_rows (row_of points.item.pod) port_name addresses.item) s.ports row
    tests : ports.item.tcp && bytes_eq ports.item.name port_name ≡ true
    made : row_of points.item.pod addresses.item ports.item.port ≡ row

  first_in : (s : Slice) → find p (slice_rows row_of port_name s) ≡ Some row → First s
  first_in s e =
      let in_slice = found_behind p (has_addresses s.family) (flat_map (point_rows row_of port_name s.ports) s.points) row e in
      let points = first_at p (point_rows row_of port_name s.ports) s.points row in_slice.1 in
      let in_point = found_behind p points.item.ready (flat_map (address_rows (row_of points.item.pod) port_name s.ports) points.item.addrs) row points.found in
      let addresses = first_at p (address_rows (row_of points.item.pod) port_name s.ports) points.item.addrs row in_point.1 in
      let ports = first_at p (port_rows (row_of points.item.pod) port_name addresses.item) s.ports row addresses.found in
      let in_port = found_behind p (ports.item.tcp && bytes_eq ports.item.name port_name) (row_of points.item.pod addresses.item ports.item.port ∷ []) row ports.found in
      record {
        with_addresses = in_slice.0;
        points = points;
        ready = in_point.0;
        addresses = addresses;
        ports = ports;
        tests = in_port.0;
        made = found_only p (row_of points.item.pod addresses.item ports.item.port) row in_port.1;
      }

  gives_from : (s : Slice) (f : First s) → GivesFrom row_of port_name s (record { slice = s.meta.name; point = f.points.place; address = f.addresses.place; port = f.ports.place }) row
  gives_from s f =
      let tests = both_hold f.ports.item.tcp _ f.tests in
      record {
        with_addresses = f.with_addresses;
        point = f.points.item;
        at_point = f.points.at;
        ready = f.ready;
        ip = f.addresses.item;
        at_address = f.addresses.at;
        entry = f.ports.item;
        at_port = f.ports.at;
        tcp = tests.0;
        same_name = (bytes_decides f.ports.item.name port_name).0 tests.1;
        made = f.made;
      }

  -- no place of the slice that gives a row that passes is before it
  least_in : (s : Slice) (f : First s) (other : Place) (found : EndpointRow) → GivesFrom row_of port_name s other found → p found ≡ true
      → ordering_then (nat_cmp f.points.place other.point) (ordering_then (nat_cmp f.addresses.place other.address) (nat_cmp f.ports.place other.port)) ≢ Greater
  least_in s f other found g is =
      level f.points.place other.point _
      (not_before p (point_rows row_of port_name s.ports) s.points row f.points other.point g.point found g.at_point (of_point row_of port_name s other found g) is)
      (λ same.
      let point : g.point ≡ f.points.item = one_at s.points f.points.place other.point f.points.item g.point same f.points.at g.at_point in
      let at_address : slice_get f.points.item.addrs other.address ≡ Some g.ip = subst (λ (q : Point). slice_get q.addrs other.address ≡ Some g.ip) point g.at_address in
      let of_its_address : Among found (address_rows (row_of f.points.item.pod) port_name s.ports g.ip) = subst (λ (q : Point). Among found (address_rows (row_of q.pod) port_name s.ports g.ip)) point (of_address row_of port_name s other found g) in
      level f.addresses.place other.address _
      (not_before p (address_rows (row_of f.points.item.pod) port_name s.ports) f.points.item.addrs row f.addresses other.address g.ip found at_address of_its_address is)
      (λ same.
      let ip : g.ip ≡ f.addresses.item = one_at f.points.item.addrs f.addresses.place other.address f.addresses.item g.ip same f.addresses.at at_address in
      let among : Among found (port_rows (row_of f.points.item.pod) port_name f.addresses.item g.entry) = subst (λ (q : Point × Ip). Among found (port_rows (row_of q.0.pod) port_name q.1 g.entry)) (λ i. (point i, ip i)) (of_port row_of port_name s other found g) in
      level_end f.ports.place other.port
      (not_before p (port_rows (row_of f.points.item.pod) port_name f.addresses.item) s.ports row f.ports other.port g.entry found g.at_port among is)))

-- ---- among the slices held

-- slices further on have greater names
names_reach : (n : List ℕ) (ss : List Slice) (j : ℕ) (t : Slice) → AllByRecursion (λ m. slice_cmp nat_cmp n m ≡ Less) (map (λ (s : Slice). s.meta.name) ss) → slice_get ss j ≡ Some t → slice_cmp nat_cmp n t.meta.name ≡ Less
names_reach n [] j t h at = absurd (cc at)
names_reach n (s ∷ ss) zero t h at = let is : s ≡ t = cc at in subst (λ (t : Slice). slice_cmp nat_cmp n t.meta.name ≡ Less) is h.0
names_reach n (s ∷ ss) (suc j) t h at = names_reach n ss j t h.1 at

names_rise : (ss : List Slice) (k j : ℕ) (s t : Slice) → IsStrictlySortedBy (slice_cmp nat_cmp) (map (λ (s : Slice). s.meta.name) ss) → slice_get ss k ≡ Some s → slice_get ss j ≡ Some t → k < j → slice_cmp nat_cmp s.meta.name t.meta.name ≡ Less
unfolding IsStrictlySortedBy
names_rise [] k j s t h at at' lt = absurd (cc at)
names_rise (r ∷ rs) zero zero s t h at at' lt = absurd (omega arith)
names_rise (r ∷ rs) zero (suc j) s t h at at' lt = let is : r ≡ s = cc at in subst (λ (s : Slice). slice_cmp nat_cmp s.meta.name t.meta.name ≡ Less) is (names_reach r.meta.name rs j t h.0 at')
names_rise (r ∷ rs) (suc k) zero s t h at at' lt = absurd (omega arith)
names_rise (r ∷ rs) (suc k) (suc j) s t h at at' lt = names_rise rs k j s t h.1 at at' (omega arith)

by_slice : (ss : List Slice) (k j : ℕ) (s t : Slice) (rest : Ordering) → IsStrictlySortedBy (slice_cmp nat_cmp) (map (λ (s : Slice). s.meta.name) ss) → slice_get ss k ≡ Some s → slice_get ss j ≡ Some t
    → (j < k → ⊥) → (k ≡ j → rest ≢ Greater) → ordering_then (slice_cmp nat_cmp s.meta.name t.meta.name) rest ≢ Greater
by_slice ss k j s t rest rise at at' low same =
    elim (nat_cmp k j) as (λ o. MatchOrdering o (k < j) (k ≡ j) (j < k) → ordering_then (slice_cmp nat_cmp s.meta.name t.meta.name) rest ≢ Greater) [
      | Less ↦ λ lt. subst (λ o. ordering_then o rest ≢ Greater) (sym (names_rise ss k j s t rise at at' lt)) (λ e. absurd (cc e))
      | Equal ↦ λ is.
          let one : t ≡ s = one_at ss k j s t is at at' in
          let tied : slice_cmp nat_cmp s.meta.name t.meta.name ≡ Equal = ap (λ (t : Slice). slice_cmp nat_cmp s.meta.name t.meta.name) one ∙ tied_itself nat_list_cmp_total s.meta.name in
          subst (λ o. ordering_then o rest ≢ Greater) (sym tied) (same is)
      | Greater ↦ λ gt. absurd (low gt)
    ] (ranks k j)

abbrev port_name_of : ℕ → Service → Option (List ℕ)
port_name_of number s = port_name number s.ports

module _ (config : Config) (held : ObjectMap) (at_keys : AtKeys held) (ns name port_name : List ℕ) where
  abbrev row_at : RowFor
  row_at = row_for config held

  -- a slice of the Service is held at its own key
  held_slice : (s : Slice) → Among s (slices_held held ns name) → (get held (slice_key ns s.meta.name) ≡ Some (object.EndpointSlice s)) × (service_of s ≡ Some name)
  held_slice s among =
      let found = from_found (slice_in ns name) (values held) s among in
      let is = slice_is ns name found.0 s found.2 in
      let at = held_somewhere keys_total held (object.EndpointSlice s) (subst (λ o. Among o (values held)) (sym is.0) found.1) in
      let own : slice_key s.meta.ns s.meta.name ≡ at.0 = at_keys at.0 (object.EndpointSlice s) at.1 in
      let key : at.0 ≡ slice_key ns s.meta.name = sym own ∙ ap (λ (n : List ℕ). slice_key n s.meta.name) is.1 in
      (subst (λ (k : ObjKey). get held k ≡ Some (object.EndpointSlice s)) key at.1, is.2)

  slice_of : (n : List ℕ) (s : Slice) → get held (slice_key ns n) ≡ Some (object.EndpointSlice s) → service_of s ≡ Some name → Among s (slices_held held ns name) × (s.meta.name ≡ n)
  slice_of n s at of_service =
      let own : slice_key s.meta.ns s.meta.name ≡ slice_key ns n = at_keys _ (object.EndpointSlice s) at in
      let here : s.meta.ns ≡ ns = ap (λ (k : ObjKey). k.ns) own in
      (among_found (slice_in ns name) (values held) (object.EndpointSlice s) s (stands keys_total held (slice_key ns n) (object.EndpointSlice s) at) (is_slice ns name s here of_service), ap (λ (k : ObjKey). k.name) own)

  abbrev all_rows : List EndpointRow
  all_rows = flat_map (slice_rows row_at port_name) (slices_held held ns name)

  least_of : (row : EndpointRow) (slices : FirstAt (is_at (pair_of row)) (slice_rows row_at port_name) (slices_held held ns name) row)
      (f : First row_at port_name (is_at (pair_of row)) row slices.item)
      (other : Place) (found : EndpointRow) → Gives config held ns name port_name other found → pair_of found ≡ pair_of row
      → place_cmp (record { slice = slices.item.meta.name; point = f.points.place; address = f.addresses.place; port = f.ports.place }) other ≢ Greater
  least_of row slices f other found g same =
      let p = is_at (pair_of row) in
      let ss = slices_held held ns name in
      let is : p found ≡ true = ap (λ q. is_eq (pair_cmp (pair_of row) q)) same ∙ ap is_eq (tied_itself pairs_total (pair_of row)) in
      let its = slice_of other.slice g.slice g.at_key g.of_service in
      let at = some_place ss g.slice its.0 in
      let rest = ordering_then (nat_cmp f.points.place other.point) (ordering_then (nat_cmp f.addresses.place other.address) (nat_cmp f.ports.place other.port)) in
      let by : ordering_then (slice_cmp nat_cmp slices.item.meta.name g.slice.meta.name) rest ≢ Greater =
      by_slice ss slices.place at.0 slices.item g.slice rest (slices_by_name held at_keys ns name) slices.at at.1
      (not_before p (slice_rows row_at port_name) ss row slices at.0 g.slice found at.1 (of_slice row_at port_name g.slice other found g.from) is)
      (λ one.
      let slice : g.slice ≡ slices.item = one_at ss slices.place at.0 slices.item g.slice one slices.at at.1 in
      least_in row_at port_name p row slices.item f other found (subst (λ (s : Slice). GivesFrom row_at port_name s other found) slice g.from) is) in
      subst (λ (n : List ℕ). ordering_then (slice_cmp nat_cmp slices.item.meta.name n) rest ≢ Greater) its.1 by

  of_the_least : (row : EndpointRow) → find (is_at (pair_of row)) all_rows ≡ Some row → IsOfTheLeast config held ns name port_name row
  of_the_least row e =
      let p = is_at (pair_of row) in
      let slices = first_at p (slice_rows row_at port_name) (slices_held held ns name) row e in
      let f = first_in row_at port_name p row slices.item slices.found in
      let its = held_slice slices.item (stands_at (slices_held held ns name) slices.place slices.item slices.at) in
      record {
        place = record { slice = slices.item.meta.name; point = f.points.place; address = f.addresses.place; port = f.ports.place };
        gives = record { slice = slices.item; at_key = its.0; of_service = its.1; from = gives_from row_at port_name p row slices.item f };
        least = least_of row slices f;
      }

  of_first : (row : EndpointRow) → Contains (first_rows all_rows) row → IsOfTheLeast config held ns name port_name row
  of_first row h = of_the_least row (subst (λ (r : EndpointRow). find (is_at (pair_of r)) all_rows ≡ Some r) h.2 ((are_first all_rows).firsts h.0 row h.1))

  of_named : (named : Option (List ℕ)) (row : EndpointRow) → named ≡ Some port_name → Contains (rows_from row_at (slices_held held ns name) named) row → IsOfTheLeast config held ns name port_name row
  of_named None row is h = absurd (cc is)
  of_named (Some n) row is h =
      let same : n ≡ port_name = cc is in
      of_first row (subst (λ (n : List ℕ). Contains (rows_from row_at (slices_held held ns name) (Some n)) row) same h)

  of_found : (number : ℕ) (found : Option Service) (row : EndpointRow) → name_of_port number found ≡ Some port_name → Contains (endpoints_from row_at (slices_held held ns name) number found).rows row → IsOfTheLeast config held ns name port_name row
  of_found number None row is h = absurd (cc is)
  of_found number (Some s) row is h =
      elim s.external as (λ b. cond b None (port_name_of number s) ≡ Some port_name → Contains (cond {A = EndpointView} b no_endpoints (record { exists = true; rows = rows_from row_at (slices_held held ns name) (port_name_of number s) })).rows row → IsOfTheLeast config held ns name port_name row) [
        | true ↦ λ is h. absurd (cc is)
        | false ↦ λ is h. of_named (port_name_of number s) row is h
      ] is h

pub rows_are_of_the_least : RowsAreOfTheLeast
rows_are_of_the_least config held at_keys ns name port_name number row is h = of_found config held at_keys ns name port_name number (service_held held ns name) row is h
