-- The rows behind a port, by their indexes.
use Rattle.std.proofs.Common.{◌≡◌, ◌||◌, ◌++◌, ℕ, Bool, true, false, List, [], ◌∷◌, map, Option, Some, None, refl, sym, ap, ◌∙◌}
use Rattle.std.proofs.lemmas.List.{append-nil}
use Rattle.std.specs.List.{filter_map, flat_map, list_any}
use Rattle.std.specs.Prelude.{option_and_then, option_map}
use Rattle.mesh_base.specs.declared.key.ObjKey.{ObjKey}
use Rattle.view_types.specs.Objects.{ObjectMap}
use Rattle.view_types.specs.declared.config.Config.{Config}
use Rattle.view_types.specs.declared.mark.Mark.{Mark}
use Rattle.view_types.specs.declared.server_view.RouteRow.{RouteRow}
use Rattle.view_rules.specs.PolicyLaws.{server_key}
use Rattle.mark_rules.specs.Changes.{Leads}
use Rattle.mark_rules.specs.Marks.{meets}
use Rattle.mark_rules.specs.Reads.{reads, server_reads}
use Rattle.mark_rules.specs.Rows.{ServerPart, key_of_row, keys_behind, name_in, routes_behind, server_part, server_routes}
use Rattle.mark_rules.specs.declared.keys.RouteKey.{RouteKey}
use Rattle.mark_rules.specs.declared.keys.RowKey.{RowKey}
use Rattle.mark_rules.specs.declared.keys.RowKey.TheVariants as row
use Rattle.mark_rules.specs.declared.keys.ServerKey.{ServerKey}
use Rattle.mark_rules.proofs.MarkTests.{neither_first, neither_second}
use Rattle.mark_rules.proofs.Servers.{routes_stay}
use Rattle.mark_rules.proofs.Views.{queries_ask_by_rows}
use Rattle.row_views.specs.Queries.{reads_one}
use Rattle.row_views.specs.Standing.{HasSameRow, is_met}
use Rattle.row_sets.specs.Standing.{any_met}
use Rattle.inbound_views.specs.PortRows.{authz_key, authz_keys, authz_of_server, authz_rows, listed, own_authz, query_for, route_key, route_keys, route_rows, server_rows}

or_none : (a b : Bool) → ((a || false) || b) ≡ (a || b)
or_none true b = refl
or_none false b = refl

module _ (ns : List ℕ) where
  abbrev pub route_authz : RouteRow → RowKey
  route_authz route = row.Authz (key_of_row ns route)

  pub no_routes : (rs : List RouteRow) → filter_map route_key (map route_authz rs) ≡ []
  no_routes [] = refl
  no_routes (r ∷ rs) = no_routes rs

  pub all_authz : (rs : List RouteRow) → filter_map authz_key (map route_authz rs) ≡ map (key_of_row ns) rs
  all_authz [] = refl
  all_authz (r ∷ rs) = ap (λ (keys : List ObjKey). key_of_row ns r ∷ keys) (all_authz rs)

  authz_parts : (routes : RouteKey → List RouteRow) (name : Option (List ℕ))
      → filter_map authz_key (keys_behind routes ns name) ≡ flat_map (authz_of_server routes) (filter_map route_key (keys_behind routes ns name))
  authz_parts routes None = refl
  authz_parts routes (Some server) =
      let key : RouteKey = record { ns = ns; server = server } in
      ap (λ (keys : List ObjKey). server_key ns server ∷ keys) (all_authz (routes key))
      ∙ sym (ap (λ (keys : List RouteKey). flat_map (authz_of_server routes) (key ∷ keys)) (no_routes (routes key)) ∙ append-nil (authz_of_server routes key))

  pub parts_listed : (routes : RouteKey → List RouteRow) (name : Option (List ℕ)) → filter_map route_key (keys_behind routes ns name) ≡ listed ns name
  parts_listed routes None = refl
  parts_listed routes (Some server) = let key : RouteKey = record { ns = ns; server = server } in ap (λ (keys : List RouteKey). key ∷ keys) (no_routes (routes key))

  pub authz_listed : (routes : RouteKey → List RouteRow) (name : Option (List ℕ)) → filter_map authz_key (keys_behind routes ns name) ≡ own_authz ns name ++ map (key_of_row ns) (routes_behind routes ns name)
  authz_listed routes None = refl
  authz_listed routes (Some server) = ap (λ (keys : List ObjKey). server_key ns server ∷ keys) (all_authz (routes (record { ns = ns; server = server })))

  module _ (test : RowKey → Bool) where
    any_routes : (rs : List RouteRow) → list_any test (map route_authz rs) ≡ list_any (λ key. test (row.Authz key)) (filter_map authz_key (map route_authz rs))
    any_routes [] = refl
    any_routes (r ∷ rs) = ap (λ b. test (route_authz r) || b) (any_routes rs)

    any_parts : (routes : RouteKey → List RouteRow) (name : Option (List ℕ)) → list_any test (keys_behind routes ns name)
        ≡ (list_any (λ key. test (row.Route key)) (filter_map route_key (keys_behind routes ns name)) || list_any (λ key. test (row.Authz key)) (filter_map authz_key (keys_behind routes ns name)))
    any_parts routes None = refl
    any_parts routes (Some server) =
        let key : RouteKey = record { ns = ns; server = server } in
        let rest = filter_map authz_key (map route_authz (routes key)) in
        let after : Bool = test (row.Authz (server_key ns server)) || list_any (λ k. test (row.Authz k)) rest in
        ap (λ b. test (row.Route key) || (test (row.Authz (server_key ns server)) || b)) (any_routes (routes key))
        ∙ sym (or_none (test (row.Route key)) after)
        ∙ sym (ap (λ (keys : List RouteKey). (test (row.Route key) || list_any (λ k. test (row.Route k)) keys) || after) (no_routes (routes key)))

-- ---- the rows of an id

module _ (config : Config) (held : ObjectMap) where
  -- the authorizations behind a port are those of its Server and of each route of this
  pub authz_is : (asked : Option ServerKey) → authz_keys config held (option_map query_for asked) ≡ flat_map (authz_of_server (server_routes held)) (route_keys config held (option_map query_for asked))
  authz_is None = refl
  authz_is (Some key) = authz_parts key.ns (server_routes held) (name_in (server_part config held key))

  -- a query reads a mark of a change where one of its rows does
  pub asks : (changed : List Mark) (asked : Option ServerKey) → reads_one config held changed (option_map query_for asked)
      ≡ (is_met (server_rows config) held changed asked
      || (any_met route_rows held changed (route_keys config held (option_map query_for asked)) || any_met (authz_rows config) held changed (authz_keys config held (option_map query_for asked))))
  asks changed None = refl
  asks changed (Some key) =
      queries_ask_by_rows config held (query_for key) changed
      ∙ ap (λ b. meets (server_reads key) changed || b) (any_parts key.ns (λ k. meets (reads config held k) changed) (server_routes held) (name_in (server_part config held key)))

  -- the routes behind a port are those of its Server
  pub routes_are : (key : ServerKey) → route_keys config held (Some (query_for key)) ≡ listed key.ns (name_in (server_part config held key))
  routes_are key = parts_listed key.ns (server_routes held) (name_in (server_part config held key))

-- ---- rows after a change

-- those of a port that is served as before
pub servers_same : (config : Config) (before after : ObjectMap) (asked : Option ServerKey) → HasSameRow (server_rows config) before after asked → route_keys config after (option_map query_for asked) ≡ route_keys config before (option_map query_for asked)
servers_same config before after None same = refl
servers_same config before after (Some key) same =
    routes_are config after key ∙ ap (λ (part : Option (Option ServerPart)). listed key.ns (option_and_then name_in part)) same ∙ sym (routes_are config before key)

module _ (config : Config) (changed : List Mark) (before after : ObjectMap) (leads : Leads changed before after) where
  -- those of Servers whose routes read no mark of it
  routes_still : (keys : List RouteKey) → any_met route_rows before changed keys ≡ false → flat_map (authz_of_server (server_routes after)) keys ≡ flat_map (authz_of_server (server_routes before)) keys
  routes_still [] misses = refl
  routes_still (k ∷ ks) misses =
      λ i. (server_key k.ns k.server ∷ map (key_of_row k.ns) ((routes_stay k changed before after leads (neither_first _ _ misses)).0 i)) ++ routes_still ks (neither_second _ _ misses) i

  pub authz_still : (asked : Option ServerKey) → route_keys config after (option_map query_for asked) ≡ route_keys config before (option_map query_for asked) → any_met route_rows before changed (route_keys config before (option_map query_for asked)) ≡ false
      → authz_keys config after (option_map query_for asked) ≡ authz_keys config before (option_map query_for asked)
  authz_still asked same misses =
      authz_is config after asked ∙ ap (flat_map (authz_of_server (server_routes after))) same ∙ routes_still (route_keys config before (option_map query_for asked)) misses ∙ sym (authz_is config before asked)
