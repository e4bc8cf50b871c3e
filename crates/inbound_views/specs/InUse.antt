-- The rows of ports that have users.
use Rattle.std.proofs.Common.{◌≡◌, ◌<◌, inl, inr, ℕ, Bool, true, false, List, Option, Some, None, refl, sym, subst, ◌∙◌, arith}
use Rattle.std.proofs.lemmas.Bool.{false≢true}
use Rattle.std.specs.BTreeMap.{BTreeMap}
use Rattle.std.specs.List.{Contains}
use Rattle.std.specs.Prelude.{option_map}
use Rattle.mesh_base.specs.contracts.key.ObjKeyOrd as key_order
use Rattle.mesh_base.specs.contracts.key.ObjKeyOrd.TheImpl.Laws as key_laws
use Rattle.mesh_base.specs.declared.key.ObjKey.{ObjKey}
use Rattle.view_types.specs.Objects.{ObjectMap}
use Rattle.view_types.specs.declared.config.Config.{Config}
use Rattle.view_types.specs.declared.query.Query.{Query}
use Rattle.view_types.specs.declared.server_view.RouteRow.{RouteRow}
use Rattle.mark_graph.specs.declared.rows_by_mark.RowsByMark.{RowsByMark}
use Rattle.view_rules.specs.PolicyLaws.{server_key}
use Rattle.view_rules.proofs.Among.{Among, among_from, from_map}
use Rattle.mark_rules.specs.Rows.{key_of_row, keys_behind, name_in, rows, server_part, server_routes}
use Rattle.mark_rules.specs.contracts.keys.RouteKeyOrd as route_order
use Rattle.mark_rules.specs.contracts.keys.RouteKeyOrd.TheImpl.Laws as route_laws
use Rattle.mark_rules.specs.contracts.keys.ServerKeyOrd as server_order
use Rattle.mark_rules.specs.contracts.keys.ServerKeyOrd.TheImpl.Laws as server_laws
use Rattle.mark_rules.specs.declared.keys.RouteKey.{RouteKey}
use Rattle.mark_rules.specs.declared.keys.RowKey.{RowKey}
use Rattle.mark_rules.specs.declared.keys.RowKey.TheVariants as row
use Rattle.mark_rules.specs.declared.keys.ServerKey.{ServerKey}
use Rattle.row_views.specs.Ids.{key_at}
use Rattle.row_views.specs.InUse.{AreInUse, IsInUse}
use Rattle.row_views.specs.Queries.{rows_at}
use Rattle.row_views.specs.Standing as views
use Rattle.row_views.specs.declared.numbered_ids.NumberedIds.{NumberedIds}
use Rattle.row_views.proofs.InUse.{none_there}
use Rattle.row_views.proofs.InUse as one_key
use Rattle.row_sets.specs.Standing as sets
use Rattle.row_sets.specs.Standing.{keys_at}
use Rattle.row_sets.proofs.InUse as many_keys
use Rattle.authz_index.specs.AuthzKeys.{authz_keys_exact}
use Rattle.route_index.specs.RouteKeys.{route_keys_exact}
use Rattle.server_index.specs.ServerKeys.{server_keys_exact}
use Rattle.inbound_views.specs.PortRows.{authz_key, authz_keys, query_for, route_key, route_keys}

-- the users of a row, by those of the three indexes
abbrev pub port_users : (ServerKey → ℕ) → (RouteKey → ℕ) → (ObjKey → ℕ) → RowKey → ℕ
port_users servers routes authz (row.Server key) = servers key
port_users servers routes authz (row.Route key) = routes key
port_users servers routes authz (row.Authz key) = authz key
port_users servers routes authz _ = 0

-- ---- the rows of a port, by their kinds

abbrev pub is_of_port : RowKey → Bool
is_of_port (row.Server key) = true
is_of_port (row.Route key) = true
is_of_port (row.Authz key) = true
is_of_port _ = false

abbrev is_behind : RowKey → Bool
is_behind (row.Route key) = true
is_behind (row.Authz key) = true
is_behind _ = false

pub route_row_is : (of : RowKey) (key : RouteKey) → route_key of ≡ Some key → row.Route key ≡ of
route_row_is (row.Route key) other is = cc is
route_row_is _ other is = absurd (cc is)

pub authz_row_is : (of : RowKey) (key : ObjKey) → authz_key of ≡ Some key → row.Authz key ≡ of
authz_row_is (row.Authz key) other is = cc is
authz_row_is _ other is = absurd (cc is)

-- what holds for the routes of a Server and for all authorizations holds for the other rows of a
-- port
behind_are : (P : RowKey → Type 0) → ((key : RouteKey) → P (row.Route key)) → ((key : ObjKey) → P (row.Authz key)) → (routes : RouteKey → List RouteRow) (ns : List ℕ) (name : Option (List ℕ)) (of : RowKey) → Among of (keys_behind routes ns name) → P of
behind_are P of_routes of_authz routes ns None of at = absurd at
behind_are P of_routes of_authz routes ns (Some server) of at = elim at [
  | inl same ↦ subst P same (of_routes (record { ns = ns; server = server }))
  | inr rest ↦ elim rest [
    | inl same ↦ subst P same (of_authz (server_key ns server))
    | inr more ↦
        let one = from_map (λ (route : RouteRow). row.Authz (key_of_row ns route)) (routes (record { ns = ns; server = server })) of more in
        subst P one.2 (of_authz (key_of_row ns one.0))
  ]
]

module _ (config : Config) (held : ObjectMap) (port : ServerKey) where
  pub port_rows_are : (P : RowKey → Type 0) → ((key : ServerKey) → P (row.Server key)) → ((key : RouteKey) → P (row.Route key)) → ((key : ObjKey) → P (row.Authz key)) → (of : RowKey) → Contains (rows config held (query_for port)) of → P of
  port_rows_are P of_servers of_routes of_authz of there = elim (among_from (rows config held (query_for port)) of there) [
    | inl same ↦ subst P same (of_servers port)
    | inr rest ↦ behind_are P of_routes of_authz (server_routes held) port.ns (name_in (server_part config held port)) of rest
  ]

  -- its server part is that of its own key, and of no other
  own_server : (key : ServerKey) → Contains (rows config held (query_for port)) (row.Server key) → port ≡ key
  own_server key there = elim (among_from (rows config held (query_for port)) (row.Server key) there) [
    | inl same ↦ cc same
    | inr rest ↦ absurd (false≢true (behind_are (λ of. is_behind of ≡ true) (λ k. refl) (λ k. refl) (server_routes held) port.ns (name_in (server_part config held port)) (row.Server key) rest))
  ]

-- ---- the rows that have users

module _ {Servers Routes Authz : Type 0} {server_users : Servers → ServerKey → ℕ} {route_users : Routes → RouteKey → ℕ} {authz_users : Authz → ObjKey → ℕ} {server_numbers : Servers → ServerKey → Option ℕ} {server_stand : Servers → ObjectMap → Type 0} {route_stand : Routes → ObjectMap → Type 0} {authz_stand : Authz → ObjectMap → Type 0}
    {held : ObjectMap} {servers : Servers} {routes : Routes} {authz : Authz} {of_servers : NumberedIds} {of_routes : RowsByMark RouteKey} {of_authz : RowsByMark ObjKey} {ports : BTreeMap ℕ ServerKey} {routes_at : BTreeMap ℕ (List RouteKey)} {authz_at : BTreeMap ℕ (List ObjKey)}
    (config : Config) (servers_stand : views.Standing server_order.TheImpl.cmp-value.it server_users server_numbers server_stand held servers of_servers ports)
    (routes_stand : sets.Standing route_order.TheImpl.cmp-value.it route_users route_stand held routes of_routes routes_at)
    (authz_stands : sets.Standing key_order.TheImpl.cmp-value.it authz_users authz_stand held authz of_authz authz_at)
    (has_routes : (id : ℕ) → keys_at routes_at id ≡ route_keys config held (option_map query_for (key_at ports id)))
    (has_authz : (id : ℕ) → keys_at authz_at id ≡ authz_keys config held (option_map query_for (key_at ports id))) where
  abbrev asked : ℕ → Option Query
  asked id = option_map query_for (key_at ports id)

  abbrev users : RowKey → ℕ
  users = port_users (server_users servers) (route_users routes) (authz_users authz)

  used_if : (of : RowKey) → 0 < users of → ∥ IsInUse config held asked of ∥₁
  used_if (row.Server key) some = ∣ one_key.used_row server_order.TheImpl.cmp-value.it server_laws.total-law server_keys_exact server_users server_numbers server_stand row.Server query_for config held servers of_servers ports servers_stand (λ k. (0, omega arith, refl)) key some ∣₁
  used_if (row.Route key) some = ∣ many_keys.used_row route_order.TheImpl.cmp-value.it route_laws.total-law route_keys_exact route_users route_stand held routes of_routes routes_at routes_stand config asked route_key row.Route has_routes route_row_is key some ∣₁
  used_if (row.Authz key) some = ∣ many_keys.used_row key_order.TheImpl.cmp-value.it key_laws.total-law authz_keys_exact authz_users authz_stand held authz of_authz authz_at authz_stands config asked authz_key row.Authz has_authz authz_row_is key some ∣₁
  used_if _ some = absurd (omega (arith, some))

  -- no query for a port has another row
  of_other : (of : RowKey) → is_of_port of ≡ false → IsInUse config held asked of → ⊥
  of_other of other used = by (key_at ports used.id) used.of_query
    where
      by : (port : Option ServerKey) → Contains (rows_at config held (option_map query_for port)) of → ⊥
      by None there = none_there there
      by (Some port) there = absurd (false≢true (sym other ∙ port_rows_are config held port (λ of. is_of_port of ≡ true) (λ k. refl) (λ k. refl) (λ k. refl) of there))

  unused_if : (of : RowKey) → users of ≡ 0 → IsInUse config held asked of → ⊥
  unused_if (row.Server key) none =
      one_key.unused_row server_order.TheImpl.cmp-value.it server_laws.total-law server_keys_exact server_users server_numbers server_stand row.Server query_for config held servers of_servers ports servers_stand (own_server config held) key none
  unused_if (row.Route key) none = many_keys.unused_row route_order.TheImpl.cmp-value.it route_laws.total-law route_keys_exact route_users route_stand held routes of_routes routes_at routes_stand config asked route_key row.Route has_routes (λ k. refl) key none
  unused_if (row.Authz key) none = many_keys.unused_row key_order.TheImpl.cmp-value.it key_laws.total-law authz_keys_exact authz_users authz_stand held authz of_authz authz_at authz_stands config asked authz_key row.Authz has_authz (λ k. refl) key none
  unused_if (row.Endpoint key) none = of_other (row.Endpoint key) refl
  unused_if (row.Profile key) none = of_other (row.Profile key) refl
  unused_if (row.Outbound key) none = of_other (row.Outbound key) refl

  -- the rows of ports that have users are those of the queries of ids
  pub ports_in_use : AreInUse config held asked users
  ports_in_use = record { used = used_if; unused = unused_if }
