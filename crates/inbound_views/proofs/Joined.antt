-- Views that are joined from rows that are kept.
use Rattle.std.proofs.Common.{◌≡◌, ℕ, Bool, true, false, cond, List, [], ◌∷◌, map, Option, Some, None, refl, sym, ap, ◌∙◌}
use Rattle.std.specs.Cmp.{IsTotalOrder}
use Rattle.std.specs.FinMap.{IsAntisymmetric}
use Rattle.std.specs.List.{filter_map}
use Rattle.std.specs.Prelude.{option_map, unwrap_or}
use Rattle.std.specs.declared.cmp.Ordering.{Ordering}
use Rattle.mesh_base.specs.contracts.key.ObjKeyOrd as key_order
use Rattle.mesh_base.specs.contracts.key.ObjKeyOrd.TheImpl.Laws as key_laws
use Rattle.mesh_base.specs.declared.key.ObjKey.{ObjKey}
use Rattle.view_types.specs.Objects.{AtKeys, ObjectMap}
use Rattle.view_types.specs.declared.config.Config.{Config}
use Rattle.view_types.specs.declared.server_view.AuthzRow.{AuthzRow}
use Rattle.view_types.specs.declared.server_view.RouteRow.{RouteRow}
use Rattle.view_types.specs.declared.server_view.ServerView.TheVariants.{Present}
use Rattle.view_types.specs.declared.view.View.TheVariants as view
use Rattle.view_rules.specs.PolicyLaws.{AreLawful, server_key}
use Rattle.mark_rules.specs.Rows.{ServerPart, authz_behind, authz_row, join_inbound, key_of_row, keys_behind, name_in, routes_behind, row_joined, server_joined, server_part, server_routes, with_authz}
use Rattle.mark_rules.specs.contracts.keys.RouteKeyOrd as route_order
use Rattle.mark_rules.specs.contracts.keys.RouteKeyOrd.TheImpl.Laws as route_laws
use Rattle.mark_rules.specs.declared.keys.RouteKey.{RouteKey}
use Rattle.mark_rules.specs.declared.keys.ServerKey.{ServerKey}
use Rattle.mark_rules.proofs.MarkTests.{either_first, either_second}
use Rattle.mark_rules.proofs.ViewJoin.{views_are_joined}
use Rattle.row_table.specs.IndexRows.{has_key}
use Rattle.row_table.proofs.Keys.{is_itself}
use Rattle.row_views.specs.Ids.{has_ids, key_at}
use Rattle.row_views.specs.Queries.{view_at}
use Rattle.authz_index.specs.AuthzKeys.{authz_keys_exact}
use Rattle.route_index.specs.RouteKeys.{route_keys_exact}
use Rattle.inbound_views.specs.PortRows.{authz_key, authz_keys, query_for, route_key, route_keys}
use Rattle.inbound_views.specs.Standing.{authz_of, kept_authz, kept_routes, query_at, routes_of, rows_if}
use Rattle.inbound_views.specs.declared.views.InboundViews.{InboundViews}
use Rattle.inbound_views.proofs.Rows.{all_authz, route_authz}

abbrev pub route_cmp : RouteKey → RouteKey → Ordering
route_cmp = route_order.TheImpl.cmp-value.it

abbrev pub key_cmp : ObjKey → ObjKey → Ordering
key_cmp = key_order.TheImpl.cmp-value.it

-- the first of a list is in it
pub has_first : {Key : Type 0} (cmp : Key → Key → Ordering) → IsTotalOrder cmp → IsAntisymmetric cmp → (key : Key) (keys : List Key) → has_key cmp (key ∷ keys) key ≡ true
has_first cmp total exact key keys = either_first _ _ (is_itself cmp total exact key)

-- those of a key that may be in use
pub rows_kept : {Row : Type 0} (used : Bool) (all : List Row) (rows : Option (List Row)) → rows ≡ cond used (Some all) None → unwrap_or rows [] ≡ rows_if used all
rows_kept true all rows is = ap (λ shown. unwrap_or shown []) is
rows_kept false all rows is = ap (λ shown. unwrap_or shown []) is

-- ---- views by rows that are the same where they are asked for

module _ (routes others : RouteKey → List RouteRow) (authz apart : ObjKey → List AuthzRow) (ns : List ℕ) where
  each_same : (rs : List RouteRow) → ((key : ObjKey) → has_key key_cmp (map (key_of_row ns) rs) key ≡ true → authz key ≡ apart key) → map (with_authz authz ns) rs ≡ map (with_authz apart ns) rs
  each_same [] same = refl
  each_same (r ∷ rs) same =
      let first : authz (key_of_row ns r) ≡ apart (key_of_row ns r) = same (key_of_row ns r) (has_first key_cmp key_laws.total-law authz_keys_exact (key_of_row ns r) (map (key_of_row ns) rs)) in
      λ i. record { kind = r.kind; name = r.name; created = r.created; hosts = r.hosts; rules = r.rules; authz = first i } ∷ each_same rs (λ key has. same key (either_second _ _ has)) i

  behind_same : (name : Option (List ℕ)) → ((key : RouteKey) → has_key route_cmp (filter_map route_key (keys_behind others ns name)) key ≡ true → routes key ≡ others key)
      → ((key : ObjKey) → has_key key_cmp (filter_map authz_key (keys_behind others ns name)) key ≡ true → authz key ≡ apart key)
      → (authz_behind authz ns name ≡ authz_behind apart ns name) × (map (with_authz authz ns) (routes_behind routes ns name) ≡ map (with_authz apart ns) (routes_behind others ns name))
  behind_same None by_route by_authz = (refl, refl)
  behind_same (Some server) by_route by_authz =
      let key : RouteKey = record { ns = ns; server = server } in
      let all = all_authz ns (others key) in (
        by_authz (server_key ns server) (has_first key_cmp key_laws.total-law authz_keys_exact (server_key ns server) (filter_map authz_key (map (route_authz ns) (others key)))),
        ap (map (with_authz authz ns)) (by_route key (has_first route_cmp route_laws.total-law route_keys_exact key (filter_map route_key (map (route_authz ns) (others key)))))
            ∙ each_same (others key) (λ k has. by_authz k (either_second _ _ (ap (λ (keys : List ObjKey). has_key key_cmp keys k) all ∙ has))),
      )

  pub join_same : (part : Option ServerPart) → ((key : RouteKey) → has_key route_cmp (filter_map route_key (keys_behind others ns (name_in part))) key ≡ true → routes key ≡ others key)
      → ((key : ObjKey) → has_key key_cmp (filter_map authz_key (keys_behind others ns (name_in part))) key ≡ true → authz key ≡ apart key)
      → join_inbound routes authz ns part ≡ join_inbound others apart ns part
  join_same None by_route by_authz = refl
  join_same (Some part) by_route by_authz =
      let both = behind_same part.2 by_route by_authz in
      λ i. Present (row_joined part (both.0 i) (both.1 i))

-- the view of a port is that of its query
pub port_shown : (config : Config) (held : ObjectMap) (key : ServerKey) → AtKeys held → AreLawful held → Some (view.Server (server_joined config held key)) ≡ view_at config held (Some (query_for key))
port_shown config held key at_keys lawful = sym (ap Some (views_are_joined config held at_keys lawful (query_for key)))

-- ---- the view of an id

module _ (views : InboundViews) (config : Config) (held : ObjectMap) (id : ℕ)
    (routes_in : (key : RouteKey) → has_key route_cmp (routes_of views id) key ≡ true → has_ids route_cmp views.routes.used.by_key key ≡ true)
    (authz_in : (key : ObjKey) → has_key key_cmp (authz_of views id) key ≡ true → has_ids key_cmp views.authz.used.by_key key ≡ true)
    (routes : routes_of views id ≡ route_keys config held (query_at views id)) (authz : authz_of views id ≡ authz_keys config held (query_at views id)) where
  pub joined_is : (key : ServerKey) → key_at views.servers.by_id id ≡ Some key → AtKeys held → AreLawful held
      → Some (view.Server (join_inbound (kept_routes views held) (kept_authz views config held) key.ns (server_part config held key))) ≡ view_at config held (query_at views id)
  joined_is key is at_keys lawful =
      ap (λ seen. Some (view.Server seen))
      (join_same (kept_routes views held) (server_routes held) (kept_authz views config held) (authz_row config held) key.ns (server_part config held key)
      (λ k has. ap (λ used. rows_if used (server_routes held k)) (routes_in k (ap (λ (keys : List RouteKey). has_key route_cmp keys k) (routes ∙ ap (λ asked. route_keys config held (option_map query_for asked)) is) ∙ has)))
      (λ k has. ap (λ used. rows_if used (authz_row config held k)) (authz_in k (ap (λ (keys : List ObjKey). has_key key_cmp keys k) (authz ∙ ap (λ asked. authz_keys config held (option_map query_for asked)) is) ∙ has))))
      ∙ port_shown config held key at_keys lawful
      ∙ sym (ap (λ asked. view_at config held (option_map query_for asked)) is)
