-- What is looked up as subscriptions are made and as they follow an event, by the rows of their queries.
use Rattle.std.proofs.Common.{◌≡◌, ◌≤◌, ◌+◌, ◌⊎◌, inl, inr, ℕ, Bool, true, false, not, List, [], ◌∷◌, map, Option, Some, None, refl, sym, ap, subst, ◌∙◌, arith}
use Rattle.std.proofs.Math.Logic.{∥∥₁_elim, ∥∥₁_prop}
use Rattle.std.proofs.lemmas.Bool.{false≢true}
use Rattle.std.proofs.lemmas.List.Sums.{sum_by-cons}
use Rattle.std.specs.List.{Contains}
use Rattle.std.specs.Option.{is_some}
use Rattle.std.specs.Prelude.{option_and_then, option_map}
use Rattle.view_types.specs.Objects.{ObjectMap}
use Rattle.view_types.specs.declared.config.Config.{Config}
use Rattle.view_types.specs.declared.mark.Mark.{Mark}
use Rattle.view_types.specs.declared.query.Query.{Query}
use Rattle.view_types.specs.declared.query.Query.TheVariants.{Get, Profile, Port, Traffic, PortRows}
use Rattle.view_types.specs.declared.server_view.RouteRow.{RouteRow}
use Rattle.view_rules.proofs.Among.{Among, among_from, from_map}
use Rattle.mark_rules.specs.Reads.{cost, reads}
use Rattle.mark_rules.specs.Rows.{key_of_row, keys_behind, name_in, port_rows, rows, server_part, server_routes}
use Rattle.mark_rules.specs.declared.keys.EndpointKey.{EndpointKey}
use Rattle.mark_rules.specs.declared.keys.RouteKey.{RouteKey}
use Rattle.mark_rules.specs.declared.keys.RowKey.{RowKey}
use Rattle.mark_rules.specs.declared.keys.RowKey.TheVariants as row
use Rattle.mark_rules.specs.declared.keys.ServerKey.{ServerKey}
use Rattle.endpoint_streams.specs.Streams.{query_for}
use Rattle.row_views.specs.Costs.{FollowedRows, FollowsWithin, cost_of, open_cost}
use Rattle.row_views.specs.Queries.{ShowsSame, rows_at}
use Rattle.row_views.proofs.Costs.{joined_rows}
use Rattle.row_views.proofs.Truncated.{map_truncated}
use Rattle.subscriptions.specs.Costs.{stream_cost}
use Rattle.subscriptions.specs.Live.{Covers, endpoint_key}

module _ (kept : Query → Option Query) (covers : Covers kept) (same : ShowsSame kept) (config : Config) where
  -- ---- a subscription is made

  unkept : (query : Query) → is_some (kept query) ≡ false → (held : ObjectMap) → open_cost config held (kept query) ≡ 0
  unkept query is held = by (kept query) is
    where
      by : (o : Option Query) → is_some o ≡ false → open_cost config held o ≡ 0
      by None none = refl
      by (Some asked) none = absurd (false≢true (sym none))

  kept_costs : (query : Query) → is_some (kept query) ≡ true → (held : ObjectMap) → open_cost config held (kept query) ≡ cost_of config held (rows config held query)
  kept_costs query is held = by (kept query) refl is
    where
      by : (o : Option Query) → kept query ≡ o → is_some o ≡ true → open_cost config held o ≡ cost_of config held (rows config held query)
      by None at some = absurd (false≢true some)
      by (Some asked) at some = ap (cost_of config held) (same query asked at config held).1

  -- the stream and the view of a query read what its rows do
  pub all_costs : (query : Query) (held : ObjectMap) → stream_cost held (endpoint_key query) + open_cost config held (kept query) ≡ cost_of config held (rows config held query)
  all_costs (Get ns name port ctx) held =
      let one = sum_by-cons (λ key. cost held (reads config held key)) (row.Endpoint (record { ns = ns; name = name; port = port })) [] in
      let none = unkept (Get ns name port ctx) (covers (Get ns name port ctx)) held in
      omega (arith, one, none)
  all_costs (Profile target ctx) held = let all = kept_costs (Profile target ctx) (covers (Profile target ctx)) held in omega (arith, all)
  all_costs (Port ns pod port) held = let all = kept_costs (Port ns pod port) (covers (Port ns pod port)) held in omega (arith, all)
  all_costs (Traffic target) held = let all = kept_costs (Traffic target) (covers (Traffic target)) held in omega (arith, all)
  all_costs (PortRows ns pod port) held = let all = kept_costs (PortRows ns pod port) (covers (PortRows ns pod port)) held in omega (arith, all)

  -- ---- subscriptions follow a change

  -- a row of a view that is kept
  abbrev is_viewed : RowKey → Bool
  is_viewed (row.Endpoint key) = false
  is_viewed _ = true

  all_viewed : (routes : RouteKey → List RouteRow) (ns : List ℕ) (server : Option (List ℕ)) (key : RowKey) → Among key (keys_behind routes ns server) → is_viewed key ≡ true
  all_viewed routes ns None key at = absurd at
  all_viewed routes ns (Some server) key at = elim at [
    | inl is ↦ ap is_viewed (sym is)
    | inr rest ↦ elim rest [
      | inl is ↦ ap is_viewed (sym is)
      | inr others ↦
          let of = from_map (λ route. row.Authz (key_of_row ns route)) (routes (record { ns = ns; server = server })) key others in
          ap is_viewed (sym of.2)
    ]
  ]

  port_viewed : (held : ObjectMap) (port : ServerKey) (key : RowKey) → Among key (port_rows config held port) → is_viewed key ≡ true
  port_viewed held port key at = elim at [
    | inl is ↦ ap is_viewed (sym is)
    | inr rest ↦ all_viewed (server_routes held) port.ns (name_in (server_part config held port)) key rest
  ]

  -- the rows of a query that asks for no endpoints
  viewed_rows : (held : ObjectMap) (query : Query) (key : RowKey) → endpoint_key query ≡ None → Among key (rows config held query) → is_viewed key ≡ true
  viewed_rows held (Get ns name port ctx) key other at = absurd (cc other)
  viewed_rows held (Profile target ctx) key other at = elim at [ inl is ↦ ap is_viewed (sym is) | inr none ↦ absurd none ]
  viewed_rows held (Port ns pod port) key other at = port_viewed held (record { ns = ns; pod = pod; port = port }) key at
  viewed_rows held (Traffic target) key other at = elim at [ inl is ↦ ap is_viewed (sym is) | inr none ↦ absurd none ]
  viewed_rows held (PortRows ns pod port) key other at = port_viewed held (record { ns = ns; pod = pod; port = port }) key at

  -- the query that is kept for one, and the one of its stream
  abbrev pub viewed_of : Option Query → Option Query
  viewed_of query = option_and_then kept query

  abbrev pub streamed_of : Option Query → Option Query
  streamed_of query = option_map query_for (option_and_then endpoint_key query)

  no_key : (query : Query) → is_some (kept query) ≡ true → endpoint_key query ≡ None
  no_key (Get ns name port ctx) is = absurd (false≢true (sym (covers (Get ns name port ctx)) ∙ is))
  no_key (Profile target ctx) is = refl
  no_key (Port ns pod port) is = refl
  no_key (Traffic target) is = refl
  no_key (PortRows ns pod port) is = refl

  pub of_viewed : (held : ObjectMap) (asked : Option Query) (key : RowKey) → Contains (rows_at config held (viewed_of asked)) key → (is_viewed key ≡ true) × Contains (rows_at config held asked) key
  of_viewed held None key at = absurd (among_from [] key at)
  of_viewed held (Some query) key at = by (kept query) refl at
    where
      by : (o : Option Query) → kept query ≡ o → Contains (rows_at config held o) key → (is_viewed key ≡ true) × Contains (rows config held query) key
      by None is at = absurd (among_from [] key at)
      by (Some asked) is at =
          let there : Contains (rows config held query) key = subst (λ keys. Contains keys key) (same query asked is config held).1 at in
          (viewed_rows held query key (no_key query (ap is_some is)) (among_from (rows config held query) key there), there)

  pub of_streamed : (held : ObjectMap) (asked : Option Query) (key : RowKey) → Contains (rows_at config held (streamed_of asked)) key → (is_viewed key ≡ false) × Contains (rows_at config held asked) key
  of_streamed held None key at = absurd (among_from [] key at)
  of_streamed held (Some (Get ns name port ctx)) key at =
      let asked : RowKey = row.Endpoint (record { ns = ns; name = name; port = port }) in
      (elim (among_from (asked ∷ []) key at) [ inl is ↦ ap is_viewed (sym is) | inr none ↦ absurd none ], at)
  of_streamed held (Some (Profile target ctx)) key at = absurd (among_from [] key at)
  of_streamed held (Some (Port ns pod port)) key at = absurd (among_from [] key at)
  of_streamed held (Some (Traffic target)) key at = absurd (among_from [] key at)
  of_streamed held (Some (PortRows ns pod port)) key at = absurd (among_from [] key at)

  of_kept : (held : ObjectMap) (query : Query) (key : RowKey) → is_some (kept query) ≡ true → Contains (rows config held query) key → Contains (rows_at config held (kept query)) key
  of_kept held query key is at = by (kept query) refl is
    where
      by : (o : Option Query) → kept query ≡ o → is_some o ≡ true → Contains (rows_at config held o) key
      by None e none = absurd (false≢true none)
      by (Some asked) e some = subst (λ keys. Contains keys key) (sym (same query asked e config held).1) at

  pub of_both : (held : ObjectMap) (asked : Option Query) (key : RowKey) → Contains (rows_at config held asked) key → Contains (rows_at config held (viewed_of asked)) key ⊎ Contains (rows_at config held (streamed_of asked)) key
  of_both held None key at = inl at
  of_both held (Some (Get ns name port ctx)) key at = inr at
  of_both held (Some (Profile target ctx)) key at = inl (of_kept held (Profile target ctx) key (covers (Profile target ctx)) at)
  of_both held (Some (Port ns pod port)) key at = inl (of_kept held (Port ns pod port) key (covers (Port ns pod port)) at)
  of_both held (Some (Traffic target)) key at = inl (of_kept held (Traffic target) key (covers (Traffic target)) at)
  of_both held (Some (PortRows ns pod port)) key at = inl (of_kept held (PortRows ns pod port) key (covers (PortRows ns pod port)) at)

  pub follows_both : (queries viewed streamed : ℕ → Option Query) → ((id : ℕ) → viewed id ≡ viewed_of (queries id)) → ((id : ℕ) → streamed id ≡ streamed_of (queries id)) → (changed : List Mark) (before after : ObjectMap) (old mid new : ℕ)
      → FollowsWithin config changed before after viewed old mid → FollowsWithin config changed before after streamed mid new → FollowsWithin config changed before after queries old new
  follows_both queries viewed streamed are_viewed are_streamed changed before after old mid new first second =
      let these : FollowsWithin config changed before after (λ id. viewed_of (queries id)) old mid = subst (λ (q : ℕ → Option Query). FollowsWithin config changed before after q old mid) (λ i id. are_viewed id i) first in
      let those : FollowsWithin config changed before after (λ id. streamed_of (queries id)) mid new = subst (λ (q : ℕ → Option Query). FollowsWithin config changed before after q mid new) (λ i id. are_streamed id i) second in
      ∥∥₁_elim these ∥∥₁_prop (λ these. map_truncated those (λ those.
      joined_rows config queries (λ id. viewed_of (queries id)) (λ id. streamed_of (queries id)) is_viewed (λ held id. of_viewed held (queries id)) (λ held id. of_streamed held (queries id)) (λ held id. of_both held (queries id))
      changed before after old mid new these those))
