-- The marks that a query's first row and the rows behind it read are those that its rows read.
use Rattle.std.proofs.Common.{◌≡◌, ◌<◌, ◌+◌, ◌++◌, ◌||◌, ℕ, Bool, true, false, List, [], ◌∷◌, length, get_or, map, take, Option, Some, None, refl, sym, ap, ◌∙◌}
use Rattle.std.specs.List.{flat_map, list_any}
use Rattle.std.proofs.lemmas.List.{flat_map_more, take_more}
use Rattle.std.proofs.lemmas.List.Folds.{Any-from_list_any, list_any-append, list_any-from_Any}
use Rattle.mesh_base.specs.declared.key.ObjKey.{ObjKey}
use Rattle.view_types.specs.Objects.{AtKeys, ObjectMap}
use Rattle.view_types.specs.declared.config.Config.{Config}
use Rattle.view_types.specs.declared.mark.Mark.{Mark}
use Rattle.view_types.specs.declared.mark.Mark.TheVariants.{RouteOn}
use Rattle.view_types.specs.declared.query.Query.{Query}
use Rattle.view_types.specs.declared.query.Query.TheVariants as query
use Rattle.view_types.specs.declared.route.ParentKind.TheVariants as parent
use Rattle.view_types.specs.declared.route.Route.{Route}
use Rattle.view_rules.specs.PolicyLaws.{AreLawful, server_key}
use Rattle.view_rules.specs.Routes.{attached_routes, is_server_parent}
use Rattle.view_rules.proofs.Among.{Among, among_from, contained}
use Rattle.mark_rules.specs.MarkLookups.{keys_at}
use Rattle.mark_rules.specs.Marks.{has_mark, same_mark}
use Rattle.mark_rules.specs.Reads.{query_reads, reads}
use Rattle.mark_rules.specs.Rows.{bare_route, key_of_row, keys_behind, name_in, port_rows, rows, server_part, server_routes}
use Rattle.mark_rules.specs.declared.keys.RowKey.{RowKey}
use Rattle.mark_rules.specs.declared.keys.RowKey.TheVariants as row
use Rattle.mark_rules.specs.declared.keys.ServerKey.{ServerKey}
use Rattle.mark_tests.specs.QueryRows.{behind_name, behind_row, first_row, route_row}
use Rattle.row_reads.specs.References.{HaveSame}
use Rattle.row_reads.proofs.Needs.{any_in}
use Rattle.mark_tests.proofs.RouteKeys.{marked_shown, shown_marked}

-- ---- tests of keys

each_implies : (a b : Bool) → (a ≡ true → b ≡ true) → (b ≡ true → a ≡ true) → a ≡ b
each_implies true b f g = sym (f refl)
each_implies false true f g = g refl
each_implies false false f g = refl

module _ (test : ObjKey → Bool) where
  carried : (keys others : List ObjKey) → ((key : ObjKey) → Among key keys → Among key others) → list_any test keys ≡ true → list_any test others ≡ true
  carried keys others into some =
      let at = Any-from_list_any test keys some in
      let there = contained others at.1 (into at.1 (among_from keys at.1 (at.0, at.2, at.3))) in
      list_any-from_Any test others (there.0, at.1, there.1, there.2, at.4)

  -- of the same keys, in whatever order, some pass or none
  same_keys : (keys others : List ObjKey) → ((key : ObjKey) → Among key keys → Among key others) → ((key : ObjKey) → Among key others → Among key keys) → list_any test keys ≡ list_any test others
  same_keys keys others into back = each_implies _ _ (carried keys others into) (carried others keys back)

-- ---- the rows behind a Server

module _ (config : Config) (held : ObjectMap) (at_keys : AtKeys held) (lawful : AreLawful held) (mark : Mark) where
  abbrev reads_mark : RowKey → Bool
  reads_mark key = has_mark (reads config held key) mark

  abbrev authz_reads_mark : ObjKey → Bool
  authz_reads_mark key = reads_mark (row.Authz key)

  over_authz : (keys : List ObjKey) → list_any reads_mark (map row.Authz keys) ≡ list_any authz_reads_mark keys
  over_authz [] = refl
  over_authz (key ∷ keys) = ap (λ b. authz_reads_mark key || b) (over_authz keys)

  module _ (ns : List ℕ) where
    abbrev key_shown : Route → ObjKey
    key_shown route = key_of_row ns (bare_route route)

    over_routes : (routes : List Route) → list_any authz_reads_mark (map key_shown routes) ≡ list_any reads_mark (map (λ route. row.Authz (key_of_row ns route)) (map bare_route routes))
    over_routes [] = refl
    over_routes (r ∷ rs) = ap (λ b. authz_reads_mark (key_shown r) || b) (over_routes rs)

    -- by the mark of a Server's routes, or as its row of routes has them
    same_routes : (name : List ℕ) → list_any reads_mark (map row.Authz (keys_at held (RouteOn ns parent.Server name))) ≡ list_any reads_mark (map (λ route. row.Authz (key_of_row ns route)) (map bare_route (attached_routes held ns (is_server_parent name))))
    same_routes name =
        let marked = keys_at held (RouteOn ns parent.Server name) in
        let routes = attached_routes held ns (is_server_parent name) in
        over_authz marked
        ∙ same_keys authz_reads_mark marked (map key_shown routes) (marked_shown held ns name at_keys lawful) (shown_marked held ns name at_keys lawful)
        ∙ over_routes routes

    same_behind : (name : Option (List ℕ)) → list_any reads_mark (behind_name held ns name) ≡ list_any reads_mark (keys_behind (server_routes held) ns name)
    same_behind None = refl
    same_behind (Some name) = ap (λ b. reads_mark (route_row ns name) || (authz_reads_mark (server_key ns name) || b)) (same_routes name)

  -- ---- queries

  same_port : (key : ServerKey) → list_any reads_mark (row.Server key ∷ behind_row config held (row.Server key)) ≡ list_any reads_mark (port_rows config held key)
  same_port key = ap (λ b. reads_mark (row.Server key) || b) (same_behind key.ns (name_in (server_part config held key)))

  same_rows : (q : Query) → list_any reads_mark (first_row q ∷ behind_row config held (first_row q)) ≡ list_any reads_mark (rows config held q)
  same_rows (query.Get ns name port ctx) = refl
  same_rows (query.Profile target ctx) = refl
  same_rows (query.Port ns pod port) = same_port (record { ns = ns; pod = pod; port = port })
  same_rows (query.Traffic target) = refl
  same_rows (query.PortRows ns pod port) = same_port (record { ns = ns; pod = pod; port = port })

-- ---- lists of marks

-- the marks of one more row
pub one_row_more : (f : RowKey → List Mark) (rows : List RowKey) (i : ℕ) (key : RowKey) (start now next : List Mark) → i < length rows → key ≡ get_or rows i key
    → HaveSame now (start ++ flat_map f (take i rows)) → HaveSame next (now ++ f key) → HaveSame next (start ++ flat_map f (take (i + 1) rows))
one_row_more f rows i key start now next within is so_far step mark =
    step mark
    ∙ list_any-append (same_mark mark) now (f key)
    ∙ ap (λ b. b || has_mark (f key) mark) (so_far mark)
    ∙ sym (list_any-append (same_mark mark) (start ++ flat_map f (take i rows)) (f key))
    ∙ ap (λ list. has_mark list mark)
    (flat_map_more f start (take i rows) key ∙ ap (λ keys. start ++ flat_map f keys) (sym (take_more rows i key within ∙ ap (λ k. take i rows ++ k ∷ []) (sym is))))

pub same_query : (config : Config) (held : ObjectMap) → AtKeys held → AreLawful held → (q : Query) (key : RowKey) (behind : List RowKey) (first marks : List Mark)
    → key ≡ first_row q → behind ≡ behind_row config held key → HaveSame first (reads config held key) → HaveSame marks (first ++ flat_map (reads config held) behind) → HaveSame marks (query_reads config held q)
same_query config held at_keys lawful q key behind first marks is_first is_behind of_first of_all mark =
    let own = reads_mark config held at_keys lawful mark in
    of_all mark
    ∙ list_any-append (same_mark mark) first (flat_map (reads config held) behind)
    ∙ (λ i. of_first mark i || any_in (reads config held) mark behind i)
    ∙ ap (λ list. list_any own (key ∷ list)) is_behind
    ∙ ap (λ key. list_any own (key ∷ behind_row config held key)) is_first
    ∙ same_rows config held at_keys lawful mark q
    ∙ sym (any_in (reads config held) mark (rows config held q))
