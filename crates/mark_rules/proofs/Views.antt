-- The rows and the view of a query stay where no mark of a change is asked for.
use Rattle.std.proofs.Common.{◌≡◌, ℕ, false, List, [], ◌∷◌, ◌++◌, map, Some, None, Option, refl, sym, ap, subst, ◌∙◌, Bool, ◌||◌}
use Rattle.std.specs.List.{flat_map, list_any}
use Rattle.std.proofs.lemmas.List.Folds.{flat_map-map, list_any-append}
use Rattle.view_types.specs.Objects.{ObjectMap}
use Rattle.view_types.specs.declared.config.Config.{Config}
use Rattle.view_types.specs.declared.mark.Mark.{Mark}
use Rattle.view_types.specs.declared.query.Query.{Query}
use Rattle.view_types.specs.declared.query.Query.TheVariants as query
use Rattle.view_types.specs.declared.server_view.AuthzRow.{AuthzRow}
use Rattle.view_types.specs.declared.server_view.RouteRow.{RouteRow}
use Rattle.view_types.specs.declared.server_view.ServerView.TheVariants.{Present}
use Rattle.view_types.specs.declared.view.View.TheVariants as view
use Rattle.view_rules.specs.PolicyLaws.{server_key}
use Rattle.mark_rules.specs.Changes.{Leads}
use Rattle.mark_rules.specs.Laws.{QueriesAskByRows, QueriesStay, ViewsStay}
use Rattle.mark_rules.specs.Marks.{has_mark, meets}
use Rattle.mark_rules.specs.Reads.{authz_reads, endpoint_reads, outbound_reads, profile_reads, query_reads, reads, route_reads, server_reads}
use Rattle.mark_rules.specs.Rows.{ServerPart, authz_behind, authz_row, join_inbound, view_of_rows, key_of_row, keys_behind, name_in, port_rows, routes_behind, row_joined, rows, server_joined, server_part, server_routes, with_authz}
use Rattle.mark_rules.specs.declared.keys.EndpointKey.{EndpointKey}
use Rattle.mark_rules.specs.declared.keys.ProfileKey.{ProfileKey}
use Rattle.mark_rules.specs.declared.keys.RouteKey.{RouteKey}
use Rattle.mark_rules.specs.declared.keys.RowKey.{RowKey}
use Rattle.mark_rules.specs.declared.keys.RowKey.TheVariants as row
use Rattle.mark_rules.specs.declared.keys.ServerKey.{ServerKey}
use Rattle.mark_rules.proofs.Authz.{authz_stays}
use Rattle.mark_rules.proofs.Endpoints.{endpoints_stay}
use Rattle.mark_rules.proofs.ViewJoin.{views_are_joined}
use Rattle.mark_rules.proofs.MarkTests.{misses_left, misses_right, stay_each, stay_joined}
use Rattle.mark_rules.proofs.Outbound.{outbound_stays}
use Rattle.mark_rules.proofs.Profiles.{profiles_stay}
use Rattle.mark_rules.proofs.Servers.{routes_stay, servers_stay}

module _ {changed : List Mark} {before after : ObjectMap} (leads : Leads changed before after) (config : Config) where
  -- what a row asks for
  reads_stay : (key : RowKey) → meets (reads config before key) changed ≡ false → reads config after key ≡ reads config before key
  reads_stay (row.Endpoint key) misses = (endpoints_stay config key changed before after leads misses).1
  reads_stay (row.Profile key) misses = (profiles_stay config key changed before after leads misses).1
  reads_stay (row.Server key) misses = refl
  reads_stay (row.Route key) misses = refl
  reads_stay (row.Authz key) misses = (authz_stays config key changed before after leads misses).1
  reads_stay (row.Outbound key) misses = (outbound_stays config key changed before after leads misses).1

  -- ---- the rows of a Server

  module _ (ns : List ℕ) where
    abbrev Misses : Option (List ℕ) → Type 0
    Misses name = meets (flat_map (reads config before) (keys_behind (server_routes before) ns name)) changed ≡ false

    abbrev routes_key : List ℕ → RouteKey
    routes_key server = record { ns = ns; server = server }

    abbrev route_authz : RouteRow → RowKey
    route_authz route = row.Authz (key_of_row ns route)

    abbrev rest_of : List ℕ → List RowKey
    rest_of server = map route_authz (server_routes before (routes_key server))

    of_authz : (server : List ℕ) → Misses (Some server) → meets (authz_reads before (server_key ns server) ++ flat_map (reads config before) (rest_of server)) changed ≡ false
    of_authz server misses = misses_right changed (route_reads (routes_key server)) (authz_reads before (server_key ns server) ++ flat_map (reads config before) (rest_of server)) misses

    its_routes : (server : List ℕ) → Misses (Some server) → server_routes after (routes_key server) ≡ server_routes before (routes_key server)
    its_routes server misses =
        (routes_stay (routes_key server) changed before after leads
        (misses_left changed (route_reads (routes_key server)) (authz_reads before (server_key ns server) ++ flat_map (reads config before) (rest_of server)) misses)).0

    keys_stay : (name : Option (List ℕ)) → Misses name → keys_behind (server_routes after) ns name ≡ keys_behind (server_routes before) ns name
    keys_stay None misses = refl
    keys_stay (Some server) misses = ap (λ routes. row.Route (routes_key server) ∷ row.Authz (server_key ns server) ∷ map route_authz routes) (its_routes server misses)

    its_authz : (name : Option (List ℕ)) → Misses name → authz_behind (authz_row config after) ns name ≡ authz_behind (authz_row config before) ns name
    its_authz None misses = refl
    its_authz (Some server) misses =
        (authz_stays config (server_key ns server) changed before after leads
        (misses_left changed (authz_reads before (server_key ns server)) (flat_map (reads config before) (rest_of server)) (of_authz server misses))).0

    route_joined : (route : RouteRow) → meets (reads config before (route_authz route)) changed ≡ false → with_authz (authz_row config after) ns route ≡ with_authz (authz_row config before) ns route
    route_joined route misses =
        ap (λ (authz : List AuthzRow). record { kind = route.kind; name = route.name; created = route.created; hosts = route.hosts; rules = route.rules; authz = authz })
        (authz_stays config (key_of_row ns route) changed before after leads misses).0

    routes_joined : (name : Option (List ℕ)) → Misses name
        → map (with_authz (authz_row config after) ns) (routes_behind (server_routes after) ns name) ≡ map (with_authz (authz_row config before) ns) (routes_behind (server_routes before) ns name)
    routes_joined None misses = refl
    routes_joined (Some server) misses =
        ap (map (with_authz (authz_row config after) ns)) (its_routes server misses)
        ∙ stay_each changed (λ route. reads config before (route_authz route)) (with_authz (authz_row config after) ns) (with_authz (authz_row config before) ns) route_joined (server_routes before (routes_key server))
        (subst (λ marks. meets marks changed ≡ false) (flat_map-map (reads config before) route_authz (server_routes before (routes_key server)))
        (misses_right changed (authz_reads before (server_key ns server)) (flat_map (reads config before) (rest_of server)) (of_authz server misses)))

    part_joined : (part : Option ServerPart) → Misses (name_in part)
        → join_inbound (server_routes after) (authz_row config after) ns part ≡ join_inbound (server_routes before) (authz_row config before) ns part
    part_joined None misses = refl
    part_joined (Some part) misses = λ i. Present (row_joined part (its_authz part.2 misses i) (routes_joined part.2 misses i))

  -- ---- queries

  module _ (key : ServerKey) (misses : meets (query_reads config before (query.Port key.ns key.pod key.port)) changed ≡ false) where
    abbrev behind : List RowKey
    behind = keys_behind (server_routes before) key.ns (name_in (server_part config before key))

    its_part : server_part config after key ≡ server_part config before key
    its_part = (servers_stay config key changed before after leads (misses_left changed (server_reads key) (flat_map (reads config before) behind) misses)).0

    of_behind : meets (flat_map (reads config before) behind) changed ≡ false
    of_behind = misses_right changed (server_reads key) (flat_map (reads config before) behind) misses

  only_left : (marks : List Mark) → meets (marks ++ []) changed ≡ false → meets marks changed ≡ false
  only_left marks misses = misses_left changed marks [] misses

  port_rows_stay : (key : ServerKey) → meets (query_reads config before (query.Port key.ns key.pod key.port)) changed ≡ false → port_rows config after key ≡ port_rows config before key
  port_rows_stay key misses =
      ap (λ keys. row.Server key ∷ keys)
      (ap (λ part. keys_behind (server_routes after) key.ns (name_in part)) (its_part key misses) ∙ keys_stay key.ns (name_in (server_part config before key)) (of_behind key misses))

  server_stays : (key : ServerKey) → meets (query_reads config before (query.Port key.ns key.pod key.port)) changed ≡ false → server_joined config after key ≡ server_joined config before key
  server_stays key misses =
      ap (join_inbound (server_routes after) (authz_row config after) key.ns) (its_part key misses) ∙ part_joined key.ns (server_part config before key) (of_behind key misses)

  rows_stay : (q : Query) → meets (query_reads config before q) changed ≡ false → rows config after q ≡ rows config before q
  rows_stay (query.Get ns name port ctx) misses = refl
  rows_stay (query.Profile target ctx) misses = refl
  rows_stay (query.Port ns pod port) misses = port_rows_stay (record { ns = ns; pod = pod; port = port }) misses
  rows_stay (query.Traffic target) misses = refl
  rows_stay (query.PortRows ns pod port) misses = port_rows_stay (record { ns = ns; pod = pod; port = port }) misses

  joined_stays : (q : Query) → meets (query_reads config before q) changed ≡ false → view_of_rows config after q ≡ view_of_rows config before q
  joined_stays (query.Get ns name port ctx) misses =
      let key : EndpointKey = record { ns = ns; name = name; port = port } in
      ap view.Endpoints (endpoints_stay config key changed before after leads (only_left (endpoint_reads before key) misses)).0
  joined_stays (query.Profile target ctx) misses =
      let key : ProfileKey = record { target = target; client = ctx.ns } in
      ap view.Profile (profiles_stay config key changed before after leads (only_left (profile_reads config before key) misses)).0
  joined_stays (query.Port ns pod port) misses = ap view.Server (server_stays (record { ns = ns; pod = pod; port = port }) misses)
  joined_stays (query.Traffic target) misses = ap view.Outbound (outbound_stays config target changed before after leads (only_left (outbound_reads before target) misses)).0
  joined_stays (query.PortRows ns pod port) misses = ap view.ServerRows (server_stays (record { ns = ns; pod = pod; port = port }) misses)

pub queries_stay : QueriesStay
queries_stay config q changed before after leads misses = (
  rows_stay leads config q misses,
  ap (flat_map (reads config after)) (rows_stay leads config q misses)
      ∙ stay_joined changed (reads config before) (reads config after) (reads config before) (reads_stay leads config) (rows config before q) misses,
)

pub views_stay : ViewsStay
views_stay config q changed before after lawful lawful' leads misses =
    views_are_joined config after leads.keys_kept lawful' q ∙ joined_stays leads config q misses ∙ sym (views_are_joined config before leads.at_keys lawful q)

any_joined : {X Y : Type 0} (p : Y → Bool) (f : X → List Y) (xs : List X) → list_any p (flat_map f xs) ≡ list_any (λ x. list_any p (f x)) xs
any_joined p f [] = refl
any_joined p f (x ∷ xs) = list_any-append p (f x) (flat_map f xs) ∙ ap (λ b. list_any p (f x) || b) (any_joined p f xs)

pub queries_ask_by_rows : QueriesAskByRows
queries_ask_by_rows config held q changed = any_joined (has_mark changed) (reads config held) (rows config held q)
