-- What is looked up as the rows behind ports follow a change, in terms of the rows of queries.
use Rattle.std.proofs.Common.{◌≡◌, ◌≤◌, ◌+◌, ◌⊎◌, ◌++◌, inl, inr, ℕ, Bool, true, false, cond, List, [], ◌∷◌, map, Option, Some, None, refl, sym, ap, subst, ◌∙◌, arith}
use Rattle.std.proofs.lemmas.Bool.{false≢true}
use Rattle.std.proofs.lemmas.List.Sums.{sum_by-append, sum_by-cons}
use Rattle.std.specs.Cmp.{IsTotalOrder}
use Rattle.std.specs.FinMap.{IsAntisymmetric}
use Rattle.std.specs.List.{AllByRecursion, Contains, IsDistinct, filter_map, sum_by}
use Rattle.std.specs.Ordering.{eq_by_cmp}
use Rattle.std.specs.declared.cmp.Ordering.{Ordering}
use Rattle.mesh_base.specs.contracts.key.ObjKeyOrd.TheImpl.Laws as key_laws
use Rattle.mesh_base.specs.declared.key.ObjKey.{ObjKey}
use Rattle.view_types.specs.Objects.{ObjectMap}
use Rattle.view_types.specs.declared.config.Config.{Config}
use Rattle.view_types.specs.declared.mark.Mark.{Mark}
use Rattle.view_types.specs.declared.query.Query.{Query}
use Rattle.view_types.specs.declared.server_view.RouteRow.{RouteRow}
use Rattle.view_rules.specs.PolicyLaws.{server_key}
use Rattle.mark_rules.specs.Marks.{meets}
use Rattle.mark_rules.specs.Reads.{authz_reads, cost, reads, route_reads, server_reads}
use Rattle.mark_rules.specs.Rows.{key_of_row, keys_behind, name_in, routes_behind, server_part, server_routes}
use Rattle.mark_rules.specs.contracts.keys.RouteKeyOrd.TheImpl.Laws as route_laws
use Rattle.mark_rules.specs.contracts.keys.ServerKeyOrd as server_order
use Rattle.mark_rules.specs.contracts.keys.ServerKeyOrd.TheImpl.Laws as server_laws
use Rattle.mark_rules.specs.declared.keys.RouteKey.{RouteKey}
use Rattle.mark_rules.specs.declared.keys.RowKey.{RowKey}
use Rattle.mark_rules.specs.declared.keys.RowKey.TheVariants as row
use Rattle.mark_rules.specs.declared.keys.ServerKey.{ServerKey}
use Rattle.row_table.specs.IndexRows.{Filter, has_key}
use Rattle.row_views.specs.Costs.{AreApart, FollowedRows, IsFollowed, cost_of, open_cost}
use Rattle.row_views.specs.Ids.{AreTied}
use Rattle.row_views.specs.InUse.{IsInUse}
use Rattle.row_views.specs.Queries.{rows_at}
use Rattle.row_views.specs.Standing.{FollowCost}
use Rattle.row_views.proofs.Costs.{all_joined, all_of, apart_joined, in_use, rows_apart, total_of}
use Rattle.row_views.proofs.InUse.{key_there, row_there}
use Rattle.authz_index.specs.AuthzKeys.{authz_keys_exact}
use Rattle.route_index.specs.RouteKeys.{route_keys_exact}
use Rattle.server_index.specs.ServerKeys.{server_keys_exact}
use Rattle.inbound_views.specs.Costs.{AllEnter, RowsFollow, cost_of_authz, cost_of_routes}
use Rattle.inbound_views.specs.InUse.{authz_row_is, route_row_is}
use Rattle.inbound_views.specs.PortRows.{authz_key, authz_keys, authz_rows, listed, own_authz, query_for, route_key, route_keys, route_rows, server_rows}
use Rattle.inbound_views.specs.Standing.{AreJoined, authz_of, query_at, routes_of, uses_authz, uses_routes, uses_server}
use Rattle.inbound_views.specs.declared.views.InboundViews.{InboundViews}
use Rattle.inbound_views.proofs.Joined.{key_cmp, route_cmp}
use Rattle.inbound_views.proofs.Rows.{authz_listed, no_routes, parts_listed, route_authz}

abbrev pub server_cmp : ServerKey → ServerKey → Ordering
server_cmp = server_order.TheImpl.cmp-value.it

-- ---- the rows of a query, by their kinds

row_of_route : (rows : List RowKey) (key : RouteKey) → has_key route_cmp (filter_map route_key rows) key ≡ true → Contains rows (row.Route key)
row_of_route = row_there route_cmp route_laws.total-law route_keys_exact route_key row.Route route_row_is

row_of_authz : (rows : List RowKey) (key : ObjKey) → has_key key_cmp (filter_map authz_key rows) key ≡ true → Contains rows (row.Authz key)
row_of_authz = row_there key_cmp key_laws.total-law authz_keys_exact authz_key row.Authz authz_row_is

route_of_row : (rows : List RowKey) (key : RouteKey) → Contains rows (row.Route key) → has_key route_cmp (filter_map route_key rows) key ≡ true
route_of_row = key_there route_cmp route_laws.total-law route_keys_exact route_key row.Route (λ key. refl)

authz_of_row : (rows : List RowKey) (key : ObjKey) → Contains rows (row.Authz key) → has_key key_cmp (filter_map authz_key rows) key ≡ true
authz_of_row = key_there key_cmp key_laws.total-law authz_keys_exact authz_key row.Authz (λ key. refl)

-- ---- what a port costs

module _ (config : Config) (held : ObjectMap) where
  abbrev one : RowKey → ℕ
  one key = cost held (reads config held key)

  authz_sum : (ns : List ℕ) (rs : List RouteRow) → sum_by one (map (route_authz ns) rs) ≡ sum_by (λ key. cost held (authz_reads held key)) (filter_map authz_key (map (route_authz ns) rs))
  authz_sum ns [] = refl
  authz_sum ns (r ∷ rs) =
      let rest = filter_map authz_key (map (route_authz ns) rs) in
      sum_by-cons one (route_authz ns r) (map (route_authz ns) rs) ∙ ap (λ n. one (route_authz ns r) + n) (authz_sum ns rs) ∙ sym (sum_by-cons (λ key. cost held (authz_reads held key)) _ rest)

  behind_sum : (routes : RouteKey → List RouteRow) (ns : List ℕ) (name : Option (List ℕ)) → sum_by one (keys_behind routes ns name) ≡ cost_of_routes held (filter_map route_key (keys_behind routes ns name)) + cost_of_authz held (filter_map authz_key (keys_behind routes ns name))
  behind_sum routes ns None = refl
  behind_sum routes ns (Some server) =
      let key : RouteKey = record { ns = ns; server = server } in
      let rest : List RowKey = map (route_authz ns) (routes key) in
      let all = sum_by-cons one (row.Route key) (row.Authz (server_key ns server) ∷ rest) in
      let after = sum_by-cons one (row.Authz (server_key ns server)) rest in
      let each = authz_sum ns (routes key) in
      let of_route : sum_by (λ k. cost held (route_reads k)) (key ∷ filter_map route_key rest) ≡ cost held (route_reads key) + 0 =
      sum_by-cons (λ k. cost held (route_reads k)) key (filter_map route_key rest) ∙ ap (λ (ks : List RouteKey). cost held (route_reads key) + sum_by (λ k. cost held (route_reads k)) ks) (no_routes ns (routes key)) in
      let of_authz = sum_by-cons (λ k. cost held (authz_reads held k)) (server_key ns server) (filter_map authz_key rest) in
      omega (arith, all, after, each, of_route, of_authz)

  pub behind_parts : (routes : RouteKey → List RouteRow) (ns : List ℕ) (name : Option (List ℕ)) → cost_of config held (keys_behind routes ns name)
      ≡ cost_of_authz held (own_authz ns name) + (cost_of_routes held (listed ns name) + cost_of_authz held (map (key_of_row ns) (routes_behind routes ns name)))
  behind_parts routes ns name =
      let all = behind_sum routes ns name in
      let of_routes = ap (cost_of_routes held) (parts_listed ns routes name) in
      let of_authz = ap (cost_of_authz held) (authz_listed ns routes name) ∙ sum_by-append (λ key. cost held (authz_reads held key)) (own_authz ns name) (map (key_of_row ns) (routes_behind routes ns name)) in
      omega (arith, all, of_routes, of_authz)

  pub port_whole : (key : ServerKey) → open_cost config held (Some (query_for key)) ≡ cost held (server_reads key) + cost_of config held (keys_behind (server_routes held) key.ns (name_in (server_part config held key)))
  port_whole key = sum_by-cons one (row.Server key) (keys_behind (server_routes held) key.ns (name_in (server_part config held key)))

  pub port_cost : (key : ServerKey) → open_cost config held (Some (query_for key)) ≡ cost held (server_reads key) + (cost_of_routes held (route_keys config held (Some (query_for key))) + cost_of_authz held (authz_keys config held (Some (query_for key))))
  port_cost key = port_whole key ∙ ap (λ n. cost held (server_reads key) + n) (behind_sum (server_routes held) key.ns (name_in (server_part config held key)))

-- what one key reads
pub one_route : (held : ObjectMap) (key : RouteKey) → cost_of_routes held (key ∷ []) ≡ cost held (route_reads key) + 0
one_route held key = sum_by-cons (λ k. cost held (route_reads k)) key []

-- and what one more does
pub more_authz : (held : ObjectMap) (key : ObjKey) (keys : List ObjKey) → cost_of_authz held (key ∷ keys) ≡ cost held (authz_reads held key) + cost_of_authz held keys
more_authz held key keys = sum_by-cons (λ k. cost held (authz_reads held k)) key keys

-- a row of an index that is this one costs at most what it reads
pub read_less : {Key Row : Type 0} (filter other : Filter Key Row) → filter ≡ other → (held : ObjectMap) (used : Bool) (key : Key) (old new : ℕ) → new ≤ old + cond used 0 (cost held (filter.reads held key)) → new ≤ old + cost held (other.reads held key)
read_less {Key} {Row} filter other same held used key old new most = by used (subst (λ (f : Filter Key Row). new ≤ old + cond used 0 (cost held (f.reads held key))) same most)
  where
    by : (b : Bool) → new ≤ old + cond b 0 (cost held (other.reads held key)) → new ≤ old + cost held (other.reads held key)
    by true less = omega (arith, less)
    by false less = less

-- the same of an index that is this one
pub follows_as : {Key Row : Type 0} (filter other : Filter Key Row) → filter ≡ other → (cmp : Key → Key → Ordering) (used : Key → Bool) (changed : List Mark) (before after : ObjectMap) (old new : ℕ) → FollowCost filter cmp used changed before after old new
    → FollowCost other cmp used changed before after old new
follows_as {Key} {Row} filter other same cmp used changed before after old new cost = subst (λ (f : Filter Key Row). FollowCost f cmp used changed before after old new) same cost

-- ---- rows that read what is looked up

module _ (config : Config) (after : ObjectMap) where
  record Reading (P : RowKey → Type 0) (old new : ℕ) : Type 0 where
    pub keys : List RowKey
    pub each : AllByRecursion P keys
    pub once : AreApart keys
    pub most : new ≤ old + cost_of config after keys

  module _ (P Q : RowKey → Type 0) (disjoint : (key : RowKey) → P key → Q key → ⊥) where
    read_both : (old mid new : ℕ) → Reading P old mid → Reading Q mid new → Reading (λ key. P key ⊎ Q key) old new
    read_both old mid new these those = record {
      keys = these.keys ++ those.keys;
      each = all_joined (λ key. P key ⊎ Q key) these.keys those.keys (all_of P (λ key. P key ⊎ Q key) (λ key p. inl p) these.keys these.each) (all_of Q (λ key. P key ⊎ Q key) (λ key q. inr q) those.keys those.each);
      once = apart_joined P Q disjoint these.keys those.keys these.once those.once these.each those.each;
      most =
          let first_most = these.most in
          let second_most = those.most in
          let both = sum_by-append (λ key. cost after (reads config after key)) these.keys those.keys in
          omega (arith, first_most, second_most, both);
    }

  module _ {Key Row : Type 0} (cmp : Key → Key → Ordering) (total : IsTotalOrder cmp) (exact : IsAntisymmetric cmp) (row_at : Key → RowKey) (row_exact : (a b : Key) → row_at a ≡ row_at b → a ≡ b) (filter : Filter Key Row)
      (reading : (key : Key) → reads config after (row_at key) ≡ filter.reads after key) (P : RowKey → Type 0) where
    all_rows : (Of : Key → Type 0) → ((key : Key) → Of key → P (row_at key)) → (keys : List Key) → AllByRecursion Of keys → AllByRecursion P (map row_at keys)
    all_rows Of is [] all = tt
    all_rows Of is (key ∷ keys) all = (is key all.0, all_rows Of is keys all.1)

    read_by : (Of : Key → Type 0) → ((key : Key) → Of key → P (row_at key)) → (keys : List Key) → AllByRecursion Of keys → IsDistinct (eq_by_cmp cmp) keys → (old new : ℕ) → new ≤ old + sum_by (λ key. cost after (filter.reads after key)) keys → Reading P old new
    read_by Of is keys each once old new most = record {
      keys = map row_at keys;
      each = all_rows Of is keys each;
      once = rows_apart cmp total exact row_at row_exact keys once;
      most = subst (λ (n : ℕ). new ≤ old + n) (sym (total_of row_at filter config after reading keys)) most;
    }

-- ---- as the rows follow a change

abbrev kind : RowKey → ℕ
kind (row.Server key) = 0
kind (row.Route key) = 1
kind (row.Authz key) = 2
kind _ = 3

module _ (stand : InboundViews → Config → ObjectMap → Type 0) (config : Config) (changed : List Mark) (before after : ObjectMap) (old mid : InboundViews) (joined : AreJoined stand config before old)
    (number_at : ServerKey → Option ℕ) (tied : AreTied server_cmp number_at old.servers.by_number old.servers.by_id)
    (route_user : (key : RouteKey) → uses_routes old key ≡ true → (id : ℕ) × (has_key route_cmp (routes_of old id) key ≡ true))
    (authz_user : (key : ObjKey) → uses_authz old key ≡ true → (id : ℕ) × (has_key key_cmp (authz_of old id) key ≡ true))
    (uses_route : (id : ℕ) (key : RouteKey) → has_key route_cmp (routes_of old id) key ≡ true → uses_routes mid key ≡ true)
    (uses_auth : (id : ℕ) (key : ObjKey) → has_key key_cmp (authz_of old id) key ≡ true → uses_authz mid key ≡ true)
    (same_asked : (id : ℕ) → query_at mid id ≡ query_at old id) where
  abbrev Used : RowKey → Type 0
  Used = IsInUse config before (query_at old)

  abbrev Read : ℕ → RowKey → Type 0
  Read n key = (kind key ≡ n) × (Used key × (meets (reads config before key) changed ≡ true))

  abbrev New : ℕ → RowKey → Type 0
  New n key = (kind key ≡ n) × ((Used key → ⊥) × IsInUse config after (query_at old) key)

  route_in_use : (key : RouteKey) → uses_routes old key ≡ true → Used (row.Route key)
  route_in_use key used =
      let user = route_user key used in
      record { id = user.0; of_query = row_of_route (rows_at config before (query_at old user.0)) key (ap (λ (keys : List RouteKey). has_key route_cmp keys key) (sym (joined.routes user.0)) ∙ user.1) }

  authz_in_use : (key : ObjKey) → uses_authz old key ≡ true → Used (row.Authz key)
  authz_in_use key used =
      let user = authz_user key used in
      record { id = user.0; of_query = row_of_authz (rows_at config before (query_at old user.0)) key (ap (λ (keys : List ObjKey). has_key key_cmp keys key) (sym (joined.authz user.0)) ∙ user.1) }

  server_in_use : (key : ServerKey) → uses_server number_at old key ≡ true → Used (row.Server key)
  server_in_use = in_use server_cmp server_laws.total-law server_keys_exact row.Server query_for config before (λ key. (0, omega arith, refl)) number_at old.servers.by_number old.servers.by_id tied

  -- a key that comes into use is that of no query before, and of one after
  route_comes : (key : RouteKey) → (uses_routes mid key ≡ false) × ((id : ℕ) × (has_key route_cmp (route_keys config after (query_at mid id)) key ≡ true)) → New 1 (row.Route key)
  route_comes key comes = (
    refl,
    (
      (λ used. absurd (false≢true (sym comes.0 ∙ uses_route used.id key (ap (λ (keys : List RouteKey). has_key route_cmp keys key) (joined.routes used.id) ∙ route_of_row (rows_at config before (query_at old used.id)) key used.of_query)))),
      record { id = comes.1.0; of_query = row_of_route (rows_at config after (query_at old comes.1.0)) key (ap (λ (asked : Option Query). has_key route_cmp (route_keys config after asked) key) (sym (same_asked comes.1.0)) ∙ comes.1.1) },
    ),
  )

  authz_comes : (key : ObjKey) → (uses_authz mid key ≡ false) × ((id : ℕ) × (has_key key_cmp (authz_keys config after (query_at mid id)) key ≡ true)) → New 2 (row.Authz key)
  authz_comes key comes = (
    refl,
    (
      (λ used. absurd (false≢true (sym comes.0 ∙ uses_auth used.id key (ap (λ (keys : List ObjKey). has_key key_cmp keys key) (joined.authz used.id) ∙ authz_of_row (rows_at config before (query_at old used.id)) key used.of_query)))),
      record { id = comes.1.0; of_query = row_of_authz (rows_at config after (query_at old comes.1.0)) key (ap (λ (asked : Option Query). has_key key_cmp (authz_keys config after asked) key) (sym (same_asked comes.1.0)) ∙ comes.1.1) },
    ),
  )

  apart_kinds : (n m : ℕ) → (n ≡ m → ⊥) → (key : RowKey) → kind key ≡ n → kind key ≡ m → ⊥
  apart_kinds n m apart key is also = apart (sym is ∙ also)

  module _ (start second end : ℕ) (follow : RowsFollow number_at config before after changed old start second) (enter : AllEnter config after mid second end) where
    servers_read : Reading config after (Read 0) start follow.first
    servers_read =
        let all = follow.servers in
        read_by config after server_cmp server_laws.total-law server_keys_exact row.Server (λ a b same. cc same) (server_rows config) (λ key. refl) (Read 0) _ (λ key of. (refl, (server_in_use key of.0, of.1))) all.keys all.each all.once start follow.first all.most

    routes_read : Reading config after (Read 1) follow.first follow.second
    routes_read =
        let all = follow.routes in
        read_by config after route_cmp route_laws.total-law route_keys_exact row.Route (λ a b same. cc same) route_rows (λ key. refl) (Read 1) _ (λ key of. (refl, (route_in_use key of.0, of.1))) all.keys all.each all.once follow.first follow.second all.most

    authz_read : Reading config after (Read 2) follow.second second
    authz_read =
        let all = follow.authz in
        read_by config after key_cmp key_laws.total-law authz_keys_exact row.Authz (λ a b same. cc same) (authz_rows config) (λ key. refl) (Read 2) _ (λ key of. (refl, (authz_in_use key of.0, of.1))) all.keys all.each all.once follow.second second all.most

    abbrev route_sum : ℕ
    route_sum = sum_by (λ key. cost after (route_reads key)) enter.routes

    routes_new : Reading config after (New 1) second (second + route_sum)
    routes_new = read_by config after route_cmp route_laws.total-law route_keys_exact row.Route (λ a b same. cc same) route_rows (λ key. refl) (New 1) _ route_comes enter.routes enter.new_routes.each enter.new_routes.once second (second + route_sum) (omega arith)

    authz_new : Reading config after (New 2) (second + route_sum) end
    authz_new =
        let most = enter.most in
        read_by config after key_cmp key_laws.total-law authz_keys_exact row.Authz (λ a b same. cc same) (authz_rows config) (λ key. refl) (New 2) _ authz_comes enter.authz enter.new_authz.each enter.new_authz.once (second + route_sum) end (omega (arith, most))

    abbrev AllRead : RowKey → Type 0
    AllRead key = (Read 0 key ⊎ Read 1 key) ⊎ Read 2 key

    abbrev AllNew : RowKey → Type 0
    AllNew key = New 1 key ⊎ New 2 key

    is_read : (key : RowKey) → AllRead key → Used key × (meets (reads config before key) changed ≡ true)
    is_read key (inl (inl read)) = read.1
    is_read key (inl (inr read)) = read.1
    is_read key (inr read) = read.1

    is_new : (key : RowKey) → AllNew key → (Used key → ⊥) × IsInUse config after (query_at old) key
    is_new key (inl new) = new.1
    is_new key (inr new) = new.1

    two_apart : (key : RowKey) → Read 0 key ⊎ Read 1 key → Read 2 key → ⊥
    two_apart key (inl read) other = apart_kinds 0 2 (λ same. omega (arith, same)) key read.0 other.0
    two_apart key (inr read) other = apart_kinds 1 2 (λ same. omega (arith, same)) key read.0 other.0

    all_read : Reading config after AllRead start second
    all_read =
        read_both config after (λ key. Read 0 key ⊎ Read 1 key) (Read 2) two_apart start follow.second second
        (read_both config after (Read 0) (Read 1) (λ key read other. apart_kinds 0 1 (λ same. omega (arith, same)) key read.0 other.0) start follow.first follow.second servers_read routes_read) authz_read

    all_new : Reading config after AllNew second end
    all_new = read_both config after (New 1) (New 2) (λ key new other. apart_kinds 1 2 (λ same. omega (arith, same)) key new.0 other.0) second (second + route_sum) end routes_new authz_new

    all_followed : Reading config after (λ key. AllRead key ⊎ AllNew key) start end
    all_followed = read_both config after AllRead AllNew (λ key read new. (is_new key new).0 (is_read key read).0) start second end all_read all_new

    pub follow_cost : (last : ℕ) → last ≤ end → FollowedRows config changed before after (query_at old) start last
    follow_cost last less = record {
      keys = all_followed.keys;
      each = all_of (λ key. AllRead key ⊎ AllNew key) (IsFollowed config changed before after (query_at old)) (λ key f. elim f [ inl read ↦ inl (is_read key read) | inr new ↦ inr (is_new key new) ]) all_followed.keys all_followed.each;
      once = all_followed.once;
      most = let most = all_followed.most in omega (arith, most, less);
    }
