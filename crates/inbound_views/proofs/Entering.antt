-- The keys that come into use as ids are opened with more keys, one id after the other.
use Rattle.std.proofs.Common.{◌≡◌, ◌≤◌, ◌+◌, ◌||◌, ◌++◌, ℕ, Bool, true, false, cond, nat_eq, List, [], ◌∷◌, Option, refl, sym, ap, subst, ◌∙◌, arith}
use Rattle.std.proofs.lemmas.Bool.{false≢true}
use Rattle.std.proofs.lemmas.List.Sums.{sum_by-append, sum_by-cons}
use Rattle.std.specs.BTreeMap.{BTreeMap}
use Rattle.std.specs.Cmp.{IsTotalOrder}
use Rattle.std.specs.FinMap.{IsAntisymmetric}
use Rattle.std.specs.List.{AllByRecursion, IsDistinct, sum_by}
use Rattle.std.specs.Ordering.{eq_by_cmp}
use Rattle.std.specs.declared.cmp.Ordering.{Ordering}
use Rattle.mesh_base.specs.contracts.key.ObjKeyOrd.TheImpl.Laws as key_laws
use Rattle.mesh_base.specs.declared.key.ObjKey.{ObjKey}
use Rattle.view_types.specs.Objects.{ObjectMap}
use Rattle.view_types.specs.declared.config.Config.{Config}
use Rattle.view_types.specs.declared.query.Query.{Query}
use Rattle.mark_graph.specs.declared.rows_by_mark.RowsByMark.{RowsByMark}
use Rattle.mark_rules.specs.Reads.{authz_reads, cost, route_reads}
use Rattle.mark_rules.specs.contracts.keys.RouteKeyOrd.TheImpl.Laws as route_laws
use Rattle.mark_rules.specs.declared.keys.RouteKey.{RouteKey}
use Rattle.row_table.specs.IndexRows.{Filter, has_key}
use Rattle.row_table.proofs.Keys.{distinct_none, has_more, is_same}
use Rattle.row_views.specs.Ids.{SetsAt, has_ids}
use Rattle.row_views.proofs.Ids.{has_where}
use Rattle.row_views.proofs.Costs.{all_joined, all_of}
use Rattle.row_sets.specs.Standing.{EntersWithin, Standing, keys_at, open_cost}
use Rattle.row_sets.proofs.Costs.{id_at}
use Rattle.authz_index.specs.AuthzKeys.{authz_keys_exact}
use Rattle.route_index.specs.RouteKeys.{route_keys_exact}
use Rattle.inbound_views.specs.Costs.{AllEnter, ComeInUse, Enters, cost_of_authz, cost_of_routes}
use Rattle.inbound_views.specs.PortRows.{authz_keys, authz_rows, route_keys, route_rows}
use Rattle.inbound_views.specs.Standing.{authz_of, query_at, routes_of, uses_authz, uses_routes, with_earlier}
use Rattle.inbound_views.specs.declared.moving.Earlier.{Earlier}
use Rattle.inbound_views.specs.declared.moving.Earlier.TheVariants.{Stay, Leave}
use Rattle.inbound_views.specs.declared.views.InboundViews.{InboundViews}
use Rattle.inbound_views.proofs.Joined.{key_cmp, route_cmp}
use Rattle.inbound_views.proofs.Opening.{same_number}
use Rattle.inbound_views.proofs.SetKeys.{set_here}

-- Those so far, which are in use by now.
pub record Entered {Key : Type 0} (cmp : Key → Key → Ordering) (start now : Key → Bool) (keys_for : ℕ → List Key) (keys : List Key) : Type 0 where
  pub come : ComeInUse cmp start keys_for keys
  pub used : AllByRecursion (λ key. now key ≡ true) keys
  pub grown : (key : Key) → start key ≡ true → now key ≡ true

module _ {Key : Type 0} (cmp : Key → Key → Ordering) (total : IsTotalOrder cmp) (exact : IsAntisymmetric cmp) where
  distinct_joined : (now : Key → Bool) (xs ys : List Key) → IsDistinct (eq_by_cmp cmp) xs → IsDistinct (eq_by_cmp cmp) ys → AllByRecursion (λ key. now key ≡ true) xs → AllByRecursion (λ key. now key ≡ false) ys → IsDistinct (eq_by_cmp cmp) (xs ++ ys)
  unfolding IsDistinct
  distinct_joined now [] ys first second these those = second
  distinct_joined now (x ∷ xs) ys first second these those = (
    all_joined (λ y. eq_by_cmp cmp x y ≡ false) xs ys first.0 (all_of (λ y. now y ≡ false) (λ y. eq_by_cmp cmp x y ≡ false) (λ y out. apart y (eq_by_cmp cmp x y) refl out) ys those),
    distinct_joined now xs ys first.1 second these.1 those,
  )
    where
      apart : (y : Key) (b : Bool) → eq_by_cmp cmp x y ≡ b → now y ≡ false → eq_by_cmp cmp x y ≡ false
      apart y true is out = absurd (false≢true (sym out ∙ sym (ap now (is_same cmp total exact x y is)) ∙ these.0))
      apart y false is out = is

  pub none_entered : (used : Key → Bool) (keys_for : ℕ → List Key) → Entered cmp used used keys_for []
  none_entered used keys_for = record { come = record { each = tt; once = distinct_none cmp total exact }; used = tt; grown = λ key is. is }

  module _ {Row : Type 0} (filter : Filter Key Row) (held : ObjectMap) (start now next : Key → Bool) (keys_for : ℕ → List Key) (id : ℕ) (before : List Key) (old new : ℕ)
      (more : EntersWithin filter held cmp now (with_earlier Stay (keys_for id) before) old new) (grows : (key : Key) → now key ≡ true → next key ≡ true) (had : (key : Key) → has_key cmp before key ≡ true → now key ≡ true)
      (has_now : (key : Key) → has_key cmp (with_earlier Stay (keys_for id) before) key ≡ true → next key ≡ true) where
    abbrev Comes : Key → Type 0
    Comes key = (start key ≡ false) × ((n : ℕ) × (has_key cmp (keys_for n) key ≡ true))

    abbrev Fresh : Key → Type 0
    Fresh key = (has_key cmp (with_earlier Stay (keys_for id) before) key ≡ true) × (now key ≡ false)

    comes : ((key : Key) → start key ≡ true → now key ≡ true) → (key : Key) → Fresh key → Comes key
    comes grown key enters = (unused (start key) refl, (id, own (has_key cmp before key) refl))
      where
        unused : (b : Bool) → start key ≡ b → start key ≡ false
        unused true was = absurd (false≢true (sym enters.1 ∙ grown key was))
        unused false was = was

        or_none : (a : Bool) → (a || false) ≡ true → a ≡ true
        or_none true is = refl
        or_none false is = is

        own : (b : Bool) → has_key cmp before key ≡ b → has_key cmp (keys_for id) key ≡ true
        own true has = absurd (false≢true (sym enters.1 ∙ had key has))
        own false has = or_none (has_key cmp (keys_for id) key) (sym (has_more cmp (keys_for id) before key ∙ ap (λ b. has_key cmp (keys_for id) key || b) has) ∙ enters.0)

    pub entered_more : (keys : List Key) → Entered cmp start now keys_for keys → Entered cmp start next keys_for (keys ++ more.entered)
    entered_more keys so_far = record {
      come = record {
        each = all_joined Comes keys more.entered so_far.come.each (all_of Fresh Comes (comes so_far.grown) more.entered more.each);
        once = distinct_joined now keys more.entered so_far.come.once more.once so_far.used (all_of Fresh (λ key. now key ≡ false) (λ key enters. enters.1) more.entered more.each);
      };
      used = all_joined (λ key. next key ≡ true) keys more.entered (all_of (λ key. now key ≡ true) (λ key. next key ≡ true) grows keys so_far.used) (all_of Fresh (λ key. next key ≡ true) (λ key enters. has_now key enters.0) more.entered more.each);
      grown = λ key was. grows key (so_far.grown key was);
    }

  -- no key is entered that is used before
  pub none_new : {Row : Type 0} (filter : Filter Key Row) (held : ObjectMap) (used : Key → Bool) (keys : List Key) (old new : ℕ) → EntersWithin filter held cmp used keys old new → ((key : Key) → has_key cmp keys key ≡ true → used key ≡ true) → new ≤ old
  none_new filter held used keys old new enters all = by enters.entered enters.each enters.most
    where
      by : (entered : List Key) → AllByRecursion (λ key. (has_key cmp keys key ≡ true) × (used key ≡ false)) entered → new ≤ old + sum_by (λ key. cost held (filter.reads held key)) entered → new ≤ old
      by [] each most = omega (arith, most)
      by (key ∷ rest) each most = absurd (false≢true (sym each.0.1 ∙ all key each.0.0))

  -- ---- keys that are used, by the ids that have them

  module _ {Index : Type 0} (users : Index → Key → ℕ) (stand : Index → ObjectMap → Type 0) (held : ObjectMap) (index : Index) (by_key : RowsByMark Key) (by_id : BTreeMap ℕ (List Key)) (standing : Standing cmp users stand held index by_key by_id) where
    -- a key that an id has is used
    pub used_by : (id : ℕ) (key : Key) → has_key cmp (keys_at by_id id) key ≡ true → has_ids cmp by_key key ≡ true
    used_by id key has = has_where cmp total exact by_key key id (standing.ids key id ∙ has)

    -- an id has a key that is used
    pub user_of : (key : Key) → has_ids cmp by_key key ≡ true → (id : ℕ) × (has_key cmp (keys_at by_id id) key ≡ true)
    user_of key used = id_at cmp total exact by_key by_id standing.in_use.each standing.ids key used

  module _ {Index : Type 0} (users : Index → Key → ℕ) (stand : Index → ObjectMap → Type 0) (held : ObjectMap) (index next : Index) (by_key new : RowsByMark Key) (by_id later : BTreeMap ℕ (List Key))
      (standing : Standing cmp users stand held index by_key by_id) (stands : Standing cmp users stand held next new later) (id : ℕ) where
    pub set_used : (keys : List Key) → SetsAt id keys (keys_at by_id) (keys_at later) → (key : Key) → has_key cmp keys key ≡ true → has_ids cmp new key ≡ true
    set_used keys sets key has = used_by users stand held next new later stands id key (ap (λ (ks : List Key). has_key cmp ks key) (set_here id keys (keys_at by_id) (keys_at later) sets) ∙ has)

    -- what was used stays so, where an id is opened with more keys
    pub use_grows : (mine : List Key) → SetsAt id (with_earlier Stay mine (keys_at by_id id)) (keys_at by_id) (keys_at later) → (key : Key) → has_ids cmp by_key key ≡ true → has_ids cmp new key ≡ true
    use_grows mine sets key used = by (nat_eq at.0 id) refl
      where
        at : (n : ℕ) × (has_key cmp (keys_at by_id n) key ≡ true)
        at = user_of users stand held index by_key by_id standing key used

        or_second : (a b : Bool) → b ≡ true → (a || b) ≡ true
        or_second true b is = refl
        or_second false b is = is

        by : (b : Bool) → nat_eq at.0 id ≡ b → has_ids cmp new key ≡ true
        by true is = set_used (with_earlier Stay mine (keys_at by_id id)) sets key (has_more cmp mine (keys_at by_id id) key ∙ or_second (has_key cmp mine key) (has_key cmp (keys_at by_id id) key) (ap (λ n. has_key cmp (keys_at by_id n) key) (sym (same_number at.0 id is)) ∙ at.1))
        by false is = used_by users stand held next new later stands at.0 key (ap (λ (ks : List Key). has_key cmp ks key) (sets at.0 ∙ ap (λ b. cond b (with_earlier Stay mine (keys_at by_id id)) (keys_at by_id at.0)) is) ∙ at.1)

-- ---- keys that are put with those before

-- the same of an index that is this one
pub enters_as : {Key Row : Type 0} (filter other : Filter Key Row) → filter ≡ other → (held : ObjectMap) (cmp : Key → Key → Ordering) (used : Key → Bool) (keys others : List Key) → keys ≡ others → (old new : ℕ) → EntersWithin filter held cmp used keys old new
    → EntersWithin other held cmp used others old new
enters_as {Key} {Row} filter other same held cmp used keys others put old new enters =
    subst (λ (f : Filter Key Row). EntersWithin f held cmp used others old new) same (subst (λ (ks : List Key). EntersWithin filter held cmp used ks old new) put enters)

module _ {Key Row : Type 0} (held : ObjectMap) (used : Key → Bool) where
  open_less : (filter : Filter Key Row) (keys : List Key) → open_cost filter held used keys ≤ sum_by (λ key. cost held (filter.reads held key)) keys
  open_less filter [] = omega arith
  open_less filter (key ∷ keys) =
      let rest = open_less filter keys in
      let some = sum_by-cons (λ k. cond (used k) 0 (cost held (filter.reads held k))) key keys in
      let all = sum_by-cons (λ k. cost held (filter.reads held k)) key keys in
      let less = by (used key) (cost held (filter.reads held key)) in
      omega (arith, rest, some, all, less)
    where
      by : (b : Bool) (n : ℕ) → cond b 0 n ≤ n
      by true n = omega arith
      by false n = omega arith

  -- what keys cost that are put in place of those before
  pub set_cost : (filter other : Filter Key Row) → filter ≡ other → (earlier : Earlier) (keys mine before : List Key) → keys ≡ with_earlier earlier mine before → earlier ≡ Leave → (old new : ℕ) → new ≤ old + open_cost filter held used keys
      → new ≤ old + sum_by (λ key. cost held (other.reads held key)) mine
  set_cost filter other same earlier keys mine before put leave old new most =
      let at : keys ≡ mine = put ∙ ap (λ (e : Earlier). with_earlier e mine before) leave in
      let less = open_less other mine in
      let moved : new ≤ old + open_cost other held used mine = subst (λ (n : ℕ). new ≤ old + n) (λ i. open_cost (same i) held used (at i)) most in
      omega (arith, less, moved)

-- ---- the keys of ports that come into use

pub record AllEntered (config : Config) (held : ObjectMap) (start now : InboundViews) (old new : ℕ) : Type 0 where
  pub routes : List RouteKey
  pub authz : List ObjKey
  pub of_routes : Entered route_cmp (uses_routes start) (uses_routes now) (λ id. route_keys config held (query_at start id)) routes
  pub of_authz : Entered key_cmp (uses_authz start) (uses_authz now) (λ id. authz_keys config held (query_at start id)) authz
  pub most : new ≤ old + (cost_of_routes held routes + cost_of_authz held authz)

pub all_enter : (config : Config) (held : ObjectMap) (start now : InboundViews) (old new : ℕ) → AllEntered config held start now old new → AllEnter config held start old new
all_enter config held start now old new all = record { routes = all.routes; authz = all.authz; new_routes = all.of_routes.come; new_authz = all.of_authz.come; most = all.most }

pub none_yet : (config : Config) (held : ObjectMap) (views : InboundViews) (steps : ℕ) → AllEntered config held views views steps steps
none_yet config held views steps = record {
  routes = [];
  authz = [];
  of_routes = none_entered route_cmp route_laws.total-law route_keys_exact (uses_routes views) (λ id. route_keys config held (query_at views id));
  of_authz = none_entered key_cmp key_laws.total-law authz_keys_exact (uses_authz views) (λ id. authz_keys config held (query_at views id));
  most = omega arith;
}

module _ (config : Config) (held : ObjectMap) (start now next : InboundViews) (id : ℕ) (same : query_at now id ≡ query_at start id) (old mid new : ℕ) (enters : Enters config held Stay id now mid new)
    (grow_routes : (key : RouteKey) → uses_routes now key ≡ true → uses_routes next key ≡ true) (grow_authz : (key : ObjKey) → uses_authz now key ≡ true → uses_authz next key ≡ true)
    (had_routes : (key : RouteKey) → has_key route_cmp (routes_of now id) key ≡ true → uses_routes now key ≡ true) (had_authz : (key : ObjKey) → has_key key_cmp (authz_of now id) key ≡ true → uses_authz now key ≡ true)
    (set_routes : (key : RouteKey) → has_key route_cmp (with_earlier Stay (route_keys config held (query_at now id)) (routes_of now id)) key ≡ true → uses_routes next key ≡ true)
    (set_authz : (key : ObjKey) → has_key key_cmp (with_earlier Stay (authz_keys config held (query_at now id)) (authz_of now id)) key ≡ true → uses_authz next key ≡ true) where
  pub all_more : AllEntered config held start now old mid → AllEntered config held start next old new
  all_more all =
      let routes_enter : EntersWithin route_rows held route_cmp (uses_routes now) (with_earlier Stay (route_keys config held (query_at start id)) (routes_of now id)) mid enters.mid =
      subst (λ (query : Option Query). EntersWithin route_rows held route_cmp (uses_routes now) (with_earlier Stay (route_keys config held query) (routes_of now id)) mid enters.mid) same enters.routes in
      let authz_enter : EntersWithin (authz_rows config) held key_cmp (uses_authz now) (with_earlier Stay (authz_keys config held (query_at start id)) (authz_of now id)) enters.mid new =
      subst (λ (query : Option Query). EntersWithin (authz_rows config) held key_cmp (uses_authz now) (with_earlier Stay (authz_keys config held query) (authz_of now id)) enters.mid new) same enters.authz in
      record {
        routes = all.routes ++ routes_enter.entered;
        authz = all.authz ++ authz_enter.entered;
        of_routes = entered_more route_cmp route_laws.total-law route_keys_exact route_rows held (uses_routes start) (uses_routes now) (uses_routes next) (λ n. route_keys config held (query_at start n)) id (routes_of now id) mid enters.mid routes_enter grow_routes
            had_routes (λ key has. set_routes key (ap (λ (query : Option Query). has_key route_cmp (with_earlier Stay (route_keys config held query) (routes_of now id)) key) same ∙ has)) all.routes all.of_routes;
        of_authz = entered_more key_cmp key_laws.total-law authz_keys_exact (authz_rows config) held (uses_authz start) (uses_authz now) (uses_authz next) (λ n. authz_keys config held (query_at start n)) id (authz_of now id) enters.mid new authz_enter grow_authz
            had_authz (λ key has. set_authz key (ap (λ (query : Option Query). has_key key_cmp (with_earlier Stay (authz_keys config held query) (authz_of now id)) key) same ∙ has)) all.authz all.of_authz;
        most =
            let so_far = all.most in
            let route_most = routes_enter.most in
            let authz_most = authz_enter.most in
            let of_routes = sum_by-append (λ (key : RouteKey). cost held (route_reads key)) all.routes routes_enter.entered in
            let of_authz = sum_by-append (λ (key : ObjKey). cost held (authz_reads held key)) all.authz authz_enter.entered in
            omega (arith, so_far, route_most, authz_most, of_routes, of_authz);
      }
