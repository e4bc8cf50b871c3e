-- The keys that ids are opened with.
use Rattle.std.proofs.Common.{◌≡◌, ◌↔◌, ◌==◌, IsTrue, ◌++◌, ◌||◌, ◌+◌, ◌<◌, inl, inr, ℕ, Bool, true, false, cond, nat_eq, get_or, length, take, List, [], ◌∷◌, Option, Some, None, refl, sym, ap, subst, ◌∙◌}
use Rattle.std.proofs.lemmas.Bool.{false≢true}
use Rattle.std.proofs.lemmas.Bool.Decides.{eqb_tells}
use Rattle.std.proofs.lemmas.Grind.{flat_map-append}
use Rattle.std.proofs.lemmas.List.{append-nil, nil_from_length, take_more}
use Rattle.std.proofs.lemmas.List.Folds.{list_any-append, list_any_at}
use Rattle.std.specs.Cmp.{IsTotalOrder}
use Rattle.std.specs.FinMap.{IsAntisymmetric}
use Rattle.std.specs.List.{flat_map, slice_get}
use Rattle.std.specs.Prelude.{option_and_then, option_map}
use Rattle.std.specs.declared.cmp.Ordering.{Ordering}
use Rattle.mesh_base.specs.declared.key.ObjKey.{ObjKey}
use Rattle.view_types.specs.Objects.{ObjectMap}
use Rattle.view_types.specs.declared.config.Config.{Config}
use Rattle.view_types.specs.declared.query.Query.{Query}
use Rattle.view_types.specs.declared.server_view.RouteRow.{RouteRow}
use Rattle.mark_graph.specs.RowMarks.{has_row, row_at}
use Rattle.mark_rules.specs.Rows.{ServerPart, name_in, server_part, server_routes}
use Rattle.mark_rules.specs.contracts.keys.RouteKeyOrd.TheImpl.Laws as route_laws
use Rattle.mark_rules.specs.declared.keys.RouteKey.{RouteKey}
use Rattle.mark_rules.specs.declared.keys.ServerKey.{ServerKey}
use Rattle.mark_rules.proofs.MarkTests.{either_first, either_second, neither_first, neither_second}
use Rattle.row_table.specs.IndexRows.{Filter, has_key}
use Rattle.row_table.proofs.Keys.{has_more}
use Rattle.row_views.proofs.Ids.{has_where}
use Rattle.row_views.specs.Ids.{SetsAt, has_ids, key_at}
use Rattle.route_index.specs.RouteKeys.{route_keys_exact}
use Rattle.inbound_views.specs.PortRows.{authz_keys, authz_of_server, listed, query_for, route_keys, server_rows}
use Rattle.inbound_views.specs.Standing.{AreThoseWithout, AreUsed, HasRoutes, HasRowsOf, NotesUnless, SetsAllRows, SetsRows, authz_of, kept_routes, query_at, routes_of, rows_if, uses_routes, with_earlier}
use Rattle.inbound_views.specs.declared.moving.Earlier.{Earlier}
use Rattle.inbound_views.specs.declared.moving.Earlier.TheVariants.{Stay, Leave}
use Rattle.inbound_views.specs.declared.views.InboundViews.{InboundViews}
use Rattle.inbound_views.proofs.Joined.{has_first, key_cmp, route_cmp}
use Rattle.inbound_views.proofs.Rows.{authz_is, routes_are}

-- ---- rows of keys that may be in use

-- a row that is shown of a key
pub rows_shown : {Key Row : Type 0} (held : ObjectMap) (filter other : Filter Key Row) (used : Bool) (key : Key) (row : Option Row) → filter ≡ other → row ≡ cond used (Some (filter.row_of held key)) None → row ≡ cond used (Some (other.row_of held key)) None
rows_shown {Key} {Row} held filter other used key row same is = is ∙ ap (λ (f : Filter Key Row). cond used (Some (f.row_of held key)) None) same

-- ---- the Server of a port

-- a row that is shown of an id
pub part_shown : (config : Config) (held : ObjectMap) (filter : Filter ServerKey (Option ServerPart)) (asked : Option ServerKey) (row : Option (Option ServerPart)) → filter ≡ server_rows config → row ≡ option_map (filter.row_of held) asked
    → row ≡ option_map (server_part config held) asked
part_shown config held filter asked row same is = is ∙ ap (λ (f : Filter ServerKey (Option ServerPart)). option_map (f.row_of held) asked) same

pub name_of_row : (config : Config) (held : ObjectMap) (asked : Option ServerKey) (part : Option ServerPart) → Some part ≡ option_map (server_part config held) asked → name_in part ≡ option_and_then (λ key. name_in (server_part config held key)) asked
name_of_row config held None part is = absurd (cc is)
name_of_row config held (Some key) part is = let same : part ≡ server_part config held key = cc is in ap name_in same

pub no_row : (config : Config) (held : ObjectMap) (asked : Option ServerKey) → None ≡ option_map (server_part config held) asked → None ≡ option_and_then (λ key. name_in (server_part config held key)) asked
no_row config held None is = refl
no_row config held (Some key) is = absurd (cc is)

pub is_listed : (config : Config) (held : ObjectMap) (asked : Option ServerKey) (key : ServerKey) (name : Option (List ℕ)) → asked ≡ Some key → name ≡ option_and_then (λ k. name_in (server_part config held k)) asked
    → listed key.ns name ≡ route_keys config held (option_map query_for asked)
is_listed config held asked key name is named =
    ap (listed key.ns) (named ∙ ap (option_and_then (λ k. name_in (server_part config held k))) is)
    ∙ sym (routes_are config held key)
    ∙ sym (ap (λ (a : Option ServerKey). route_keys config held (option_map query_for a)) is)

-- a list of keys is empty where those of no key are
pub same_none : {Key : Type 0} (test : Bool) (shown keys none : List Key) → test ≡ (length shown == 0) → shown ≡ keys → none ≡ [] → IsTrue test ↔ (keys ≡ none)
same_none {Key} test shown keys none is same no_keys = (λ e. sym same ∙ empty shown (sym is ∙ e) ∙ sym no_keys, λ e. is ∙ ap (λ ks. length ks == 0) (same ∙ e ∙ no_keys))
  where
    empty : (ks : List Key) → (length ks == 0) ≡ true → ks ≡ []
    empty ks e = elim (eqb_tells (length ks) 0) [ inl is ↦ nil_from_length ks is.1 | inr apart ↦ absurd (false≢true (sym apart.0 ∙ e)) ]

-- ---- the authorizations of Servers whose keys are in use

module _ {Key Y : Type 0} (cmp : Key → Key → Ordering) (total : IsTotalOrder cmp) (exact : IsAntisymmetric cmp) where
  pub flat_same : (f g : Key → List Y) (keys : List Key) → ((key : Key) → has_key cmp keys key ≡ true → f key ≡ g key) → flat_map f keys ≡ flat_map g keys
  flat_same f g [] same = refl
  flat_same f g (k ∷ ks) same = λ i. same k (has_first cmp total exact k ks) i ++ flat_same f g ks (λ key has. same key (either_second _ _ has)) i

-- the keys are among those that are put
pub among_put : {Key : Type 0} (cmp : Key → Key → Ordering) (earlier : Earlier) (keys before : List Key) (key : Key) → has_key cmp keys key ≡ true → has_key cmp (with_earlier earlier keys before) key ≡ true
among_put cmp Stay keys before key has = has_more cmp keys before key ∙ either_first _ _ has
among_put cmp Leave keys before key has = has

pub set_here : {X : Type 0} (id : ℕ) (value : X) (old new : ℕ → X) → SetsAt id value old new → new id ≡ value
set_here id value old new sets = elim (eqb_tells id id) [
  | inl same ↦ sets id ∙ ap (λ b. cond b value (old id)) same.0
  | inr apart ↦ absurd (apart.1 refl)
]

module _ (views : InboundViews) (config : Config) (held : ObjectMap) (asked : Option ServerKey)
    (in_use : (key : RouteKey) → has_key route_cmp (route_keys config held (option_map query_for asked)) key ≡ true → has_ids route_cmp views.routes.used.by_key key ≡ true) where
  pub authz_found : flat_map (authz_of_server (kept_routes views held)) (route_keys config held (option_map query_for asked)) ≡ authz_keys config held (option_map query_for asked)
  authz_found =
      flat_same route_cmp route_laws.total-law route_keys_exact (authz_of_server (kept_routes views held)) (authz_of_server (server_routes held)) (route_keys config held (option_map query_for asked))
      (λ key has. ap (λ used. authz_of_server (λ k. rows_if used (server_routes held k)) key) (in_use key has))
      ∙ sym (authz_is config held asked)

-- the authorizations of a Server and of its routes, if there is one
abbrev pub authz_of_one : (RouteKey → List RouteRow) → Option RouteKey → List ObjKey
authz_of_one routes None = []
authz_of_one routes (Some server) = authz_of_server routes server

-- a port is served by one Server at most, which is the first that its routes are of
first_server : (config : Config) (held : ObjectMap) (routes : RouteKey → List RouteRow) (asked : Option ServerKey)
    → authz_of_one routes (slice_get (route_keys config held (option_map query_for asked)) 0) ≡ flat_map (authz_of_server routes) (route_keys config held (option_map query_for asked))
first_server config held routes None = refl
first_server config held routes (Some key) =
    subst (λ (keys : List RouteKey). authz_of_one routes (slice_get keys 0) ≡ flat_map (authz_of_server routes) keys) (sym (routes_are config held key)) (by (name_in (server_part config held key)))
  where
    by : (name : Option (List ℕ)) → authz_of_one routes (slice_get (listed key.ns name) 0) ≡ flat_map (authz_of_server routes) (listed key.ns name)
    by None = refl
    by (Some server) = sym (append-nil (authz_of_server routes (record { ns = key.ns; server = server })))

-- the authorizations behind the port of an id, by the first key of its routes
pub authz_of_first : (views : InboundViews) (config : Config) (held : ObjectMap) (id : ℕ) → HasRoutes config held views id → ((key : RouteKey) → has_key route_cmp (routes_of views id) key ≡ true → uses_routes views key ≡ true)
    → (first : Option RouteKey) → first ≡ slice_get (routes_of views id) 0 → authz_of_one (kept_routes views held) first ≡ authz_keys config held (query_at views id)
authz_of_first views config held id has in_use first is =
    let asked = key_at views.servers.by_id id in
    ap (authz_of_one (kept_routes views held)) (is ∙ ap (λ (keys : List RouteKey). slice_get keys 0) has)
    ∙ first_server config held (kept_routes views held) asked
    ∙ authz_found views config held asked (λ key there. in_use key (ap (λ (keys : List RouteKey). has_key route_cmp keys key) has ∙ there))

-- the authorizations that are put for an id, with those before
pub authz_put : (views : InboundViews) (config : Config) (held : ObjectMap) (id : ℕ) (earlier : Earlier) (servers : List RouteKey) (found put before : List ObjKey) → AreUsed config held servers id views → found ≡ flat_map (authz_of_server (kept_routes views held)) servers
    → put ≡ with_earlier earlier found before → before ≡ authz_of views id → put ≡ with_earlier earlier (authz_keys config held (query_at views id)) (authz_of views id)
authz_put views config held id earlier servers found put before used is put_is had =
    put_is
    ∙ (λ i. with_earlier earlier ((is ∙ ap (flat_map (authz_of_server (kept_routes views held))) used.0 ∙ authz_found views config held (key_at views.servers.by_id id) (λ key has. used.1 key (ap (λ (keys : List RouteKey). has_key route_cmp keys key) used.0 ∙ has))) i) (had i))

-- routes that are put for an id are in use
pub are_used : (old mid : InboundViews) (config : Config) (held : ObjectMap) (id : ℕ) (earlier : Earlier) (servers : List RouteKey) → mid.servers ≡ old.servers → servers ≡ route_keys config held (query_at old id)
    → SetsAt id (with_earlier earlier (route_keys config held (query_at old id)) (routes_of old id)) (routes_of old) (routes_of mid) → ((key : RouteKey) (n : ℕ) → row_at route_cmp mid.routes.used.by_key key n ≡ has_key route_cmp (routes_of mid n) key)
    → AreUsed config held servers id mid
are_used old mid config held id earlier servers same is sets ids = (
  is ∙ ap (λ (s : _). route_keys config held (option_map query_for (key_at s.by_id id))) (sym same),
  λ key has.
      has_where route_cmp route_laws.total-law route_keys_exact mid.routes.used.by_key key id
      (ids key id ∙ ap (λ (keys : List RouteKey). has_key route_cmp keys key) (set_here id (with_earlier earlier (route_keys config held (query_at old id)) (routes_of old id)) (routes_of old) (routes_of mid) sets)
      ∙ among_put route_cmp earlier (route_keys config held (query_at old id)) (routes_of old id) key (ap (λ (keys : List RouteKey). has_key route_cmp keys key) (sym is) ∙ has)),
)

-- ---- one item more of a list

pub flat_more : {X Y : Type 0} (f : X → List Y) (xs : List X) (i : ℕ) (x : X) → i < length xs → x ≡ get_or xs i x → flat_map f (take i xs) ++ f x ≡ flat_map f (take (i + 1) xs)
flat_more f xs i x lt is =
    ap (λ y. flat_map f (take i xs) ++ f y) is ∙ ap (λ ys. flat_map f (take i xs) ++ ys) (sym (append-nil (f (get_or xs i x)))) ∙ sym (flat_map-append f (take i xs) (get_or xs i x ∷ [])) ∙ ap (flat_map f) (sym (take_more xs i x lt))

-- ---- ids in lists

parted_ids : (n id : ℕ) (ids : List ℕ) → has_row n (ids ++ id ∷ []) ≡ (has_row n ids || (nat_eq n id || false))
parted_ids n id ids = list_any-append (nat_eq n) ids (id ∷ [])

left_out : (n : ℕ) (ids : List ℕ) (id : ℕ) → has_row n (ids ++ id ∷ []) ≡ false → has_row n ids ≡ false
left_out n ids id none = neither_first _ _ (sym (parted_ids n id ids) ∙ none)

itself : (id : ℕ) → nat_eq id id ≡ true
itself id = elim (eqb_tells id id) [ inl same ↦ same.0 | inr apart ↦ absurd (apart.1 refl) ]

put_last : (id : ℕ) (ids : List ℕ) → has_row id (ids ++ id ∷ []) ≡ true
put_last id ids = parted_ids id id ids ∙ either_second (has_row id ids) _ (either_first _ _ (itself id))

put_after : (n id : ℕ) (ids : List ℕ) → has_row n ids ≡ true → has_row n (ids ++ id ∷ []) ≡ true
put_after n id ids has = parted_ids n id ids ∙ either_first _ _ has

put_before : (n id : ℕ) (ids : List ℕ) → nat_eq n id ≡ false → has_row n (ids ++ id ∷ []) ≡ true → has_row n ids ≡ true
put_before n id ids apart has = by (has_row n ids) (sym (parted_ids n id ids ∙ ap (λ b. has_row n ids || (b || false)) apart) ∙ has)
  where
    by : (b : Bool) → (b || false) ≡ true → b ≡ true
    by true e = refl
    by false e = e

-- those of some ids for which something doesn't hold, with one id more
module _ (Holds : ℕ → Type 0) (ids without new : List ℕ) (id : ℕ) (are : AreThoseWithout Holds ids without) where
  kept_out : Holds id → new ≡ without → AreThoseWithout Holds (ids ++ id ∷ []) new
  kept_out holds same = record {
    all = λ n has out. elim (eqb_tells n id) [
      | inl is ↦ subst Holds (sym is.1) holds
      | inr apart ↦ are.all n (put_before n id ids apart.0 has) (sym (ap (has_row n) same) ∙ out)
    ];
    only = λ n has. let was = are.only n (sym (ap (has_row n) same) ∙ has) in (put_after n id ids was.0, was.1);
  }

  put_in : ¬ Holds id → new ≡ without ++ id ∷ [] → AreThoseWithout Holds (ids ++ id ∷ []) new
  put_in fails more = record {
    all = λ n has out. elim (eqb_tells n id) [
      | inl is ↦ absurd (false≢true (sym out ∙ ap (λ m. has_row m new) is.1 ∙ ap (has_row id) more ∙ put_last id without))
      | inr apart ↦ are.all n (put_before n id ids apart.0 has) (left_out n without id (sym (ap (has_row n) more) ∙ out))
    ];
    only = λ n has. elim (eqb_tells n id) [
      | inl is ↦ (ap (λ m. has_row m (ids ++ id ∷ [])) is.1 ∙ put_last id ids, λ holds. fails (subst Holds is.1 holds))
      | inr apart ↦ let was = are.only n (put_before n id without apart.0 (sym (ap (has_row n) more) ∙ has)) in (put_after n id ids was.0, was.1)
    ];
  }

  pub one_noted : NotesUnless (Holds id) id without new → AreThoseWithout Holds (ids ++ id ∷ []) new
  one_noted (inl kept) = kept_out kept.0 kept.1
  one_noted (inr put) = put_in put.0 put.1

-- ---- an id with the keys of the rows of its query

module _ (stand : InboundViews → Config → ObjectMap → Type 0) (config : Config) (held : ObjectMap) (earlier : Earlier) (id : ℕ) (old new : InboundViews) (one : SetsRows stand config held earlier id old new) where
  pub has_set : HasRowsOf config held (query_at old id) new id
  has_set =
      let routes = route_keys config held (query_at old id) in
      let authz = authz_keys config held (query_at old id) in (
        λ key has. ap (λ (keys : List RouteKey). has_key route_cmp keys key) (set_here id (with_earlier earlier routes (routes_of old id)) (routes_of old) (routes_of new) one.routes) ∙ among_put route_cmp earlier routes (routes_of old id) key has,
        λ key has. ap (λ (keys : List ObjKey). has_key key_cmp keys key) (set_here id (with_earlier earlier authz (authz_of old id)) (authz_of old) (authz_of new) one.authz) ∙ among_put key_cmp earlier authz (authz_of old id) key has,
      )

  -- and another that has them already
  pub has_still : (query : Option Query) (n : ℕ) → nat_eq n id ≡ false → HasRowsOf config held query old n → HasRowsOf config held query new n
  has_still query n apart has = (
    λ key in_query.
        ap (λ (keys : List RouteKey). has_key route_cmp keys key) (one.routes n ∙ ap (λ b. cond b (with_earlier earlier (route_keys config held (query_at old id)) (routes_of old id)) (routes_of old n)) apart) ∙ has.0 key in_query,
    λ key in_query.
        ap (λ (keys : List ObjKey). has_key key_cmp keys key) (one.authz n ∙ ap (λ b. cond b (with_earlier earlier (authz_keys config held (query_at old id)) (authz_of old id)) (authz_of old n)) apart) ∙ has.1 key in_query,
  )

-- ---- one id after the other

module _ (stand : InboundViews → Config → ObjectMap → Type 0) (config : Config) (held : ObjectMap) (earlier : Earlier) where
  abbrev All : List ℕ → InboundViews → InboundViews → Type 0
  All = SetsAllRows stand config held earlier

  pub set_none : (views : InboundViews) → stand views config held → All [] views views
  set_none views kept = record { kept = kept; covered = λ id has. absurd (false≢true has); these = λ leave id has. absurd (false≢true has); others = λ id has. (refl, refl) }

  pub set_more : (ids : List ℕ) (id : ℕ) (old mid new : InboundViews) → mid.servers ≡ old.servers → All ids old mid → SetsRows stand config held earlier id mid new → All (ids ++ id ∷ []) old new
  set_more ids id old mid new same all one = record {
    kept = one.kept;
    covered = λ n has. elim (eqb_tells n id) [
      | inl is ↦ subst (λ (query : Option Query). HasRowsOf config held query new n) (asked n) (subst (λ (m : ℕ). HasRowsOf config held (query_at mid m) new m) (sym is.1) (has_set stand config held earlier id mid new one))
      | inr apart ↦ has_still stand config held earlier id mid new one (query_at old n) n apart.0 (all.covered n (put_before n id ids apart.0 has))
    ];
    these = λ leave n has. elim (eqb_tells n id) [
      | inl is ↦ (
        one.routes n ∙ ap (λ b. cond b (with_earlier earlier (route_keys config held (query_at mid id)) (routes_of mid id)) (routes_of mid n)) is.0
            ∙ ap (λ (e : Earlier). with_earlier e (route_keys config held (query_at mid id)) (routes_of mid id)) leave ∙ ap (route_keys config held) (asked id ∙ ap (query_at old) (sym is.1)),
        one.authz n ∙ ap (λ b. cond b (with_earlier earlier (authz_keys config held (query_at mid id)) (authz_of mid id)) (authz_of mid n)) is.0
            ∙ ap (λ (e : Earlier). with_earlier e (authz_keys config held (query_at mid id)) (authz_of mid id)) leave ∙ ap (authz_keys config held) (asked id ∙ ap (query_at old) (sym is.1)),
      )
      | inr apart ↦ let there = all.these leave n (put_before n id ids apart.0 has) in (kept_routes_of n apart.0 ∙ there.0, kept_authz_of n apart.0 ∙ there.1)
    ];
    others = λ n has.
        let none = sym (parted_ids n id ids) ∙ has in
        let apart : nat_eq n id ≡ false = neither_first _ _ (neither_second (has_row n ids) _ none) in
        let there = all.others n (neither_first _ _ none) in
        (kept_routes_of n apart ∙ there.0, kept_authz_of n apart ∙ there.1);
  }
    where
      asked : (n : ℕ) → query_at mid n ≡ query_at old n
      asked n = ap (λ (servers : _). option_map query_for (key_at servers.by_id n)) same

      kept_routes_of : (n : ℕ) → nat_eq n id ≡ false → routes_of new n ≡ routes_of mid n
      kept_routes_of n apart = one.routes n ∙ ap (λ b. cond b (with_earlier earlier (route_keys config held (query_at mid id)) (routes_of mid id)) (routes_of mid n)) apart

      kept_authz_of : (n : ℕ) → nat_eq n id ≡ false → authz_of new n ≡ authz_of mid n
      kept_authz_of n apart = one.authz n ∙ ap (λ b. cond b (with_earlier earlier (authz_keys config held (query_at mid id)) (authz_of mid id)) (authz_of mid n)) apart

-- one of a list of ids
pub row_there : (ids : List ℕ) (i : ℕ) → i < length ids → has_row (get_or ids i 0) ids ≡ true
row_there ids i lt = list_any_at (nat_eq (get_or ids i 0)) ids i 0 lt (itself (get_or ids i 0))
