-- Views of ports as an id is opened or closed.
use Rattle.std.proofs.Common.{◌≡◌, inl, inr, ℕ, Bool, true, false, cond, nat_eq, List, Option, Some, None, refl, sym, ap, subst, ◌∙◌}
use Rattle.std.proofs.lemmas.Bool.{false≢true}
use Rattle.std.proofs.lemmas.Bool.Decides.{eqb_tells}
use Rattle.std.specs.BTreeMap.{BTreeMap}
use Rattle.std.specs.Prelude.{option_map}
use Rattle.std.specs.declared.cmp.Ordering.{Ordering}
use Rattle.view_types.specs.Objects.{ObjectMap}
use Rattle.view_types.specs.declared.config.Config.{Config}
use Rattle.view_types.specs.declared.query.Query.{Query}
use Rattle.mark_graph.specs.declared.rows_by_mark.RowsByMark.{RowsByMark}
use Rattle.mark_rules.specs.declared.keys.ServerKey.{ServerKey}
use Rattle.row_table.specs.IndexRows.{Filter}
use Rattle.row_views.specs.Ids.{Keeps, SetsAt, key_at}
use Rattle.row_sets.specs.Standing.{Standing}
use Rattle.inbound_views.specs.PortRows.{authz_keys, query_for, route_keys}
use Rattle.inbound_views.specs.Standing.{AreJoined, SetsAreKept, authz_of, query_at, routes_of}
use Rattle.inbound_views.specs.declared.views.InboundViews.{InboundViews}

pub no_key : (asked : Option ServerKey) → option_map query_for asked ≡ None → asked ≡ None
no_key None none = refl
no_key (Some key) none = absurd (cc none)

-- a query is set with its key
pub query_set : (id : ℕ) (value : Option ServerKey) (old new : InboundViews) → SetsAt id value (key_at old.servers.by_id) (key_at new.servers.by_id) → SetsAt id (option_map query_for value) (query_at old) (query_at new)
query_set id value old new keys n = ap (option_map query_for) (keys n) ∙ by (nat_eq n id)
  where
    by : (b : Bool) → option_map query_for (cond b value (key_at old.servers.by_id n)) ≡ cond b (option_map query_for value) (query_at old n)
    by true = refl
    by false = refl

pub same_number : (n m : ℕ) → nat_eq n m ≡ true → n ≡ m
same_number n m is = elim (eqb_tells n m) [ inl same ↦ same.1 | inr apart ↦ absurd (false≢true (sym apart.0 ∙ is)) ]

-- for a query that it is kept as
pub query_set_as : (id : ℕ) (value : Option ServerKey) (old new : InboundViews) (query : Option Query) → option_map query_for value ≡ query → SetsAt id value (key_at old.servers.by_id) (key_at new.servers.by_id) → SetsAt id query (query_at old) (query_at new)
query_set_as id value old new query is keys = subst (λ (q : Option Query). SetsAt id q (query_at old) (query_at new)) is (query_set id value old new keys)

-- an id that is open with none, and for which no view is kept
pub unset : (id : ℕ) (views : InboundViews) (query : Option Query) → None ≡ query → query_at views id ≡ None → SetsAt id query (query_at views) (query_at views)
unset id views query none free n = by (nat_eq n id) refl
  where
    by : (b : Bool) → nat_eq n id ≡ b → query_at views n ≡ cond b query (query_at views n)
    by true is = ap (query_at views) (same_number n id is) ∙ free ∙ none
    by false is = refl

-- an id that is closed again
pub closed_again : (id : ℕ) (key : ServerKey) (old mid new : ℕ → Option ServerKey) → old id ≡ None → SetsAt id (Some key) old mid → SetsAt id None mid new → Keeps old new
closed_again id key old mid new free opens closes n = closes n ∙ by (nat_eq n id) refl
  where
    by : (b : Bool) → nat_eq n id ≡ b → cond b None (mid n) ≡ old n
    by true is = sym (ap old (same_number n id is) ∙ free)
    by false is = opens n ∙ ap (λ b. cond b (Some key) (old n)) is

module _ (stand : InboundViews → Config → ObjectMap → Type 0) (config : Config) (held : ObjectMap) (id : ℕ) (value : Option ServerKey) (old new : InboundViews) (joined : AreJoined stand config held old) (kept : stand new config held)
    (keys : SetsAt id value (key_at old.servers.by_id) (key_at new.servers.by_id)) where
  at_other : (n : ℕ) → query_at new n ≡ option_map query_for (cond (nat_eq n id) value (key_at old.servers.by_id n))
  at_other n = ap (option_map query_for) (keys n)

  pub set_joined : SetsAt id (route_keys config held (option_map query_for value)) (routes_of old) (routes_of new) → SetsAt id (authz_keys config held (option_map query_for value)) (authz_of old) (authz_of new) → AreJoined stand config held new
  set_joined routes authz = record {
    kept = kept;
    routes = λ n. routes n ∙ by_route n (nat_eq n id) ∙ sym (ap (route_keys config held) (at_other n));
    authz = λ n. authz n ∙ by_authz n (nat_eq n id) ∙ sym (ap (authz_keys config held) (at_other n));
  }
    where
      by_route : (n : ℕ) (b : Bool) → cond b (route_keys config held (option_map query_for value)) (routes_of old n) ≡ route_keys config held (option_map query_for (cond b value (key_at old.servers.by_id n)))
      by_route n true = refl
      by_route n false = joined.routes n

      by_authz : (n : ℕ) (b : Bool) → cond b (authz_keys config held (option_map query_for value)) (authz_of old n) ≡ authz_keys config held (option_map query_for (cond b value (key_at old.servers.by_id n)))
      by_authz n true = refl
      by_authz n false = joined.authz n

-- rows of an index that is this one
pub kept_sets : {Index Key Row : Type 0} {cmp : Key → Key → Ordering} {users : Index → Key → ℕ} {stand : Index → ObjectMap → Type 0} {filter_of : Index → Filter Key Row} {filter : Filter Key Row} {held : ObjectMap}
    {index new : Index} {by_key : RowsByMark Key} {by_id : BTreeMap ℕ (List Key)} → new ≡ index → Standing cmp users stand held new by_key by_id → filter_of index ≡ filter → SetsAreKept cmp users stand filter_of filter held new by_key by_id
kept_sets {filter_of} same rows filtered = record { rows = rows; filtered = ap filter_of same ∙ filtered }
