-- Shared streams that stand for the objects held: what each call leaves so.
use Rattle.std.proofs.Common.{◌≡◌, inl, inr, ℕ, ◌+◌, ◌-◌, ◌<◌, ◌||◌, Bool, true, false, cond, nat_eq, List, [], ◌∷◌, Option, Some, None, Result, refl, sym, ap, subst, ◌∙◌, arith}
use Rattle.std.proofs.lemmas.Bool.{cases_Bool, false≢true}
use Rattle.std.specs.BTreeMap.{BTreeMap, is_at}
use Rattle.std.specs.List.{list_any}
use Rattle.std.specs.Map.{lookup}
use Rattle.std.specs.Option.{is_some}
use Rattle.std.specs.Ordering.{eq_by_cmp, nat_cmp}
use Rattle.mesh_base.specs.declared.limits.Limits.{Limits}
use Rattle.view_types.specs.Objects.{ObjectMap}
use Rattle.view_types.specs.declared.config.Config.{Config}
use Rattle.view_types.specs.declared.endpoint.EndpointView.{EndpointView}
use Rattle.view_types.specs.declared.mark.Mark.{Mark}
use Rattle.view_diff.specs.Earlier.{earlier_rows}
use Rattle.view_rules.proofs.RowMaps.{keyed_rows}
use Rattle.view_rules.specs.Batch.{endpoint_batch}
use Rattle.view_rules.specs.Laws.{EndpointsAreOrderly}
use Rattle.mark_rules.specs.Changes.{Leads}
use Rattle.mark_rules.specs.Laws.{EndpointsStay}
use Rattle.mark_rules.specs.Marks.{meets}
use Rattle.mark_rules.specs.Reads.{endpoint_reads}
use Rattle.mark_rules.specs.Rows.{endpoint_row}
use Rattle.mark_rules.specs.declared.keys.EndpointKey.{EndpointKey}
use Rattle.endpoint_rows.specs.Before.{TellsBefore}
use Rattle.row_table.specs.IndexRows.{AreMet, Filter, OneLess, OneMore, has_key}
use Rattle.row_table.proofs.Keys.{flipped, is_itself, tells}
use Rattle.row_table.proofs.MarkLists.{meets_same, same_any}
use Rattle.endpoint_index.specs.Told.{notes_at, rows_shown}
use Rattle.endpoint_index.specs.contracts.index.EndpointIndexRowIndex.TheImpl.{ghosts as the_index}
use Rattle.endpoint_index.specs.contracts.index.EndpointIndexRowIndex.TheImpl.Laws.{current-law}
use Rattle.endpoint_index.specs.declared.index.EndpointIndex.{EndpointIndex}
use Rattle.endpoint_streams.specs.Streams.{endpoints_at, frames_to, is_met}
use Rattle.feed_history.specs.Drains.{IsOrMemory, frames_within}
use Rattle.feed_history.specs.declared.refusal.HubFault.{HubFault}
use Rattle.endpoint_groups.proofs.Entering.{itself}
use Rattle.endpoint_groups.proofs.Moving.{same_number}
use Rattle.key_streams.specs.Streams.{AreRight, HasSame, SetsShown, ShowSame, has_stream, shown_for}
use Rattle.row_views.specs.Ids.{is_key, key_at}
use Rattle.shared_endpoints.specs.ByKey.{Joined, JoinedAt, JoinsAt, LeavesAt, SetsAt, Streams, key_cmp, streams_at}
use Rattle.shared_endpoints.specs.InUse.{has_stream_at, has_streams}
use Rattle.shared_endpoints.specs.Sharing.{AreRightAt, ChangesAt, HasOneAt, LeftAt, OthersHaveOne, encoding, has_at, shown_by}
use Rattle.shared_endpoints.specs.Standing.{AllHaveOne, HasOneUser, IsIndexed, Standing, StandsExactly, index_stands, key_of_id, row_at, shown_now, shown_of, users}
use Rattle.shared_endpoints.specs.declared.shared.SharedEndpoints.{SharedEndpoints}
use Rattle.shared_endpoints.proofs.ByKey.{key_exact, key_total}
use Rattle.shared_endpoints.proofs.Earlier.{tells_earlier}
use Rattle.shared_endpoints.proofs.Sharing.{all_have, change_present, change_shared, change_shows, drain_shared, drain_shows, enter_shared, enter_shows, has_none, join_shared, join_shows, leave_shared, leave_shows, others_have}

abbrev pub KeyMap : Type 0
KeyMap = BTreeMap EndpointKey Streams

abbrev pub IdMap : Type 0
IdMap = BTreeMap ℕ EndpointKey

-- ---- the row of a key that has streams

module _ (config : Config) (held : ObjectMap) (index : EndpointIndex) (used : EndpointKey → Bool) (indexed : IsIndexed config held index used) where
  one_there : (key : EndpointKey) → used key ≡ true → 0 < users index key
  one_there key is = subst (λ (k : ℕ). 0 < k) (sym (indexed.one_user key ∙ ap (λ b. cond b 1 0) is)) (omega arith)

  pub row_is : (key : EndpointKey) → used key ≡ true → row_at index key ≡ Some (endpoint_row config held key)
  row_is key is =
      ((current-law index held indexed.stands key).used (one_there key is)).0
      ∙ ap (λ (filter : Filter EndpointKey EndpointView). Some (filter.row_of held key)) indexed.filter

  -- it is met by a change where its endpoints read a mark of it
  pub met_is : (key : EndpointKey) (changed : List Mark) → used key ≡ true → meets (the_index.marks_at index key) changed ≡ meets (endpoint_reads held key) changed
  met_is key changed is =
      meets_same (the_index.marks_at index key) ((the_index.filter index).reads held key) changed ((current-law index held indexed.stands key).used (one_there key is)).1
      ∙ ap (λ (filter : Filter EndpointKey EndpointView). meets (filter.reads held key) changed) indexed.filter

module _ (config : Config) (limits : Limits) (held : ObjectMap) (index : EndpointIndex) (by_key : KeyMap) (by_id : IdMap) (within : Limits) (standing : Standing config limits held index by_key by_id within) where
  pub shown_is : (id : ℕ) → shown_of index by_key id (key_at by_id id) ≡ shown_by (streams_at by_key) (endpoint_row config held) id (key_at by_id id)
  shown_is id = by (key_at by_id id) refl
    where
      by : (o : Option EndpointKey) → key_at by_id id ≡ o → shown_of index by_key id o ≡ shown_by (streams_at by_key) (endpoint_row config held) id o
      by None is = refl
      by (Some key) is =
          ap (shown_now (streams_at by_key key) id)
          (row_is config held index (λ key. is_some (streams_at by_key key)) standing.indexed key (has_streams key_cmp key_total key_exact (streams_at by_key) (key_at by_id) standing.shared.tied id key is))

  pub row_there : (id : ℕ) (key : EndpointKey) → key_at by_id id ≡ Some key → row_at index key ≡ Some (endpoint_row config held key)
  row_there id key is = row_is config held index (λ key. is_some (streams_at by_key key)) standing.indexed key (has_streams key_cmp key_total key_exact (streams_at by_key) (key_at by_id) standing.shared.tied id key is)

  pub streams_there : (id : ℕ) (key : EndpointKey) → key_at by_id id ≡ Some key → has_at (streams_at by_key key) id ≡ true
  streams_there id key is = has_stream_at key_cmp key_total key_exact (streams_at by_key) (key_at by_id) standing.shared.tied id key is

  -- a key with a stream has its row and its streams
  pub has_row : (id : ℕ) (key : EndpointKey) → key_at by_id id ≡ Some key → row_at index key ≡ None → ⊥
  has_row id key is none = let e : None ≡ Some (endpoint_row config held key) = sym none ∙ row_there id key is in cc e

  pub has_some : (id : ℕ) (key : EndpointKey) → key_at by_id id ≡ Some key → streams_at by_key key ≡ None → ⊥
  has_some id key is none = false≢true (ap (λ o. has_at o id) (sym none) ∙ streams_there id key is)

-- ---- nothing at all

no_streams : (by_key : KeyMap) → by_key.entries ≡ [] → (k : EndpointKey) → streams_at by_key k ≡ None
no_streams by_key none k = ap (lookup (is_at (key_cmp k))) none

pub no_key : (by_id : IdMap) → by_id.entries ≡ [] → (id : ℕ) → key_at by_id id ≡ None
no_key by_id none id = ap (lookup (is_at (nat_cmp id))) none

pub nothing_stands : (config : Config) (limits : Limits) (held : ObjectMap) (index : EndpointIndex) (by_key : KeyMap) (by_id : IdMap) (within : Limits) → by_key.entries ≡ [] → by_id.entries ≡ [] → index_stands index held
    → the_index.filter index ≡ record { row_of = endpoint_row config; reads = endpoint_reads } → ((key : EndpointKey) → users index key ≡ 0) → within ≡ limits → Standing config limits held index by_key by_id within
nothing_stands config limits held index by_key by_id within no_keys no_ids stands filter unused same = record {
  indexed = record { stands = stands; filter = filter; one_user = λ k. unused k ∙ sym (ap (λ o. cond (is_some o) 1 0) (no_streams by_key no_keys k)) };
  shared = record {
    tied = λ k n. ap (λ o. has_at o n) (no_streams by_key no_keys k) ∙ sym (ap (is_key key_cmp k) (no_key by_id no_ids n));
    right = λ k. subst (λ (o : Option Streams). AreRightAt (encoding limits (endpoint_row config held k)) (endpoint_row config held k) o) (sym (no_streams by_key no_keys k)) tt;
  };
  same_limits = same;
}

pub nothing_each : (by_key : KeyMap) → by_key.entries ≡ [] → AllHaveOne by_key
nothing_each by_key none k = subst (λ (o : Option Streams). HasOneAt o) (sym (no_streams by_key none k)) tt

-- ---- each key that has streams at all has one that is open

module _ (key : EndpointKey) (by_key new : KeyMap) where
  pub join_each : (id : ℕ) → JoinsAt id key by_key new → OthersHaveOne key_cmp key (streams_at by_key) → AllHaveOne new
  join_each id joins = all_have key_cmp key_total key_exact key (streams_at new key) (streams_at by_key) (streams_at new) joins.put (by (streams_at by_key key) (streams_at new key) joins.there)
    where
      by : (o p : Option Streams) → JoinedAt id o p → HasOneAt p
      by None None there = tt
      by None (Some p) there = absurd there
      by (Some o) None there = absurd there
      by (Some o) (Some p) there = (id, there.ids id ∙ ap (λ b. b || has_stream o id) (itself id))

  pub leave_each : (id : ℕ) → LeavesAt id key by_key new → HasOneAt (streams_at new key) → AllHaveOne by_key → AllHaveOne new
  leave_each id leaves here each = all_have key_cmp key_total key_exact key (streams_at new key) (streams_at by_key) (streams_at new) leaves.put here (λ k apart. each k)

  -- the key goes with its last stream
  pub last_each : (id : ℕ) → LeavesAt id key by_key new → (rest : KeyMap) → SetsAt key None new rest → AllHaveOne by_key → AllHaveOne rest
  last_each id leaves rest gone each =
      all_have key_cmp key_total key_exact key None (streams_at new) (streams_at rest) gone tt
      (others_have key_cmp key_total key_exact key (streams_at new key) (streams_at by_key) (streams_at new) leaves.put each)

  pub drain_each : (streams drained : Streams) → streams_at by_key key ≡ Some streams → SetsAt key (Some drained) by_key new → HasSame streams drained → AllHaveOne by_key → AllHaveOne new
  drain_each streams drained there puts ids each =
      let one : HasOneAt (Some streams) = subst (λ (o : Option Streams). HasOneAt o) there (each key) in
      all_have key_cmp key_total key_exact key (Some drained) (streams_at by_key) (streams_at new) puts (one.0, ids one.0 ∙ one.1) (λ k apart. each k)

-- the keys with users are those of open streams
pub one_user : (config : Config) (limits : Limits) (held : ObjectMap) (s : SharedEndpoints) → StandsExactly config limits held s → (key : EndpointKey) → HasOneUser s key
one_user config limits held s exactly key = record {
  one = λ id is. users_are ∙ ap (λ b. cond b 1 0) (has_streams key_cmp key_total key_exact (streams_at s.by_key) (key_at s.by_id) exactly.stands.shared.tied id key is);
  none = λ free. users_are ∙ by free (streams_at s.by_key key) refl (exactly.each key);
}
  where
    users_are : users s.index key ≡ cond (is_some (streams_at s.by_key key)) 1 0
    users_are = exactly.stands.indexed.one_user key

    by : ((id : ℕ) → is_key key_cmp key (key_of_id s id) ≡ false) → (o : Option Streams) → streams_at s.by_key key ≡ o → HasOneAt o → ◌≡◌ {A = ℕ} (cond (is_some (streams_at s.by_key key)) 1 0) 0
    by free None is has = ap (λ o. cond (is_some o) 1 0) is
    by free (Some streams) is has =
        absurd (false≢true (sym (free has.0) ∙ sym (exactly.stands.shared.tied key has.0) ∙ ap (λ o. has_at o has.0) is ∙ has.1))

-- ---- other ids

module _ (index : EndpointIndex) (by_key : KeyMap) (by_id next : IdMap) (id : ℕ) (sets : (n : ℕ) → key_at next n ≡ cond (nat_eq n id) None (key_at by_id n)) where
  -- nobody is shown anything where an id has no stream any more
  pub unset_keeps : (n : ℕ) → shown_of index by_key n (key_at next n) ≡ cond (nat_eq n id) None (shown_of index by_key n (key_at by_id n))
  unset_keeps n =
      ap (shown_of index by_key n) (sets n)
      ∙ elim (nat_eq n id) as (λ b. shown_of index by_key n (cond b None (key_at by_id n)) ≡ cond b None (shown_of index by_key n (key_at by_id n))) [ true ↦ refl | false ↦ refl ]

  same_ids : key_at by_id id ≡ None → (n : ℕ) → key_at next n ≡ key_at by_id n
  same_ids none n = elim (cases_Bool (nat_eq n id)) [
    | inl t ↦ sets n ∙ ap (λ b. cond b None (key_at by_id n)) t ∙ sym (ap (key_at by_id) (same_number n id t) ∙ none)
    | inr f ↦ sets n ∙ ap (λ b. cond b None (key_at by_id n)) f
  ]

  pub unset_stands : (config : Config) (limits : Limits) (held : ObjectMap) (within : Limits) → key_at by_id id ≡ None → Standing config limits held index by_key by_id within → Standing config limits held index by_key next within
  unset_stands config limits held within none standing = record {
    indexed = standing.indexed;
    shared = record { tied = λ k n. standing.shared.tied k n ∙ ap (is_key key_cmp k) (sym (same_ids none n)); right = standing.shared.right };
    same_limits = standing.same_limits;
  }

-- ---- one key more

module _ (config : Config) (limits : Limits) (held : ObjectMap) (index next : EndpointIndex) (by_key new : KeyMap) (by_id : IdMap) (within : Limits) (key : EndpointKey) (fresh : Streams)
    (absent : streams_at by_key key ≡ None) (puts : SetsAt key (Some fresh) by_key new) (none : (id : ℕ) → has_stream fresh id ≡ false)
    (right : (encode : Option EndpointView → Option (List (List ℕ))) (now : EndpointView) → AreRight encode now fresh)
    (more : OneMore key_cmp key (users index) (users next)) (stands : index_stands index held → index_stands next held) (same : the_index.filter next ≡ the_index.filter index)
    (standing : Standing config limits held index by_key by_id within) where
  enter_users : (k : EndpointKey) → users next k ≡ cond (is_some (streams_at new k)) 1 0
  enter_users k = elim (tells key_cmp key_total key_exact k key) [
    | inl same ↦
        let was : users index k ≡ 0 = standing.indexed.one_user k ∙ ap (λ o. cond (is_some o) 1 0) (ap (streams_at by_key) same.1 ∙ absent) in
        more k ∙ ap (λ b. users index k + cond b 1 0) same.0 ∙ ap (λ (n : ℕ). n + 1) was
        ∙ sym (ap (λ o. cond (is_some o) 1 0) (puts k ∙ ap (λ b. cond b (Some fresh) (streams_at by_key k)) same.0))
    | inr apart ↦
        more k ∙ ap (λ b. users index k + cond b 1 0) apart.0 ∙ omega arith ∙ standing.indexed.one_user k
        ∙ sym (ap (λ o. cond (is_some o) 1 0) (puts k ∙ ap (λ b. cond b (Some fresh) (streams_at by_key k)) apart.0))
  ]

  pub enter_stands : Standing config limits held next new by_id within
  enter_stands = record {
    indexed = record { stands = stands standing.indexed.stands; filter = same ∙ standing.indexed.filter; one_user = enter_users };
    shared = enter_shared key_cmp key_total key_exact (encoding limits) (endpoint_row config held) key fresh (streams_at by_key) (streams_at new) (key_at by_id) puts absent none (right (encoding limits (endpoint_row config held key)) (endpoint_row config held key)) standing.shared;
    same_limits = standing.same_limits;
  }

  pub enter_keeps : (id : ℕ) → shown_of next new id (key_at by_id id) ≡ shown_of index by_key id (key_at by_id id)
  enter_keeps id =
      shown_is config limits held next new by_id within enter_stands id
      ∙ enter_shows key_cmp key_total key_exact (encoding limits) (endpoint_row config held) key fresh (streams_at by_key) (streams_at new) (key_at by_id) puts absent none (right (encoding limits (endpoint_row config held key)) (endpoint_row config held key)) standing.shared id
      ∙ sym (shown_is config limits held index by_key by_id within standing id)

-- ---- one stream more or less of a key

-- as many keys have streams
same_used : (config : Config) (held : ObjectMap) (index : EndpointIndex) (by_key new : KeyMap) → ((k : EndpointKey) → is_some (streams_at new k) ≡ is_some (streams_at by_key k)) → IsIndexed config held index (λ key. is_some (streams_at by_key key)) → IsIndexed config held index (λ key. is_some (streams_at new key))
same_used config held index by_key new same indexed = record {
  stands = indexed.stands;
  filter = indexed.filter;
  one_user = λ k. indexed.one_user k ∙ ap (λ b. cond b 1 0) (sym (same k));
}

put_present : (key : EndpointKey) (by_key new : KeyMap) → SetsAt key (streams_at new key) by_key new → is_some (streams_at new key) ≡ is_some (streams_at by_key key) → (k : EndpointKey) → is_some (streams_at new k) ≡ is_some (streams_at by_key k)
put_present key by_key new puts there k = elim (tells key_cmp key_total key_exact k key) [
  | inl same ↦ ap (λ k. is_some (streams_at new k)) same.1 ∙ there ∙ ap (λ k. is_some (streams_at by_key k)) (sym same.1)
  | inr apart ↦ ap is_some (puts k ∙ ap (λ b. cond b (streams_at new key) (streams_at by_key k)) apart.0)
]

module _ (config : Config) (limits : Limits) (held : ObjectMap) (index : EndpointIndex) (by_key new : KeyMap) (by_id next : IdMap) (within : Limits) (id : ℕ) (key : EndpointKey)
    (free : key_at by_id id ≡ None) (joins : JoinsAt id key by_key new) (sets : (n : ℕ) → key_at next n ≡ cond (nat_eq n id) (Some key) (key_at by_id n))
    (standing : Standing config limits held index by_key by_id within) where
  abbrev row : EndpointKey → EndpointView
  row = endpoint_row config held

  pub record Adds : Type 0 where
    pub stands : Standing config limits held index new next within
    pub shows : (n : ℕ) → shown_of index new n (key_at next n) ≡ cond (nat_eq n id) None (shown_of index by_key n (key_at by_id n))

  adds_one : (streams joined : Streams) → streams_at by_key key ≡ Some streams → streams_at new key ≡ Some joined → Joined id streams joined → Adds
  adds_one streams joined was is one =
      let puts : SetsAt key (Some joined) by_key new = subst (λ (o : Option Streams). SetsAt key o by_key new) is joins.put in
      let alone : has_stream streams id ≡ false = ap (λ o. has_at o id) (sym was) ∙ has_none key_cmp key_total key_exact (streams_at by_key) (key_at by_id) standing.shared.tied id free key in
      let kept : AreRight (encoding limits (row key)) (row key) streams = subst (λ (o : Option Streams). AreRightAt (encoding limits (row key)) (row key) o) was (standing.shared.right key) in
      let stands : Standing config limits held index new next within = record {
        indexed = same_used config held index by_key new (put_present key by_key new joins.put (ap is_some is ∙ sym (ap is_some was))) standing.indexed;
        shared = join_shared key_cmp key_total key_exact (encoding limits) row id key streams joined (streams_at by_key) (streams_at new) (key_at by_id) (key_at next) puts was free sets standing.shared one.ids (one.right (encoding limits (row key)) (row key) kept);
        same_limits = standing.same_limits;
      } in
      record {
        stands = stands;
        shows = λ n.
            shown_is config limits held index new next within stands n
            ∙ join_shows key_cmp key_total key_exact (encoding limits) row id key streams joined (streams_at by_key) (streams_at new) (key_at by_id) (key_at next) puts was free sets standing.shared one.ids (one.shown alone (row key)) n
            ∙ ap (cond (nat_eq n id) None) (sym (shown_is config limits held index by_key by_id within standing n));
      }

  pub adds : is_some (streams_at by_key key) ≡ true → Adds
  adds some = by (streams_at by_key key) (streams_at new key) refl refl some joins.there
    where
      by : (o p : Option Streams) → streams_at by_key key ≡ o → streams_at new key ≡ p → is_some o ≡ true → JoinedAt id o p → Adds
      by None p was is some there = absurd (false≢true some)
      by (Some o) None was is some there = absurd there
      by (Some o) (Some p) was is some there = adds_one o p was is there

module _ (config : Config) (limits : Limits) (held : ObjectMap) (index : EndpointIndex) (by_key new : KeyMap) (by_id next : IdMap) (within : Limits) (id : ℕ) (key : EndpointKey)
    (is : key_at by_id id ≡ Some key) (leaves : LeavesAt id key by_key new) (sets : (n : ℕ) → key_at next n ≡ cond (nat_eq n id) None (key_at by_id n))
    (standing : Standing config limits held index by_key by_id within) where
  pub leave_stands : Standing config limits held index new next within
  leave_stands = record {
    indexed = same_used config held index by_key new (put_present key by_key new leaves.put leaves.present) standing.indexed;
    shared = leave_shared key_cmp key_total key_exact (encoding limits) (endpoint_row config held) id key (streams_at new key) (streams_at by_key) (streams_at new) (key_at by_id) (key_at next) leaves.put is sets standing.shared leaves.there;
    same_limits = standing.same_limits;
  }

  pub leave_keeps : (n : ℕ) → shown_of index new n (key_at next n) ≡ cond (nat_eq n id) None (shown_of index by_key n (key_at by_id n))
  leave_keeps n =
      shown_is config limits held index new next within leave_stands n
      ∙ leave_shows key_cmp key_total key_exact (encoding limits) (endpoint_row config held) id key (streams_at new key) (streams_at by_key) (streams_at new) (key_at by_id) (key_at next) leaves.put is sets standing.shared leaves.there n
      ∙ ap (cond (nat_eq n id) None) (sym (shown_is config limits held index by_key by_id within standing n))

  -- the key goes with its last stream
  module _ (last : (n : ℕ) → has_at (streams_at new key) n ≡ false) (rest : KeyMap) (gone : SetsAt key None new rest) (other : EndpointIndex)
      (less : OneLess key_cmp key (users index) (users other)) (stands : index_stands index held → index_stands other held) (same : the_index.filter other ≡ the_index.filter index) where
    none_left : LeftAt id (streams_at by_key key) None
    none_left = record {
      ids = λ n. sym (last n) ∙ leaves.there.ids n;
      shown = λ now n has. absurd (false≢true has);
      right = λ encode now right. tt;
    }

    puts_none : SetsAt key None by_key rest
    puts_none k = gone k ∙ elim (eq_by_cmp key_cmp k key) as (λ b. eq_by_cmp key_cmp k key ≡ b → cond b None (streams_at new k) ≡ cond b None (streams_at by_key k)) [
      | true ↦ λ e. refl
      | false ↦ λ e. leaves.put k ∙ ap (λ b. cond b (streams_at new key) (streams_at by_key k)) e
    ] refl

    last_users : (k : EndpointKey) → users other k ≡ cond (is_some (streams_at rest k)) 1 0
    last_users k = elim (tells key_cmp key_total key_exact k key) [
      | inl same ↦
          let some : is_some (streams_at by_key key) ≡ true = has_streams key_cmp key_total key_exact (streams_at by_key) (key_at by_id) standing.shared.tied id key is in
          let was : users index k ≡ 1 = standing.indexed.one_user k ∙ ap (λ k. cond (is_some (streams_at by_key k)) 1 0) same.1 ∙ ap (λ b. cond b 1 0) some in
          less k ∙ ap (λ b. users index k - cond b 1 0) same.0 ∙ ap (λ (n : ℕ). n - 1) was
          ∙ sym (ap (λ o. cond (is_some o) 1 0) (puts_none k ∙ ap (λ b. cond b None (streams_at by_key k)) same.0))
      | inr apart ↦
          less k ∙ ap (λ b. users index k - cond b 1 0) apart.0 ∙ omega arith ∙ standing.indexed.one_user k
          ∙ sym (ap (λ o. cond (is_some o) 1 0) (puts_none k ∙ ap (λ b. cond b None (streams_at by_key k)) apart.0))
    ]

    pub last_stands : Standing config limits held other rest next within
    last_stands = record {
      indexed = record { stands = stands standing.indexed.stands; filter = same ∙ standing.indexed.filter; one_user = last_users };
      shared = leave_shared key_cmp key_total key_exact (encoding limits) (endpoint_row config held) id key None (streams_at by_key) (streams_at rest) (key_at by_id) (key_at next) puts_none is sets standing.shared none_left;
      same_limits = standing.same_limits;
    }

    pub last_keeps : (n : ℕ) → shown_of other rest n (key_at next n) ≡ cond (nat_eq n id) None (shown_of index by_key n (key_at by_id n))
    last_keeps n =
        shown_is config limits held other rest next within last_stands n
        ∙ leave_shows key_cmp key_total key_exact (encoding limits) (endpoint_row config held) id key None (streams_at by_key) (streams_at rest) (key_at by_id) (key_at next) puts_none is sets standing.shared none_left n
        ∙ ap (cond (nat_eq n id) None) (sym (shown_is config limits held index by_key by_id within standing n))

-- ---- a drain

module _ (config : Config) (limits : Limits) (held : ObjectMap) (index : EndpointIndex) (by_key new : KeyMap) (by_id : IdMap) (within : Limits) (id : ℕ) (key : EndpointKey) (streams drained : Streams)
    (is : key_at by_id id ≡ Some key) (there : streams_at by_key key ≡ Some streams) (puts : SetsAt key (Some drained) by_key new) (ids : HasSame streams drained)
    (standing : Standing config limits held index by_key by_id within) where
  abbrev view : EndpointView
  view = endpoint_row config held key

  here : streams_at new key ≡ Some drained
  here = puts key ∙ ap (λ b. cond b (Some drained) (streams_at by_key key)) (is_itself key_cmp key_total key_exact key)

  pub was_right : AreRight (encoding limits view) view streams
  was_right = subst (λ (o : Option Streams). AreRightAt (encoding limits view) view o) there (standing.shared.right key)

  pub drain_stands : AreRight (encoding limits view) view drained → Standing config limits held index new by_id within
  drain_stands right = record {
    indexed = same_used config held index by_key new (put_present key by_key new (subst (λ (o : Option Streams). SetsAt key o by_key new) (sym here) puts) (ap is_some here ∙ sym (ap is_some there))) standing.indexed;
    shared = drain_shared key_cmp key_total key_exact (encoding limits) (endpoint_row config held) key streams drained (streams_at by_key) (streams_at new) (key_at by_id) puts there ids standing.shared right;
    same_limits = standing.same_limits;
  }

  pub drain_sets : AreRight (encoding limits view) view drained → SetsShown view id (Some view) streams drained
      → (n : ℕ) → shown_of index new n (key_at by_id n) ≡ cond (nat_eq n id) (Some view) (shown_of index by_key n (key_at by_id n))
  drain_sets right shown n =
      shown_is config limits held index new by_id within (drain_stands right) n
      ∙ drain_shows key_cmp key_total key_exact (encoding limits) (endpoint_row config held) key streams drained (streams_at by_key) (streams_at new) (key_at by_id) puts there ids id is shown n
      ∙ ap (cond (nat_eq n id) (Some view)) (sym (shown_is config limits held index by_key by_id within standing n))

  -- the endpoints that the index has are those now
  module _ (now : EndpointView) (row : row_at index key ≡ Some now) where
    same_now : now ≡ view
    same_now = let e : Some now ≡ Some view = sym row ∙ row_there config limits held index by_key by_id within standing id key is in cc e

    right_now : AreRight (encoding within now) now streams
    right_now =
        subst (λ (l : Limits). AreRight (encoding l now) now streams) (sym standing.same_limits)
        (subst (λ (v : EndpointView). AreRight (encoding limits v) v streams) (sym same_now) was_right)

    module _ (right : AreRight (encoding within now) now streams → AreRight (encoding within now) now drained) where
      right_then : AreRight (encoding limits view) view drained
      right_then =
          subst (λ (v : EndpointView). AreRight (encoding limits v) v drained) same_now
          (subst (λ (l : Limits). AreRight (encoding l now) now drained) standing.same_limits (right right_now))

      pub now_stands : Standing config limits held index new by_id within
      now_stands = drain_stands right_then

      pub now_sets : (has_stream streams id ≡ true → SetsShown now id (Some now) streams drained) → (n : ℕ) → shown_of index new n (key_at by_id n) ≡ cond (nat_eq n id) (endpoints_at config held (key_at by_id id)) (shown_of index by_key n (key_at by_id n))
      now_sets shown n =
          drain_sets right_then
          (subst (λ (v : EndpointView). SetsShown v id (Some v) streams drained) same_now
          (shown (ap (λ o. has_at o id) (sym there) ∙ streams_there config limits held index by_key by_id within standing id key is))) n
          ∙ ap (λ (o : Option EndpointView). cond (nat_eq n id) o (shown_of index by_key n (key_at by_id n))) (sym (ap (endpoints_at config held) is))

    pub now_frames : (result : Result (List (List ℕ)) HubFault) → (AreRight (encoding within now) now streams → IsOrMemory (frames_within within.message (endpoint_batch (shown_for streams id now) now within)) result)
        → IsOrMemory (frames_to limits (shown_of index by_key id (key_at by_id id)) (endpoints_at config held (key_at by_id id))) result
    now_frames result frames =
        let shown : shown_for streams id now ≡ shown_of index by_key id (key_at by_id id) = sym (ap (shown_of index by_key id) is ∙ (λ i. shown_now (there i) id (row i))) in
        let seen : Some now ≡ endpoints_at config held (key_at by_id id) = ap Some same_now ∙ sym (ap (endpoints_at config held) is) in
        let same : frames_within within.message (endpoint_batch (shown_for streams id now) now within) ≡ frames_to limits (shown_of index by_key id (key_at by_id id)) (endpoints_at config held (key_at by_id id)) =
        ap (λ (l : Limits). frames_within l.message (endpoint_batch (shown_for streams id now) now l)) standing.same_limits ∙ (λ i. frames_to limits (shown i) (seen i)) in
        subst (λ expected. IsOrMemory expected result) same (frames right_now)

-- what was shown stays, where it does by the endpoints that the index has for the key
pub drain_fails : (index : EndpointIndex) (by_key new : KeyMap) (by_id : IdMap) (key : EndpointKey) (streams drained : Streams) (now : EndpointView) → row_at index key ≡ Some now → streams_at by_key key ≡ Some streams → SetsAt key (Some drained) by_key new → HasSame streams drained → ShowSame now streams drained
    → (n : ℕ) → shown_of index new n (key_at by_id n) ≡ shown_of index by_key n (key_at by_id n)
drain_fails index by_key new by_id key streams drained now row there puts ids same n = by (key_at by_id n)
  where
    by : (o : Option EndpointKey) → shown_of index new n o ≡ shown_of index by_key n o
    by None = refl
    by (Some k) = elim (tells key_cmp key_total key_exact k key) [
      | inl is ↦
          ap (λ k. shown_now (streams_at new k) n (row_at index k)) is.1
          ∙ (λ i. shown_now ((puts key ∙ ap (λ b. cond b (Some drained) (streams_at by_key key)) (is_itself key_cmp key_total key_exact key)) i) n (row i))
          ∙ same n
          ∙ sym (ap (λ k. shown_now (streams_at by_key k) n (row_at index k)) is.1 ∙ (λ i. shown_now (there i) n (row i)))
      | inr apart ↦ ap (λ o. shown_now o n (row_at index k)) (puts k ∙ ap (λ b. cond b (Some drained) (streams_at by_key k)) apart.0)
    ]

-- ---- a change

module _ (stay : EndpointsStay) (orderly : EndpointsAreOrderly) (config : Config) (limits : Limits) (held after : ObjectMap) (changed : List Mark) (index next : EndpointIndex) (by_key new : KeyMap) (by_id : IdMap) (within : Limits) (keys : List EndpointKey)
    (leads : Leads changed held after) (standing : Standing config limits held index by_key by_id within)
    (met : AreMet key_cmp changed (the_index.marks_at index) keys) (same_users : (key : EndpointKey) → users next key ≡ users index key) (stands : index_stands next after)
    (same_filter : the_index.filter next ≡ the_index.filter index)
    (before : (key : EndpointKey) → TellsBefore (rows_shown (row_at index key)) (rows_shown (row_at next key)) (notes_at next key))
    (changes : ChangesAt key_cmp (has_key key_cmp keys) (notes_at next) (streams_at by_key) (streams_at new)) where
  abbrev was : EndpointKey → EndpointView
  was = endpoint_row config held

  abbrev now : EndpointKey → EndpointView
  now = endpoint_row config after

  met_there : (k : EndpointKey) → is_some (streams_at by_key k) ≡ true → has_key key_cmp keys k ≡ meets (endpoint_reads held k) changed
  met_there k some = met.each k ∙ met_is config held index (λ key. is_some (streams_at by_key key)) standing.indexed k changed some

  stays : (k : EndpointKey) → has_key key_cmp keys k ≡ false → is_some (streams_at by_key k) ≡ true → now k ≡ was k
  stays k misses some = (stay config k changed held after leads (sym (met_there k some) ∙ misses)).0

  still_indexed : IsIndexed config after next (λ key. is_some (streams_at by_key key))
  still_indexed = record { stands = stands; filter = same_filter ∙ standing.indexed.filter; one_user = λ k. same_users k ∙ standing.indexed.one_user k }

  pub follow_stands : Standing config limits after next new by_id within
  follow_stands = record {
    indexed = same_used config after next by_key new (change_present key_cmp key_total key_exact (encoding limits) was now (has_key key_cmp keys) (notes_at next) (streams_at by_key) (streams_at new) (key_at by_id) changes stays standing.shared) still_indexed;
    shared = change_shared key_cmp key_total key_exact (encoding limits) was now (has_key key_cmp keys) (notes_at next) (streams_at by_key) (streams_at new) (key_at by_id) changes stays standing.shared;
    same_limits = standing.same_limits;
  }

  back : (k : EndpointKey) → has_key key_cmp keys k ≡ true → is_some (streams_at by_key k) ≡ true → earlier_rows (notes_at next k) (now k).rows ≡ (was k).rows
  back k is some =
      tells_earlier (was k).rows (now k).rows (notes_at next k) (keyed_rows (was k) (orderly config held k.ns k.name k.port)) (keyed_rows (now k) (orderly config after k.ns k.name k.port))
      (subst (λ (o : Option EndpointView). TellsBefore (was k).rows (rows_shown o) (notes_at next k)) (row_is config after next (λ key. is_some (streams_at by_key key)) still_indexed k some)
      (subst (λ (o : Option EndpointView). TellsBefore (rows_shown o) (rows_shown (row_at next k)) (notes_at next k)) (row_is config held index (λ key. is_some (streams_at by_key key)) standing.indexed k some) (before k)))

  pub follow_keeps : (n : ℕ) → shown_of next new n (key_at by_id n) ≡ shown_of index by_key n (key_at by_id n)
  follow_keeps n =
      shown_is config limits after next new by_id within follow_stands n
      ∙ change_shows key_cmp key_total key_exact (encoding limits) was now (has_key key_cmp keys) (notes_at next) (streams_at by_key) (streams_at new) (key_at by_id) changes stays standing.shared back n (key_at by_id n)
      ∙ sym (shown_is config limits held index by_key by_id within standing n)

  pub follow_touches : (ids : List ℕ) → ((n : ℕ) → list_any (nat_eq n) ids ≡ list_any (λ key. has_at (streams_at by_key key) n) keys) → (n : ℕ) → list_any (nat_eq n) ids ≡ is_met held changed (key_at by_id n)
  follow_touches ids are n = are n ∙ by (key_at by_id n) refl
    where
      none : (ks : List EndpointKey) → list_any (λ (key : EndpointKey). false) ks ≡ false
      none [] = refl
      none (k ∷ ks) = none ks

      by : (o : Option EndpointKey) → key_at by_id n ≡ o → list_any (λ key. has_at (streams_at by_key key) n) keys ≡ is_met held changed o
      by None is =
          same_any (λ key. has_at (streams_at by_key key) n) (λ key. false) (λ key. has_none key_cmp key_total key_exact (streams_at by_key) (key_at by_id) standing.shared.tied n is key) keys
          ∙ none keys
      by (Some k) is =
          same_any (λ key. has_at (streams_at by_key key) n) (eq_by_cmp key_cmp k)
          (λ key. standing.shared.tied key n ∙ ap (is_key key_cmp key) is ∙ flipped key_cmp key_total key_exact key k) keys
          ∙ met_there k (has_streams key_cmp key_total key_exact (streams_at by_key) (key_at by_id) standing.shared.tied n k is)
