-- The rows of ids: what each call leaves so that they stand for the objects held.
use Rattle.std.proofs.Common.{◌≡◌, inl, inr, ℕ, ◌+◌, ◌-◌, ◌<◌, nat_lt, Bool, true, false, cond, List, [], ◌∷◌, get_or, Option, Some, None, Result, Ok, Err, IfOk, OnOk, refl, sym, ap, subst, ◌∙◌, arith}
use Rattle.std.proofs.lemmas.Bool.{false≢true, lt-ltb, true≢false}
use Rattle.std.proofs.lemmas.Bool.Decides.{eqb_tells}
use Rattle.std.specs.BTreeMap.{BTreeMap, is_at}
use Rattle.std.specs.BTreeSet.{BTreeSet, btree_set_len, contains}
use Rattle.std.specs.Cmp.{IsTotalOrder}
use Rattle.std.specs.FinMap.{IsAntisymmetric}
use Rattle.std.specs.List.{filter_map, list_any}
use Rattle.std.specs.Map.{lookup}
use Rattle.std.specs.Option.{is_some}
use Rattle.std.specs.Ordering.{eq_by_cmp, nat_cmp}
use Rattle.std.specs.declared.cmp.Ordering.{Ordering}
use Rattle.view_types.specs.Objects.{ObjectMap}
use Rattle.view_types.specs.declared.mark.Mark.{Mark}
use Rattle.mark_graph.specs.RowMarks.{has_row}
use Rattle.row_table.specs.IndexRows.{AreMet, AreNumbered, Filter, IsCurrent, KeepNumbers, OneLess, has_key}
use Rattle.row_table.proofs.Keys.{flipped, is_itself}
use Rattle.row_table.proofs.MarkLists.{meets_same, same_any}
use Rattle.row_views.specs.Ids.{AddsId, AreTied, OneMoreUnless, RemovesId, SetsAt, has_ids_at, has_ids_in, id_at, id_in, ids_of, is_key, is_number, is_one_of, is_open, empty_ids, key_at, number_of}
use Rattle.row_views.specs.Standing.{AreKept, HasSameRow, Standing, is_met}
use Rattle.row_views.specs.declared.numbered_ids.NumberedIds.{NumberedIds}
use Rattle.row_views.proofs.Ids.{less_users, more_users, same_users}
use Rattle.row_views.proofs.Numbers.{any_number, ids_met, open_there, put_alike, put_there, put_tied, some_number, take_alike, take_tied}

pub if_then : {A E : Type 0} {P R : A → Type 0} (r : Result A E) → IfOk r P → ((a : A) → P a → R a) → IfOk r R
if_then (Ok a) p f = f a p
if_then (Err e) p f = tt

pub on_any : {A E P : Type 0} (r : Result A E) → P → OnOk r P
on_any (Ok a) p = p
on_any (Err e) p = tt

no_mark : {A : Type 0} (xs : List A) → list_any (λ (x : A). false) xs ≡ false
no_mark [] = refl
no_mark (x ∷ xs) = no_mark xs

-- what has a user more has one
has_user : (users more : ℕ) → more ≡ users + 1 → nat_lt 0 more ≡ true
has_user users more is = lt-ltb 0 more (omega (arith, is))

no_number : (o : Option ℕ) → is_some o ≡ false → o ≡ None
no_number None e = refl
no_number (Some n) e = absurd (true≢false e)

a_number : (o : Option ℕ) → is_some o ≡ true → (n : ℕ) × (o ≡ Some n)
a_number None e = absurd (false≢true e)
a_number (Some n) e = (n, refl)

one_or_none : (b : Bool) → nat_lt 0 (cond b 1 0) ≡ b
one_or_none true = refl
one_or_none false = refl

module _ {Key : Type 0} (cmp : Key → Key → Ordering) (total : IsTotalOrder cmp) (exact : IsAntisymmetric cmp) (users more : Key → ℕ) (was now : Key → Option ℕ) (used : AreNumbered users was) (uses : AreNumbered more now) (key : Key) where
  -- ---- the numbers after one user more

  module _ (keep : KeepNumbers was now) (one : OneMoreUnless cmp (is_some (was key)) key users more) where
    as_many : (b : Bool) → OneMoreUnless cmp b key users more → (k : Key) → eq_by_cmp cmp k key ≡ false → more k ≡ users k
    as_many true same k out = same k
    as_many false add k out = add k ∙ ap (λ b. users k + cond b 1 0) out ∙ omega arith

    -- other keys have the numbers that they had
    pub others_keep : (k : Key) → eq_by_cmp cmp k key ≡ false → now k ≡ was k
    others_keep k out = by (was k) refl
      where
        by : (o : Option ℕ) → was k ≡ o → now k ≡ o
        by (Some n) e = keep k n e
        by None e = no_number (now k) (uses.used k ∙ ap (nat_lt 0) (as_many (is_some (was key)) one k out) ∙ sym (used.used k) ∙ ap is_some e)

    -- and the key has one
    pub has_number : (n : ℕ) × (now key ≡ Some n)
    has_number = by (was key) refl one
      where
        by : (o : Option ℕ) → was key ≡ o → OneMoreUnless cmp (is_some o) key users more → (n : ℕ) × (now key ≡ Some n)
        by (Some n) e same = (n, keep key n e)
        by None e add = a_number (now key) (uses.used key ∙ has_user (users key) (more key) (add key ∙ ap (λ b. users key + cond b 1 0) (is_itself cmp total exact key)))

module _ {Index Key : Type 0} (cmp : Key → Key → Ordering) (total : IsTotalOrder cmp) (exact : IsAntisymmetric cmp) (users : Index → Key → ℕ) (number_at : Index → Key → Option ℕ) (stand : Index → ObjectMap → Type 0) where
  abbrev Stands : ObjectMap → Index → NumberedIds → BTreeMap ℕ Key → Type 0
  Stands = Standing cmp users number_at stand

  pub none_stand : (held : ObjectMap) (index : Index) (by_number : NumberedIds) (by_id : BTreeMap ℕ Key) → by_number.sets.items ≡ [] → by_id.entries ≡ [] → ((key : Key) → users index key ≡ 0) → stand index held → Stands held index by_number by_id
  none_stand held index by_number by_id no_numbers no_ids unused rows = record {
    rows = rows;
    one_user = λ k. unused k ∙ sym (ap (λ b. cond b 1 0) (none_open (number_at index k)));
    tied = record {
      ids = λ k n. none_at (number_at index k) n ∙ sym (ap (is_key cmp k) (ap (lookup (is_at (nat_cmp n))) no_ids));
      alone = λ m n there. absurd (false≢true (sym (none_at (Some m) n) ∙ there));
    };
  }
    where
      no_set : (m : ℕ) → ids_of by_number m ≡ empty_ids
      no_set m = ap (λ (sets : List (BTreeSet ℕ)). get_or sets m empty_ids) no_numbers

      none_open : (o : Option ℕ) → has_ids_at by_number o ≡ false
      none_open None = refl
      none_open (Some m) = ap (λ ids. nat_lt 0 (btree_set_len ids)) (no_set m)

      none_at : (o : Option ℕ) (n : ℕ) → id_at by_number o n ≡ false
      none_at None n = refl
      none_at (Some m) n = ap (λ ids. contains nat_cmp ids n) (no_set m)

  module _ (laws : (index : Index) (held : ObjectMap) → stand index held → AreNumbered (users index) (number_at index)) (held : ObjectMap) (index next : Index) (by_number new : NumberedIds) (by_id later : BTreeMap ℕ Key) (id : ℕ) (key : Key)
      (st : Stands held index by_number by_id) where
    abbrev was : Key → Option ℕ
    was = number_at index

    abbrev now : Key → Option ℕ
    now = number_at next

    -- ids are open with a key that has a number
    open_is : (k : Key) → is_some (was k) ≡ is_open was by_number k
    open_is k = (laws index held st.rows).used k ∙ ap (nat_lt 0) (st.one_user k) ∙ one_or_none (is_open was by_number k)

    pub opened_stand : key_at by_id id ≡ None → OneMoreUnless cmp (is_some (was key)) key (users index) (users next) → stand next held → KeepNumbers was now → AddsId (is_number (now key)) id by_number new
        → SetsAt id (Some key) (key_at by_id) (key_at later) → Stands held next new later
    opened_stand free more rows keep adds sets =
        let used = laws index held st.rows in
        let uses = laws next held rows in
        let others = others_keep cmp total exact (users index) (users next) was now used uses key keep more in
        let one = has_number cmp total exact (users index) (users next) was now used uses key keep more in
        let added : AddsId (is_number (Some one.0)) id by_number new = subst (λ (o : Option ℕ). AddsId (is_number o) id by_number new) one.1 adds in
        record {
          rows = rows;
          one_user = more_users cmp total exact (users index) (users next) (is_open was by_number) (is_open now new) key st.one_user
              (put_alike cmp total exact was now by_number new by_id later id key one.0 st.tied free one.1 keep others uses.apart added sets)
              (put_there cmp total exact was now by_number new by_id later id key one.0 st.tied free one.1 keep others uses.apart added sets)
              (subst (λ (b : Bool). OneMoreUnless cmp b key (users index) (users next)) (open_is key) more);
          tied = put_tied cmp total exact was now by_number new by_id later id key one.0 st.tied free one.1 keep others uses.apart added sets;
        }

    module _ (is : key_at by_id id ≡ Some key) (takes : RemovesId (is_number (was key)) id by_number new) (sets : SetsAt id None (key_at by_id) (key_at later)) where
      there : is_open was by_number key ≡ true
      there = open_there cmp total exact was by_number by_id st.tied id key is

      own : (n : ℕ) × (was key ≡ Some n)
      own = some_number by_number (was key) there

      taken : RemovesId (is_number (Some own.0)) id by_number new
      taken = subst (λ (o : Option ℕ). RemovesId (is_number o) id by_number new) own.1 takes

      apart : (k other : Key) (n : ℕ) → was k ≡ Some n → was other ≡ Some n → k ≡ other
      apart = (laws index held st.rows).apart

      pub closed_stand : is_open was new key ≡ true → Stands held index new later
      closed_stand left = record {
        rows = st.rows;
        one_user = same_users cmp total exact (users index) (users next) (is_open was by_number) (is_open was new) key st.one_user
            (take_alike cmp total exact was was by_number new by_id later id key own.0 st.tied is own.1 apart (λ k out. refl) (inl own.1) taken sets) there left;
        tied = take_tied cmp total exact was was by_number new by_id later id key own.0 st.tied is own.1 apart (λ k out. refl) (inl own.1) taken sets;
      }

      pub last_stand : is_open was new key ≡ false → OneLess cmp key (users index) (users next) → stand next held → ((k : Key) → eq_by_cmp cmp k key ≡ false → now k ≡ was k) → Stands held next new later
      last_stand none less rows others =
          let one : users index key ≡ 1 = st.one_user key ∙ ap (λ b. cond b 1 0) there in
          let unused : users next key ≡ 0 = less key ∙ (λ i. one i - cond (is_itself cmp total exact key i) 1 0) in
          let gone : now key ≡ None = no_number (now key) ((laws next held rows).used key ∙ ap (nat_lt 0) unused) in
          let left : has_ids_in new own.0 ≡ false = sym (ap (has_ids_at new) own.1) ∙ none in
          record {
            rows = rows;
            one_user = less_users cmp total exact (users index) (users next) (is_open was by_number) (is_open now new) key st.one_user
                (take_alike cmp total exact was now by_number new by_id later id key own.0 st.tied is own.1 apart others (inr (gone, left)) taken sets) there (ap (has_ids_at new) gone) less;
            tied = take_tied cmp total exact was now by_number new by_id later id key own.0 st.tied is own.1 apart others (inr (gone, left)) taken sets;
          }

  -- an id that wasn't open
  pub unset_stand : (held : ObjectMap) (index : Index) (by_number : NumberedIds) (by_id later : BTreeMap ℕ Key) (id : ℕ) → key_at by_id id ≡ None → SetsAt id None (key_at by_id) (key_at later) → Stands held index by_number by_id
      → Stands held index by_number later
  unset_stand held index by_number by_id later id none sets st = record {
    rows = st.rows;
    one_user = st.one_user;
    tied = record {
      ids = λ k n. st.tied.ids k n ∙ sym (ap (is_key cmp k) (same n));
      alone = λ m n there. ap (number_of (number_at index)) (same n) ∙ st.tied.alone m n there;
    };
  }
    where
      same : (n : ℕ) → key_at later n ≡ key_at by_id n
      same n = sets n ∙ elim (eqb_tells n id) [
        | inl tied ↦ ap (λ (b : Bool). cond b None (key_at by_id n)) tied.0 ∙ sym (ap (key_at by_id) tied.1 ∙ none)
        | inr apart ↦ ap (λ (b : Bool). cond b None (key_at by_id n)) apart.0
      ]

  -- rows that are brought up to a change
  pub followed_stand : (held after : ObjectMap) (index next : Index) (by_number : NumberedIds) (by_id : BTreeMap ℕ Key) → ((key : Key) → users next key ≡ users index key) → ((key : Key) → number_at next key ≡ number_at index key)
      → stand next after → Stands held index by_number by_id → Stands after next by_number by_id
  followed_stand held after index next by_number by_id same still rows st = record {
    rows = rows;
    one_user = λ k. same k ∙ st.one_user k ∙ sym (ap (λ o. cond (has_ids_at by_number o) 1 0) (still k));
    tied = subst (λ (numbers : Key → Option ℕ). AreTied cmp numbers by_number by_id) (λ i k. sym (still k) i) st.tied;
  }

  -- ---- the rows of keys that have ids

  module _ {Row : Type 0} (filter : Filter Key Row) (row_in : Index → Key → Option Row) (marks_in : Index → Key → List Mark) (held : ObjectMap) (index : Index) (by_number : NumberedIds) (by_id : BTreeMap ℕ Key)
      (current : stand index held → (key : Key) → IsCurrent filter held key (users index key) (row_in index key) (marks_in index key)) (st : Stands held index by_number by_id) where
    used : (id : ℕ) (key : Key) → key_at by_id id ≡ Some key → 0 < users index key
    used id key is = subst (λ (n : ℕ). 0 < n) (sym (st.one_user key ∙ ap (λ b. cond b 1 0) (open_there cmp total exact (number_at index) by_number by_id st.tied id key is))) (omega arith)

    pub row_is : (id : ℕ) (key : Key) → key_at by_id id ≡ Some key → row_in index key ≡ Some (filter.row_of held key)
    row_is id key is = ((current st.rows key).used (used id key is)).0

    -- the ids of keys
    pub ids_at : (keys : List Key) (ids : List ℕ) → ((n : ℕ) → has_row n ids ≡ list_any (λ m. id_in by_number m n) (filter_map (number_at index) keys)) → (n : ℕ) → has_row n ids ≡ is_one_of cmp keys (key_at by_id n)
    ids_at keys ids are n =
        are n ∙ any_number by_number (number_at index) n keys ∙ same_any (λ key. id_at by_number (number_at index key) n) (λ key. is_key cmp key (key_at by_id n)) (λ key. st.tied.ids key n) keys ∙ by (key_at by_id n)
      where
        by : (o : Option Key) → list_any (λ key. is_key cmp key o) keys ≡ is_one_of cmp keys o
        by None = no_mark keys
        by (Some k) = same_any (λ key. eq_by_cmp cmp key k) (eq_by_cmp cmp k) (λ key. flipped cmp total exact key k) keys

    -- the ids at the numbers of the keys that a change meets
    pub ids_touched : (changed : List Mark) (keys : List Key) → AreMet cmp changed (marks_in index) keys → (numbers ids : List ℕ) → ((k : Key) (n : ℕ) → number_at index k ≡ Some n → has_row n numbers ≡ has_key cmp keys k)
        → ((n : ℕ) → has_row n ids ≡ list_any (λ m. id_in by_number m n) numbers) → (n : ℕ) → has_row n ids ≡ is_met filter held changed (key_at by_id n)
    ids_touched changed keys met numbers ids own are n = are n ∙ ids_met cmp total exact (number_at index) by_number by_id st.tied numbers keys own n ∙ by (key_at by_id n) refl
      where
        by : (o : Option Key) → key_at by_id n ≡ o → is_one_of cmp keys o ≡ is_met filter held changed o
        by None is = refl
        by (Some k) is = met.each k ∙ meets_same (marks_in index k) (filter.reads held k) changed ((current st.rows k).used (used n k is)).1

-- the key of an id has the row that it had, unless it differs
pub same_row : {Key Row : Type 0} (cmp : Key → Key → Ordering) (filter : Filter Key Row) (held after : ObjectMap) (differing : List Key) (old new : Key → Option Row) (key : Option Key) → ((k : Key) → has_key cmp differing k ≡ false → new k ≡ old k)
    → ((k : Key) → key ≡ Some k → old k ≡ Some (filter.row_of held k)) → ((k : Key) → key ≡ Some k → new k ≡ Some (filter.row_of after k)) → is_one_of cmp differing key ≡ false → HasSameRow filter held after key
same_row cmp filter held after differing old new None others was is out = refl
same_row cmp filter held after differing old new (Some k) others was is out = sym (is k refl) ∙ others k out ∙ was k refl

-- rows of an index that is this one
pub moved_kept : {Index Key Row : Type 0} {cmp : Key → Key → Ordering} {users : Index → Key → ℕ} {number_at : Index → Key → Option ℕ} {stand : Index → ObjectMap → Type 0} {filter_of : Index → Filter Key Row} {filter : Filter Key Row} {held : ObjectMap}
    {index new : Index} {by_number : NumberedIds} {by_id : BTreeMap ℕ Key} → new ≡ index → Standing cmp users number_at stand held index by_number by_id → filter_of index ≡ filter → AreKept cmp users number_at stand filter_of filter held new by_number by_id
moved_kept {cmp} {users} {number_at} {stand} {filter_of} {held} {by_number} {by_id} same rows filtered = record { rows = subst (λ it. Standing cmp users number_at stand held it by_number by_id) (sym same) rows; filtered = ap filter_of same ∙ filtered }
