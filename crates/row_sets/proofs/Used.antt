-- The keys that are in use: what becomes of them, and of the users of their rows, as an id is put at a key or removed from it.
use Rattle.std.proofs.Common.{◌≡◌, inl, inr, ℕ, ◌+◌, ◌-◌, ◌<◌, ◌≤◌, ◌&&◌, ◌||◌, not, Bool, true, false, cond, nat_eq, List, length, get_or, take, refl, sym, ap, subst, ◌∙◌, arith}
use Rattle.std.proofs.lemmas.Bool.{false≢true}
use Rattle.std.proofs.lemmas.Cmp.{nat_cmp_total}
use Rattle.std.proofs.lemmas.List.Folds.{list_any_more}
use Rattle.std.specs.BTreeSet as sorted
use Rattle.std.specs.BTreeSet.{BTreeSet}
use Rattle.std.specs.Cmp.{IsTotalOrder, unsigned_tied}
use Rattle.std.specs.FinMap.{IsAntisymmetric, nat_cmp-IsAntisymmetric}
use Rattle.std.specs.Ordering.{eq_by_cmp, nat_cmp}
use Rattle.std.specs.declared.cmp.Ordering.{Ordering}
use Rattle.view_types.specs.Objects.{ObjectMap}
use Rattle.mark_graph.specs.RowMarks.{AddsRow, AllHaveRows, RemovesRow, row_at}
use Rattle.mark_graph.specs.declared.rows_by_mark.RowsByMark.{RowsByMark}
use Rattle.row_table.specs.IndexRows.{OneLess, has_key}
use Rattle.row_table.proofs.Keys.{flipped, is_itself, tells, turned}
use Rattle.row_views.specs.Ids.{OneMoreUnless, has_ids}
use Rattle.row_views.proofs.Ids.{has_alike, has_one, has_where}
use Rattle.row_sets.specs.Standing.{InUse, is_left_out}

pub nat_itself : (n : ℕ) → nat_eq n n ≡ true
nat_itself n = sym (unsigned_tied n n) ∙ is_itself nat_cmp nat_cmp_total nat_cmp-IsAntisymmetric n

and_true : (a b : Bool) → (a && b) ≡ true → b ≡ true
and_true true b is = is
and_true false b is = absurd (false≢true is)

-- what a key costs that is used still is no more than what it cost before
pub costs_less : (was is : Bool) (cost before after : ℕ) → (was ≡ true → is ≡ true) → after ≤ before + cond is 0 cost → after ≤ before + cond was 0 cost
costs_less true is cost before after stays most = subst (λ (b : Bool). after ≤ before + cond b 0 cost) (stays refl) most
costs_less false true cost before after stays most = omega (arith, most)
costs_less false false cost before after stays most = most

-- what is added or removed at each key so far, and at one key more
put_more : (at had here old mid new : Bool) → mid ≡ ((had && here) || old) → new ≡ ((at && here) || mid) → new ≡ (((had || at) && here) || old)
put_more at had here old mid new first second = second ∙ ap (λ b. (at && here) || b) first ∙ by_cases at had here
  where
    by_cases : (at had here : Bool) → ((at && here) || ((had && here) || old)) ≡ (((had || at) && here) || old)
    by_cases true true true = refl
    by_cases true true false = refl
    by_cases true false true = refl
    by_cases true false false = refl
    by_cases false true here = refl
    by_cases false false here = refl

take_more_of : (at had in_new here old mid new : Bool) → mid ≡ (not ((had && not in_new) && here) && old) → new ≡ (not ((at && not in_new) && here) && mid) → new ≡ (not (((had || at) && not in_new) && here) && old)
take_more_of at had in_new here old mid new first second = second ∙ ap (λ b. not ((at && not in_new) && here) && b) first ∙ by_cases at had in_new here
  where
    by_cases : (at had in_new here : Bool) → (not ((at && not in_new) && here) && (not ((had && not in_new) && here) && old)) ≡ (not (((had || at) && not in_new) && here) && old)
    by_cases true true true here = refl
    by_cases true true false true = refl
    by_cases true true false false = refl
    by_cases true false true here = refl
    by_cases true false false true = refl
    by_cases true false false false = refl
    by_cases false true in_new here = refl
    by_cases false false in_new here = refl

module _ {Key : Type 0} (cmp : Key → Key → Ordering) (total : IsTotalOrder cmp) (exact : IsAntisymmetric cmp) where
  abbrev ByKey : Type 0
  ByKey = RowsByMark Key

  -- ---- keys that have ids

  -- a key whose ids all stay has ids
  stays_used : (old new : ByKey) → AllHaveRows cmp old → (k : Key) → ((r : ℕ) → row_at cmp old k r ≡ true → row_at cmp new k r ≡ true) → has_ids cmp old k ≡ true → has_ids cmp new k ≡ true
  stays_used old new each k stay is = let one = has_one cmp total exact old each k is in has_where cmp total exact new k one.0 (stay one.0 one.1)

  -- keys that have ids have them still after more are added
  pub added_used : (old new : ByKey) (set : Key → Bool) (id : ℕ) → AllHaveRows cmp old → AddsRow cmp set id old new → (k : Key) → has_ids cmp old k ≡ true → has_ids cmp new k ≡ true
  added_used old new set id each adds k is = stays_used old new each k (λ r there. adds k r ∙ ap (λ b. (set k && nat_eq r id) || b) there ∙ or_true (set k && nat_eq r id)) is
    where
      or_true : (b : Bool) → (b || true) ≡ true
      or_true true = refl
      or_true false = refl

  -- ---- one key

  module _ {Index : Type 0} (users : Index → Key → ℕ) (stand : Index → ObjectMap → Type 0) (held : ObjectMap) (index next : Index) (by_key new : ByKey) (id : ℕ) (key : Key) (used : InUse cmp users stand held index by_key) (each : AllHaveRows cmp new) where
    abbrev one_if : ByKey → Key → ℕ
    one_if by k = cond (has_ids cmp by k) 1 0

    moved : users next key ≡ one_if new key → ((k : Key) → eq_by_cmp cmp k key ≡ false → users next k ≡ one_if new k) → (k : Key) → users next k ≡ one_if new k
    moved there others k = elim (tells cmp total exact k key) [
      | inl same ↦ ap (users next) same.1 ∙ there ∙ sym (ap (one_if new) same.1)
      | inr apart ↦ others k apart.0
    ]

    module _ (adds : AddsRow cmp (eq_by_cmp cmp key) id by_key new) where
      put_alike : (k : Key) → eq_by_cmp cmp k key ≡ false → has_ids cmp new k ≡ has_ids cmp by_key k
      put_alike k apart = has_alike cmp total exact by_key new used.each each k (λ r. adds k r ∙ ap (λ b. (b && nat_eq r id) || row_at cmp by_key k r) (turned cmp total exact k key apart))

      put_there : has_ids cmp new key ≡ true
      put_there = has_where cmp total exact new key id (adds key id ∙ (λ i. (is_itself cmp total exact key i && nat_itself id i) || row_at cmp by_key key id))

      -- an id is put at the key, which is a user of the index now
      pub put_in_use : OneMoreUnless cmp (has_ids cmp by_key key) key (users index) (users next) → stand next held → InUse cmp users stand held next new
      put_in_use more rows = record { rows = rows; one_user = by (has_ids cmp by_key key) refl more; each = each }
        where
          by : (b : Bool) → has_ids cmp by_key key ≡ b → OneMoreUnless cmp b key (users index) (users next) → (k : Key) → users next k ≡ one_if new k
          by true e same = moved (same key ∙ used.one_user key ∙ ap (λ b. cond b 1 0) (e ∙ sym put_there)) (λ k apart. same k ∙ used.one_user k ∙ ap (λ b. cond b 1 0) (sym (put_alike k apart)))
          by false e add =
              let none : users index key ≡ 0 = used.one_user key ∙ ap (λ b. cond b 1 0) e in
              moved (add key ∙ (λ i. none i + cond (is_itself cmp total exact key i) 1 0) ∙ sym (ap (λ b. cond b 1 0) put_there))
              (λ k apart. add k ∙ ap (λ b. users index k + cond b 1 0) apart ∙ plain (users index k) ∙ used.one_user k ∙ ap (λ b. cond b 1 0) (sym (put_alike k apart)))
            where
              plain : (n : ℕ) → n + 0 ≡ n
              plain n = omega arith

    module _ (takes : RemovesRow cmp (eq_by_cmp cmp key) id by_key new) where
      take_alike : (k : Key) → eq_by_cmp cmp k key ≡ false → has_ids cmp new k ≡ has_ids cmp by_key k
      take_alike k apart = has_alike cmp total exact by_key new used.each each k (λ r. takes k r ∙ ap (λ b. not (b && nat_eq r id) && row_at cmp by_key k r) (turned cmp total exact k key apart))

      -- an id is removed from the key, which has others
      pub still_in_use : has_ids cmp new key ≡ true → InUse cmp users stand held index new
      still_in_use there = record {
        rows = used.rows;
        one_user = λ k. elim (tells cmp total exact k key) [
          | inl same ↦ ap (users index) same.1 ∙ used.one_user key ∙ ap (λ b. cond b 1 0) (was ∙ sym there) ∙ sym (ap (one_if new) same.1)
          | inr apart ↦ used.one_user k ∙ ap (λ b. cond b 1 0) (sym (take_alike k apart.0))
        ];
        each = each;
      }
        where
          was : has_ids cmp by_key key ≡ true
          was = stays_used new by_key each key (λ r is. and_true (not (eq_by_cmp cmp key key && nat_eq r id)) (row_at cmp by_key key r) (sym (takes key r) ∙ is)) there

      -- the last id is removed from the key, if it had one, and it has left the index
      pub left_in_use : has_ids cmp new key ≡ false → OneLess cmp key (users index) (users next) → stand next held → InUse cmp users stand held next new
      left_in_use gone less rows = record {
        rows = rows;
        one_user = moved (less key ∙ (λ i. used.one_user key i - cond (is_itself cmp total exact key i) 1 0) ∙ none (has_ids cmp by_key key) ∙ sym (ap (λ b. cond b 1 0) gone))
            (λ k apart. less k ∙ ap (λ b. users index k - cond b 1 0) apart ∙ plain (users index k) ∙ used.one_user k ∙ ap (λ b. cond b 1 0) (sym (take_alike k apart)));
        each = each;
      }
        where
          none : (b : Bool) → cond b 1 0 - 1 ≡ 0
          none true = refl
          none false = refl

          plain : (n : ℕ) → n - 0 ≡ n
          plain n = omega arith

  -- ---- one key more

  module _ (old mid new : ByKey) (id : ℕ) (keys : List Key) (i : ℕ) (key : Key) (lt : i < length keys) (at : key ≡ get_or keys i key) where
    one_more : (k : Key) → has_key cmp (take (i + 1) keys) k ≡ (has_key cmp (take i keys) k || eq_by_cmp cmp key k)
    one_more k = list_any_more (eq_by_cmp cmp k) keys i key lt ∙ ap (λ b. has_key cmp (take i keys) k || b) (ap (eq_by_cmp cmp k) (sym at) ∙ flipped cmp total exact k key)

    -- an id is put at one key more
    pub adds_more : AddsRow cmp (has_key cmp (take i keys)) id old mid → AddsRow cmp (eq_by_cmp cmp key) id mid new → AddsRow cmp (has_key cmp (take (i + 1) keys)) id old new
    adds_more first second k r =
        put_more (eq_by_cmp cmp key k) (has_key cmp (take i keys) k) (nat_eq r id) (row_at cmp old k r) (row_at cmp mid k r) (row_at cmp new k r) (first k r) (second k r)
        ∙ ap (λ b. (b && nat_eq r id) || row_at cmp old k r) (sym (one_more k))

    -- an id is removed from one key more, unless the set has it
    pub takes_more : (set : BTreeSet Key) → RemovesRow cmp (is_left_out cmp (take i keys) set) id old mid → RemovesRow cmp (λ k. eq_by_cmp cmp key k && not (sorted.contains cmp set k)) id mid new
        → RemovesRow cmp (is_left_out cmp (take (i + 1) keys) set) id old new
    takes_more set first second k r =
        take_more_of (eq_by_cmp cmp key k) (has_key cmp (take i keys) k) (sorted.contains cmp set k) (nat_eq r id) (row_at cmp old k r) (row_at cmp mid k r) (row_at cmp new k r) (first k r) (second k r)
        ∙ ap (λ b. not ((b && not (sorted.contains cmp set k)) && nat_eq r id) && row_at cmp old k r) (sym (one_more k))

  -- ---- a key that the set may have

  module _ (by_key new : ByKey) (set : BTreeSet Key) (id : ℕ) (key : Key) where
    by_set : (b : Bool) → sorted.contains cmp set key ≡ b → (k : Key) → (eq_by_cmp cmp key k && not (sorted.contains cmp set k)) ≡ (eq_by_cmp cmp key k && not b)
    by_set b e k = elim (tells cmp total exact key k) [
      | inl same ↦ ap (λ x. eq_by_cmp cmp key k && not x) (ap (sorted.contains cmp set) (sym same.1) ∙ e)
      | inr apart ↦ (λ i. apart.0 i && not (sorted.contains cmp set k)) ∙ (λ i. sym apart.0 i && not b)
    ]

    pub kept_there : sorted.contains cmp set key ≡ true → RemovesRow cmp (λ k. eq_by_cmp cmp key k && not (sorted.contains cmp set k)) id by_key by_key
    kept_there e k r = sym (ap (λ b. not (b && nat_eq r id) && row_at cmp by_key k r) (by_set true e k) ∙ plain (eq_by_cmp cmp key k))
      where
        plain : (b : Bool) → (not ((b && false) && nat_eq r id) && row_at cmp by_key k r) ≡ row_at cmp by_key k r
        plain true = refl
        plain false = refl

    pub removed_there : sorted.contains cmp set key ≡ false → RemovesRow cmp (eq_by_cmp cmp key) id by_key new → RemovesRow cmp (λ k. eq_by_cmp cmp key k && not (sorted.contains cmp set k)) id by_key new
    removed_there e takes k r = takes k r ∙ ap (λ b. not (b && nat_eq r id) && row_at cmp by_key k r) (sym (by_set false e k ∙ plain (eq_by_cmp cmp key k)))
      where
        plain : (b : Bool) → (b && true) ≡ b
        plain true = refl
        plain false = refl
