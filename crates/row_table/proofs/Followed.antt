-- Rows that have followed a change, one after the other.
use Rattle.std.proofs.Common.{◌≡◌, inl, inr, ℕ, zero, suc, ◌<◌, ◌||◌, Bool, true, false, List, [], ◌∷◌, ◌++◌, Option, Some, None, length, get_or, take, nat_eq, refl, sym, ap, subst, ◌∙◌, arith}
use Rattle.std.specs.Cmp.{IsTotalOrder, tied_itself}
use Rattle.std.specs.FinMap.{IsAntisymmetric}
use Rattle.std.specs.List.{AllByRecursion, IsDistinct, list_any}
use Rattle.std.specs.List.Sorted.{IsStrictlySortedBy}
use Rattle.std.specs.Option.{option_to_list}
use Rattle.std.specs.Ordering.{eq_by_cmp, nat_cmp}
use Rattle.std.specs.declared.cmp.Ordering.{Ordering}
use Rattle.std.specs.declared.cmp.Ordering.TheVariants.{Less}
use Rattle.std.proofs.lemmas.Cmp.{nat_cmp_total}
use Rattle.std.proofs.lemmas.List.{append-nil}
use Rattle.std.proofs.lemmas.Bool.{eq-eqb, eqb-true, false≢true, ne_eqb, or_from}
use Rattle.slab.specs.Slab.{Slab}
use Rattle.view_types.specs.Objects.{ObjectMap}
use Rattle.view_types.specs.declared.mark.Mark.{Mark}
use Rattle.mark_graph.specs.RowMarks.{has_row}
use Rattle.mark_rules.specs.Changes.{Leads}
use Rattle.mark_rules.specs.Marks.{has_mark, meets}
use Rattle.row_table.specs.IndexRows.{AreMet, Filter, KeptShows, KeptStays, has_key}
use Rattle.row_table.specs.KeyNumbers.{PutsAt, number_at, used_at}
use Rattle.row_table.specs.TableRows.{AllStand, AreTied, Follow, KeptFollows, RowAfter, StandsAt, is_among, kept_at, key_in, keys_of, marks_of, row_at, row_of}
use Rattle.row_table.specs.declared.key_numbers.KeyNumbers.{KeyNumbers}
use Rattle.row_table.specs.declared.key_numbers.UsedKey.{UsedKey}
use Rattle.row_table.specs.declared.table_rows.KeptRow.{KeptRow}
use Rattle.row_table.specs.declared.watched_marks.WatchedMarks.{WatchedMarks}
use Rattle.row_table.proofs.Gathered.{alike}
use Rattle.row_table.proofs.Keys.{distinct_more, has_more, is_itself, tells}
use Rattle.row_table.proofs.MarkLists.{meets_back, meets_same}
use Rattle.row_table.proofs.Puts.{none_is_not_some, put_here, put_other, some_is}

module _ {Key Kept : Type 0} (cmp : Key → Key → Ordering) (total : IsTotalOrder cmp) (exact : IsAntisymmetric cmp) where
  module _ (keeps : ObjectMap → Key → Kept → Type 0) (tells_of : Kept → Kept → Type 0) (changed : List Mark) (after : ObjectMap) where
    abbrev After : Bool → Key → Option (KeptRow Key Kept) → Option (KeptRow Key Kept) → Type 0
    After = RowAfter keeps tells_of changed after

    -- one row follows
    pub follow_put : (key : Key) (row row_after : KeptRow Key Kept) (start end : Key → Option (KeptRow Key Kept)) → start key ≡ Some row → PutsAt cmp key (Some row_after) start end → row_after.key ≡ row.key
        → KeptFollows keeps tells_of changed after key row.kept row_after.kept → Follow keeps tells_of changed after (has_key cmp (key ∷ [])) start end
    follow_put key row row_after start end there put same_key kept k = elim (tells cmp total exact k key) as (λ _. After (has_key cmp (key ∷ []) k) k (start k) (end k)) [
      | inl same ↦ subst (λ (k : Key). After (has_key cmp (key ∷ []) k) k (start k) (end k)) (sym same.1)
          (subst (λ (b : Bool). After b key (start key) (end key)) (sym (ap (λ b. b || false) (is_itself cmp total exact key)))
          (subst (λ (o : Option (KeptRow Key Kept)). After true key o (end key)) (sym there)
          (subst (λ (o : Option (KeptRow Key Kept)). After true key (Some row) o) (sym (put_here cmp total exact key (Some row_after) start end put)) (record { same_key = same_key; kept = kept }))))
      | inr apart ↦ subst (λ (b : Bool). After b k (start k) (end k)) (sym (ap (λ b. b || false) apart.0)) (put_other cmp total exact key (Some row_after) start end put k apart.1)
    ]

    -- first some follow, then others
    pub follow_more : (keys added : List Key) (start middle end : Key → Option (KeptRow Key Kept)) → Follow keeps tells_of changed after (has_key cmp keys) start middle
        → Follow keeps tells_of changed after (has_key cmp added) middle end → ((k : Key) → has_key cmp added k ≡ true → has_key cmp keys k ≡ false)
        → Follow keeps tells_of changed after (has_key cmp (keys ++ added)) start end
    follow_more keys added start middle end first second apart k =
        subst (λ (b : Bool). After b k (start k) (end k)) (sym (has_more cmp keys added k))
        (by (has_key cmp keys k) (has_key cmp added k) (apart k) (first k) (second k))
      where
        by : (some more : Bool) → (more ≡ true → some ≡ false) → After some k (start k) (middle k) → After more k (middle k) (end k) → After (some || more) k (start k) (end k)
        by true true apart f s = absurd (false≢true (sym (apart refl)))
        by true false apart f s = subst (λ (row : Option (KeptRow Key Kept)). After true k (start k) row) (sym s) f
        by false true apart f s = subst (λ (row : Option (KeptRow Key Kept)). After true k row (end k)) f s
        by false false apart f s = s ∙ f

    -- all stand for the objects after the change
    module _ {Row : Type 0} (filter : Filter Key Row) (row_in : Kept → Row) (marks_in : Kept → List Mark) (shows : KeptShows filter keeps row_in marks_in) (stays : KeptStays filter keeps) (held : ObjectMap) (leads : Leads changed held after) where
      one_stands : (some : Bool) (k : Key) (u : Option UsedKey) (old new : Option (KeptRow Key Kept)) → some ≡ meets (marks_of marks_in old) changed → After some k old new → StandsAt keeps held k u old → StandsAt keeps after k u new
      one_stands true k None None None met follows stands = refl
      one_stands true k None (Some o) (Some n) met follows stands = none_is_not_some (Some o) o stands refl
      one_stands true k (Some u) None None met follows stands = absurd stands
      one_stands true k (Some u) (Some o) (Some n) met follows stands = (stands.0, follows.same_key ∙ stands.1, (follows.kept held stands.2 leads).0)
      one_stands true k u None (Some n) met follows stands = absurd follows
      one_stands true k u (Some o) None met follows stands = absurd follows
      one_stands false k None old new met same stands = same ∙ stands
      one_stands false k (Some u) None new met same stands = absurd stands
      one_stands false k (Some u) (Some o) new met same stands = subst (λ (row : Option (KeptRow Key Kept)). StandsAt keeps after k (Some u) row) (sym same)
          (stands.0, stands.1, stays k o.kept changed held after leads (sym (meets_same (marks_in o.kept) (filter.reads held k) changed (shows held k o.kept stands.2).are_read) ∙ sym met) stands.2)

      pub all_stand : (keys : List Key) (used used_after : KeyNumbers Key) (old new : Slab (KeptRow Key Kept)) → used_after ≡ used → AreMet cmp changed (λ k. marks_of marks_in (row_at cmp used old k)) keys
          → Follow keeps tells_of changed after (has_key cmp keys) (row_at cmp used old) (row_at cmp used_after new) → AllStand keeps cmp held used old → AllStand keeps cmp after used_after new
      all_stand keys used used_after old new same met follow stand k =
          subst (λ (u : Option UsedKey). StandsAt keeps after k u (row_at cmp used_after new k)) (sym (ap (λ (m : KeyNumbers Key). used_at cmp m k) same))
          (one_stands (has_key cmp keys k) k (used_at cmp used k) (row_at cmp used old k) (row_at cmp used_after new k) (met.each k) (follow k) (stand k))

  -- ---- the keys of the numbers that are due

  module _ (marks_in : Kept → List Mark) (used : KeyNumbers Key) (rows : Slab (KeptRow Key Kept)) (watched : WatchedMarks) (tied : AreTied cmp marks_in used rows watched) where
    -- the keys are those of rows with these numbers
    abbrev pub Among : List ℕ → List Key → Type 0
    Among numbers found = (k : Key) → has_key cmp found k ≡ is_among numbers (number_at cmp used k)

    among_none : (o : Option ℕ) → false ≡ is_among [] o
    among_none None = refl
    among_none (Some n) = refl

    pub among_start : Among [] []
    among_start k = among_none (number_at cmp used k)

    abbrev is_number : ℕ → Option ℕ → Bool
    is_number n None = false
    is_number n (Some m) = nat_eq m n

    snoc : (m n : ℕ) (numbers : List ℕ) → has_row m (numbers ++ n ∷ []) ≡ (has_row m numbers || nat_eq m n)
    snoc m n [] = or_false (nat_eq m n)
      where
        or_false : (b : Bool) → (b || false) ≡ b
        or_false true = refl
        or_false false = refl
    snoc m n (x ∷ xs) = ap (λ b. nat_eq m x || b) (snoc m n xs) ∙ joined (nat_eq m x) (has_row m xs) (nat_eq m n)
      where
        joined : (a b c : Bool) → (a || (b || c)) ≡ ((a || b) || c)
        joined true b c = refl
        joined false b c = refl

    among_more : (n : ℕ) (numbers : List ℕ) (o : Option ℕ) → is_among (numbers ++ n ∷ []) o ≡ (is_among numbers o || is_number n o)
    among_more n numbers None = refl
    among_more n numbers (Some m) = snoc m n numbers

    -- the key of a number, if it has one
    added : ℕ → List Key
    added n = option_to_list (key_in (kept_at rows n))

    -- it is the key of the row with the number
    added_is : (n : ℕ) (k : Key) → has_key cmp (option_to_list (key_in (kept_at rows n))) k ≡ is_number n (number_at cmp used k)
    added_is n k = by (key_in (kept_at rows n)) refl (number_at cmp used k) refl
      where
        number_is : (m : ℕ) → nat_eq m n ≡ true → number_at cmp used k ≡ Some m → key_in (kept_at rows n) ≡ Some k
        number_is m e is = ap (λ i. key_in (kept_at rows i)) (sym (eqb-true m n e)) ∙ tied.rows_of k m is

        by : (found : Option Key) → key_in (kept_at rows n) ≡ found → (o : Option ℕ) → number_at cmp used k ≡ o → has_key cmp (option_to_list found) k ≡ is_number n o
        by None at None is = refl
        by None at (Some m) is = case (nat_eq m n) refl
          where
            case : (b : Bool) → nat_eq m n ≡ b → false ≡ b
            case true e = none_is_not_some (key_in (kept_at rows n)) k at (number_is m e is)
            case false e = refl
        by (Some key) at None is = elim (tells cmp total exact k key) as (λ _. has_key cmp (key ∷ []) k ≡ false) [
          | inl same ↦ none_is_not_some (number_at cmp used k) n is (ap (number_at cmp used) same.1 ∙ tied.numbers n key at)
          | inr apart ↦ ap (λ b. b || false) apart.0
        ]
        by (Some key) at (Some m) is = elim (tells cmp total exact k key) as (λ _. has_key cmp (key ∷ []) k ≡ nat_eq m n) [
          | inl same ↦ ap (λ b. b || false) same.0 ∙ sym (eq-eqb m n (some_is m n (sym is ∙ ap (number_at cmp used) same.1 ∙ tied.numbers n key at)))
          | inr apart ↦ ap (λ b. b || false) apart.0 ∙ sym (ne_eqb m n (λ e. apart.1 (sym (some_is key k (sym at ∙ number_is m (eq-eqb m n e) is)))))
        ]

    pub among_step : (n : ℕ) (numbers : List ℕ) (found : List Key) → Among numbers found → Among (numbers ++ n ∷ []) (found ++ option_to_list (key_in (kept_at rows n)))
    among_step n numbers found so_far k =
        has_more cmp found (option_to_list (key_in (kept_at rows n))) k ∙ (λ i. so_far k i || added_is n k i) ∙ sym (among_more n numbers (number_at cmp used k))

    -- a key that is added wasn't there, where the number is new
    pub added_apart : (n : ℕ) (numbers : List ℕ) (found : List Key) → Among numbers found → has_row n numbers ≡ false → (k : Key) → has_key cmp (option_to_list (key_in (kept_at rows n))) k ≡ true → has_key cmp found k ≡ false
    added_apart n numbers found so_far fresh k has = so_far k ∙ by (number_at cmp used k) (sym (added_is n k) ∙ has)
      where
        by : (o : Option ℕ) → is_number n o ≡ true → is_among numbers o ≡ false
        by None e = refl
        by (Some m) e = ap (λ m. has_row m numbers) (eqb-true m n e) ∙ fresh

    pub once_more : (n : ℕ) (numbers : List ℕ) (found : List Key) → Among numbers found → has_row n numbers ≡ false → IsDistinct (eq_by_cmp cmp) found
        → IsDistinct (eq_by_cmp cmp) (found ++ option_to_list (key_in (kept_at rows n)))
    once_more n numbers found so_far fresh once = by (key_in (kept_at rows n)) (added_apart n numbers found so_far fresh)
      where
        by : (key : Option Key) → ((k : Key) → has_key cmp (option_to_list key) k ≡ true → has_key cmp found k ≡ false) → IsDistinct (eq_by_cmp cmp) (found ++ option_to_list key)
        by None apart = subst (IsDistinct (eq_by_cmp cmp)) (sym (append-nil found)) once
        by (Some key) apart = distinct_more cmp total exact found key once (apart key (ap (λ b. b || false) (is_itself cmp total exact key)))

    -- the keys of all numbers that are due are those whose rows read a mark of the change
    pub all_met : (changed : List Mark) (due : List ℕ) (found : List Key) → ((n : ℕ) → has_row n due ≡ list_any (has_mark (marks_of marks_in (kept_at rows n))) changed)
        → Among due found → IsDistinct (eq_by_cmp cmp) found → AreMet cmp changed (λ k. marks_of marks_in (row_at cmp used rows k)) found
    all_met changed due found due_is among once = record {
      each = λ k. among k ∙ by (number_at cmp used k);
      once = once;
    }
      where
        by : (o : Option ℕ) → is_among due o ≡ meets (marks_of marks_in (row_of rows o)) changed
        by None = refl
        by (Some n) =
            due_is n ∙ meets_back (marks_of marks_in (kept_at rows n)) changed

-- the keys of numbers are those of before, where each row has its old key
pub found_all : {Key Kept : Type 0} (old new : Slab (KeptRow Key Kept)) → ((n : ℕ) → key_in (kept_at new n) ≡ key_in (kept_at old n)) → (numbers others : List ℕ) → numbers ≡ others → keys_of old numbers ≡ keys_of new others
found_all old new same numbers others is = ap (keys_of old) is ∙ sym (alike (λ n. key_in (kept_at new n)) (λ n. key_in (kept_at old n)) same others)

-- ---- numbers that rise

all_at : (P : ℕ → Type 0) (xs : List ℕ) → AllByRecursion P xs → (i : ℕ) → i < length xs → P (get_or xs i 0)
all_at P [] all i lt = absurd (omega arith)
all_at P (x ∷ xs) all zero lt = all.0
all_at P (x ∷ xs) all (suc i) lt = all_at P xs all.1 i (omega arith)

above : (x y : ℕ) → nat_cmp x y ≡ Less → nat_eq y x ≡ false
above x y less = ne_eqb y x (λ e. absurd (cc (less, ap (nat_cmp x) e, tied_itself nat_cmp_total x)))

-- each isn't among those before it
pub fresh_at : (due : List ℕ) → IsStrictlySortedBy nat_cmp due → (i : ℕ) → i < length due → has_row (get_or due i 0) (take i due) ≡ false
unfolding IsStrictlySortedBy
fresh_at [] rise i lt = absurd (omega arith)
fresh_at (x ∷ xs) rise zero lt = refl
fresh_at (x ∷ xs) rise (suc i) lt =
    or_from (nat_eq (get_or xs i 0) x) (has_row (get_or xs i 0) (take i xs)) (above x (get_or xs i 0) (all_at (λ y. nat_cmp x y ≡ Less) xs rise.0 i (omega arith))) (fresh_at xs rise.1 i (omega arith))
