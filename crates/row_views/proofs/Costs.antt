-- What is looked up as the rows of ids follow a change, in terms of the rows of queries.
use Rattle.std.proofs.Common.{◌≡◌, ◌≤◌, ◌<◌, ◌+◌, ◌||◌, ◌++◌, ◌⊎◌, inl, inr, ℕ, Bool, true, false, cond, List, [], ◌∷◌, map, Option, Some, None, refl, sym, ap, subst, ◌∙◌, arith}
use Rattle.std.proofs.lemmas.Bool.{false≢true}
use Rattle.std.proofs.lemmas.List.Sums.{sum_by-append, sum_by-cons}
use Rattle.std.specs.BTreeMap.{BTreeMap}
use Rattle.std.specs.Cmp.{IsTotalOrder}
use Rattle.std.specs.FinMap.{IsAntisymmetric}
use Rattle.std.specs.List.{AllByRecursion, Contains, IsDistinct, sum_by}
use Rattle.std.specs.Ordering.{eq_by_cmp}
use Rattle.std.specs.Prelude.{option_map}
use Rattle.std.specs.declared.cmp.Ordering.{Ordering}
use Rattle.view_types.specs.Objects.{ObjectMap}
use Rattle.view_types.specs.declared.config.Config.{Config}
use Rattle.view_types.specs.declared.mark.Mark.{Mark}
use Rattle.view_types.specs.declared.query.Query.{Query}
use Rattle.view_rules.proofs.Among.{Among, all_among}
use Rattle.mark_rules.specs.Marks.{meets}
use Rattle.mark_rules.specs.Reads.{cost, reads}
use Rattle.mark_rules.specs.Rows.{rows}
use Rattle.mark_rules.specs.declared.keys.RowKey.{RowKey}
use Rattle.row_table.specs.IndexRows.{AreMet, Filter, IsCurrent, has_key}
use Rattle.row_table.proofs.Keys.{is_itself, is_same}
use Rattle.row_table.proofs.MarkLists.{meets_same}
use Rattle.row_views.specs.Costs.{AreApart, FollowedRows, IsFollowed, cost_of, open_cost}
use Rattle.row_views.specs.Ids.{AreTied, is_key, is_open, key_at}
use Rattle.row_views.specs.InUse.{IsInUse}
use Rattle.row_views.specs.Queries.{rows_at}
use Rattle.row_views.specs.Standing.{FollowCost}
use Rattle.row_views.specs.declared.numbered_ids.NumberedIds.{NumberedIds}
use Rattle.row_views.proofs.Numbers.{open_one}

pub all_of : {X : Type 0} (P Q : X → Type 0) → ((x : X) → P x → Q x) → (xs : List X) → AllByRecursion P xs → AllByRecursion Q xs
all_of P Q f [] all = tt
all_of P Q f (x ∷ xs) all = (f x all.0, all_of P Q f xs all.1)

pub all_joined : {X : Type 0} (P : X → Type 0) (xs ys : List X) → AllByRecursion P xs → AllByRecursion P ys → AllByRecursion P (xs ++ ys)
all_joined P [] ys these those = those
all_joined P (x ∷ xs) ys these those = (these.0, all_joined P xs ys these.1 those)

-- ---- rows that stand apart

pub none_of : {X Y : Type 0} (f : X → Y) → ((a b : X) → f a ≡ f b → a ≡ b) → (x : X) (xs : List X) → AllByRecursion (λ other. x ≡ other → ⊥) xs → AllByRecursion (λ other. f x ≡ other → ⊥) (map f xs)
none_of f exact x [] apart = tt
none_of f exact x (y ∷ ys) apart = ((λ same. apart.0 (exact x y same)), none_of f exact x ys apart.1)

module _ {Key : Type 0} (cmp : Key → Key → Ordering) (total : IsTotalOrder cmp) (exact : IsAntisymmetric cmp) where
  pub has_among : (keys : List Key) (key : Key) → Among key keys → has_key cmp keys key ≡ true
  has_among [] key at = absurd at
  has_among (k ∷ ks) key at = elim at [
    | inl same ↦ ap (λ b. b || has_key cmp ks key) (ap (eq_by_cmp cmp key) same ∙ is_itself cmp total exact key)
    | inr rest ↦ ap (λ b. eq_by_cmp cmp key k || b) (has_among ks key rest) ∙ or_true (eq_by_cmp cmp key k)
  ]
    where
      or_true : (b : Bool) → (b || true) ≡ true
      or_true true = refl
      or_true false = refl

  pub among_has : (keys : List Key) (key : Key) → has_key cmp keys key ≡ true → Among key keys
  among_has [] key has = absurd (false≢true has)
  among_has (k ∷ ks) key has = by (eq_by_cmp cmp key k) refl (among_has ks key)
    where
      by : (b : Bool) → eq_by_cmp cmp key k ≡ b → (has_key cmp ks key ≡ true → Among key ks) → Among key (k ∷ ks)
      by true is rest = inl (sym (is_same cmp total exact key k is))
      by false is rest = inr (rest (sym (ap (λ b. b || has_key cmp ks key) is) ∙ has))

  -- The keys whose marks share one with a change are used, and read a mark of it.
  module _ {Index Row : Type 0} (users : Index → Key → ℕ) (filter : Filter Key Row) (row_in : Index → Key → Option Row) (marks_in : Index → Key → List Mark) (before after : ObjectMap) (changed : List Mark)
      (index : Index) (current : (key : Key) → IsCurrent filter before key (users index key) (row_in index key) (marks_in index key)) (used : Key → Bool) (one_user : (key : Key) → users index key ≡ cond (used key) 1 0) where
    met_used : (key : Key) → meets (marks_in index key) changed ≡ true → used key ≡ true
    met_used key meet = by (used key) refl
      where
        by : (b : Bool) → used key ≡ b → b ≡ true
        by true is = refl
        by false is =
            let none = (current key).unused (one_user key ∙ ap (λ b. cond b 1 0) is) in
            absurd (false≢true (sym (ap (λ marks. meets marks changed) none.1) ∙ meet))

    is_read : (key : Key) → meets (marks_in index key) changed ≡ true → meets (filter.reads before key) changed ≡ true
    is_read key meet =
        let some : 0 < users index key = subst (λ (n : ℕ). 0 < n) (sym (one_user key ∙ ap (λ b. cond b 1 0) (met_used key meet))) (omega arith) in
        sym (meets_same (marks_in index key) (filter.reads before key) changed ((current key).used some).1) ∙ meet

    pub met_cost : (keys : List Key) → AreMet cmp changed (marks_in index) keys → (old new : ℕ) → new ≤ old + sum_by (λ key. cost after (filter.reads after key)) keys → FollowCost filter cmp used changed before after old new
    met_cost keys met old new most = record {
      keys = keys;
      each = all_among (λ key. (used key ≡ true) × (meets (filter.reads before key) changed ≡ true)) keys (λ key at.
          let meet = sym (met.each key) ∙ has_among keys key at in
          (met_used key meet, is_read key meet));
      once = met.once;
      most = most;
    }

-- what the rows of these keys read, all together
pub total_of : {Key Row : Type 0} (row : Key → RowKey) (filter : Filter Key Row) (config : Config) (held : ObjectMap) → ((key : Key) → reads config held (row key) ≡ filter.reads held key) → (keys : List Key)
    → cost_of config held (map row keys) ≡ sum_by (λ key. cost held (filter.reads held key)) keys
total_of row filter config held reading [] = refl
total_of row filter config held reading (key ∷ keys) =
    sum_by-cons (λ key. cost held (reads config held key)) (row key) (map row keys)
    ∙ (λ i. cost held (reading key i) + total_of row filter config held reading keys i)
    ∙ sym (sum_by-cons (λ key. cost held (filter.reads held key)) key keys)

module _ {Key : Type 0} (cmp : Key → Key → Ordering) (total : IsTotalOrder cmp) (exact : IsAntisymmetric cmp) (row : Key → RowKey) (row_exact : (a b : Key) → row a ≡ row b → a ≡ b) where
  others : (key : Key) (keys : List Key) → AllByRecursion (λ other. eq_by_cmp cmp key other ≡ false) keys → AllByRecursion (λ other. key ≡ other → ⊥) keys
  others key [] apart = tt
  others key (k ∷ ks) apart = ((λ same. false≢true (sym apart.0 ∙ ap (eq_by_cmp cmp key) (sym same) ∙ is_itself cmp total exact key)), others key ks apart.1)

  pub rows_apart : (keys : List Key) → IsDistinct (eq_by_cmp cmp) keys → AreApart (map row keys)
  unfolding IsDistinct
  rows_apart [] once = tt
  rows_apart (key ∷ keys) once = (none_of row row_exact key keys (others key keys once.0), rows_apart keys once.1)

  -- The rows of keys that are used are those of the queries of ids.
  module _ {Row : Type 0} (filter : Filter Key Row) (config : Config) (reading : (held : ObjectMap) (key : Key) → reads config held (row key) ≡ filter.reads held key) (before after : ObjectMap) (changed : List Mark)
      (queries : ℕ → Option Query) (used : Key → Bool) (in_use : (key : Key) → used key ≡ true → IsInUse config before queries (row key)) where
    each_row : (keys : List Key) → AllByRecursion (λ key. (used key ≡ true) × (meets (filter.reads before key) changed ≡ true)) keys → AllByRecursion (IsFollowed config changed before after queries) (map row keys)
    each_row [] all = tt
    each_row (key ∷ keys) all = (inl (in_use key all.0.0, ap (λ marks. meets marks changed) (reading before key) ∙ all.0.1), each_row keys all.1)

    pub followed : (old new : ℕ) → FollowCost filter cmp used changed before after old new → FollowedRows config changed before after queries old new
    followed old new c = record {
      keys = map row c.keys;
      each = each_row c.keys c.each;
      once = rows_apart c.keys c.once;
      most = subst (λ (n : ℕ). new ≤ old + n) (sym (total_of row filter config after (reading after) c.keys)) c.most;
    }

-- ---- ids with one key each

module _ {Key : Type 0} (cmp : Key → Key → Ordering) (total : IsTotalOrder cmp) (exact : IsAntisymmetric cmp) (row : Key → RowKey) (query_for : Key → Query) (config : Config) (held : ObjectMap)
    (own : (key : Key) → Contains (rows config held (query_for key)) (row key)) where
  -- the row of the key of an id is one of those of its query
  pub own_row : (key : Key) (asked : Option Key) → is_key cmp key asked ≡ true → Contains (rows_at config held (option_map query_for asked)) (row key)
  own_row key None is = absurd (false≢true is)
  own_row key (Some k) is = subst (λ (k : Key). Contains (rows config held (query_for k)) (row key)) (is_same cmp total exact key k is) (own key)

  -- the row of a key that has ids is one of those of their query
  pub in_use : (number_at : Key → Option ℕ) (by_number : NumberedIds) (by_id : BTreeMap ℕ Key) → AreTied cmp number_at by_number by_id → (key : Key) → is_open number_at by_number key ≡ true
      → IsInUse config held (λ id. option_map query_for (key_at by_id id)) (row key)
  in_use number_at by_number by_id tied key has =
      let one = open_one by_number (number_at key) has in
      record { id = one.0; of_query = own_row key (key_at by_id one.0) (sym (tied.ids key one.0) ∙ one.1) }

-- what one row reads, at most
pub opened_within : (used : Bool) (config : Config) (held : ObjectMap) (key : RowKey) (query : Option Query) (marks : List Mark) (old new : ℕ) → rows_at config held query ≡ key ∷ [] → reads config held key ≡ marks → new ≤ old + cond used 0 (cost held marks) → new ≤ old + open_cost config held query
opened_within used config held key query marks old new only same most =
    let one : open_cost config held query ≡ cost held marks + 0 = ap (cost_of config held) only ∙ sum_by-cons (λ key. cost held (reads config held key)) key [] ∙ ap (λ (marks : List Mark). cost held marks + 0) same in
    by used most one
  where
    by : (b : Bool) → new ≤ old + cond b 0 (cost held marks) → open_cost config held query ≡ cost held marks + 0 → new ≤ old + open_cost config held query
    by true less one = omega (arith, less)
    by false less one = omega (arith, less, one)

-- ---- rows that are followed in two parts

module _ (P Q : RowKey → Type 0) (disjoint : (key : RowKey) → P key → Q key → ⊥) where
  pub apart_joined : (keys others : List RowKey) → AreApart keys → AreApart others → AllByRecursion P keys → AllByRecursion Q others → AreApart (keys ++ others)
  apart_joined [] others first second these those = second
  apart_joined (key ∷ keys) others first second these those =
      (all_joined (λ other. key ≡ other → ⊥) keys others first.0 (all_of Q (λ other. key ≡ other → ⊥) (λ other is same. disjoint key these.0 (subst Q (sym same) is)) others those), apart_joined keys others first.1 second these.1 those)

-- Each row of the whole is one of the first part or of the second, and each of these is one of the whole.
module _ (config : Config) (whole first second : ℕ → Option Query) (part : RowKey → Bool)
    (is_first : (held : ObjectMap) (id : ℕ) (key : RowKey) → Contains (rows_at config held (first id)) key → (part key ≡ true) × Contains (rows_at config held (whole id)) key)
    (is_second : (held : ObjectMap) (id : ℕ) (key : RowKey) → Contains (rows_at config held (second id)) key → (part key ≡ false) × Contains (rows_at config held (whole id)) key)
    (of_whole : (held : ObjectMap) (id : ℕ) (key : RowKey) → Contains (rows_at config held (whole id)) key → Contains (rows_at config held (first id)) key ⊎ Contains (rows_at config held (second id)) key)
    (changed : List Mark) (before after : ObjectMap) where
  first_in : (held : ObjectMap) (key : RowKey) → IsInUse config held first key → (part key ≡ true) × IsInUse config held whole key
  first_in held key used = let is = is_first held used.id key used.of_query in (is.0, record { id = used.id; of_query = is.1 })

  second_in : (held : ObjectMap) (key : RowKey) → IsInUse config held second key → (part key ≡ false) × IsInUse config held whole key
  second_in held key used = let is = is_second held used.id key used.of_query in (is.0, record { id = used.id; of_query = is.1 })

  in_first : (held : ObjectMap) (key : RowKey) → part key ≡ true → IsInUse config held whole key → IsInUse config held first key
  in_first held key is used = elim (of_whole held used.id key used.of_query) [
    | inl of ↦ record { id = used.id; of_query = of }
    | inr of ↦ absurd (false≢true (sym (is_second held used.id key of).0 ∙ is))
  ]

  in_second : (held : ObjectMap) (key : RowKey) → part key ≡ false → IsInUse config held whole key → IsInUse config held second key
  in_second held key is used = elim (of_whole held used.id key used.of_query) [
    | inl of ↦ absurd (false≢true (sym is ∙ (is_first held used.id key of).0))
    | inr of ↦ record { id = used.id; of_query = of }
  ]

  abbrev Follows : (ℕ → Option Query) → RowKey → Type 0
  Follows = IsFollowed config changed before after

  by_first : (key : RowKey) → Follows first key → (part key ≡ true) × Follows whole key
  by_first key follows = elim follows [
    | inl read ↦ let used = first_in before key read.0 in (used.0, inl (used.1, read.1))
    | inr comes ↦ let used = first_in after key comes.1 in (used.0, inr ((λ was. comes.0 (in_first before key used.0 was)), used.1))
  ]

  by_second : (key : RowKey) → Follows second key → (part key ≡ false) × Follows whole key
  by_second key follows = elim follows [
    | inl read ↦ let used = second_in before key read.0 in (used.0, inl (used.1, read.1))
    | inr comes ↦ let used = second_in after key comes.1 in (used.0, inr ((λ was. comes.0 (in_second before key used.0 was)), used.1))
  ]

  pub joined_rows : (old mid new : ℕ) → FollowedRows config changed before after first old mid → FollowedRows config changed before after second mid new → FollowedRows config changed before after whole old new
  joined_rows old mid new these those = record {
    keys = these.keys ++ those.keys;
    each = all_joined (Follows whole) these.keys those.keys (all_of (Follows first) (Follows whole) (λ key f. (by_first key f).1) these.keys these.each) (all_of (Follows second) (Follows whole) (λ key f. (by_second key f).1) those.keys those.each);
    once = apart_joined (λ key. part key ≡ true) (λ key. part key ≡ false) (λ key is out. false≢true (sym out ∙ is)) these.keys those.keys these.once those.once (all_of (Follows first) (λ key. part key ≡ true) (λ key f. (by_first key f).0) these.keys these.each)
        (all_of (Follows second) (λ key. part key ≡ false) (λ key f. (by_second key f).0) those.keys those.each);
    most =
        let first_most = these.most in
        let second_most = those.most in
        let both = sum_by-append (λ key. cost after (reads config after key)) these.keys those.keys in
        omega (arith, first_most, second_most, both);
  }
