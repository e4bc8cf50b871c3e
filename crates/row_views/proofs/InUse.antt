-- The rows that have users, in terms of the ids that are open with their keys.
use Rattle.std.proofs.Common.{◌≡◌, ◌<◌, inl, inr, ℕ, Bool, true, false, cond, List, [], ◌∷◌, Option, Some, None, refl, sym, ap, subst, ◌∙◌, arith}
use Rattle.std.proofs.Math.Logic.{∥∥₁_elim, ∥∥₁_prop}
use Rattle.std.specs.BTreeMap.{BTreeMap}
use Rattle.std.specs.Cmp.{IsTotalOrder}
use Rattle.std.specs.FinMap.{IsAntisymmetric}
use Rattle.std.specs.List.{Contains, filter_map}
use Rattle.std.specs.Prelude.{option_map}
use Rattle.std.specs.declared.cmp.Ordering.{Ordering}
use Rattle.view_types.specs.Objects.{ObjectMap}
use Rattle.view_types.specs.declared.config.Config.{Config}
use Rattle.view_types.specs.declared.query.Query.{Query}
use Rattle.view_rules.proofs.Among.{Among, among_found, among_from, contained, from_found}
use Rattle.mark_rules.specs.Rows.{rows}
use Rattle.mark_rules.specs.declared.keys.RowKey.{RowKey}
use Rattle.row_table.specs.IndexRows.{has_key}
use Rattle.row_views.specs.Ids.{is_open, key_at}
use Rattle.row_views.specs.InUse.{AreInUse, IsInUse, users_if}
use Rattle.row_views.specs.Queries.{rows_at}
use Rattle.row_views.specs.Standing.{Standing}
use Rattle.row_views.specs.declared.numbered_ids.NumberedIds.{NumberedIds}
use Rattle.row_views.proofs.Costs.{among_has, has_among, in_use}
use Rattle.row_views.proofs.Numbers.{open_there}

-- of views that stand for something, of which it isn't said how they do
pub in_use_of : {A : Type 0} {config : Config} {held : ObjectMap} {queries : ℕ → Option Query} {users : RowKey → ℕ} → ∥ A ∥₁ → (A → AreInUse config held queries users) → AreInUse config held queries users
in_use_of stands are = record {
  used = λ key some. ∥∥₁_elim stands ∥∥₁_prop (λ a. (are a).used key some);
  unused = λ key none of. ∥∥₁_elim stands (λ x y. absurd x) (λ a. (are a).unused key none of);
}

-- what has a user is used, where each that is used has one
pub is_used : (users : ℕ) (used : Bool) → users ≡ cond used 1 0 → 0 < users → used ≡ true
is_used users true is some = refl
is_used users false is some = absurd (omega (arith, is, some))

-- ---- lists of rows

pub none_there : {X : Type 0} {x : X} → Contains [] x → ⊥
none_there {x} of = among_from [] x of

pub only_there : {X : Type 0} {x y : X} → Contains (x ∷ []) y → x ≡ y
only_there {x} {y} of = elim (among_from (x ∷ []) y of) [
  | inl same ↦ same
  | inr none ↦ absurd none
]

-- the keys of the rows of one kind
module _ {Key : Type 0} (cmp : Key → Key → Ordering) (total : IsTotalOrder cmp) (exact : IsAntisymmetric cmp) (key_of : RowKey → Option Key) (row : Key → RowKey) where
  pub row_there : ((of : RowKey) (key : Key) → key_of of ≡ Some key → row key ≡ of) → (rows : List RowKey) (key : Key) → has_key cmp (filter_map key_of rows) key ≡ true → Contains rows (row key)
  row_there own rows key has =
      let found = from_found key_of rows key (among_has cmp total exact (filter_map key_of rows) key has) in
      contained rows (row key) (subst (λ (of : RowKey). Among of rows) (sym (own found.0 key found.2)) found.1)

  pub key_there : ((key : Key) → key_of (row key) ≡ Some key) → (rows : List RowKey) (key : Key) → Contains rows (row key) → has_key cmp (filter_map key_of rows) key ≡ true
  key_there back rows key of = has_among cmp total exact (filter_map key_of rows) key (among_found key_of rows (row key) key (among_from rows (row key) of) (back key))

-- ---- ids with one key each

module _ {Index Key : Type 0} (cmp : Key → Key → Ordering) (total : IsTotalOrder cmp) (exact : IsAntisymmetric cmp) (users : Index → Key → ℕ) (number_at : Index → Key → Option ℕ) (stand : Index → ObjectMap → Type 0) (row : Key → RowKey) (query_for : Key → Query) (config : Config) (held : ObjectMap)
    (index : Index) (by_number : NumberedIds) (by_id : BTreeMap ℕ Key) (st : Standing cmp users number_at stand held index by_number by_id) where
  abbrev asked_by : ℕ → Option Query
  asked_by id = option_map query_for (key_at by_id id)

  has_user : (id : ℕ) (key : Key) → key_at by_id id ≡ Some key → users index key ≡ 1
  has_user id key is = st.one_user key ∙ ap (λ b. cond b 1 0) (open_there cmp total exact (number_at index) by_number by_id st.tied id key is)

  -- a row with users is of the query of an id
  pub used_row : ((key : Key) → Contains (rows config held (query_for key)) (row key)) → (key : Key) → 0 < users index key → IsInUse config held asked_by (row key)
  used_row own key some = in_use cmp total exact row query_for config held own (number_at index) by_number by_id st.tied key (is_used (users index key) (is_open (number_at index) by_number key) (st.one_user key) some)

  -- and one without is of none
  pub unused_row : ((asked key : Key) → Contains (rows config held (query_for asked)) (row key) → asked ≡ key) → (key : Key) → users index key ≡ 0 → IsInUse config held asked_by (row key) → ⊥
  unused_row own key none used = by (key_at by_id used.id) refl used.of_query
    where
      by : (asked : Option Key) → key_at by_id used.id ≡ asked → Contains (rows_at config held (option_map query_for asked)) (row key) → ⊥
      by None is of = none_there of
      by (Some asked) is of =
          let one : users index key ≡ 1 = sym (ap (users index) (own asked key of)) ∙ has_user used.id asked is in
          omega (arith, none, one)

  -- each query has the row of its key alone
  module _ (key_of : RowKey → Option Key) (own : (of : RowKey) (key : Key) → key_of of ≡ Some key → row key ≡ of) (back : (key : Key) → key_of (row key) ≡ Some key) (only : (key : Key) → rows config held (query_for key) ≡ row key ∷ []) where
    used_if : (of : RowKey) (key : Option Key) → key_of of ≡ key → 0 < users_if (users index) key → ∥ IsInUse config held asked_by of ∥₁
    used_if of None is some = absurd (omega (arith, some))
    used_if of (Some key) is some =
        ∣ subst (IsInUse config held asked_by) (own of key is) (used_row (λ k. subst (λ (keys : List RowKey). Contains keys (row k)) (sym (only k)) (0, omega arith, refl)) key some) ∣₁

    unused_if : (of : RowKey) → users_if (users index) (key_of of) ≡ 0 → IsInUse config held asked_by of → ⊥
    unused_if of none used = by (key_at by_id used.id) refl used.of_query
      where
        by : (asked : Option Key) → key_at by_id used.id ≡ asked → Contains (rows_at config held (option_map query_for asked)) of → ⊥
        by None is there = none_there there
        by (Some key) is there =
            let same : row key ≡ of = only_there (subst (λ (keys : List RowKey). Contains keys of) (only key) there) in
            let one : users_if (users index) (key_of of) ≡ 1 = ap (users_if (users index)) (sym (ap key_of same) ∙ back key) ∙ has_user used.id key is in
            omega (arith, none, one)

    pub asked_in_use : AreInUse config held asked_by (λ key. users_if (users index) (key_of key))
    asked_in_use = record { used = λ of some. used_if of (key_of of) refl some; unused = unused_if }
