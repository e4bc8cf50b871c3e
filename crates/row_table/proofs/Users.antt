-- Users that are counted, and rows that stand while they are.
use Rattle.std.proofs.Common.{◌≡◌, inl, inr, ℕ, ◌+◌, ◌-◌, Bool, true, false, cond, List, Option, Some, None, Result, Ok, Err, IfOk, OnOk, ltb, refl, sym, ap, subst, ◌∙◌, arith}
use Rattle.std.specs.Prelude.{option_map}
use Rattle.std.specs.Cmp.{IsTotalOrder}
use Rattle.std.specs.FinMap.{IsAntisymmetric, nat_cmp-IsAntisymmetric}
use Rattle.std.specs.Ordering.{eq_by_cmp, nat_cmp}
use Rattle.std.specs.declared.cmp.Ordering.{Ordering}
use Rattle.std.proofs.lemmas.Bool.{ltb-false, ltb-true}
use Rattle.std.proofs.lemmas.Cmp.{nat_cmp_total}
use Rattle.slab.specs.Slab.{Slab}
use Rattle.view_types.specs.Objects.{ObjectMap}
use Rattle.view_types.specs.declared.mark.Mark.{Mark}
use Rattle.row_table.specs.IndexRows.{Filter, KeepNumbers, KeptShows, OneLess, OneMore}
use Rattle.row_table.specs.RowLaws.{own_row}
use Rattle.row_table.specs.KeyNumbers.{PutsAt, number_at, number_in, one_less, one_more, used_at, users_in}
use Rattle.row_table.specs.TableRows.{AllStand, AreTied, StandsAt, kept_at, kept_in, key_in, row_at, row_of}
use Rattle.row_table.specs.declared.key_numbers.KeyNumbers.{KeyNumbers}
use Rattle.row_table.specs.declared.key_numbers.UsedKey.{UsedKey}
use Rattle.row_table.specs.declared.table_rows.KeptRow.{KeptRow}
use Rattle.row_table.specs.declared.watched_marks.WatchedMarks.{WatchedMarks}
use Rattle.row_table.proofs.Keys.{tells}
use Rattle.row_table.proofs.Puts.{none_is_not_some, put_here, put_other, puts, some_is}

pub ok_then : {A E P Q : Type 0} (r : Result A E) → OnOk r P → (P → Q) → OnOk r Q
ok_then (Ok a) p f = f p
ok_then (Err e) p f = tt

pub if_ok_then : {A E : Type 0} {P Q : A → Type 0} (r : Result A E) → IfOk r P → ((a : A) → P a → Q a) → IfOk r Q
if_ok_then (Ok a) p f = f a p
if_ok_then (Err e) p f = tt

pub ok_with : {A E P : Type 0} (r : Result A E) → P → OnOk r P
ok_with (Ok a) p = p
ok_with (Err e) p = tt

pub number_more : (o : Option UsedKey) → number_in (option_map one_more o) ≡ number_in o
number_more None = refl
number_more (Some u) = refl

pub users_one_more : (o : Option UsedKey) (u : UsedKey) → o ≡ Some u → users_in (option_map one_more o) ≡ users_in o + 1
users_one_more None u e = none_is_not_some None u refl e
users_one_more (Some v) u e = refl

pub users_one_less : (o : Option UsedKey) → users_in (one_less o) ≡ users_in o - 1
users_one_less None = refl
users_one_less (Some u) = by (ltb 1 u.users) refl
  where
    by : (b : Bool) → ltb 1 u.users ≡ b → users_in (cond b (Some (record u { users = u.users - 1 })) None) ≡ u.users - 1
    by true e = refl
    by false e = let le = ltb-false 1 u.users e in omega (arith, le)

module _ {Key : Type 0} (cmp : Key → Key → Ordering) (total : IsTotalOrder cmp) (exact : IsAntisymmetric cmp) (key : Key) (at : Option UsedKey) (old new : KeyNumbers Key) (put : PutsAt cmp key at (used_at cmp old) (used_at cmp new)) where
  users_now : (f : ℕ → ℕ) → users_in at ≡ f (users_in (used_at cmp old key)) → (g : Bool → ℕ → ℕ) → ((n : ℕ) → g true n ≡ f n) → ((n : ℕ) → g false n ≡ n) → (k : Key) → users_in (used_at cmp new k) ≡ g (eq_by_cmp cmp k key) (users_in (used_at cmp old k))
  users_now f is g at_key elsewhere k = elim (tells cmp total exact k key) as (λ _. users_in (used_at cmp new k) ≡ g (eq_by_cmp cmp k key) (users_in (used_at cmp old k))) [
    | inl same ↦ ap (λ k. users_in (used_at cmp new k)) same.1 ∙ ap users_in (put_here cmp total exact key at (used_at cmp old) (used_at cmp new) put) ∙ is
        ∙ sym (at_key (users_in (used_at cmp old key))) ∙ (λ i. g (sym same.0 i) (users_in (used_at cmp old (sym same.1 i))))
    | inr apart ↦ ap users_in (put_other cmp total exact key at (used_at cmp old) (used_at cmp new) put k apart.1) ∙ sym (elsewhere (users_in (used_at cmp old k))) ∙ ap (λ b. g b (users_in (used_at cmp old k))) (sym apart.0)
  ]

  pub users_more : users_in at ≡ users_in (used_at cmp old key) + 1 → OneMore cmp key (λ k. users_in (used_at cmp old k)) (λ k. users_in (used_at cmp new k))
  users_more is = users_now (λ n. n + 1) is (λ b n. n + cond b 1 0) (λ n. refl) (λ n. omega arith)

  pub users_less : users_in at ≡ users_in (used_at cmp old key) - 1 → OneLess cmp key (λ k. users_in (used_at cmp old k)) (λ k. users_in (used_at cmp new k))
  users_less is = users_now (λ n. n - 1) is (λ b n. n - cond b 1 0) (λ n. refl) (λ n. omega arith)

  pub numbers_kept : ((n : ℕ) → number_at cmp old key ≡ Some n → number_in at ≡ Some n) → KeepNumbers (number_at cmp old) (number_at cmp new)
  numbers_kept same k n e = elim (tells cmp total exact k key) [
    | inl is ↦ ap (number_at cmp new) is.1 ∙ ap number_in (put_here cmp total exact key at (used_at cmp old) (used_at cmp new) put) ∙ same n (ap (number_at cmp old) (sym is.1) ∙ e)
    | inr apart ↦ ap number_in (put_other cmp total exact key at (used_at cmp old) (used_at cmp new) put k apart.1) ∙ e
  ]

  pub number_elsewhere : (k : Key) → eq_by_cmp cmp k key ≡ false → number_at cmp new k ≡ number_at cmp old k
  number_elsewhere k e = ap number_in (put k ∙ ap (λ b. cond b at (used_at cmp old k)) e)

-- ---- rows that stand

module _ {Key Kept : Type 0} (keeps : ObjectMap → Key → Kept → Type 0) (held : ObjectMap) where
  stands_by : (k : Key) (at before : Option UsedKey) (row row_before : Option (KeptRow Key Kept)) → at ≡ before → row ≡ row_before → StandsAt keeps held k before row_before → StandsAt keeps held k at row
  stands_by k at before row row_before e f stands =
      subst (λ (r : Option (KeptRow Key Kept)). StandsAt keeps held k at r) (sym f) (subst (λ (o : Option UsedKey). StandsAt keeps held k o row_before) (sym e) stands)

  stands_more : (k : Key) (o : Option UsedKey) (row : Option (KeptRow Key Kept)) → StandsAt keeps held k o row → StandsAt keeps held k (option_map one_more o) row
  stands_more k None row stands = stands
  stands_more k (Some u) None stands = absurd stands
  stands_more k (Some u) (Some r) stands = (omega arith, stands.1, stands.2)

  stands_less : (k : Key) (o : Option UsedKey) (row : Option (KeptRow Key Kept)) → number_in (one_less o) ≡ number_in o → StandsAt keeps held k o row → StandsAt keeps held k (one_less o) row
  stands_less k None row same stands = stands
  stands_less k (Some u) None same stands = absurd stands
  stands_less k (Some u) (Some r) same stands = by (ltb 1 u.users) refl same
    where
      by : (b : Bool) → ltb 1 u.users ≡ b → number_in (cond b (Some (record u { users = u.users - 1 })) None) ≡ Some u.number → StandsAt keeps held k (cond b (Some (record u { users = u.users - 1 })) None) (Some r)
      by true e same = let lt = ltb-true 1 u.users e in (omega (arith, lt), stands.1, stands.2)
      by false e same = none_is_not_some None u.number refl same

  -- what is kept of a row that stands shows it
  pub stands_shown : {Row : Type 0} (filter : Filter Key Row) (row_in : Kept → Row) (marks_in : Kept → List Mark) → KeptShows filter keeps row_in marks_in → (k : Key) (o : Option UsedKey) (row : Option (KeptRow Key Kept)) → StandsAt keeps held k o row
      → (kept : Kept) → kept_in row ≡ Some kept → row_in kept ≡ filter.row_of held k
  stands_shown filter row_in marks_in shows k None row stands kept e = none_is_not_some (kept_in row) kept (ap kept_in stands) e
  stands_shown filter row_in marks_in shows k (Some u) None stands kept e = absurd stands
  stands_shown filter row_in marks_in shows k (Some u) (Some r) stands kept e = ap row_in (sym (some_is r.kept kept e)) ∙ (shows held k r.kept stands.2).is_filter

  module _ (cmp : Key → Key → Ordering) (total : IsTotalOrder cmp) (exact : IsAntisymmetric cmp) (key : Key) (used used_after : KeyNumbers Key) where
    -- rows stand where that of the key does
    pub stand_put : (old new : Slab (KeptRow Key Kept)) (at : Option UsedKey) (row : Option (KeptRow Key Kept)) → PutsAt cmp key at (used_at cmp used) (used_at cmp used_after) → PutsAt cmp key row (row_at cmp used old) (row_at cmp used_after new)
        → (StandsAt keeps held key (used_at cmp used key) (row_at cmp used old key) → StandsAt keeps held key at row) → AllStand keeps cmp held used old → AllStand keeps cmp held used_after new
    stand_put old new at row put put_row there all k = elim (tells cmp total exact k key) as (λ _. StandsAt keeps held k (used_at cmp used_after k) (row_at cmp used_after new k)) [
      | inl same ↦ subst (λ (k : Key). StandsAt keeps held k (used_at cmp used_after k) (row_at cmp used_after new k)) (sym same.1)
          (stands_by key (used_at cmp used_after key) at (row_at cmp used_after new key) row (put_here cmp total exact key at (used_at cmp used) (used_at cmp used_after) put)
          (put_here cmp total exact key row (row_at cmp used old) (row_at cmp used_after new) put_row) (there (all key)))
      | inr apart ↦ stands_by k (used_at cmp used_after k) (used_at cmp used k) (row_at cmp used_after new k) (row_at cmp used old k) (put_other cmp total exact key at (used_at cmp used) (used_at cmp used_after) put k apart.1)
          (put_other cmp total exact key row (row_at cmp used old) (row_at cmp used_after new) put_row k apart.1) (all k)
    ]

    -- users are counted, and the numbers stay
    stand_counted : (rows : Slab (KeptRow Key Kept)) (at : Option UsedKey) → PutsAt cmp key at (used_at cmp used) (used_at cmp used_after) → number_in at ≡ number_at cmp used key
        → ((row : Option (KeptRow Key Kept)) → StandsAt keeps held key (used_at cmp used key) row → StandsAt keeps held key at row) → AllStand keeps cmp held used rows → AllStand keeps cmp held used_after rows
    stand_counted rows at put same there =
        stand_put rows rows at (row_at cmp used rows key) put
        (puts cmp total exact key (row_at cmp used rows key) (row_at cmp used rows) (row_at cmp used_after rows) (ap (row_of rows) (ap number_in (put_here cmp total exact key at (used_at cmp used) (used_at cmp used_after) put) ∙ same))
        (λ k ne. ap (λ (o : Option UsedKey). row_of rows (number_in o)) (put_other cmp total exact key at (used_at cmp used) (used_at cmp used_after) put k ne)))
        (there (row_at cmp used rows key))

    pub stand_more : (rows : Slab (KeptRow Key Kept)) → PutsAt cmp key (option_map one_more (used_at cmp used key)) (used_at cmp used) (used_at cmp used_after) → AllStand keeps cmp held used rows → AllStand keeps cmp held used_after rows
    stand_more rows put = stand_counted rows (option_map one_more (used_at cmp used key)) put (number_more (used_at cmp used key)) (stands_more key (used_at cmp used key))

    pub stand_less : (rows : Slab (KeptRow Key Kept)) → PutsAt cmp key (one_less (used_at cmp used key)) (used_at cmp used) (used_at cmp used_after) → number_in (one_less (used_at cmp used key)) ≡ number_at cmp used key
        → AllStand keeps cmp held used rows → AllStand keeps cmp held used_after rows
    stand_less rows put same = stand_counted rows (one_less (used_at cmp used key)) put same (λ row. stands_less key (used_at cmp used key) row same)

    pub stand_same : (rows : Slab (KeptRow Key Kept)) → PutsAt cmp key (used_at cmp used key) (used_at cmp used) (used_at cmp used_after) → AllStand keeps cmp held used rows → AllStand keeps cmp held used_after rows
    stand_same rows put = stand_counted rows (used_at cmp used key) put refl (λ row stands. stands)

    -- a key goes, with the row of its number
    pub stand_gone : (old new : Slab (KeptRow Key Kept)) (n : ℕ) → number_at cmp used key ≡ Some n → PutsAt cmp key None (used_at cmp used) (used_at cmp used_after) → PutsAt nat_cmp n None (kept_at old) (kept_at new)
        → AllStand keeps cmp held used old → AllStand keeps cmp held used_after new
    stand_gone old new n number put put_row all =
        stand_put old new None None put
        (puts cmp total exact key None (row_at cmp used old) (row_at cmp used_after new) (ap (λ (o : Option UsedKey). row_of new (number_in o)) (put_here cmp total exact key None (used_at cmp used) (used_at cmp used_after) put)) other)
        (λ stands. refl) all
      where
        own : (k : Key) (i : ℕ) → number_at cmp used k ≡ Some i → key_in (kept_at old i) ≡ Some k
        own k = own_row keeps held k (used_at cmp used k) old (all k)

        other : (k : Key) → (k ≡ key → ⊥) → row_at cmp used_after new k ≡ row_at cmp used old k
        other k ne = ap (λ (o : Option UsedKey). row_of new (number_in o)) (put_other cmp total exact key None (used_at cmp used) (used_at cmp used_after) put k ne) ∙ by (number_at cmp used k) refl
          where
            by : (o : Option ℕ) → number_at cmp used k ≡ o → row_of new o ≡ row_of old o
            by None e = refl
            by (Some i) e =
                put_other nat_cmp nat_cmp_total nat_cmp-IsAntisymmetric n None (kept_at old) (kept_at new) put_row i
                (λ is. ne (some_is k key (sym (own k i e) ∙ ap (λ i. key_in (kept_at old i)) is ∙ own key n number)))

-- a key for which nothing is kept has no users
pub no_users : {Key Kept : Type 0} (cmp : Key → Key → Ordering) (marks_in : Kept → List Mark) (used : KeyNumbers Key) (rows : Slab (KeptRow Key Kept)) (watched : WatchedMarks) → AreTied cmp marks_in used rows watched
    → (key : Key) → kept_in (row_at cmp used rows key) ≡ None → users_in (used_at cmp used key) ≡ 0
no_users {Key} {Kept} cmp marks_in used rows watched tied key none = by (used_at cmp used key) (tied.rows_of key) none
  where
    row : (row : Option (KeptRow Key Kept)) → key_in row ≡ Some key → kept_in row ≡ None → ⊥
    row None is none = none_is_not_some None key refl is
    row (Some r) is none = none_is_not_some (Some r.kept) r.kept none refl

    by : (o : Option UsedKey) → ((n : ℕ) → number_in o ≡ Some n → key_in (kept_at rows n) ≡ Some key) → kept_in (row_of rows (number_in o)) ≡ None → users_in o ≡ 0
    by None is none = refl
    by (Some u) is none = absurd (row (kept_at rows u.number) (is u.number refl) none)
