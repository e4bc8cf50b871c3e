-- The parts of a table stay tied when a row is put, changed or removed.
use Rattle.std.proofs.Common.{◌≡◌, inl, inr, ℕ, ◌&&◌, not, false, List, [], Option, Some, None, refl, sym, ap, subst, ◌∙◌}
use Rattle.std.specs.Cmp.{IsTotalOrder}
use Rattle.std.specs.FinMap.{IsAntisymmetric, nat_cmp-IsAntisymmetric}
use Rattle.std.specs.Ordering.{nat_cmp}
use Rattle.std.specs.declared.cmp.Ordering.{Ordering}
use Rattle.std.proofs.lemmas.Bool.Decides.{eqb_tells}
use Rattle.std.proofs.lemmas.Cmp.{nat_cmp_total}
use Rattle.slab.specs.Slab.{Slab}
use Rattle.view_types.specs.declared.mark.Mark.{Mark}
use Rattle.mark_rules.specs.Marks.{has_mark}
use Rattle.row_table.specs.AtMarks.{Rewatches, Watches, at_mark, is_new}
use Rattle.row_table.specs.KeyNumbers.{PutsAt, number_at, number_in, used_at}
use Rattle.row_table.specs.TableRows.{AreTied, WatchTheirs, kept_at, key_in, marks_of, row_at, row_of}
use Rattle.row_table.specs.declared.key_numbers.KeyNumbers.{KeyNumbers}
use Rattle.row_table.specs.declared.key_numbers.UsedKey.{UsedKey}
use Rattle.row_table.specs.declared.table_rows.KeptRow.{KeptRow}
use Rattle.row_table.specs.declared.watched_marks.WatchedMarks.{WatchedMarks}
use Rattle.row_table.proofs.Keys.{tells}
use Rattle.row_table.proofs.Puts.{none_is_not_some, put_here, put_other, put_same, puts, some_is}
use Rattle.row_table.proofs.Watched.{and_false}

-- a row that is put at its number
module _ {X : Type 0} (n : ℕ) (x : X) (old new : ℕ → X) (put : PutsAt nat_cmp n x old new) where
  at_number : new n ≡ x
  at_number = put_here nat_cmp nat_cmp_total nat_cmp-IsAntisymmetric n x old new put

  at_other : (i : ℕ) → (i ≡ n → ⊥) → new i ≡ old i
  at_other = put_other nat_cmp nat_cmp_total nat_cmp-IsAntisymmetric n x old new put

  as_before : {Y : Type 0} (f : X → Y) → f x ≡ f (old n) → (i : ℕ) → f (new i) ≡ f (old i)
  as_before = put_same nat_cmp nat_cmp_total nat_cmp-IsAntisymmetric n x old new put

module _ {Key Kept : Type 0} (cmp : Key → Key → Ordering) (total : IsTotalOrder cmp) (exact : IsAntisymmetric cmp) (marks_in : Kept → List Mark) where
  -- ---- nothing

  pub tied_empty : (used : KeyNumbers Key) (rows : Slab (KeptRow Key Kept)) (watched : WatchedMarks) → ((k : Key) → used_at cmp used k ≡ None) → ((n : ℕ) → kept_at rows n ≡ None)
      → ((n : ℕ) (mark : Mark) → at_mark watched.at_marks mark n ≡ false) → AreTied cmp marks_in used rows watched
  tied_empty used rows watched no_keys no_rows idle = record {
    rows_of = λ key n e. none_is_not_some (number_at cmp used key) n (ap number_in (no_keys key)) e;
    numbers = λ n key e. none_is_not_some (key_in (kept_at rows n)) key (ap key_in (no_rows n)) e;
    watch = λ n mark. idle n mark ∙ sym (ap (λ row. not (is_new watched n) && has_mark (marks_of marks_in row) mark) (no_rows n) ∙ and_false (not (is_new watched n)));
  }

  -- ---- other counts of users

  pub tied_counted : (old new : KeyNumbers Key) (rows : Slab (KeptRow Key Kept)) (watched : WatchedMarks) → AreTied cmp marks_in old rows watched
      → ((k : Key) → number_at cmp new k ≡ number_at cmp old k) → AreTied cmp marks_in new rows watched
  tied_counted old new rows watched tied same = record {
    rows_of = λ key n e. tied.rows_of key n (sym (same key) ∙ e);
    numbers = λ n key e. same key ∙ tied.numbers n key e;
    watch = tied.watch;
  }

  -- ---- a row that is put at its number, which then watches the marks of the row

  watch_put : (old new : Slab (KeptRow Key Kept)) (watched after : WatchedMarks) (n : ℕ) (row : Option (KeptRow Key Kept)) → WatchTheirs marks_in old watched → PutsAt nat_cmp n row (kept_at old) (kept_at new)
      → Rewatches (marks_of marks_in (kept_at old n)) (marks_of marks_in row) n watched after → WatchTheirs marks_in new after
  watch_put old new watched after n row before put rewatch i = elim (eqb_tells i n) as (λ _. Watches after i (marks_of marks_in (kept_at new i))) [
    | inl is ↦ subst (λ (j : ℕ). Watches after j (marks_of marks_in (kept_at new j))) (sym is.1)
        (subst (λ (r : Option (KeptRow Key Kept)). Watches after n (marks_of marks_in r)) (sym (at_number n row (kept_at old) (kept_at new) put)) (rewatch (before n)).own)
    | inr apart ↦ subst (λ (r : Option (KeptRow Key Kept)). Watches after i (marks_of marks_in r)) (sym (at_other n row (kept_at old) (kept_at new) put i apart.1))
        ((rewatch (before n)).others i apart.0 (marks_of marks_in (kept_at old i)) (before i))
  ]

  -- ---- what is kept of one row, brought up to a change

  module _ (used : KeyNumbers Key) (old new : Slab (KeptRow Key Kept)) (watched after : WatchedMarks) (n : ℕ) (row row_after : KeptRow Key Kept) (tied : AreTied cmp marks_in used old watched)
      (there : kept_at old n ≡ Some row) (same_key : row_after.key ≡ row.key) (put : PutsAt nat_cmp n (Some row_after) (kept_at old) (kept_at new)) where
    pub keys_stay : (i : ℕ) → key_in (kept_at new i) ≡ key_in (kept_at old i)
    keys_stay = as_before n (Some row_after) (kept_at old) (kept_at new) put key_in (ap Some same_key ∙ ap key_in (sym there))

    others : (i : ℕ) → (i ≡ n → ⊥) → kept_at new i ≡ kept_at old i
    others = at_other n (Some row_after) (kept_at old) (kept_at new) put

    pub tied_followed : Rewatches (marks_in row.kept) (marks_in row_after.kept) n watched after → AreTied cmp marks_in used new after
    tied_followed rewatch = record {
      rows_of = λ key i e. keys_stay i ∙ tied.rows_of key i e;
      numbers = λ i key e. tied.numbers i key (sym (keys_stay i) ∙ e);
      watch = watch_put old new watched after n (Some row_after) tied.watch put
          (subst (λ (r : Option (KeptRow Key Kept)). Rewatches (marks_of marks_in r) (marks_in row_after.kept) n watched after) (sym there) rewatch);
    }

    number : number_at cmp used row.key ≡ Some n
    number = tied.numbers n row.key (ap key_in there)

    pub row_there : row_at cmp used old row.key ≡ Some row
    row_there = ap (row_of old) number ∙ there

    -- the row of this key is another, and those of all others stay
    pub row_put : PutsAt cmp row.key (Some row_after) (row_at cmp used old) (row_at cmp used new)
    row_put = puts cmp total exact row.key (Some row_after) (row_at cmp used old) (row_at cmp used new)
        (ap (row_of new) number ∙ at_number n (Some row_after) (kept_at old) (kept_at new) put) other
      where
        other : (k : Key) → (k ≡ row.key → ⊥) → row_at cmp used new k ≡ row_at cmp used old k
        other k ne = by (number_at cmp used k) refl
          where
            by : (o : Option ℕ) → number_at cmp used k ≡ o → row_of new o ≡ row_of old o
            by None e = refl
            by (Some i) e = others i (λ is. ne (some_is k row.key (sym (tied.rows_of k i e) ∙ ap (λ i. key_in (kept_at old i)) is ∙ ap key_in there)))

  -- ---- one row more, or one less

  module _ (used used_after : KeyNumbers Key) (old new : Slab (KeptRow Key Kept)) (watched after : WatchedMarks) (key : Key) (tied : AreTied cmp marks_in used old watched) where
    module _ (n : ℕ) (free : kept_at old n ≡ None) (u : UsedKey) (r : KeptRow Key Kept) (its_number : u.number ≡ n) (its_key : r.key ≡ key) (none : used_at cmp used key ≡ None)
        (put : PutsAt cmp key (Some u) (used_at cmp used) (used_at cmp used_after)) (put_row : PutsAt nat_cmp n (Some r) (kept_at old) (kept_at new)) where
      number_here : number_at cmp used_after key ≡ Some n
      number_here = ap number_in (put_here cmp total exact key (Some u) (used_at cmp used) (used_at cmp used_after) put) ∙ ap Some its_number

      number_other : (k : Key) → (k ≡ key → ⊥) → number_at cmp used_after k ≡ number_at cmp used k
      number_other k ne = ap number_in (put_other cmp total exact key (Some u) (used_at cmp used) (used_at cmp used_after) put k ne)

      row_here : kept_at new n ≡ Some r
      row_here = at_number n (Some r) (kept_at old) (kept_at new) put_row

      row_other : (i : ℕ) → (i ≡ n → ⊥) → kept_at new i ≡ kept_at old i
      row_other = at_other n (Some r) (kept_at old) (kept_at new) put_row

      not_fresh : (k : Key) (i : ℕ) → number_at cmp used k ≡ Some i → i ≡ n → ⊥
      not_fresh k i e is = none_is_not_some (key_in (kept_at old n)) k (ap key_in free) (ap (λ i. key_in (kept_at old i)) (sym is) ∙ tied.rows_of k i e)

      not_key : (i : ℕ) (k : Key) → key_in (kept_at old i) ≡ Some k → k ≡ key → ⊥
      not_key i k e is = none_is_not_some (number_at cmp used key) i (ap number_in none) (ap (number_at cmp used) (sym is) ∙ tied.numbers i k e)

      rows_now : (k : Key) (i : ℕ) → number_at cmp used_after k ≡ Some i → key_in (kept_at new i) ≡ Some k
      rows_now k i e = elim (tells cmp total exact k key) [
        | inl same ↦
            let i_is : n ≡ i = some_is n i (sym number_here ∙ ap (number_at cmp used_after) (sym same.1) ∙ e) in
            ap (λ i. key_in (kept_at new i)) (sym i_is) ∙ ap key_in row_here ∙ ap Some (its_key ∙ sym same.1)
        | inr apart ↦
            let before : number_at cmp used k ≡ Some i = sym (number_other k apart.1) ∙ e in
            ap key_in (row_other i (not_fresh k i before)) ∙ tied.rows_of k i before
      ]

      numbers_now : (i : ℕ) (k : Key) → key_in (kept_at new i) ≡ Some k → number_at cmp used_after k ≡ Some i
      numbers_now i k e = elim (eqb_tells i n) [
        | inl is ↦
            let k_is : key ≡ k = some_is key k (sym (ap Some its_key) ∙ sym (ap key_in row_here) ∙ ap (λ i. key_in (kept_at new i)) (sym is.1) ∙ e) in
            ap (number_at cmp used_after) (sym k_is) ∙ number_here ∙ ap Some (sym is.1)
        | inr ne ↦
            let before : key_in (kept_at old i) ≡ Some k = ap key_in (sym (row_other i ne.1)) ∙ e in
            number_other k (not_key i k before) ∙ tied.numbers i k before
      ]

      pub tied_more : Rewatches [] (marks_in r.kept) n watched after → AreTied cmp marks_in used_after new after
      tied_more rewatch = record {
        rows_of = rows_now;
        numbers = numbers_now;
        watch = watch_put old new watched after n (Some r) tied.watch put_row
            (subst (λ (row : Option (KeptRow Key Kept)). Rewatches (marks_of marks_in row) (marks_in r.kept) n watched after) (sym free) rewatch);
      }

      pub row_more : PutsAt cmp key (Some r) (row_at cmp used old) (row_at cmp used_after new)
      row_more = puts cmp total exact key (Some r) (row_at cmp used old) (row_at cmp used_after new) (ap (row_of new) number_here ∙ row_here) other
        where
          other : (k : Key) → (k ≡ key → ⊥) → row_at cmp used_after new k ≡ row_at cmp used old k
          other k ne = ap (row_of new) (number_other k ne) ∙ by (number_at cmp used k) refl
            where
              by : (o : Option ℕ) → number_at cmp used k ≡ o → row_of new o ≡ row_of old o
              by None e = refl
              by (Some i) e = row_other i (not_fresh k i e)

    module _ (n : ℕ) (number : number_at cmp used key ≡ Some n) (put : PutsAt cmp key None (used_at cmp used) (used_at cmp used_after)) (put_row : PutsAt nat_cmp n None (kept_at old) (kept_at new)) where
      gone_key : number_at cmp used_after key ≡ None
      gone_key = ap number_in (put_here cmp total exact key None (used_at cmp used) (used_at cmp used_after) put)

      left_key : (k : Key) → (k ≡ key → ⊥) → number_at cmp used_after k ≡ number_at cmp used k
      left_key k ne = ap number_in (put_other cmp total exact key None (used_at cmp used) (used_at cmp used_after) put k ne)

      gone_row : kept_at new n ≡ None
      gone_row = at_number n None (kept_at old) (kept_at new) put_row

      left_row : (i : ℕ) → (i ≡ n → ⊥) → kept_at new i ≡ kept_at old i
      left_row = at_other n None (kept_at old) (kept_at new) put_row

      rows_left : (k : Key) (i : ℕ) → number_at cmp used_after k ≡ Some i → key_in (kept_at new i) ≡ Some k
      rows_left k i e =
          let ne : (k ≡ key → ⊥) = λ is. none_is_not_some (number_at cmp used_after key) i gone_key (ap (number_at cmp used_after) (sym is) ∙ e) in
          let before : number_at cmp used k ≡ Some i = sym (left_key k ne) ∙ e in
          ap key_in (left_row i (λ is. ne (some_is k key (sym (tied.rows_of k i before) ∙ ap (λ i. key_in (kept_at old i)) is ∙ tied.rows_of key n number)))) ∙ tied.rows_of k i before

      numbers_left : (i : ℕ) (k : Key) → key_in (kept_at new i) ≡ Some k → number_at cmp used_after k ≡ Some i
      numbers_left i k e = elim (eqb_tells i n) [
        | inl is ↦ none_is_not_some (key_in (kept_at new n)) k (ap key_in gone_row) (ap (λ i. key_in (kept_at new i)) (sym is.1) ∙ e)
        | inr ne ↦
            let before : key_in (kept_at old i) ≡ Some k = ap key_in (sym (left_row i ne.1)) ∙ e in
            let at : number_at cmp used k ≡ Some i = tied.numbers i k before in
            left_key k (λ is. ne.1 (some_is i n (sym at ∙ ap (number_at cmp used) is ∙ number))) ∙ at
      ]

      pub tied_less : Rewatches (marks_of marks_in (kept_at old n)) [] n watched after → AreTied cmp marks_in used_after new after
      tied_less rewatch = record {
        rows_of = rows_left;
        numbers = numbers_left;
        watch = watch_put old new watched after n None tied.watch put_row rewatch;
      }
