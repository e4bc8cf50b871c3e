-- Rows that watch marks, and rows that are new.
use Rattle.std.proofs.Common.{◌≡◌, ℕ, Bool, true, false, ◌&&◌, ◌||◌, not, if◌then◌else◌, nat_eq, List, [], refl, sym, ap, ◌∙◌}
use Rattle.std.specs.Cmp.{unsigned_tied}
use Rattle.std.specs.BTreeSet.{BTreeSet, contains}
use Rattle.std.specs.Ordering.{eq_by_cmp, is_eq, nat_cmp}
use Rattle.std.proofs.lemmas.Bool.{eq-eqb, ne_eqb}
use Rattle.view_types.specs.declared.mark.Mark.{Mark}
use Rattle.mark_graph.specs.Moves.{has_after}
use Rattle.mark_rules.specs.Marks.{has_mark, mark_cmp}
use Rattle.row_table.specs.AtMarks.{MovesAt, MovesFor, RemovesAt, IsRewatched, Rewatches, Watches, at_mark, is_new}
use Rattle.row_table.specs.MarksAfter.{MarksFollow}
use Rattle.row_table.specs.declared.row_rule.MarksAfter.{MarksAfter}
use Rattle.row_table.specs.declared.row_rule.MarksAfter.TheVariants.{Same, Moved, Other}
use Rattle.row_table.specs.declared.rows_at_marks.RowsAtMarks.{RowsAtMarks}
use Rattle.row_table.specs.declared.watched_marks.WatchedMarks.{WatchedMarks}

-- ---- tests of numbers

itself : (n : ℕ) → nat_eq n n ≡ true
itself n = eq-eqb n n refl

same_number : (n : ℕ) → eq_by_cmp nat_cmp n n ≡ true
same_number n = unsigned_tied n n ∙ itself n

other_number : (n i : ℕ) → nat_eq i n ≡ false → eq_by_cmp nat_cmp n i ≡ false
other_number n i apart = unsigned_tied n i ∙ ne_eqb n i (λ e. absurd (let no : true ≡ false = sym (eq-eqb i n (sym e)) ∙ apart in cc no))

pub and_false : (b : Bool) → (b && false) ≡ false
and_false true = refl
and_false false = refl

-- ---- rows that are where they were

-- a row is new, or isn't, as before, and is at the marks of before
watches_as : (old new : WatchedMarks) (n : ℕ) (marks : List Mark) → ((mark : Mark) → at_mark new.at_marks mark n ≡ at_mark old.at_marks mark n) → is_new new n ≡ is_new old n → Watches old n marks → Watches new n marks
watches_as old new n marks same as_before watch mark = same mark ∙ watch mark ∙ ap (λ b. not b && has_mark marks mark) (sym as_before)

pub stays : (marks : List Mark) (n : ℕ) (watched : WatchedMarks) → Rewatches marks marks n watched watched
stays marks n watched watch = record { own = watch; others = λ i apart others watch. watch }

-- ---- rows that are new

module _ (old : WatchedMarks) (n : ℕ) where
  -- a new row is at no mark, whatever it watches
  pub new_stays : (before marks : List Mark) → is_new old n ≡ true → Rewatches before marks n old old
  new_stays before marks new watch = record {
    own = λ mark. watch mark ∙ ap (λ b. not b && has_mark before mark) new ∙ sym (ap (λ b. not b && has_mark marks mark) new);
    others = λ i apart others watch. watch;
  }

  module _ (rows : BTreeSet ℕ) where
    abbrev after : WatchedMarks
    after = record old { new_rows = rows }

    -- a row is added
    pub added : (marks : List Mark) → ((i : ℕ) → contains nat_cmp rows i ≡ (eq_by_cmp nat_cmp n i || is_new old i)) → Rewatches [] marks n old after
    added marks put watch = record {
      own = λ mark. watch mark ∙ and_false (not (is_new old n)) ∙ sym (ap (λ b. not b && has_mark marks mark) (put n ∙ ap (λ b. b || is_new old n) (same_number n)));
      others = λ i apart others watch. watches_as old after i others (λ mark. refl) (put i ∙ ap (λ b. b || is_new old i) (other_number n i apart)) watch;
    }

    -- a new row is removed
    pub new_removed : (marks : List Mark) → is_new old n ≡ true → ((i : ℕ) → contains nat_cmp rows i ≡ (not (eq_by_cmp nat_cmp n i) && is_new old i)) → Rewatches marks [] n old after
    new_removed marks new taken watch = record {
      own = λ mark. watch mark ∙ ap (λ b. not b && has_mark marks mark) new ∙ sym (and_false (not (is_new after n)));
      others = λ i apart others watch. watches_as old after i others (λ mark. refl) (taken i ∙ ap (λ b. not b && is_new old i) (other_number n i apart)) watch;
    }

-- ---- a row that isn't new

module _ (old : WatchedMarks) (rows : RowsAtMarks) (n : ℕ) (settled : is_new old n ≡ false) where
  abbrev moved : WatchedMarks
  moved = record old { at_marks = rows }

  -- it is at its marks
  own_at : (marks : List Mark) → Watches old n marks → (mark : Mark) → at_mark old.at_marks mark n ≡ has_mark marks mark
  own_at marks watch mark = watch mark ∙ ap (λ b. not b && has_mark marks mark) settled

  own_now : (marks : List Mark) → ((mark : Mark) → at_mark rows mark n ≡ has_mark marks mark) → Watches moved n marks
  own_now marks is mark = is mark ∙ sym (ap (λ b. not b && has_mark marks mark) settled)

  -- a row is removed from its marks
  pub removed : (marks : List Mark) → RemovesAt (has_mark marks) n old.at_marks rows → Rewatches marks [] n old moved
  removed marks removes watch = record {
    own = own_now [] (λ mark. removes mark n ∙ (λ i. not (has_mark marks mark && itself n i) && own_at marks watch mark i) ∙ gone (has_mark marks mark));
    others = λ i apart others watch. watches_as old moved i others (λ mark. removes mark i ∙ ap (λ b. not (has_mark marks mark && b) && at_mark old.at_marks mark i) apart ∙ left (has_mark marks mark) (at_mark old.at_marks mark i)) refl watch;
  }
    where
      gone : (b : Bool) → (not (b && true) && b) ≡ false
      gone true = refl
      gone false = refl

      left : (b there : Bool) → (not (b && false) && there) ≡ there
      left true there = refl
      left false there = refl

  -- a row moves to its marks
  moves_to : (marks : List Mark) (set : Mark → Bool) → MovesAt set n old.at_marks rows → ((mark : Mark) → set mark ≡ has_mark marks mark) → IsRewatched marks n old moved
  moves_to marks set move is = record {
    own = own_now marks (λ mark. move mark n ∙ ap (λ b. if b then set mark else at_mark old.at_marks mark n) (itself n) ∙ is mark);
    others = λ i apart others watch. watches_as old moved i others (λ mark. move mark i ∙ ap (λ b. if b then set mark else at_mark old.at_marks mark i) apart) refl watch;
  }

  pub moves_for : (after : MarksAfter) (before marks : List Mark) → MarksFollow after before marks → MovesFor after marks n old.at_marks rows → Rewatches before marks n old moved
  moves_for Same before marks same is watch = record {
    own = own_now marks (λ mark. ap (λ (r : RowsAtMarks). at_mark r mark n) is ∙ own_at before watch mark ∙ sym (same mark));
    others = λ i apart others watch. watches_as old moved i others (λ mark. ap (λ (r : RowsAtMarks). at_mark r mark i) is) refl watch;
  }
  moves_for (Moved moves) before marks follow move watch =
      moves_to marks (has_after mark_cmp moves (λ mark. at_mark old.at_marks mark n)) move
      (λ mark. ap (λ b. has_mark moves.come mark || (not (has_mark moves.gone mark) && b)) (own_at before watch mark) ∙ sym (follow mark))
  moves_for (Other list) before marks is move watch =
      moves_to marks (has_mark marks) (move (λ mark. own_at before watch mark ∙ ap (λ xs. has_mark xs mark) (sym is))) (λ mark. refl)

-- ---- all new rows are put at their marks

-- one row more
pub one_more : (r row : ℕ) (own watched has initial old new all : Bool) → (nat_eq r row ≡ true → own ≡ watched) → new ≡ ((own && nat_eq r row) || old) → old ≡ ((has && watched) || initial) → all ≡ (has || is_eq (nat_cmp r row)) → new ≡ ((all && watched) || initial)
one_more r row own watched has initial old new all same put was is =
    put ∙ ap (λ b. (own && nat_eq r row) || b) was ∙ by_cases (nat_eq r row) same ∙ ap (λ b. (b && watched) || initial) (sym (is ∙ ap (λ b. has || b) (unsigned_tied r row)))
  where
    own_row : (w h : Bool) → ((w && true) || ((h && w) || initial)) ≡ (((h || true) && w) || initial)
    own_row true true = refl
    own_row true false = refl
    own_row false true = refl
    own_row false false = refl

    no_row : (o w h : Bool) → ((o && false) || ((h && w) || initial)) ≡ (((h || false) && w) || initial)
    no_row true w true = refl
    no_row true w false = refl
    no_row false w true = refl
    no_row false w false = refl

    by_cases : (e : Bool) → (e ≡ true → own ≡ watched) → ((own && e) || ((has && watched) || initial)) ≡ (((has || e) && watched) || initial)
    by_cases true s = ap (λ o. (o && true) || ((has && watched) || initial)) (s refl) ∙ own_row watched has
    by_cases false s = no_row own watched has

pub settled : (is_new watched old all : Bool) → all ≡ ((is_new && watched) || old) → old ≡ (not is_new && watched) → all ≡ watched
settled is_new watched old all put was = put ∙ ap (λ b. (is_new && watched) || b) was ∙ by_cases is_new watched
  where
    by_cases : (n w : Bool) → ((n && w) || (not n && w)) ≡ w
    by_cases true true = refl
    by_cases true false = refl
    by_cases false true = refl
    by_cases false false = refl
