-- The laws of a table, and of a rule that finds its rows again for each change.
use Rattle.std.specs.Prelude.{is_some, nat_lt}
use Rattle.std.proofs.Common.{◌≡◌, ◌<◌, ℕ, List, Option, Some, None, refl, sym, ap, subst, ◌∙◌}
use Rattle.std.specs.Cmp.{below_irrefl}
use Rattle.std.specs.declared.cmp.Ordering.{Ordering}
use Rattle.std.proofs.lemmas.Bool.{lt-ltb}
use Rattle.std.proofs.lemmas.Option.{none-some, same_Some}
use Rattle.slab.specs.Slab.{Slab}
use Rattle.view_types.specs.Objects.{ObjectMap}
use Rattle.view_types.specs.declared.mark.Mark.{Mark}
use Rattle.mark_rules.specs.Laws.{Stays}
use Rattle.mark_rules.specs.Marks.{has_mark}
use Rattle.row_table.specs.IndexRows.{AreNumbered, Filter, IsCurrent, IsRow, KeptShows, KeptStays}
use Rattle.row_table.specs.KeyNumbers.{number_at, number_in, used_at, users_in}
use Rattle.row_table.specs.TableRows.{AllStand, StandsAt, kept_at, key_in, marks_of, row_at, row_of, shown_in}
use Rattle.row_table.specs.declared.key_numbers.KeyNumbers.{KeyNumbers}
use Rattle.row_table.specs.declared.key_numbers.UsedKey.{UsedKey}
use Rattle.row_table.specs.declared.table_rows.KeptRow.{KeptRow}

module _ {Key Kept : Type 0} (keeps : ObjectMap → Key → Kept → Type 0) (held : ObjectMap) (key : Key) where
  -- a key has a number exactly if it has users
  numbered : (used : Option UsedKey) (row : Option (KeptRow Key Kept)) → StandsAt keeps held key used row → is_some (number_in used) ≡ nat_lt 0 (users_in used)
  numbered None row stands = refl
  numbered (Some u) None stands = absurd stands
  numbered (Some u) (Some r) stands = sym (lt-ltb 0 u.users stands.0)

  -- the row at the number of a key is that of the key
  pub own_row : (used : Option UsedKey) (rows : Slab (KeptRow Key Kept)) → StandsAt keeps held key used (row_of rows (number_in used)) → (n : ℕ) → number_in used ≡ Some n → key_in (kept_at rows n) ≡ Some key
  own_row None rows stands n e = absurd (none-some n e)
  own_row (Some u) rows stands n e = ap (λ n. key_in (kept_at rows n)) (sym (same_Some u.number n e)) ∙ by (kept_at rows u.number) stands
    where
      by : (row : Option (KeptRow Key Kept)) → StandsAt keeps held key (Some u) row → key_in row ≡ Some key
      by None stands = absurd stands
      by (Some r) stands = ap Some stands.1

-- current rows have numbers
pub numbered_rows : {Key Kept : Type 0} (cmp : Key → Key → Ordering) (keeps : ObjectMap → Key → Kept → Type 0) (held : ObjectMap) (used : KeyNumbers Key) (rows : Slab (KeptRow Key Kept)) → AllStand keeps cmp held used rows
    → AreNumbered (λ key. users_in (used_at cmp used key)) (number_at cmp used)
numbered_rows cmp keeps held used rows stands = record {
  used = λ key. numbered keeps held key (used_at cmp used key) (row_at cmp used rows key) (stands key);
  apart = λ key other n e f. same_Some key other (sym (own_row keeps held key (used_at cmp used key) rows (stands key) n e) ∙ own_row keeps held other (used_at cmp used other) rows (stands other) n f);
}

module _ {Key Row Kept : Type 0} (filter : Filter Key Row) (row_in : Kept → Row) (marks_in : Kept → List Mark) where
  -- a row and its marks are unchanged if the filter and its reads are
  pub found_stays : Stays filter.row_of filter.reads → KeptStays filter (λ held key kept. IsRow filter held key (row_in kept) (marks_in kept))
  found_stays stays key kept changed before after leads misses is =
      let same = stays key changed before after leads misses in
      record {
        is_filter = is.is_filter ∙ sym same.0;
        are_read = λ mark. is.are_read mark ∙ ap (λ marks. has_mark marks mark) (sym same.1);
      }

  -- the kept value of a row is current if it is valid
  pub current_row : (keeps : ObjectMap → Key → Kept → Type 0) → KeptShows filter keeps row_in marks_in → (held : ObjectMap) (key : Key) (used : Option UsedKey) (row : Option (KeptRow Key Kept)) → StandsAt keeps held key used row
      → IsCurrent filter held key (users_in used) (shown_in row_in row) (marks_of marks_in row)
  current_row keeps shows held key None row stands = record { unused = λ e. (ap (shown_in row_in) stands, ap (marks_of marks_in) stands); used = λ lt. absurd (below_irrefl 0 lt) }
  current_row keeps shows held key (Some u) None stands = absurd stands
  current_row keeps shows held key (Some u) (Some r) stands =
      let shown = shows held key r.kept stands.2 in
      record {
        unused = λ e. absurd (below_irrefl 0 (subst (λ (n : ℕ). 0 < n) e stands.0));
        used = λ lt. (ap Some shown.is_filter, shown.are_read);
      }
