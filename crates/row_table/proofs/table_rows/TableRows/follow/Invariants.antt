use Rattle.std.proofs.Common.{◌≡◌, ◌≤◌, ◌+◌, ℕ, take}
use Rattle.std.specs.List.{IsDistinct, sum_by}
use Rattle.std.specs.Ordering.{eq_by_cmp}
use Rattle.mark_rules.specs.Reads.{cost}
use Rattle.row_table.specs.IndexRows.{DifferAmong, has_key}
use Rattle.row_table.specs.KeyNumbers.{number_at}
use Rattle.row_table.specs.TableRows.{AreTied, Follow, is_among, kept_at, key_in, keys_of, row_at, shown_in}
use Rattle.row_table.proofs.table_rows.TableRows.follow.Given as goal

-- the rows of the numbers so far are updated for the change, and the keys of those that may differ are listed
abbrev pub invariant-loop-number : goal.invariant-loop-number
invariant-loop-number g l = record {
  used : l.self.used ≡ l.initial.self.used;
  keys : (n : ℕ) → key_in (kept_at l.self.rows n) ≡ key_in (kept_at l.initial.self.rows n);
  tied : AreTied g.F.Key.Ord.cmp g.F.RowRule.marks_in l.self.used l.self.rows l.self.watched;
  notes : g.F.RowRule.notes_hold l.by.rule.now l.by.after.store.now.objects l.by.after.change.now l.notes;
  rows : Follow (g.F.RowRule.keeps l.by.rule.now) g.F.RowRule.tells l.by.after.change.now.marks l.by.after.store.now.objects (has_key g.F.Key.Ord.cmp (keys_of l.initial.self.rows (take l.number-index l.number-items))) (row_at g.F.Key.Ord.cmp l.initial.self.used l.initial.self.rows) (row_at g.F.Key.Ord.cmp l.self.used l.self.rows);
  among : (k : _) → has_key g.F.Key.Ord.cmp (keys_of l.initial.self.rows (take l.number-index l.number-items)) k ≡ is_among (take l.number-index l.number-items) (number_at g.F.Key.Ord.cmp l.initial.self.used k);
  differ : DifferAmong g.F.Key.Ord.cmp (keys_of l.initial.self.rows (take l.number-index l.number-items)) l.self.differing (λ k. shown_in g.F.RowRule.row_in (row_at g.F.Key.Ord.cmp l.initial.self.used l.initial.self.rows k)) (λ k. shown_in g.F.RowRule.row_in (row_at g.F.Key.Ord.cmp l.self.used l.self.rows k));
  once : IsDistinct (eq_by_cmp g.F.Key.Ord.cmp) (keys_of l.initial.self.rows (take l.number-index l.number-items));
  steps : l.steps ≤ l.initial.steps + sum_by (λ key. cost l.by.after.store.now.objects ((g.F.RowRule.filter l.by.rule.now).reads l.by.after.store.now.objects key)) (keys_of l.initial.self.rows (take l.number-index l.number-items));
}
