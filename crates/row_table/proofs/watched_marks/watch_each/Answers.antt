use Rattle.std.proofs.Common.{◌≡◌, ◌+◌, ◌||◌, ◌∙◌, ℕ, List, get_or, take, sym, ap, subst, eqb-true}
use Rattle.std.specs.List.{list_any}
use Rattle.std.specs.Option.{option_copied}
use Rattle.std.specs.Ordering.{is_eq, nat_cmp}
use Rattle.std.proofs.lemmas.List.Folds.{list_any_more}
use Rattle.mark_rules.specs.Marks.{has_mark}
use Rattle.row_table.specs.AtMarks.{at_mark}
use Rattle.row_table.specs.TableRows.{kept_at, marks_of}
use Rattle.row_table.proofs.Watched.{one_more}
use Rattle.row_table.proofs.watched_marks.watch_each.Goals as goal

pub loop-number-preserved : goal.loop-number-preserved
loop-number-preserved g c = λ mark n.
    let marks_in = g.F.RowRule.marks_in in
    let items = c.as_slice-number-items.result.now in
    let keys = c.args.numbers.now.keys in
    let rows = c.args.rows.now in
    let i = c.loop-number.number-index in
    let number = get_or items i 0 in
    let test = λ (k : ℕ). is_eq (nat_cmp n k) in
    let more = subst (λ (ks : List ℕ). list_any test (take (i + 1) ks) ≡ (list_any test (take i ks) || test number)) c.as_slice-number-items.ensures (list_any_more test items i 0 c.loop-number-test.true) in
    one_more n number (has_mark (marks_of marks_in (option_copied c.get.result)) mark) (has_mark (marks_of marks_in (kept_at rows n)) mark) (list_any test (take i keys)) (at_mark c.args.at_marks.now mark n) (at_mark c.loop-number.at_marks mark n) (at_mark c.watch_row.new.at_marks mark n) (list_any test (take (i + 1) keys))
    (λ e. ap (λ row. has_mark (marks_of marks_in row) mark) (c.get.ensures ∙ ap (kept_at rows) (sym (eqb-true n number e)))) (c.in_ok-watch_row.ensures mark n) (c.loop-number.invariant mark n) more
