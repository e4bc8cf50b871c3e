use Rattle.std.proofs.Common.{◌≡◌, ℕ, None, refl}
use Rattle.row_table.specs.TableRows.{kept_at}
use Rattle.row_table.proofs.Tied.{tied_empty}
use Rattle.row_table.proofs.table_rows.TableRows.new.Goals as goal

pub returns-clause-tied : goal.returns-clause-tied
returns-clause-tied g c =
    let no_rows : (n : ℕ) → kept_at c.new-2.result n ≡ None = λ n. rw c.new-2.ensures.empty refl in
    tied_empty g.F.Key.Ord.cmp g.met.F.Key.Ord.total g.met.F.RowRule.exact g.F.RowRule.marks_in c.new.result c.new-2.result c.new-3.result c.new.ensures no_rows c.new-3.ensures
