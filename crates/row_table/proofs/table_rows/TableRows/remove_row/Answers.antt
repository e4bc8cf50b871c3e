use Rattle.std.proofs.Common.{◌≡◌, None, List, [], sym, ap, subst, ◌∙◌}
use Rattle.view_types.specs.declared.mark.Mark.{Mark}
use Rattle.row_table.specs.AtMarks.{Rewatches}
use Rattle.row_table.specs.TableRows.{kept_at, marks_of}
use Rattle.row_table.proofs.Puts.{updated}
use Rattle.row_table.proofs.Tied.{tied_less}
use Rattle.row_table.proofs.Watched.{stays}
use Rattle.row_table.proofs.table_rows.TableRows.remove_row.Goals as goal

pub returns-in-Some-clause-rows : goal.returns-in-Some-clause-rows
returns-in-Some-clause-rows g c = updated c.args.number None c.args.self.now.rows c.try_remove.new.self c.try_remove.ensures.updates

pub returns-in_default-clause-rows : goal.returns-in_default-clause-rows
returns-in_default-clause-rows g c = updated c.args.number None c.args.self.now.rows c.try_remove.new.self c.try_remove.ensures.updates

pub returns-in-Some-clause-tied : goal.returns-in-Some-clause-tied
returns-in-Some-clause-tied g c = λ tied.
    let marks_in = g.F.RowRule.marks_in in
    let self = c.args.self.now in
    let key = c.args.key.now in
    let number = c.args.number in
    let its : marks_in c.in-Some.row.kept ≡ marks_of marks_in (kept_at self.rows number) = ap (marks_of marks_in) (sym c.in-Some.is ∙ c.try_remove.ensures.value) in
    tied_less g.F.Key.Ord.cmp g.met.F.Key.Ord.total g.met.F.RowRule.exact marks_in self.used c.remove.new.self self.rows c.try_remove.new.self self.watched c.unwatch.new.self key tied number c.requires
    c.remove.ensures
    (updated number None self.rows c.try_remove.new.self c.try_remove.ensures.updates)
    (subst (λ (marks : List Mark). Rewatches marks [] number self.watched c.unwatch.new.self) its c.unwatch.ensures)

-- no row is at the number
pub returns-in_default-clause-tied : goal.returns-in_default-clause-tied
returns-in_default-clause-tied g c = λ tied.
    let marks_in = g.F.RowRule.marks_in in
    let self = c.args.self.now in
    let key = c.args.key.now in
    let number = c.args.number in
    let its : [] ≡ marks_of marks_in (kept_at self.rows number) = ap (marks_of marks_in) (sym c.in_default.is ∙ c.try_remove.ensures.value) in
    tied_less g.F.Key.Ord.cmp g.met.F.Key.Ord.total g.met.F.RowRule.exact marks_in self.used c.remove.new.self self.rows c.try_remove.new.self self.watched self.watched key tied number c.requires
    c.remove.ensures
    (updated number None self.rows c.try_remove.new.self c.try_remove.ensures.updates)
    (subst (λ (marks : List Mark). Rewatches marks [] number self.watched self.watched) its (stays [] number self.watched))
