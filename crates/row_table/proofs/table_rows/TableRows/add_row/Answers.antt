use Rattle.std.proofs.Common.{Some, subst, refl}
use Rattle.row_table.specs.KeyNumbers.{PutsAt}
use Rattle.row_table.specs.TableRows.{row_at}
use Rattle.row_table.specs.declared.key_numbers.UsedKey.{UsedKey}
use Rattle.row_table.specs.declared.table_rows.KeptRow.{KeptRow}
use Rattle.row_table.proofs.Puts.{updated}
use Rattle.row_table.proofs.Tied.{row_more, tied_more}
use Rattle.row_table.proofs.Users.{ok_then}
use Rattle.row_table.proofs.table_rows.TableRows.add_row.Goals as goal

pub returns-clause-row : goal.returns-clause-row
returns-clause-row g c =
    let cmp = g.F.Key.Ord.cmp in
    let total = g.met.F.Key.Ord.total in
    let exact = g.met.F.RowRule.exact in
    let self = c.args.self.now in
    let key = c.args.key in
    let n = c.in_ok-number.number in
    let at : UsedKey = record { number = n; users = 1 } in
    let row : KeptRow g.row.F-Key.Denot g.row.F-Kept.Denot = record { key = c.in_ok-own.own; kept = c.args.kept } in
    ok_then c.insert-2.result c.insert-2.ensures (λ put.
    subst (λ (own : g.row.F-Key.Denot). PutsAt cmp key (Some (record { key = own; kept = c.args.kept })) (row_at cmp self.used self.rows) (row_at cmp c.insert-2.new.self c.insert.new.self)) c.in_ok-own.ensures
    (row_more cmp total exact g.F.RowRule.marks_in self.used c.insert-2.new.self self.rows c.insert.new.self self.watched c.add.new.self key c.requires.tied n c.in_ok-number.ensures.was_vacant at row refl c.in_ok-own.ensures c.requires.none put
    (updated n (Some row) self.rows c.insert.new.self c.in_ok-number.ensures.updates)))

pub returns-clause-tied : goal.returns-clause-tied
returns-clause-tied g c =
    let cmp = g.F.Key.Ord.cmp in
    let total = g.met.F.Key.Ord.total in
    let exact = g.met.F.RowRule.exact in
    let marks_in = g.F.RowRule.marks_in in
    let self = c.args.self.now in
    let key = c.args.key in
    let n = c.in_ok-number.number in
    let at : UsedKey = record { number = n; users = 1 } in
    let row : KeptRow g.row.F-Key.Denot g.row.F-Kept.Denot = record { key = c.in_ok-own.own; kept = c.args.kept } in
    ok_then c.insert-2.result c.insert-2.ensures (λ put.
    (tied_more cmp total exact marks_in self.used c.insert-2.new.self self.rows c.insert.new.self self.watched c.add.new.self key c.requires.tied n c.in_ok-number.ensures.was_vacant at row refl c.in_ok-own.ensures c.requires.none put
    (updated n (Some row) self.rows c.insert.new.self c.in_ok-number.ensures.updates)
    (c.in_ok-add.ensures (marks_in c.args.kept))))
