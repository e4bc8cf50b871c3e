use Rattle.std.specs.Prelude.{option_map}
use Rattle.row_table.specs.KeyNumbers.{number_in, one_more, used_at}
use Rattle.row_table.proofs.Puts.{put_same}
use Rattle.row_table.proofs.Tied.{tied_counted}
use Rattle.row_table.proofs.Users.{number_more, ok_then}
use Rattle.row_table.proofs.table_rows.TableRows.add_user.Goals as goal

pub returns-clause-tied : goal.returns-clause-tied
returns-clause-tied g c = λ tied.
    let cmp = g.F.Key.Ord.cmp in
    let total = g.met.F.Key.Ord.total in
    let exact = g.met.F.RowRule.exact in
    let self = c.args.self.now in
    let key = c.args.key.now in
    let new = c.add_user.new.self in
    let used = used_at cmp self.used key in
    ok_then c.add_user.result c.add_user.ensures.put (λ put.
    tied_counted cmp total exact g.F.RowRule.marks_in self.used new self.rows self.watched tied
    (put_same cmp total exact key (option_map one_more used) (used_at cmp self.used) (used_at cmp new) put number_in (number_more used)))
