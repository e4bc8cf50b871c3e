use Rattle.std.proofs.Common.{◌≡◌, Some, refl, ap, ◌∙◌}
use Rattle.row_table.specs.KeyNumbers.{number_at, number_in, one_less, used_at}
use Rattle.row_table.proofs.Puts.{put_here, put_same}
use Rattle.row_table.proofs.Tied.{tied_counted}
use Rattle.row_table.proofs.Users.{stand_gone, stand_less, stand_same}
use Rattle.row_table.proofs.table_rows.TableRows.drop_user.Goals as goal

pub returns-in_default-clause-tied : goal.returns-in_default-clause-tied
returns-in_default-clause-tied g c = λ tied.
    let cmp = g.F.Key.Ord.cmp in
    let total = g.met.F.Key.Ord.total in
    let exact = g.met.F.RowRule.exact in
    let self = c.args.self.now in
    let key = c.args.key.now in
    let new = c.take_user.new.self in
    let taken = rw c.in_default.is at c.take_user.ensures in
    tied_counted cmp total exact g.F.RowRule.marks_in self.used new self.rows self.watched tied
    (put_same cmp total exact key (one_less (used_at cmp self.used key)) (used_at cmp self.used) (used_at cmp new) taken.0 number_in taken.1)

pub returns-in_default-clause-stands : goal.returns-in_default-clause-stands
returns-in_default-clause-stands g c = λ rule held.
    let self = c.args.self.now in
    let taken = rw c.in_default.is at c.take_user.ensures in
    stand_less (g.F.RowRule.keeps rule) held g.F.Key.Ord.cmp g.met.F.Key.Ord.total g.met.F.RowRule.exact c.args.key.now self.used c.take_user.new.self self.rows taken.0 taken.1

-- the last user
pub returns-in-Some-clause-tied : goal.returns-in-Some-clause-tied
returns-in-Some-clause-tied g c = λ tied.
    let cmp = g.F.Key.Ord.cmp in
    let total = g.met.F.Key.Ord.total in
    let exact = g.met.F.RowRule.exact in
    let self = c.args.self.now in
    let key = c.args.key.now in
    let new = c.take_user.new.self in
    let taken = rw c.in-Some.is at c.take_user.ensures in
    c.remove_row.ensures.tied (tied_counted cmp total exact g.F.RowRule.marks_in self.used new self.rows self.watched tied
    (put_same cmp total exact key (used_at cmp self.used key) (used_at cmp self.used) (used_at cmp new) taken.0 number_in refl))

pub returns-in-Some-clause-stands : goal.returns-in-Some-clause-stands
returns-in-Some-clause-stands g c = λ rule held all.
    let cmp = g.F.Key.Ord.cmp in
    let total = g.met.F.Key.Ord.total in
    let exact = g.met.F.RowRule.exact in
    let keeps = g.F.RowRule.keeps rule in
    let self = c.args.self.now in
    let key = c.args.key.now in
    let new = c.take_user.new.self in
    let taken = rw c.in-Some.is at c.take_user.ensures in
    let number : number_at cmp new key ≡ Some c.in-Some.number = ap number_in (put_here cmp total exact key (used_at cmp self.used key) (used_at cmp self.used) (used_at cmp new) taken.0) ∙ taken.1 in
    stand_gone keeps held cmp total exact key new c.remove_row.new.self.used self.rows c.remove_row.new.self.rows c.in-Some.number number c.remove_row.ensures.put c.remove_row.ensures.rows
    (stand_same keeps held cmp total exact key self.used new self.rows taken.0 all)
