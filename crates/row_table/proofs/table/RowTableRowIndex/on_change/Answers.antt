use Rattle.row_table.specs.TableRows.{keys_of}
use Rattle.row_table.proofs.Followed.{all_stand}
use Rattle.row_table.proofs.table.RowTableRowIndex.on_change.Goals as goal

pub returns-clause-stands : goal.returns-clause-stands
returns-clause-stands g c = λ held stand leads.
    let rule = c.args.self.now.rule in
    let old = c.args.self.now.table in
    let new = c.follow.new.self in
    all_stand g.F.Key.Ord.cmp g.met.F.Key.Ord.total g.met.F.RowRule.exact (g.F.RowRule.keeps rule) g.F.RowRule.tells c.args.change.now.marks c.args.store.now.objects (g.F.RowRule.filter rule) g.F.RowRule.row_in g.F.RowRule.marks_in
    (g.met.F.RowRule.shows rule) (g.met.F.RowRule.stays rule) held leads (keys_of new.rows new.met) old.used new.used old.rows new.rows c.in_ok-follow.ensures.used c.in_ok-follow.ensures.keys c.in_ok-follow.ensures.rows stand
