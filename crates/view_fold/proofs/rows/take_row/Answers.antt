use Rattle.view_fold.proofs.Folded.{absent_stays, removed_rising, removed_takes}
use Rattle.view_fold.proofs.rows.take_row.Goals as goal

pub returns-in-Ok-clause-taken : goal.returns-in-Ok-clause-taken
returns-in-Ok-clause-taken g c =
    let hit = rw c.as_slice.ensures.value at c.in-Ok.ensures.hit in
    rw c.remove-row.ensures.items (removed_takes g.met.T.KeyedRow.total g.met.T.KeyedRow.exact g.T.KeyedRow.key_of c.args.rows.now.items c.requires c.args.key.now c.in-Ok.at hit)

pub returns-in-Ok-clause-keyed : goal.returns-in-Ok-clause-keyed
returns-in-Ok-clause-keyed g c =
    let hit = rw c.as_slice.ensures.value at c.in-Ok.ensures.hit in
    rw c.remove-row.ensures.items (removed_rising g.met.T.KeyedRow.total g.met.T.KeyedRow.exact g.T.KeyedRow.key_of c.args.rows.now.items c.requires c.args.key.now c.in-Ok.at hit)

pub returns-in-Err-clause-taken : goal.returns-in-Err-clause-taken
returns-in-Err-clause-taken g c =
    let gap = rw c.as_slice.ensures.value at c.in-Err.ensures.gap in
    absent_stays g.met.T.KeyedRow.total g.met.T.KeyedRow.exact g.T.KeyedRow.key_of c.args.rows.now.items c.requires c.args.key.now c.in-Err.field-0 gap
