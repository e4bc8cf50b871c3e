use Rattle.view_fold.proofs.Folded.{inserted_puts, inserted_rising, set_puts, set_rising}
use Rattle.view_fold.proofs.rows.put_row.Goals as goal

pub returns-in-Ok-clause-put : goal.returns-in-Ok-clause-put
returns-in-Ok-clause-put g c =
    let hit = rw c.as_slice.ensures.value at c.in-Ok.ensures.hit in
    set_puts g.met.T.KeyedRow.total g.met.T.KeyedRow.exact g.T.KeyedRow.key_of c.args.rows.now.items c.requires.keyed c.args.row c.in-Ok.at hit

pub returns-in-Ok-clause-keyed : goal.returns-in-Ok-clause-keyed
returns-in-Ok-clause-keyed g c =
    let hit = rw c.as_slice.ensures.value at c.in-Ok.ensures.hit in
    set_rising g.met.T.KeyedRow.total g.met.T.KeyedRow.exact g.T.KeyedRow.key_of c.args.rows.now.items c.requires.keyed c.args.row c.in-Ok.at hit

pub returns-in-Ok-insert-clause-put : goal.returns-in-Ok-insert-clause-put
returns-in-Ok-insert-clause-put g c =
    let gap = rw c.as_slice.ensures.value at c.in-Err.ensures.gap in
    rw c.in-Ok-insert.ensures.items (inserted_puts g.met.T.KeyedRow.total g.met.T.KeyedRow.exact g.T.KeyedRow.key_of c.args.rows.now.items c.requires.keyed c.args.row c.in-Err.at gap)

pub returns-in-Ok-insert-clause-keyed : goal.returns-in-Ok-insert-clause-keyed
returns-in-Ok-insert-clause-keyed g c =
    let gap = rw c.as_slice.ensures.value at c.in-Err.ensures.gap in
    rw c.in-Ok-insert.ensures.items (inserted_rising g.met.T.KeyedRow.total g.met.T.KeyedRow.exact g.T.KeyedRow.key_of c.args.rows.now.items c.requires.keyed c.args.row c.in-Err.at gap)
