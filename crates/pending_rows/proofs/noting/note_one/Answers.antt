use Rattle.pending_rows.proofs.Notes.{now_noted, stays_noted, still_keyed}
use Rattle.pending_rows.proofs.Own.{own_inserted}
use Rattle.pending_rows.proofs.noting.note_one.Goals as goal

pub returns-in-Ok-clause-notes : goal.returns-in-Ok-clause-notes
returns-in-Ok-clause-notes c =
    let hit = rw c.as_slice.ensures.value at c.in-Ok.ensures.hit in
    stays_noted c.args.pending.now.items c.requires.keyed c.args.stood c.in-Ok.field-0 hit

pub returns-in-Ok-insert-clause-notes : goal.returns-in-Ok-insert-clause-notes
returns-in-Ok-insert-clause-notes c =
    let gap = rw c.as_slice.ensures.value at c.in-Err.ensures.gap in
    rw c.in-Ok-insert.ensures.items (now_noted c.args.pending.now.items c.requires.keyed c.args.stood c.in-Err.at gap)

pub returns-in-Ok-insert-clause-keyed : goal.returns-in-Ok-insert-clause-keyed
returns-in-Ok-insert-clause-keyed c =
    let gap = rw c.as_slice.ensures.value at c.in-Err.ensures.gap in
    rw c.in-Ok-insert.ensures.items (still_keyed c.args.pending.now.items c.requires.keyed c.args.stood c.in-Err.at gap)

pub returns-in-Ok-insert-clause-own : goal.returns-in-Ok-insert-clause-own
returns-in-Ok-insert-clause-own c =
    rw c.in-Ok-insert.ensures.items (own_inserted c.args.pending.now.items c.in-Err.at c.args.stood c.requires.own c.requires.owns)
