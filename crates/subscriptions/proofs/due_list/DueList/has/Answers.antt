use Rattle.std.proofs.Common.{sym}
use Rattle.subscriptions.proofs.DueIds.{gap_is, hit_is}
use Rattle.subscriptions.proofs.due_list.DueList.has.Goals as goal

pub returns-in-Ok : goal.returns-in-Ok
returns-in-Ok c =
    let hit = rw c.as_slice.ensures.value at c.in-Ok.ensures.hit in
    sym (hit_is _ c.as_slice.ensures.rise c.args.id c.in-Ok.field-0 hit)

pub returns-in-Err : goal.returns-in-Err
returns-in-Err c =
    let gap = rw c.as_slice.ensures.value at c.in-Err.ensures.gap in
    sym (gap_is _ c.as_slice.ensures.rise c.args.id c.in-Err.field-0 gap)
