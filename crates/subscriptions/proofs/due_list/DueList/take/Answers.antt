use Rattle.subscriptions.proofs.DueIds.{lacks_has, take_has}
use Rattle.subscriptions.proofs.due_list.DueList.take.Goals as goal

pub returns-in-Ok : goal.returns-in-Ok
returns-in-Ok c = λ k.
    let hit = rw c.as_slice.ensures.value at c.in-Ok.ensures.hit in
    rw c.take_at.ensures (take_has _ c.as_slice.ensures.rise c.args.id c.in-Ok.at hit k)

pub returns-in-Err : goal.returns-in-Err
returns-in-Err c = λ k.
    let gap = rw c.as_slice.ensures.value at c.in-Err.ensures.gap in
    lacks_has _ c.as_slice.ensures.rise c.args.id c.in-Err.field-0 gap k
