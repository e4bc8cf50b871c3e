use Rattle.key_lists.proofs.SortedLists as sorted
use Rattle.subscriptions.proofs.DueIds.{had_has, ids_exact, ids_total, put_has}
use Rattle.subscriptions.proofs.Front.{insert_behind, insert_longer}
use Rattle.subscriptions.proofs.due_list.DueList.put_near.Goals as goal

pub invariant_of-self-in-Err : goal.invariant_of-self-in-Err
invariant_of-self-in-Err c =
    let gap = rw (c.as_slice.ensures.value, ← c.self.view_is) at c.in-Err.ensures.gap in
    let start = c.self.inside.start in
    let ids = c.self.inside.ids.items in
    rw c.in_ok-insert-in-Err.ensures.items (
      insert_longer start c.in-Err.at c.args.id ids c.self.invariant.0,
      rw (insert_behind start c.in-Err.at c.args.id ids c.self.invariant.0) (sorted.put_rises ids_total ids_exact _ c.self.invariant.1 c.args.id c.in-Err.at gap),
    )

pub returns-in-Ok : goal.returns-in-Ok
returns-in-Ok c = λ k.
    let hit = rw (c.as_slice.ensures.value, ← c.self.view_is) at c.in-Ok.ensures.hit in
    rw (← c.self.view_is) (had_has _ c.self.invariant.1 c.args.id c.in-Ok.at hit k)

pub returns-in_ok-insert-in-Err : goal.returns-in_ok-insert-in-Err
returns-in_ok-insert-in-Err c = λ k.
    let gap = rw (c.as_slice.ensures.value, ← c.self.view_is) at c.in-Err.ensures.gap in
    rw (c.in_ok-insert-in-Err.ensures.items, insert_behind c.self.inside.start c.in-Err.at c.args.id c.self.inside.ids.items c.self.invariant.0, ← c.self.view_is)
    (put_has _ c.self.invariant.1 c.args.id c.in-Err.at gap k)
