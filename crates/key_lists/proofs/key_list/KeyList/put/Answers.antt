use Rattle.key_lists.proofs.Lists.{had_has, put_has, put_rises}
use Rattle.key_lists.proofs.key_list.KeyList.put.Goals as goal

pub invariant_of-self : goal.invariant_of-self
invariant_of-self c =
    let gap = rw c.as_slice.ensures.value at c.in-Err.ensures.gap in
    rw c.in_ok-insert-in-Err.ensures.items (put_rises _ c.self.invariant c.args.key c.in-Err.at gap)

pub returns-in-Ok-clause-put : goal.returns-in-Ok-clause-put
returns-in-Ok-clause-put c = λ k.
    let hit = rw c.as_slice.ensures.value at c.in-Ok.ensures.hit in
    rw (← c.self.view_is) (had_has _ c.self.invariant c.args.key c.in-Ok.field-0 hit k)

pub returns-in_ok-insert-in-Err-clause-put : goal.returns-in_ok-insert-in-Err-clause-put
returns-in_ok-insert-in-Err-clause-put c = λ k.
    let gap = rw c.as_slice.ensures.value at c.in-Err.ensures.gap in
    rw (c.in_ok-insert-in-Err.ensures.items, ← c.self.view_is) (put_has _ c.self.invariant c.args.key c.in-Err.at gap k)
