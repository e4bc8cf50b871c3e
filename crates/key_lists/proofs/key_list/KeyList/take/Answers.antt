use Rattle.key_lists.proofs.Lists.{lacks_has, take_has, take_rises}
use Rattle.key_lists.proofs.key_list.KeyList.take.Goals as goal

pub invariant_of-self : goal.invariant_of-self
invariant_of-self c =
    let hit = rw c.as_slice.ensures.value at c.in-Ok.ensures.hit in
    rw c.remove-key.ensures.items (take_rises _ c.self.invariant c.args.key.now c.in-Ok.at hit)

pub returns-in-Ok : goal.returns-in-Ok
returns-in-Ok c = λ k.
    let hit = rw c.as_slice.ensures.value at c.in-Ok.ensures.hit in
    rw (c.remove-key.ensures.items, ← c.self.view_is) (take_has _ c.self.invariant c.args.key.now c.in-Ok.at hit k)

pub returns-in-Err : goal.returns-in-Err
returns-in-Err c = λ k.
    let gap = rw c.as_slice.ensures.value at c.in-Err.ensures.gap in
    rw (← c.self.view_is) (lacks_has _ c.self.invariant c.args.key.now c.in-Err.field-0 gap k)
