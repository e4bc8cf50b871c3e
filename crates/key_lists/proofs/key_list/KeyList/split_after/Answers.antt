use Rattle.std.proofs.Common.{not}
use Rattle.key_lists.specs.Keys.{is_after}
use Rattle.key_lists.proofs.Parted.{filtered_has, filtered_rises}
use Rattle.key_lists.proofs.key_list.KeyList.split_after.Goals as goal

pub invariant_of-result : goal.invariant_of-result
invariant_of-result c =
    let is = rw c.as_slice.ensures.value at c.start_after-start.ensures.back in
    rw (c.in_ok-keys.ensures.tail, is) (filtered_rises (is_after c.args.kind) c.self.inside.keys.items c.self.invariant)

pub invariant_of-self-2 : goal.invariant_of-self-2
invariant_of-self-2 c =
    let is = rw c.as_slice.ensures.value at c.start_after-start.ensures.front in
    rw (c.in_ok-keys.ensures.items, is) (filtered_rises (λ k. not (is_after c.args.kind k)) c.self.inside.keys.items c.self.invariant)

pub returns-clause-left : goal.returns-clause-left
returns-clause-left c = λ k.
    let is = rw c.as_slice.ensures.value at c.start_after-start.ensures.front in
    rw (c.in_ok-keys.ensures.items, is, ← c.self.view_is) (filtered_has (λ k. not (is_after c.args.kind k)) c.self.inside.keys.items k)

pub returns-clause-taken : goal.returns-clause-taken
returns-clause-taken c = λ k.
    let is = rw c.as_slice.ensures.value at c.start_after-start.ensures.back in
    rw (c.in_ok-keys.ensures.tail, is, ← c.self.view_is) (filtered_has (is_after c.args.kind) c.self.inside.keys.items k)
