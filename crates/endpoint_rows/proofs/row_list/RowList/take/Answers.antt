use Rattle.std.proofs.Common.{Some, sym, ap, ◌∙◌}
use Rattle.endpoint_rows.proofs.Edits.{found_gap, found_hit, none_replaces, remove_replaces}
use Rattle.endpoint_rows.proofs.row_list.RowList.take.Goals as goal

pub invariant_of-self : goal.invariant_of-self
invariant_of-self c =
    let hit = rw c.as_slice.ensures.value at c.in-Ok.ensures.hit in
    rw c.remove.ensures.items (remove_replaces _ c.self.invariant c.args.pair.now c.in-Ok.at hit).rise

pub returns-in-Ok-clause-taken : goal.returns-in-Ok-clause-taken
returns-in-Ok-clause-taken c =
    let hit = rw c.as_slice.ensures.value at c.in-Ok.ensures.hit in
    rw (c.remove.ensures.items, ← c.self.view_is) (remove_replaces _ c.self.invariant c.args.pair.now c.in-Ok.at hit)

pub returns-in-Ok-clause-was : goal.returns-in-Ok-clause-was
returns-in-Ok-clause-was c =
    let hit = rw c.as_slice.ensures.value at c.in-Ok.ensures.hit in
    rw (← c.self.view_is) (ap Some c.remove.ensures.value ∙ sym (found_hit _ c.self.invariant c.args.pair.now c.in-Ok.at c.remove.result hit))

pub returns-in-Err-clause-taken : goal.returns-in-Err-clause-taken
returns-in-Err-clause-taken c =
    let gap = rw c.as_slice.ensures.value at c.in-Err.ensures.gap in
    rw (← c.self.view_is) (none_replaces _ c.self.invariant c.args.pair.now c.in-Err.field-0 gap)

pub returns-in-Err-clause-was : goal.returns-in-Err-clause-was
returns-in-Err-clause-was c =
    let gap = rw c.as_slice.ensures.value at c.in-Err.ensures.gap in
    rw (← c.self.view_is) (sym (found_gap _ c.self.invariant c.args.pair.now c.in-Err.field-0 gap))
