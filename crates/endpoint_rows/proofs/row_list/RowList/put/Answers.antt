use Rattle.std.proofs.Common.{Some, sym, ap, ◌∙◌}
use Rattle.view_rules.specs.Endpoints.{pair_of}
use Rattle.endpoint_rows.proofs.Edits.{found_gap, found_hit, insert_replaces, set_replaces}
use Rattle.endpoint_rows.proofs.row_list.RowList.put.Goals as goal

pub invariant_of-self : goal.invariant_of-self
invariant_of-self c =
    let hit = rw c.as_slice.ensures.value at c.in-Ok.ensures.hit in
    rw c.replace.ensures.after (set_replaces _ c.self.invariant c.args.row c.in-Ok.at hit).rise

pub invariant_of-self-in-Err : goal.invariant_of-self-in-Err
invariant_of-self-in-Err c =
    let gap = rw c.as_slice.ensures.value at c.in-Err.ensures.gap in
    rw c.in_ok-insert-in-Err.ensures.items (insert_replaces _ c.self.invariant c.args.row c.in-Err.at gap).rise

pub returns-in-Ok-clause-put : goal.returns-in-Ok-clause-put
returns-in-Ok-clause-put c =
    let hit = rw c.as_slice.ensures.value at c.in-Ok.ensures.hit in
    rw (c.replace.ensures.after, ← c.self.view_is) (set_replaces _ c.self.invariant c.args.row c.in-Ok.at hit)

pub returns-in-Ok-clause-was : goal.returns-in-Ok-clause-was
returns-in-Ok-clause-was c =
    let hit = rw c.as_slice.ensures.value at c.in-Ok.ensures.hit in
    rw (← c.self.view_is) (ap Some (c.replace.ensures.value ∙ c.index_mut.ensures.value)
    ∙ sym (found_hit _ c.self.invariant (pair_of c.args.row) c.in-Ok.at c.index_mut.result.now hit))

pub returns-in_ok-insert-in-Err-clause-put : goal.returns-in_ok-insert-in-Err-clause-put
returns-in_ok-insert-in-Err-clause-put c =
    let gap = rw c.as_slice.ensures.value at c.in-Err.ensures.gap in
    rw (c.in_ok-insert-in-Err.ensures.items, ← c.self.view_is) (insert_replaces _ c.self.invariant c.args.row c.in-Err.at gap)

pub returns-in_ok-insert-in-Err-clause-was : goal.returns-in_ok-insert-in-Err-clause-was
returns-in_ok-insert-in-Err-clause-was c =
    let gap = rw c.as_slice.ensures.value at c.in-Err.ensures.gap in
    rw (← c.self.view_is) (sym (found_gap _ c.self.invariant (pair_of c.args.row) c.in-Err.at gap))
