use Rattle.mesh_base.proofs.Keyed.{inserted, inserted_sorted, set_is, set_sorted}
use Rattle.view_rules.proofs.Attached.{places_exact, route_order_is_total}
use Rattle.route_index.specs.Placed.{row_place}
use Rattle.route_index.proofs.placed.put_row.Goals as goal

pub returns-in-Ok-clause-put : goal.returns-in-Ok-clause-put
returns-in-Ok-clause-put c = λ rise.
    let hit = (rw c.as_slice.ensures.value at c.in-Ok.ensures.hit) rise in
    set_is route_order_is_total places_exact row_place (λ row. row) c.args.rows.now.items rise c.args.row c.in-Ok.at hit.within hit.level

pub returns-in-Ok-clause-rise : goal.returns-in-Ok-clause-rise
returns-in-Ok-clause-rise c = λ rise.
    let hit = (rw c.as_slice.ensures.value at c.in-Ok.ensures.hit) rise in
    set_sorted route_order_is_total places_exact row_place (λ row. row) c.args.rows.now.items rise c.args.row c.in-Ok.at hit.within hit.level

pub returns-in_ok-insert-in-Err-clause-put : goal.returns-in_ok-insert-in-Err-clause-put
returns-in_ok-insert-in-Err-clause-put c = λ rise.
    let gap = (rw c.as_slice.ensures.value at c.in-Err.ensures.gap) rise in
    rw c.in_ok-insert-in-Err.ensures.items (inserted route_order_is_total places_exact row_place (λ row. row) c.args.rows.now.items rise c.args.row c.in-Err.at gap.within gap.parts)

pub returns-in_ok-insert-in-Err-clause-rise : goal.returns-in_ok-insert-in-Err-clause-rise
returns-in_ok-insert-in-Err-clause-rise c = λ rise.
    let gap = (rw c.as_slice.ensures.value at c.in-Err.ensures.gap) rise in
    rw c.in_ok-insert-in-Err.ensures.items (inserted_sorted route_order_is_total places_exact row_place (λ row. row) c.args.rows.now.items rise c.args.row c.in-Err.at gap.within gap.parts)
