use Rattle.std.proofs.Common.{sym}
use Rattle.mesh_base.proofs.KeyOrder.{keys_total, keys_exact}
use Rattle.mesh_base.proofs.Keyed.{absent_removed, get_gap, removed, removed_sorted}
use Rattle.view_types.specs.Objects.{key_of}
use Rattle.grpc_feed.proofs.routes.Routes.remove.Goals as goal

pub invariant_of-self : goal.invariant_of-self
invariant_of-self c =
    let hit = rw c.as_slice.ensures.value at c.in-Ok.ensures.hit in
    rw c.remove-object.ensures.items (removed_sorted keys_total keys_exact key_of (λ o. o) _ c.self.invariant c.args.key.now c.in-Ok.at hit.within hit.level)

pub returns-in-Ok : goal.returns-in-Ok
returns-in-Ok c =
    let hit = rw c.as_slice.ensures.value at c.in-Ok.ensures.hit in
    rw (c.remove-object.ensures.items, ← c.self.view_is) (removed keys_total keys_exact key_of (λ o. o) _ c.self.invariant c.args.key.now c.in-Ok.at hit.within hit.level)

pub returns-in-Err : goal.returns-in-Err
returns-in-Err c =
    let gap = rw c.as_slice.ensures.value at c.in-Err.ensures.gap in
    rw (← c.self.view_is) (sym (absent_removed keys_total keys_exact _ c.args.key.now (get_gap keys_total keys_exact key_of (λ o. o) _ c.self.invariant c.args.key.now c.in-Err.field-0 gap)))
