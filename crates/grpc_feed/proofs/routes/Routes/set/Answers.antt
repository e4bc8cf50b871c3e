use Rattle.mesh_base.proofs.KeyOrder.{keys_total, keys_exact}
use Rattle.mesh_base.proofs.Keyed.{set_sorted, set_is, inserted_sorted, inserted}
use Rattle.view_types.specs.Objects.{key_of}
use Rattle.grpc_feed.proofs.routes.Routes.set.Goals as goal

pub invariant_of-self : goal.invariant_of-self
invariant_of-self c =
    let hit = rw c.as_slice.ensures.value at c.in-Ok.ensures.hit in
    set_sorted keys_total keys_exact key_of (λ o. o) _ c.self.invariant c.args.object c.in-Ok.at hit.within hit.level

pub invariant_of-self-in-Err : goal.invariant_of-self-in-Err
invariant_of-self-in-Err c =
    let gap = rw c.as_slice.ensures.value at c.in-Err.ensures.gap in
    rw c.in_ok-insert-in-Err.ensures.items (inserted_sorted keys_total keys_exact key_of (λ o. o) _ c.self.invariant c.args.object c.in-Err.at gap.within gap.parts)

pub returns-in-Ok-clause-ok : goal.returns-in-Ok-clause-ok
returns-in-Ok-clause-ok c =
    let hit = rw c.as_slice.ensures.value at c.in-Ok.ensures.hit in
    rw (← c.self.view_is) (set_is keys_total keys_exact key_of (λ o. o) _ c.self.invariant c.args.object c.in-Ok.at hit.within hit.level)

pub returns-in_ok-insert-in-Err-clause-ok : goal.returns-in_ok-insert-in-Err-clause-ok
returns-in_ok-insert-in-Err-clause-ok c =
    let gap = rw c.as_slice.ensures.value at c.in-Err.ensures.gap in
    rw (c.in_ok-insert-in-Err.ensures.items, ← c.self.view_is) (inserted keys_total keys_exact key_of (λ o. o) _ c.self.invariant c.args.object c.in-Err.at gap.within gap.parts)
