use Rattle.std.proofs.Common.{◌≤◌, ◌+◌, sym, arith}
use Rattle.mesh_base.proofs.KeyOrder.{keys_total, keys_exact}
use Rattle.mesh_base.proofs.Keyed.{searchable}
use Rattle.view_types.specs.Objects.{key_of}
use Rattle.object_store.specs.Held.{key_with}
use Rattle.object_store.proofs.Neighbours.{after_all, before_all, between}
use Rattle.object_store.proofs.objects.place_from.Goals as goal

pub returns-in-Some-Greater-order_at-clause-gap : goal.returns-in-Some-Greater-order_at-clause-gap
returns-in-Some-Greater-order_at-clause-gap c =
    let rises = searchable keys_total keys_exact key_of (λ o. o) c.args.objects.now c.requires (key_with c.args.kind c.args.ns.now c.args.name.now) in
    let near : c.saturating_add-next.result ≤ c.args.first + 1 = omega (arith, c.saturating_add-next.ensures) in
    let less = rw c.in-Some-Less.field-0-is at c.in-Some-Less.ensures in
    let greater = rw c.in-Some-Greater-order_at.field-0-is at c.in-Some-Greater-order_at.ensures in
    between _ _ rises c.args.first _ near (sym less) (sym greater)

pub returns-in-None-clause-gap : goal.returns-in-None-clause-gap
returns-in-None-clause-gap c =
    let rises = searchable keys_total keys_exact key_of (λ o. o) c.args.objects.now c.requires (key_with c.args.kind c.args.ns.now c.args.name.now) in
    let near : c.saturating_add-next.result ≤ c.args.first + 1 = omega (arith, c.saturating_add-next.ensures) in
    let less = rw c.in-Some-Less.field-0-is at c.in-Some-Less.ensures in
    after_all _ _ rises c.args.first _ near (sym less) (sym c.in-None.ensures)

pub returns-in-Some-Greater-clause-gap : goal.returns-in-Some-Greater-clause-gap
returns-in-Some-Greater-clause-gap c =
    let rises = searchable keys_total keys_exact key_of (λ o. o) c.args.objects.now c.requires (key_with c.args.kind c.args.ns.now c.args.name.now) in
    let greater = rw (c.in-Some-Greater.field-0-is, c.if-first-eq0.true) at c.in-Some-Greater.ensures in
    before_all _ _ rises (sym greater)
