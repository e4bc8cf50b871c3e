use Rattle.std.proofs.Common.{Bor, List, map, sym, ap, subst, arith}
use Rattle.std.specs.FinMap.{entries}
use Rattle.std.specs.List.{sum_by}
use Rattle.std.specs.Prelude.{length}
use Rattle.mesh_base.specs.declared.key.ObjKey.{ObjKey}
use Rattle.server_index.proofs.Followed.{servers_count}
use Rattle.server_index.specs.Requiring.{HaveServers, Label}
use Rattle.server_index.proofs.servers.servers_for.Goals as goal

abbrev shown : Bor (List ObjKey) → List ObjKey
shown keys = keys.now

pub match_lists-requires : goal.match_lists-requires
match_lists-requires g c =
    let port = c.args.port.now in
    let held = port.from.now.store.now.objects in
    let have = rw c.in-Some.is at c.in_ok-lists.ensures.servers in
    subst (λ (lists : List (Bor (List ObjKey))). HaveServers held port.key.now.ns (entries port.pod.now.meta.labels) (map shown lists)) (sym c.as_slice.ensures.value)
    (subst (λ (labels : List Label). HaveServers held port.key.now.ns labels (map shown c.in-Some.lists.items)) c.entries-labels.ensures have)

pub match_all-requires : goal.match_all-requires
match_all-requires g c = c.servers_in-keys.ensures c.requires

pub returns-in-Some-clause-steps : goal.returns-in-Some-clause-steps
returns-in-Some-clause-steps g c =
    let port = c.args.port.now in
    let count = servers_count port.from.now.store.now.objects port.key.now.ns c.servers_in-keys.result.now (c.servers_in-keys.ensures c.requires) in
    let lists = ap (λ (items : List (Bor (List ObjKey))). sum_by length (map shown items)) c.as_slice.ensures.value in
    let few = rw c.in-Some.is at c.in_ok-lists.ensures.few in
    let steps = c.match_lists.ensures.steps in
    omega (arith, count, lists, few, steps)

pub returns-in-None-clause-steps : goal.returns-in-None-clause-steps
returns-in-None-clause-steps g c =
    let port = c.args.port.now in
    let count = servers_count port.from.now.store.now.objects port.key.now.ns c.servers_in-keys.result.now (c.servers_in-keys.ensures c.requires) in
    let steps = c.match_all.ensures.steps in
    omega (arith, count, steps)
