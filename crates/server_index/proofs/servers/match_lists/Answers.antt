use Rattle.std.proofs.Common.{Bor, List, length, arith}
use Rattle.mesh_base.specs.declared.key.ObjKey.{ObjKey}
use Rattle.server_index.proofs.Selecting.{all_required, sum_map}
use Rattle.server_index.proofs.servers.match_lists.Goals as goal

abbrev shown : Bor (List ObjKey) → List ObjKey
shown keys = keys.now

pub returns-clause-servers : goal.returns-clause-servers
returns-clause-servers g c =
    let port = c.args.port.now in
    all_required port.from.now.store.now.objects port.key.now port.pod.now shown c.args.lists.now c.requires c.new-servers.result c.add_lists.new.servers c.new-servers.ensures c.in_ok-add_lists.ensures.servers

pub returns-clause-steps : goal.returns-clause-steps
returns-clause-steps g c =
    let all = sum_map length shown c.args.lists.now in
    let steps = c.add_lists.ensures.steps in
    omega (arith, all, steps)

pub returns-in_err-add_lists-clause-steps : goal.returns-in_err-add_lists-clause-steps
returns-in_err-add_lists-clause-steps g c =
    let all = sum_map length shown c.args.lists.now in
    let steps = c.add_lists.ensures.steps in
    omega (arith, all, steps)
