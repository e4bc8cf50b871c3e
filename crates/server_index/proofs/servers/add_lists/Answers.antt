use Rattle.std.proofs.Common.{ℕ, Bool, Bor, List, length, arith}
use Rattle.std.proofs.lemmas.List.Sums.{sum_by-take-le}
use Rattle.key_lists.specs.Keys.{has_key}
use Rattle.mesh_base.specs.declared.key.ObjKey.{ObjKey}
use Rattle.mark_rules.proofs.Counts.{sum_steps, sum_stops}
use Rattle.server_index.proofs.Names.{all_up, none_less, one_less}
use Rattle.server_index.proofs.servers.add_lists.Goals as goal

abbrev is_in : ObjKey → Bor (List ObjKey) → Bool
is_in k keys = has_key k keys.now

abbrev size : Bor (List ObjKey) → ℕ
size keys = length keys.now

pub loop-keys-init : goal.loop-keys-init
loop-keys-init g c =
    let port = c.args.port.now in
    record {
      servers = none_less port.from.now.store.now.objects port.key.now port.pod.now is_in c.args.lists.now c.args.servers.now;
      steps = omega arith;
    }

pub loop-keys-preserved : goal.loop-keys-preserved
loop-keys-preserved g c =
    let port = c.args.port.now in
    record {
      servers = one_less port.from.now.store.now.objects port.key.now port.pod.now is_in c.args.lists.now c.loop-keys.keys-index c.keys-item.result c.args.servers.now c.loop-keys.servers c.add_servers.new.servers
          c.loop-keys-test.true c.keys-item.is c.loop-keys.invariant.servers c.in_ok-add_servers.ensures.servers;
      steps = sum_steps size c.args.lists.now c.loop-keys.keys-index c.keys-item.result c.args.steps.now c.loop-keys.steps c.add_servers.new.steps
          c.loop-keys-test.true c.keys-item.is c.loop-keys.invariant.steps c.add_servers.ensures.steps;
    }

pub returns-clause-servers : goal.returns-clause-servers
returns-clause-servers g c =
    let port = c.args.port.now in
    all_up port.from.now.store.now.objects port.key.now port.pod.now is_in c.args.lists.now c.loop-keys.keys-index c.args.servers.now c.loop-keys.servers c.loop-keys-test.false c.loop-keys.invariant.servers

pub returns-clause-steps : goal.returns-clause-steps
returns-clause-steps g c =
    let whole = sum_by-take-le size c.args.lists.now c.loop-keys.keys-index in
    let so_far = c.loop-keys.invariant.steps in
    omega (arith, whole, so_far)

pub returns-in_err-add_servers-clause-steps : goal.returns-in_err-add_servers-clause-steps
returns-in_err-add_servers-clause-steps g c =
    sum_stops size c.args.lists.now c.loop-keys.keys-index c.keys-item.result c.args.steps.now c.loop-keys.steps c.add_servers.new.steps
    c.loop-keys-test.true c.keys-item.is c.loop-keys.invariant.steps c.add_servers.ensures.steps
