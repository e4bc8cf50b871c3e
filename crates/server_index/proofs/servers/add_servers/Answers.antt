use Rattle.std.proofs.Common.{arith}
use Rattle.key_lists.specs.Keys.{is_key}
use Rattle.server_index.proofs.Names.{all_up, none_less, one_less}
use Rattle.server_index.proofs.servers.add_servers.Goals as goal

pub loop-key-init : goal.loop-key-init
loop-key-init g c =
    let port = c.args.port.now in
    record {
      servers = none_less port.from.now.store.now.objects port.key.now port.pod.now is_key c.args.keys.now c.args.servers.now;
      steps = omega arith;
    }

pub loop-key-preserved : goal.loop-key-preserved
loop-key-preserved g c =
    let port = c.args.port.now in
    let steps = c.add_server.ensures.steps in
    let so_far = c.loop-key.invariant.steps in
    record {
      servers = one_less port.from.now.store.now.objects port.key.now port.pod.now is_key c.args.keys.now c.loop-key.key-index c.key-item.result c.args.servers.now c.loop-key.servers c.add_server.new.servers c.loop-key-test.true c.key-item.is
          c.loop-key.invariant.servers c.in_ok-add_server.ensures.servers;
      steps = omega (arith, steps, so_far);
    }

pub returns-clause-servers : goal.returns-clause-servers
returns-clause-servers g c =
    let port = c.args.port.now in
    all_up port.from.now.store.now.objects port.key.now port.pod.now is_key c.args.keys.now c.loop-key.key-index c.args.servers.now c.loop-key.servers c.loop-key-test.false c.loop-key.invariant.servers
