use Rattle.std.proofs.Common.{◌+◌, ◌≤◌}
use Rattle.key_lists.specs.Keys.{is_key}
use Rattle.server_index.proofs.Names.{AreUpBut}
use Rattle.server_index.proofs.servers.add_servers.Given as goal

-- the names of the keys so far are up
abbrev pub invariant-loop-key : goal.invariant-loop-key
invariant-loop-key g l = record {
  servers : AreUpBut l.port.from.now.store.now.objects l.port.key.now l.port.pod.now is_key l.keys l.key-index l.initial.servers l.servers;
  steps : l.steps ≤ l.initial.steps + l.key-index;
}
