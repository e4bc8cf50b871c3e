use Rattle.std.proofs.Common.{◌+◌, ◌≤◌, length, take}
use Rattle.std.specs.List.{sum_by}
use Rattle.key_lists.specs.Keys.{has_key}
use Rattle.server_index.proofs.Names.{AreUpBut}
use Rattle.server_index.proofs.servers.add_lists.Given as goal

-- the names of the lists so far are up
abbrev pub invariant-loop-keys : goal.invariant-loop-keys
invariant-loop-keys g l = record {
  servers : AreUpBut l.port.from.now.store.now.objects l.port.key.now l.port.pod.now (λ k keys. has_key k keys.now) l.lists l.keys-index l.initial.servers l.servers;
  steps : l.steps ≤ l.initial.steps + sum_by (λ keys. length keys.now) (take l.keys-index l.lists);
}
