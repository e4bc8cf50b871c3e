use Rattle.std.proofs.Common.{◌≡◌, ◌+◌, ◌≤◌, None, take}
use Rattle.std.specs.Prelude.{is_some}
use Rattle.std.specs.FinMap.{get}
use Rattle.std.specs.List.{filter_map, find, sum_by}
use Rattle.view_rules.specs.Servers.{is_server_for}
use Rattle.mark_rules.proofs.Counts.{one_if}
use Rattle.policy_rows.proofs.server.first_server.Given as goal

-- none at the keys so far is a Server for the port
abbrev pub invariant-loop-key : goal.invariant-loop-key
invariant-loop-key g l = record {
  none : find (is_server_for l.asked.ns.now l.asked.pod.now l.asked.port) (filter_map (get l.store.objects) (take l.key-index l.keys)) ≡ None;
  steps : l.steps ≤ l.initial.steps + sum_by (λ key. one_if (is_some (get l.store.objects key))) (take l.key-index l.keys);
}
