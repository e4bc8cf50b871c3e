use Rattle.std.proofs.Common.{◌≡◌, ◌+◌, ◌≤◌, ◌++◌, map, take}
use Rattle.std.specs.Prelude.{is_some}
use Rattle.std.specs.FinMap.{get}
use Rattle.std.specs.List.{filter_map, sum_by}
use Rattle.mark_rules.proofs.Counts.{one_if}
use Rattle.policy_rows.proofs.candidates.add_all.Given as goal

-- the objects at the keys so far are added
abbrev pub invariant-loop-key : goal.invariant-loop-key
invariant-loop-key g l = record {
  objects : map (λ o. o.now) l.found.items ≡ map (λ o. o.now) l.initial.found.items ++ filter_map (get l.store.objects) (take l.key-index l.keys);
  steps : l.steps ≤ l.initial.steps + sum_by (λ key. one_if (is_some (get l.store.objects key))) (take l.key-index l.keys);
}
