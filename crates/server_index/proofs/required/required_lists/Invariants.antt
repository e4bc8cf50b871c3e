use Rattle.std.proofs.Common.{◌≡◌, ◌+◌, length, map, take}
use Rattle.std.specs.List.{sum_by}
use Rattle.server_index.specs.Requiring.{HaveServers}
use Rattle.server_index.proofs.required.required_lists.Given as goal

-- the lists are those of the labels so far
abbrev pub invariant-loop-label : goal.invariant-loop-label
invariant-loop-label l = record {
  servers : HaveServers l.store.objects l.ns (take l.label-index l.labels) (map (λ keys. keys.now) l.lists.items);
  left : l.left + sum_by length (map (λ keys. keys.now) l.lists.items) ≡ l.most;
}
