use Rattle.std.proofs.Common.{◌≡◌, ◌++◌, take}
use Rattle.inbound_views.proofs.moving.append.Given as goal

-- the items so far
abbrev pub invariant-loop-item : goal.invariant-loop-item
invariant-loop-item g l = l.items ≡ l.initial.items ++ take l.item-index l.more
