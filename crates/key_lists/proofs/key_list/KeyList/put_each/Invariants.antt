use Rattle.std.proofs.Common.{◌≡◌, ◌||◌}
use Rattle.key_lists.specs.Keys.{has_key}
use Rattle.key_lists.proofs.key_list.KeyList.put_each.Given as goal

-- the keys that are still to come, and those of the list, are those of both at first
abbrev pub invariant-loop-key : goal.invariant-loop-key
invariant-loop-key l = (k : _) → (has_key k l.key-iterator.rest.items || has_key k l.self) ≡ (has_key k l.fn.other || has_key k l.fn.self)
