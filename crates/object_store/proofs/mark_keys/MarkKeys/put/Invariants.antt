use Rattle.std.proofs.Common.{◌≡◌, ◌&&◌, ◌||◌, take}
use Rattle.key_lists.specs.Keys.{is_key}
use Rattle.object_store.specs.KeyLists.{is_among, is_kept}
use Rattle.object_store.proofs.mark_keys.MarkKeys.put.Given as goal

-- the key is kept for the marks so far
abbrev pub invariant-loop-mark : goal.invariant-loop-mark
invariant-loop-mark l = (m : _) (k : _) → is_kept l.self m k ≡ ((is_among (take l.mark-index l.marks) m && is_key k l.key) || is_kept l.initial.self m k)
