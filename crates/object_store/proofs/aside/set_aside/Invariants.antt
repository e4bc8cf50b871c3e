use Rattle.std.proofs.Common.{◌≡◌, ◌||◌, true}
use Rattle.std.specs.List.{list_any}
use Rattle.key_lists.specs.Keys.{is_after}
use Rattle.object_store.specs.KeyLists.{is_aside, is_kept}
use Rattle.object_store.proofs.aside.set_aside.Given as goal

-- what is aside so far, and what is left, are the keys at first
abbrev pub invariant-loop-mark : goal.invariant-loop-mark
invariant-loop-mark l = ((m : _) (k : _) → is_kept l.initial.keys m k ≡ (list_any (is_aside m k) l.asides || is_kept l.keys m k))
    × ((m : _) (k : _) → list_any (is_aside m k) l.asides ≡ true → is_after l.kind k ≡ true)
