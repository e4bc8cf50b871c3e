use Rattle.std.proofs.Common.{◌≡◌, ◌||◌}
use Rattle.std.specs.List.{list_any}
use Rattle.object_store.specs.KeyLists.{is_aside, is_kept}
use Rattle.object_store.proofs.aside.put_back.Given as goal

-- what is still aside, and what is there, are all keys
abbrev pub invariant-loop-aside : goal.invariant-loop-aside
invariant-loop-aside l = (m : _) (k : _) → (list_any (is_aside m k) l.aside-iterator.rest.items || is_kept l.keys m k) ≡ (list_any (is_aside m k) l.fn.asides || is_kept l.fn.keys m k)
