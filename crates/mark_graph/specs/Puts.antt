-- A value that is put at a key.
use Rattle.std.specs.Prelude.{◌≡◌, if◌then◌else◌}
use Rattle.std.specs.Ordering.{eq_by_cmp}
use Rattle.std.specs.declared.cmp.Ordering.{Ordering}

-- the value is at the key, and every other key is unchanged
abbrev pub PutsAt : {Key : Type 0} → (Key → Key → Ordering) → {X : Type 0} → Key → X → (Key → X) → (Key → X) → Type 0
PutsAt {Key} cmp key x old new = (k : Key) → new k ≡ (if eq_by_cmp cmp k key then x else old k)
