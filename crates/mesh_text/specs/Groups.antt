-- The API group of the core kinds.
use Rattle.std.specs.Prelude.{codes, ℕ, ◌||◌, ◌==◌, Bool, List, bytes_eq, length}

-- It is empty or the name of the group.
abbrev pub is_core : List ℕ → Bool
is_core group = (length group == 0) || bytes_eq group (codes "core")
