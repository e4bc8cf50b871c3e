-- Items in the order of their keys.
use Rattle.std.specs.Prelude.{ℕ, List}
use Rattle.std.specs.Cmp.Lexicographic.{slice_cmp}
use Rattle.std.specs.FinMap.{from_entries, values}
use Rattle.std.specs.Ordering.{nat_cmp}
use Rattle.std.specs.declared.cmp.Ordering.{Ordering}
use Rattle.mesh_base.specs.Keyed.{keyed}

-- each key once, with its first item
abbrev pub in_order_by : {X K : Type 0} (R : K → K → Ordering) → (X → K) → List X → List X
in_order_by R key items = values (from_entries {R = R} (keyed R key (λ item. item) items))

-- strings in the order of their bytes, each once
abbrev pub in_byte_order : List (List ℕ) → List (List ℕ)
in_byte_order strings = in_order_by (slice_cmp nat_cmp) (λ string. string) strings
