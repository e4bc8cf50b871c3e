-- Lists sorted by key, in which keys may repeat.
use Rattle.std.specs.Prelude.{List}
use Rattle.std.specs.List.Sorted.{IsSortedBy}
use Rattle.std.specs.Ordering.{is_lt}
use Rattle.std.specs.declared.cmp.Ordering.{Ordering}

abbrev pub AreSorted : {K : Type 0} → (K → K → Ordering) → List K → Type 0
AreSorted R keys = IsSortedBy (λ a b. is_lt (R a b)) keys
