-- Rows of a view with unique keys: as a map by their keys, and the differences of two lists.
use Rattle.std.specs.Prelude.{Bool, not, List, [], ◌∷◌, map}
use Rattle.std.specs.FinMap.{FinMap, empty, insert, remove}
use Rattle.std.specs.List.{filter, list_any}
use Rattle.std.specs.Ordering.{eq_by_cmp}
use Rattle.std.specs.declared.cmp.Ordering.{Ordering}

module _ {X K : Type 0} (R : K → K → Ordering) (key : X → K) where
  -- ---- as a map

  -- each row replaces that of its key
  abbrev pub put_all : List X → FinMap R X → FinMap R X
  put_all [] m = m
  put_all (x ∷ xs) m = put_all xs (insert m (key x) x)

  abbrev pub map_of : List X → FinMap R X
  map_of rows = put_all rows empty

  abbrev pub take_all : List K → FinMap R X → FinMap R X
  take_all [] m = m
  take_all (k ∷ ks) m = take_all ks (remove m k)

  -- ---- what the second list has that the first has not

  abbrev pub has_key : List X → K → Bool
  has_key rows k = list_any (λ row. eq_by_cmp R k (key row)) rows

  -- the keys of the first list that have no row in the second
  abbrev pub gone_keys : List X → List X → List K
  gone_keys old new = filter (λ k. not (has_key new k)) (map key old)

-- the row is among these
abbrev pub has_same : {X : Type 0} → (X → X → Bool) → List X → X → Bool
has_same same rows row = list_any (same row) rows

-- the rows of the second that are new or have changed
abbrev pub changed_from : {X : Type 0} → (X → X → Bool) → List X → List X → List X
changed_from same old new = filter (λ row. not (has_same same old row)) new
