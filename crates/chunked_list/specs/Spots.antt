-- Items in chunks: where an index of the whole stands.
use Rattle.std.specs.Prelude.{◌≡◌, ℕ, ◌+◌, ◌<◌, List, flat_map, length, take}
use Rattle.std.specs.List.{AllByRecursion, HoldsAt}

module _ {X A : Type 0} (items : X → List A) where
  -- each chunk has an item
  abbrev pub NoneEmpty : List X → Type 0
  NoneEmpty chunks = AllByRecursion (λ c. 0 < length (items c)) chunks

  -- the number of items before a chunk
  abbrev pub start_of : List X → ℕ → ℕ
  start_of chunks chunk = length (flat_map items (take chunk chunks))

-- the item at the index of the whole is that at this index of this chunk
pub record IsSpot {X A : Type 0} (items : X → List A) (chunks : List X) (index chunk at : ℕ) : Type 0 where
  pub chunk_within : chunk < length chunks
  pub within : HoldsAt (λ c. at < length (items c)) chunks chunk
  pub is : start_of items chunks chunk + at ≡ index
