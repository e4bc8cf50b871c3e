-- An outbox: items that are still to be written, the first of which may be written in part.
use Rattle.std.specs.Prelude.{◌≡◌, ◌<◌, ℕ, List, [], ◌∷◌, drop, length, nat_lt, if◌then◌else◌}

-- the rest of the first item
abbrev pub head : List (List ℕ) → List ℕ
head [] = []
head (item ∷ items) = item

-- the outbox after this number of bytes of its head are written
abbrev pub wrote : ℕ → List (List ℕ) → List (List ℕ)
wrote n [] = []
wrote n (item ∷ items) = if nat_lt n (length item) then drop n item ∷ items else items

abbrev pub NoneEmpty : List (List ℕ) → Type 0
NoneEmpty [] = Unit {0}
NoneEmpty (item ∷ items) = (0 < length item) × NoneEmpty items

-- the outbox with this rest of a first item, if the rest is not empty
abbrev pub left_of : List ℕ → List (List ℕ) → List (List ℕ)
left_of [] items = []
left_of (byte ∷ first) items = (byte ∷ first) ∷ items

pub record IsLeft (first : List ℕ) (items : List (List ℕ)) : Type 0 where
  pub none : first ≡ [] → items ≡ []
  pub some : NoneEmpty items
