-- The values that a reading returns.
use Rattle.std.specs.Prelude.{◌≡◌, Ok}
use Rattle.k8s_meta.specs.Spots.{Reading, Spot}

-- Each value that the reading returns has the property P.
abbrev pub GivesOnly : {A : Type 0} → (A → Type 0) → Reading A → Type 0
GivesOnly {A} P read = (s : Spot) (x : A) → read s ≡ Ok x → P x
