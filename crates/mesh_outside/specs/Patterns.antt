-- Patterns that are looked up in a list.
use Rattle.std.specs.Prelude.{ℕ, Bool, false, ◌||◌, List, [], ◌∷◌}
use Rattle.std.specs.Str.{bytes_eq}

-- one of the strings is p
abbrev pub is_among : List ℕ → List (List ℕ) → Bool
is_among p [] = false
is_among p (text ∷ texts) = bytes_eq text p || is_among p texts
