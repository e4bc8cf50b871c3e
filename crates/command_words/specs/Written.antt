-- Example command lines.
use Rattle.std.specs.Prelude.{ℕ, List, [], ◌∷◌, codes}

-- one option with its value as the next word, and one with `=`
abbrev pub fold_words : List (List ℕ)
fold_words = codes "fold" ∷ codes "--id" ∷ codes "7" ∷ codes "--method=Get" ∷ []

-- an option that is given twice
abbrev pub repeated_words : List (List ℕ)
repeated_words = codes "replay" ∷ codes "--default-policy=deny" ∷ codes "--default-policy=deny" ∷ []
