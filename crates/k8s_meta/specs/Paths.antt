-- The string of a path.
use Rattle.std.specs.Prelude.{ℕ, List, [], ◌∷◌, ◌++◌, decimal}
use Rattle.k8s_meta.specs.Keys.{key_text}
use Rattle.k8s_meta.specs.declared.path.Path.{Path, fold-Path}
use Rattle.k8s_meta.specs.declared.path.Path.TheOpen.{Path-F}

-- a member, after a dot unless the path of its parent is empty
abbrev pub member_path : List ℕ → List ℕ → List ℕ
member_path [] key = key
member_path (c ∷ cs) key = (c ∷ cs) ++ 46 ∷ key

-- an item of a list, by its index
abbrev pub item_path : List ℕ → ℕ → List ℕ
item_path at n = at ++ 91 ∷ decimal n ++ 93 ∷ []

abbrev pub path_step : Path-F (List ℕ) → List ℕ
path_step (Path-F.Top top) = top.now
path_step (Path-F.Member at key) = member_path at.now (key_text key)
path_step (Path-F.Item at n) = item_path at.now n

abbrev pub path_text : Path → List ℕ
path_text = fold-Path (List ℕ) path_step
