-- The map that a list of pairs is seen as.
use Rattle.std.specs.Prelude.{List}
use Rattle.std.specs.BTreeMap.{BTreeMap}
use Rattle.std_collections.specs.Layout.BTreeMap.{btree_map}
use mathlib.Core.Logic.{inl}

-- the map with these entries, in no tree
abbrev pub map_of : {K X : Type 0} → List (K × X) → BTreeMap K X
map_of es = btree_map es (inl tt)
