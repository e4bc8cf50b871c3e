-- What becomes of a map once a borrow of a value ends.
use Rattle.std.specs.Prelude.{◌≡◌}
use Rattle.std.specs.BTreeMap.{BTreeMap, WritesThrough}
use Rattle.std.specs.Borrow.{Fml, LendsSo, MutBor, RattleType}
use Rattle.std.specs.declared.option.Option.{Option}
use Rattle.std_collections.specs.BTreeMap.Lent.{OrdMembers}
use Rattle.chunked_map.specs.contracts.map.ChunkedMap.{the_row}

-- the row of a map
abbrev pub map_row : (K V : RattleType) → OrdMembers K.Denot → RattleType
map_row K V g = the_row K V (record { cmp = g.cmp }) (record { eq = g.eq }) (record { partial_cmp = g.partial_cmp })

-- the map behind m has, at the key, the last value written through r, and is unchanged if r is `None`
abbrev pub follows_get : (K V : RattleType) (g : OrdMembers K.Denot) → MutBor (BTreeMap K.Denot V.Denot) → K.Denot → Option (MutBor V.Denot) → Fml
follows_get K V g m key r = LendsSo (map_row K V g) V m r (λ n w. WritesThrough g.cmp (g.cmp key) m.now w n) (λ n. n ≡ m.now)
