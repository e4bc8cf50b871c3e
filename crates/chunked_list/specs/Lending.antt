-- What becomes of a list once a borrow of an item ends.
use Rattle.std.specs.Prelude.{ℕ, List, set}
use Rattle.std.specs.Borrow.{Fml, LendsIf, MutBor, RattleType}
use Rattle.std.specs.declared.option.Option.{Option}
use Rattle.chunked_list.specs.contracts.list.ChunkedList.{the_row}

-- the list has, at the index, the last item written through r, and stays at `None`
abbrev pub lends_item : (T : RattleType) → MutBor (List T.Denot) → ℕ → Option (MutBor T.Denot) → Fml
lends_item T l index r = LendsIf (the_row T) T l r (set l.now index) l.now
