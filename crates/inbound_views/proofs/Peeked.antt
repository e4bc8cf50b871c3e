-- Rows that are peeked at, and ports that are.
use Rattle.std.proofs.Common.{◌≡◌, ap, ◌∙◌}
use Rattle.view_types.specs.Objects.{ObjectMap}
use Rattle.row_table.specs.IndexRows.{Filter}

-- a row of an index that is this one
pub peeked_is : {Key Row : Type 0} (filter other : Filter Key Row) → filter ≡ other → (held : ObjectMap) (key : Key) (row : Row) → row ≡ filter.row_of held key → row ≡ other.row_of held key
peeked_is {Key} {Row} filter other same held key row is = is ∙ ap (λ (f : Filter Key Row). f.row_of held key) same
