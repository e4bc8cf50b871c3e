-- The row of a peeked value.
use Rattle.row_table.specs.declared.peeked.Peeked.{Peeked}
use Rattle.row_table.specs.declared.peeked.Peeked.TheVariants.{Kept, Made}

-- the row, either kept or made
abbrev pub peeked_row : {Row : Type 0} → Peeked Row → Row
peeked_row (Kept row) = row.now
peeked_row (Made row) = row
