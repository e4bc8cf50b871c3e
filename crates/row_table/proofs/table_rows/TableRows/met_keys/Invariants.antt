use Rattle.std.proofs.Common.{◌≡◌, take}
use Rattle.row_table.specs.TableRows.{keys_of}
use Rattle.row_table.proofs.table_rows.TableRows.met_keys.Given as goal

-- the keys of the numbers so far
abbrev pub invariant-loop-number : goal.invariant-loop-number
invariant-loop-number g l = l.keys ≡ keys_of l.self.rows (take l.number-index l.number-items)
