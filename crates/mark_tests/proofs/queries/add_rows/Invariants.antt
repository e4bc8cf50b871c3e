use Rattle.std.proofs.Common.{◌≡◌, ◌++◌, false, take}
use Rattle.std.specs.List.{flat_map}
use Rattle.mark_rules.specs.Reads.{reads}
use Rattle.row_reads.specs.References.{HaveSame}
use Rattle.mark_tests.proofs.queries.add_rows.Given as goal

-- what the rows so far read is added
abbrev pub invariant-loop-row : goal.invariant-loop-row
invariant-loop-row g l = l.reader.store.now.spent ≡ false → HaveSame l.marks.items (l.initial.marks.items ++ flat_map (reads l.reader.config.now l.reader.store.now.objects) (take l.row-index l.rows))
