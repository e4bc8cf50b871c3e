use Rattle.std.proofs.Common.{◌≡◌, ◌++◌, take}
use Rattle.std.specs.List.{flat_map}
use Rattle.row_reads.specs.References.{references_at}
use Rattle.row_reads.proofs.at_mark.add_found.Given as goal

-- the references of the objects at the keys so far are added
abbrev pub invariant-loop-key : goal.invariant-loop-key
invariant-loop-key g l = l.marks ≡ l.initial.marks ++ flat_map (references_at l.store.objects l.sort) (take l.key-index l.keys)
