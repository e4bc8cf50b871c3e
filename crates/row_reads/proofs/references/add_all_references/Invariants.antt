use Rattle.std.proofs.Common.{◌≡◌, ◌++◌, take}
use Rattle.std.specs.List.{flat_map}
use Rattle.row_reads.specs.References.{references}
use Rattle.row_reads.proofs.references.add_all_references.Given as goal

-- the marks of what the objects so far refer to are added
abbrev pub invariant-loop-object : goal.invariant-loop-object
invariant-loop-object l = l.marks ≡ l.initial.marks ++ flat_map (λ o. references l.sort o.now) (take l.object-index l.objects)
