use Rattle.std.proofs.Common.{◌≡◌, ◌++◌, take}
use Rattle.std.specs.List.{flat_map}
use Rattle.mark_rules.specs.Marks.{marks_of}
use Rattle.mark_rules.proofs.object_marks.add_all_marks.Given as goal

-- the marks of the objects so far are added
abbrev pub invariant-loop-object : goal.invariant-loop-object
invariant-loop-object l = l.marks ≡ l.initial.marks ++ flat_map marks_of (take l.object-index l.objects)
