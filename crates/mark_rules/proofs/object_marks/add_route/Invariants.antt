use Rattle.std.proofs.Common.{◌≡◌, ◌++◌, map, take}
use Rattle.mark_rules.specs.Marks.{parent_mark}
use Rattle.mark_rules.proofs.object_marks.add_route.Given as goal

-- the marks of the parents so far are added
abbrev pub invariant-loop-parent : goal.invariant-loop-parent
invariant-loop-parent l = l.marks ≡ l.initial.marks ++ map (parent_mark l.route.meta.ns) (take l.parent-index l.route.parents)
