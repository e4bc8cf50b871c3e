use Rattle.std.proofs.Common.{◌∙◌}
use Rattle.mark_rules.proofs.MarkCmp.{mark_cmp_is}
use Rattle.view_types.specs.declared.mark.Mark.TheVariants.{Obj}
use Rattle.slice_marks.proofs.keys.compare.Goals as goal

pub returns : goal.returns
returns c = c.cmp.ensures ∙ mark_cmp_is (Obj c.args.a.now) (Obj c.args.b.now)
