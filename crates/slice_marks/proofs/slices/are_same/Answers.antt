use Rattle.std.proofs.Common.{◌≡◌, Ordering, List, sym, subst}
use Rattle.std.specs.Cmp.Lexicographic.{slice_cmp}
use Rattle.std.specs.FinMap.{slice_cmp-IsAntisymmetric}
use Rattle.std.specs.declared.cmp.Ordering.TheVariants.{Equal}
use Rattle.mark_rules.proofs.MarkCmp.{mark_cmp_is}
use Rattle.mark_rules.proofs.MarkOrder.{marks_exact}
use Rattle.view_types.specs.contracts.mark.MarkOrd as mark_order
use Rattle.view_types.specs.declared.mark.Mark.{Mark}
use Rattle.slice_marks.proofs.slices.are_same.Goals as goal

exact : (a b : List Mark) → slice_cmp mark_order.TheImpl.cmp-value.it a b ≡ Equal → a ≡ b
exact a b e = slice_cmp-IsAntisymmetric marks_exact a b (subst (λ (cmp : Mark → Mark → Ordering). slice_cmp cmp a b ≡ Equal) (λ i m n. mark_cmp_is m n i) e)

pub returns-in-Equal : goal.returns-in-Equal
returns-in-Equal c = λ e. exact c.args.marks.now c.args.before.now (sym c.in-Equal.ensures)
