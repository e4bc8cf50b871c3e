-- The order of marks is that of the definitions.
use Rattle.std.proofs.Common.{Ordering, subst}
use Rattle.mark_rules.proofs.MarkCmp.{mark_cmp_is}
use Rattle.mark_rules.specs.Marks.{mark_cmp}
use Rattle.view_types.specs.contracts.mark.MarkOrd as mark_order
use Rattle.view_types.specs.declared.mark.Mark.{Mark}

pub by_marks : (P : (Mark → Mark → Ordering) → Type 0) → P mark_order.TheImpl.cmp-value.it → P mark_cmp
by_marks P p = subst P (λ i a b. mark_cmp_is a b i) p
