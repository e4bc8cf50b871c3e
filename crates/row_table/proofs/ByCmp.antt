-- The order by which rows stand at marks is that of the definitions.
use Rattle.std.proofs.Common.{◌≡◌, subst}
use Rattle.std.specs.declared.cmp.Ordering.{Ordering}
use Rattle.view_types.specs.contracts.mark.MarkOrd as order
use Rattle.view_types.specs.declared.mark.Mark.{Mark}
use Rattle.mark_rules.specs.Marks.{mark_cmp}
use Rattle.mark_rules.proofs.MarkCmp.{mark_cmp_is}

cmp_is : order.TheImpl.cmp-value.it ≡ mark_cmp
cmp_is = λ i a b. mark_cmp_is a b i

pub by_mark_cmp : (P : (Mark → Mark → Ordering) → Type 0) → P order.TheImpl.cmp-value.it → P mark_cmp
by_mark_cmp P p = subst P cmp_is p
