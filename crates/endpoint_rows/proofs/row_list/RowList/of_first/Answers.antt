use Rattle.std.proofs.Common.{subst, sym}
use Rattle.endpoint_rows.specs.Kept.{Rises}
use Rattle.endpoint_rows.proofs.Found.{first_rises}
use Rattle.endpoint_rows.proofs.row_list.RowList.of_first.Goals as goal

pub invariant_of-result : goal.invariant_of-result
invariant_of-result c = subst Rises (sym c.in_ok-keep_first.ensures.ok) (first_rises _)
