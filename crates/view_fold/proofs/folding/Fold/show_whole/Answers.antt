use Rattle.std.proofs.Common.{sym, subst}
use Rattle.view_fold.proofs.Folded.{AuthzRises, sorted_rises}
use Rattle.view_fold.proofs.folding.Fold.show_whole.Goals as goal

pub invariant_of-self : goal.invariant_of-self
invariant_of-self c = record { rows_rise = subst AuthzRises (sym c.in_ok-in_order.ensures) (sorted_rises c.args.view) }
