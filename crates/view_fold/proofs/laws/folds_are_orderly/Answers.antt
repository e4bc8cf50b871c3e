use Rattle.view_fold.proofs.Orderly.{folds_are_orderly}
use Rattle.view_fold.proofs.laws.folds_are_orderly.Goals as goal

pub returns : goal.returns
returns c = folds_are_orderly
