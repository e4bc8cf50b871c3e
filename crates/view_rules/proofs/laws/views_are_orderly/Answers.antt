use Rattle.view_rules.proofs.OrderlyViews.{views_are_orderly}
use Rattle.view_rules.proofs.laws.views_are_orderly.Goals as goal

pub returns : goal.returns
returns c = views_are_orderly
