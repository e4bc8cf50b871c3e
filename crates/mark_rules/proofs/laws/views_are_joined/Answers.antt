use Rattle.mark_rules.proofs.ViewJoin as proved
use Rattle.mark_rules.proofs.laws.views_are_joined.Goals as goal

pub returns : goal.returns
returns c = proved.views_are_joined
