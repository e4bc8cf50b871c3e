use Rattle.mark_rules.proofs.Profiles as proved
use Rattle.mark_rules.proofs.laws.profiles_stay.Goals as goal

pub returns : goal.returns
returns c = proved.profiles_stay
