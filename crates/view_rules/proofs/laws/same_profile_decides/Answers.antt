use Rattle.view_rules.proofs.SameProfile.{profile_decides}
use Rattle.view_rules.proofs.laws.same_profile_decides.Goals as goal

pub returns : goal.returns
returns c = profile_decides
