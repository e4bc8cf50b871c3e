use Rattle.history_laws.proofs.Sendable.{usual_is_lawful}
use Rattle.history_laws.proofs.laws.usual_config_is_lawful.Goals as goal

pub returns : goal.returns
returns c = usual_is_lawful
