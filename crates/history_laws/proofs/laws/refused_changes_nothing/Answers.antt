use Rattle.history_laws.proofs.Telling.{refused_changes_nothing}
use Rattle.history_laws.proofs.laws.refused_changes_nothing.Goals as goal

pub returns : goal.returns
returns c = refused_changes_nothing
