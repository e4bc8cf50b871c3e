use Rattle.history_laws.proofs.AtKeys.{held_at_keys}
use Rattle.history_laws.proofs.laws.held_at_their_keys.Goals as goal

pub returns : goal.returns
returns c = held_at_keys
