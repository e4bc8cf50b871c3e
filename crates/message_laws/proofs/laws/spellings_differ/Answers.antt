use Rattle.message_laws.proofs.Round.{told_apart}
use Rattle.message_laws.proofs.laws.spellings_differ.Goals as goal

pub returns : goal.returns
returns c = λ one other fits other_fits method same. told_apart one other fits other_fits method same
