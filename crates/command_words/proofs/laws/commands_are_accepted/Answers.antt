use Rattle.command_words.proofs.Matched.{command_is_accepted}
use Rattle.command_words.proofs.laws.commands_are_accepted.Goals as goal

pub returns : goal.returns
returns c = command_is_accepted
