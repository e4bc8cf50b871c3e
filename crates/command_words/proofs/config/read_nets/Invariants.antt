use Rattle.std.proofs.Common.{◌≡◌, length}
use Rattle.command_words.specs.Settings.{nets_of}
use Rattle.command_words.proofs.Nets.{joined}
use Rattle.command_words.proofs.config.read_nets.Given as goal

abbrev pub invariant-loop-piece : goal.invariant-loop-piece
invariant-loop-piece l = nets_of l.fn.text ≡ joined l.nets (nets_of l.rest)

abbrev pub decreases-loop-piece : goal.decreases-loop-piece
decreases-loop-piece l = length l.rest
