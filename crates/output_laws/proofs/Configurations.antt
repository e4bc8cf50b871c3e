-- The configuration that words give is lawful.
use Rattle.std.proofs.Common.{◌≡◌, ℕ, List, Some}
use Rattle.command_words.specs.Commands.{command_in}
use Rattle.command_words.specs.Configured.{ConfigIs}
use Rattle.command_words.specs.declared.command.Command.{Command}
use Rattle.command_words.proofs.Configured.{given_config_is}
use Rattle.feed_history.specs.Sendable.{IsLawfulConfig}

pub words_are_lawful : (words : List (List ℕ)) (command : Command) → command_in words ≡ Some command → ConfigIs IsLawfulConfig command
words_are_lawful = given_config_is IsLawfulConfig (λ config domain trust ns. record { cluster_domain = domain; control_ns = ns; trust_domain = trust })
