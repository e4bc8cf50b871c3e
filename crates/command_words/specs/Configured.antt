-- The configuration of a command.
use Rattle.std.specs.Prelude.{⊤}
use Rattle.view_types.specs.declared.config.Config.{Config}
use Rattle.command_words.specs.declared.command.Command.{Command}
use Rattle.command_words.specs.declared.command.Command.TheVariants.{Replay, Diagnose, Fold, Sample, Serve}

-- P of the command's configuration, if it has one
abbrev pub ConfigIs : (Config → Type 0) → Command → Type 0
ConfigIs P (Replay config) = P config
ConfigIs P (Diagnose id query config) = P config
ConfigIs P (Fold id method) = ⊤
ConfigIs P (Sample n config) = P config
ConfigIs P (Serve address config) = P config
