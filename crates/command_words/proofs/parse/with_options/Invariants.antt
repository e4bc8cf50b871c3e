use Rattle.std.proofs.Common.{◌≡◌, take}
use Rattle.clap.specs.Words.{app_of}
use Rattle.command_words.specs.Apps.{with_options}
use Rattle.command_words.proofs.parse.with_options.Given as goal

-- the options so far are added
abbrev pub invariant-loop-argument : goal.invariant-loop-argument
invariant-loop-argument l = app_of l.made ≡ with_options (app_of l.fn.command) (take l.argument-index l.options)
