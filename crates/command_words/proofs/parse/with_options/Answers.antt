use Rattle.clap.specs.Words.{app_of}
use Rattle.command_words.proofs.Tables.{with_options_added}
use Rattle.command_words.proofs.parse.with_options.Goals as goal

pub loop-argument-preserved : goal.loop-argument-preserved
loop-argument-preserved c =
    with_options_added (app_of c.args.command) (app_of c.loop-argument.made) (app_of c.in_ok-made.made) c.args.options.now c.loop-argument.argument-index _ c.loop-argument-test.true c.loop-argument.invariant c.in_ok-made.ensures
