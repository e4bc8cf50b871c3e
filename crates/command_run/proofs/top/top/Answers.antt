use Rattle.feed_history.specs.KnownPatterns.{known_of}
use Rattle.replay_core.proofs.Fronts.{none_said, nothing_written}
use Rattle.feed_history.proofs.Marks.{at_most}
use Rattle.feed_history.proofs.Optional.{extends_same}
use Rattle.command_run.proofs.top.top.Goals as goal

pub returns-in-Err-Memory-clause-front : goal.returns-in-Err-Memory-clause-front
returns-in-Err-Memory-clause-front g c =
    let patterns = c.args.patterns.now in
    let known = known_of (g.P.Patterns.tells patterns) (g.P.Patterns.refuses patterns) (g.P.Patterns.refusals patterns) (g.P.Patterns.refusals patterns) in
    λ config asks. nothing_written config c.args.limits.now known (g.H.Machine.state c.args.hub.now) (g.S.Source.left c.args.input.now) (g.K.Sink.held c.args.out.now) (at_most _)

pub returns-in-Err-Memory-clause-said_front : goal.returns-in-Err-Memory-clause-said_front
returns-in-Err-Memory-clause-said_front g c =
    λ config asks. none_said config c.args.limits.now _ _ (g.S.Source.left c.args.input.now) (g.K.Sink.held c.args.out.now) (extends_same _)
