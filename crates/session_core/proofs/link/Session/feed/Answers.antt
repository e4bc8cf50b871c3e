use Rattle.std.proofs.Common.{rules}
use Rattle.session_core.specs.Pieces.{given_next}
use Rattle.session_core.specs.Phases.{phase_of}
use Rattle.session_core.specs.States.{IsFault}
use Rattle.session_core.proofs.PieceAnswers.{answers_err}
use Rattle.session_core.proofs.link.Session.feed.Goals as goal

pub returns-in-Err-clause-answers : goal.returns-in-Err-clause-answers
returns-in-Err-clause-answers c config limits given stands =
    let is : IsFault c.in-Err.fault (phase_of config limits (given_next given c.args.piece.now).bytes) = search rules in
    answers_err config limits given c.args.piece.now c.in-Err.fault is
