use Rattle.session_core.proofs.StateSteps.{feed_goes}
use Rattle.session_core.proofs.steps.feed_on.Goals as goal

pub returns : goal.returns
returns c config given next text cuts t = feed_goes config c.args.limits.now given next text c.args.piece.now c.args.feed c.take.new.self c.args.asks c.take.new.asks cuts t c.in-Ok.ensures.part c.in-Ok.ensures.takes
