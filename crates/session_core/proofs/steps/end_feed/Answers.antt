use Rattle.session_core.proofs.StateSteps.{feed_ends}
use Rattle.session_core.proofs.steps.end_feed.Goals as goal

pub returns : goal.returns
returns c config given f = feed_ends config c.args.limits.now given c.args.feed c.in-Ok.asks f c.in-Ok.ensures
