use Rattle.std.proofs.Common.{[], sym, subst}
use Rattle.session_core.specs.States.{Cuts}
use Rattle.session_core.proofs.StateSteps.{cuts_nothing, to_feed}
use Rattle.session_core.proofs.steps.begin_feed.Goals as goal

pub returns : goal.returns
returns c config given next b =
    let cuts = subst (Cuts c.args.limits.now.line []) (sym c.new.ensures) (cuts_nothing c.args.limits.now.line) in
    c.feed_on.ensures config given next [] cuts (to_feed config c.args.limits.now given next c.args.rest.now c.in-Ok.asks b c.in-Ok.ensures)
