use Rattle.std.proofs.Common.{ap, ◌∙◌}
use Rattle.endpoint_streams.specs.Streams.{endpoints_at}
use Rattle.subscriptions.proofs.subscribers.Subscribers.endpoints.Goals as goal

pub returns : goal.returns
returns g c = λ config limits held all.
    c.endpoints.ensures config limits held all.endpoints ∙ ap (endpoints_at config held) (all.streamed.opened c.args.id.0)
