use Rattle.std.proofs.Common.{ap}
use Rattle.std.specs.Prelude.{option_map}
use Rattle.endpoint_streams.specs.Streams.{query_for}
use Rattle.subscriptions.specs.Live.{query_at}
use Rattle.subscriptions.proofs.InUse.{all_in_use}
use Rattle.subscriptions.proofs.subscribers.Subscribers.rows_in_use_are_those_of_queries.Goals as goal

pub returns : goal.returns
returns g c = λ config limits held covers all.
    let self = c.args.self.now in
    all_in_use g.V.QueryViews.kept_query covers g.met.V.QueryViews.same config held (λ id. query_at id self.live.subs) (λ id. option_map query_for (g.E.EndpointStreams.key_of self.endpoints id)) (g.V.QueryViews.query_of self.views)
    (λ id. ap (option_map query_for) (all.streamed.opened id)) all.kept (g.E.EndpointStreams.users self.endpoints) (g.V.QueryViews.users self.views)
    (g.met.E.EndpointStreams.in_use self.endpoints config limits held all.endpoints) (g.met.V.QueryViews.in_use self.views config held all.views)
