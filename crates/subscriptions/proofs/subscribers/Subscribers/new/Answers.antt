use Rattle.subscriptions.proofs.AllKept.{none_kept}
use Rattle.subscriptions.proofs.AllStanding.{new_streamed}
use Rattle.subscriptions.proofs.subscribers.Subscribers.new.Goals as goal

pub returns-clause-stands : goal.returns-clause-stands
returns-clause-stands g c = λ config limits held given shown. record {
  live = c.new.ensures.stands config held;
  streamed = new_streamed config held (g.E.EndpointStreams.key_of c.args.endpoints) (g.E.EndpointStreams.shown_to c.args.endpoints) c.new.result c.new.ensures.subs c.requires.closed;
  endpoints = given;
  kept = none_kept g.V.QueryViews.kept_query (g.V.QueryViews.query_of c.args.views) c.new.result c.new.ensures.subs c.requires.unkept;
  views = shown;
}
