use Rattle.std.proofs.Common.{ap, refl, ◌∙◌}
use Rattle.subscriptions.specs.Live.{subs_of}
use Rattle.subscriptions.proofs.AllKept.{shown_kept}
use Rattle.subscriptions.proofs.AllStanding.{viewed_streamed}
use Rattle.subscriptions.proofs.Streamed.{viewed_shown}
use Rattle.subscriptions.proofs.subscribers.Subscribers.show.Goals as goal

pub returns-clause-shown : goal.returns-clause-shown
returns-clause-shown g c =
    let shown = g.E.EndpointStreams.shown_to c.args.self.now.endpoints in
    ap (subs_of shown) c.show.ensures.subs ∙ viewed_shown c.args.id.0 c.args.view shown c.args.self.now.live.subs c.requires.other

pub returns-clause-stands : goal.returns-clause-stands
returns-clause-stands g c = λ config limits held is all. record {
  live = c.show.ensures.stands config held is all.live;
  streamed = viewed_streamed config held (g.E.EndpointStreams.key_of c.args.self.now.endpoints) (g.E.EndpointStreams.shown_to c.args.self.now.endpoints) c.args.self.now.live c.show.new.self all.streamed
      c.args.id.0 c.args.view c.requires.other c.show.ensures.at c.show.ensures.due;
  endpoints = all.endpoints;
  kept = shown_kept g.V.QueryViews.kept_query (g.V.QueryViews.query_of c.args.self.now.views) (g.V.QueryViews.query_of c.args.self.now.views) c.args.self.now.live c.show.new.self all.kept c.args.id.0 c.args.view c.show.ensures.at (λ id. refl);
  views = all.views;
}
