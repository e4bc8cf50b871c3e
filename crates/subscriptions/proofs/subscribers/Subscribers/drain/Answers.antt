use Rattle.std.proofs.Common.{ap, refl, subst, ◌∙◌, Err, Ok}
use Rattle.feed_history.specs.Drains.{IsOrMemory}
use Rattle.subscriptions.specs.Live.{subs_of}
use Rattle.subscriptions.proofs.AllKept.{still_kept}
use Rattle.subscriptions.proofs.AllStanding.{drained_streamed, drained_view, frames_are, kept_streamed}
use Rattle.subscriptions.proofs.subscribers.Subscribers.drain.Goals as goal

pub returns-in-Ok-clause-frames : goal.returns-in-Ok-clause-frames
returns-in-Ok-clause-frames g c = λ config limits held all sub found.
    subst (λ expected. IsOrMemory expected (Ok c.in-Ok.frames))
    (frames_are config held (g.E.EndpointStreams.key_of c.args.self.now.endpoints) (g.E.EndpointStreams.shown_to c.args.self.now.endpoints) c.args.self.now.live all.streamed c.args.id.0 c.requires.streamed sub found limits)
    (c.in-Ok.ensures.frames config limits held all.endpoints)

pub returns-in-Err-clause-frames : goal.returns-in-Err-clause-frames
returns-in-Err-clause-frames g c = λ config limits held all sub found.
    subst (λ expected. IsOrMemory expected (Err c.in-Err.fault))
    (frames_are config held (g.E.EndpointStreams.key_of c.args.self.now.endpoints) (g.E.EndpointStreams.shown_to c.args.self.now.endpoints) c.args.self.now.live all.streamed c.args.id.0 c.requires.streamed sub found limits)
    (c.in-Err.ensures.frames config limits held all.endpoints)

pub returns-in-Ok-clause-shown : goal.returns-in-Ok-clause-shown
returns-in-Ok-clause-shown g c = λ config limits held all sub found.
    ap (subs_of (g.E.EndpointStreams.shown_to c.drain.new.self)) c.show_endpoints.ensures.subs
    ∙ drained_view config held (g.E.EndpointStreams.key_of c.args.self.now.endpoints) (g.E.EndpointStreams.shown_to c.args.self.now.endpoints) c.args.self.now.live all.streamed c.args.id.0 c.requires.streamed sub found
    (g.E.EndpointStreams.shown_to c.drain.new.self) c.stand_in_order.ensures (c.in-Ok.ensures.shown config limits held all.endpoints)

pub returns-in-Ok-clause-stands : goal.returns-in-Ok-clause-stands
returns-in-Ok-clause-stands g c = λ config limits held all. record {
  live = c.show_endpoints.ensures.stands config held c.requires.streamed all.live;
  streamed = drained_streamed config held (g.E.EndpointStreams.key_of c.args.self.now.endpoints) (g.E.EndpointStreams.shown_to c.args.self.now.endpoints) c.args.self.now.live all.streamed
      (g.E.EndpointStreams.key_of c.drain.new.self) (g.E.EndpointStreams.shown_to c.drain.new.self) c.show_endpoints.new.self c.args.id.0 c.show_endpoints.ensures.subs c.show_endpoints.ensures.due
      c.in-Ok.ensures.keys (c.in-Ok.ensures.shown config limits held all.endpoints);
  endpoints = c.in-Ok.ensures.stands config limits held all.endpoints;
  kept = still_kept g.V.QueryViews.kept_query (g.V.QueryViews.query_of c.args.self.now.views) (g.V.QueryViews.query_of c.args.self.now.views) c.args.self.now.live c.show_endpoints.new.self all.kept c.show_endpoints.ensures.subs (λ id. refl);
  views = all.views;
}

pub returns-in-Err-clause-stands : goal.returns-in-Err-clause-stands
returns-in-Err-clause-stands g c = λ config limits held all. record {
  live = all.live;
  streamed = kept_streamed config held (g.E.EndpointStreams.key_of c.args.self.now.endpoints) (g.E.EndpointStreams.shown_to c.args.self.now.endpoints) c.args.self.now.live all.streamed
      (g.E.EndpointStreams.key_of c.drain.new.self) (g.E.EndpointStreams.shown_to c.drain.new.self) c.args.self.now.live c.in-Err.ensures.keys c.in-Err.ensures.kept refl;
  endpoints = c.in-Err.ensures.stands config limits held all.endpoints;
  kept = all.kept;
  views = all.views;
}

pub returns-in-Err-clause-kept : goal.returns-in-Err-clause-kept
returns-in-Err-clause-kept g c = (λ i. subs_of (λ n. c.in-Err.ensures.kept n i) c.args.self.now.live.subs)
