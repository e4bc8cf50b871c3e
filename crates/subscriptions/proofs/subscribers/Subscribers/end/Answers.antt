use Rattle.std.proofs.Common.{ap, ◌∙◌, sym, None, eq-eqb, cond, refl}
use Rattle.subscriptions.specs.Live.{sub_at, subs_of}
use Rattle.subscriptions.proofs.AllKept.{ended_kept}
use Rattle.subscriptions.proofs.AllStanding.{ended_streamed}
use Rattle.subscriptions.proofs.Streamed.{ended_shown}
use Rattle.subscriptions.proofs.subscribers.Subscribers.end.Goals as goal

pub returns-clause-shown : goal.returns-clause-shown
returns-clause-shown g c = λ config limits held stands.
    let id = c.args.id.0 in
    let subs = c.args.self.now.live.subs in
    let none = ap (sub_at id) (sym c.end.ensures.subs) ∙ c.end.ensures.at id ∙ ap (λ b. cond b None (sub_at id subs)) (eq-eqb id id refl) in
    ap (subs_of (g.E.EndpointStreams.shown_to c.close.new.self)) c.end.ensures.subs
    ∙ ended_shown id (g.E.EndpointStreams.shown_to c.args.self.now.endpoints) (g.E.EndpointStreams.shown_to c.close.new.self) (c.close.ensures.shown config limits held stands) subs none

pub returns-clause-stands : goal.returns-clause-stands
returns-clause-stands g c = λ config limits held all. record {
  live = c.end.ensures.stands config held all.live;
  streamed = ended_streamed config held (g.E.EndpointStreams.key_of c.args.self.now.endpoints) (g.E.EndpointStreams.shown_to c.args.self.now.endpoints) c.args.self.now.live all.streamed
      (g.E.EndpointStreams.key_of c.close.new.self) (g.E.EndpointStreams.shown_to c.close.new.self) c.end.new.self c.args.id.0 c.end.ensures.at c.end.ensures.due c.close.ensures.keys
      (c.close.ensures.shown config limits held all.endpoints);
  endpoints = c.close.ensures.stands config limits held all.endpoints;
  kept = ended_kept g.V.QueryViews.kept_query (g.V.QueryViews.query_of c.args.self.now.views) (g.V.QueryViews.query_of c.close-2.new.self) c.args.self.now.live c.end.new.self all.kept c.args.id.0 c.end.ensures.at c.close-2.ensures.queries;
  views = c.close-2.ensures.stands config held all.views;
}
