use Rattle.std.proofs.Common.{ap, ◌∙◌, arith}
use Rattle.subscriptions.specs.Live.{subs_of}
use Rattle.subscriptions.proofs.AllKept.{added_kept}
use Rattle.subscriptions.proofs.AllStanding.{added_streamed}
use Rattle.subscriptions.proofs.Costs.{all_costs}
use Rattle.subscriptions.proofs.Streamed.{added_shown, none_below}
use Rattle.subscriptions.proofs.subscribers.Subscribers.add.Goals as goal

pub returns-clause-shown : goal.returns-clause-shown
returns-clause-shown g c = λ config limits stands.
    ap (subs_of (g.E.EndpointStreams.shown_to c.open_stream.new.endpoints)) c.in_ok-add.ensures.subs
    ∙ added_shown c.args.id c.args.query (g.E.EndpointStreams.shown_to c.args.self.now.endpoints) (g.E.EndpointStreams.shown_to c.open_stream.new.endpoints) (c.in_ok-open_stream.ensures.shown config limits stands)
    c.args.self.now.live.subs (none_below c.args.id.0 c.args.self.now.live.subs c.requires.below)

pub returns-clause-stands : goal.returns-clause-stands
returns-clause-stands g c = λ config limits all.
    record {
      live = c.in_ok-add.ensures.stands config c.args.store.now.objects all.live;
      streamed = added_streamed config c.args.store.now.objects (g.E.EndpointStreams.key_of c.args.self.now.endpoints) (g.E.EndpointStreams.shown_to c.args.self.now.endpoints) c.args.self.now.live all.streamed
          (g.E.EndpointStreams.key_of c.open_stream.new.endpoints) (g.E.EndpointStreams.shown_to c.open_stream.new.endpoints) c.add.new.self
          c.args.id c.args.query c.in_ok-add.ensures.at c.in_ok-add.ensures.due c.in_ok-open_stream.ensures.keys (c.in_ok-open_stream.ensures.shown config limits all.endpoints);
      endpoints = c.in_ok-open_stream.ensures.stands config limits all.endpoints;
      kept = added_kept g.V.QueryViews.kept_query (g.V.QueryViews.query_of c.args.self.now.views) (g.V.QueryViews.query_of c.open.new.self) c.args.self.now.live c.add.new.self all.kept
          c.args.id c.args.query c.in_ok-add.ensures.at c.in_ok-open.ensures.queries;
      views = c.in_ok-open.ensures.stands config all.views;
    }

pub returns-clause-steps : goal.returns-clause-steps
returns-clause-steps g c = λ config limits covers all.
    let first = c.open_stream.ensures.steps in
    let second = c.open.ensures.steps config all.views in
    let both = all_costs g.V.QueryViews.kept_query covers g.met.V.QueryViews.same config c.args.query c.args.store.now.objects in
    omega (arith, first, second, both)

pub returns-in_err-open-clause-steps : goal.returns-in_err-open-clause-steps
returns-in_err-open-clause-steps g c = λ config limits covers all.
    let first = c.open_stream.ensures.steps in
    let second = c.open.ensures.steps config all.views in
    let both = all_costs g.V.QueryViews.kept_query covers g.met.V.QueryViews.same config c.args.query c.args.store.now.objects in
    omega (arith, first, second, both)

pub returns-in_err-add-clause-steps : goal.returns-in_err-add-clause-steps
returns-in_err-add-clause-steps g c = λ config limits covers all.
    let first = c.open_stream.ensures.steps in
    let second = c.open.ensures.steps config all.views in
    let both = all_costs g.V.QueryViews.kept_query covers g.met.V.QueryViews.same config c.args.query c.args.store.now.objects in
    omega (arith, first, second, both)

pub returns-in_err-open_stream-clause-steps : goal.returns-in_err-open_stream-clause-steps
returns-in_err-open_stream-clause-steps g c = λ config limits covers all.
    let first = c.open_stream.ensures.steps in
    let both = all_costs g.V.QueryViews.kept_query covers g.met.V.QueryViews.same config c.args.query c.args.store.now.objects in
    omega (arith, first, both)
