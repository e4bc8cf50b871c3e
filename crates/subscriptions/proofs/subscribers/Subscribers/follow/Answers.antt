use Rattle.std.specs.Prelude.{option_map}
use Rattle.std.proofs.Common.{◌≡◌, ◌||◌, ℕ, ap, refl, subst, sym, ◌∙◌}
use Rattle.mark_graph.specs.RowMarks.{has_row}
use Rattle.endpoint_streams.specs.Streams.{is_met, query_for}
use Rattle.row_views.specs.Queries.{reads_one}
use Rattle.subscriptions.specs.Live.{kept_at, key_at, query_at, subs_of}
use Rattle.subscriptions.specs.Standing.{AreLive, MakesDue}
use Rattle.subscriptions.proofs.AllFollowed.{followed, streamed_live, viewed_live}
use Rattle.subscriptions.proofs.AllKept.{still_kept}
use Rattle.subscriptions.proofs.Costs.{follows_both}
use Rattle.subscriptions.proofs.MadeDue.{due_more}
use Rattle.subscriptions.proofs.subscribers.Subscribers.follow.Goals as goal

pub returns-clause-follows : goal.returns-clause-follows
returns-clause-follows g c = λ config limits before event covers is all.
    let marks = c.args.change.now.marks in
    let old = c.args.self.now.live in
    let mid = c.make_due.new.self in
    let new = c.make_due-2.new.self in
    let kept_query = g.V.QueryViews.kept_query in
    let here = c.args.self.now.endpoints in
    let then = c.follow-2.new.self in
    let keys = g.E.EndpointStreams.key_of in
    let viewed = c.as_slice.result.now in
    let streamed = c.as_slice-2.result.now in
    let read : (n : ℕ) → has_row n viewed ≡ reads_one config before marks (kept_at kept_query n old.subs) =
    λ n. ap (has_row n) c.as_slice.ensures ∙ c.in_ok-viewed.ensures.touched config before all.views n ∙ ap (reads_one config before marks) (all.kept n) in
    let touched : (n : ℕ) → has_row n streamed ≡ is_met before marks (keys here n) = λ n. ap (has_row n) c.as_slice-2.ensures ∙ c.in_ok-streamed.ensures.touched config limits before all.endpoints is.leads n in
    let stays = c.in_ok-streamed.ensures.shown config limits before all.endpoints is.leads in
    let first : AreLive viewed old = viewed_live config before marks old viewed kept_query read in
    let second : AreLive streamed mid =
    streamed_live config before marks mid streamed (λ n. touched n ∙ ap (is_met before marks) (all.streamed.opened n ∙ ap (key_at n) (sym c.make_due.ensures.subs))) in
    let made : MakesDue (λ n. has_row n viewed || has_row n streamed) old new =
    due_more (λ n. has_row n viewed) (λ n. has_row n streamed) (λ n. has_row n viewed || has_row n streamed) old mid new (c.in_ok-make_due.ensures.due first) (c.in_ok-make_due-2.ensures.due second) (λ n. refl) in
    let subs = c.make_due-2.ensures.subs ∙ c.make_due.ensures.subs in
    let done = followed c.endpoints_stay.ensures c.untouched_queries_stay.ensures kept_query covers g.met.V.QueryViews.same config before c.args.store.now.objects marks event is old new all.live
    (keys here) (keys then) (g.E.EndpointStreams.shown_to here) (g.E.EndpointStreams.shown_to then) all.streamed c.in_ok-streamed.ensures.keys stays viewed streamed read touched made subs in
    record {
      due = done.due;
      shown = (λ i. subs_of (λ n. stays n i) (subs i));
      stands = record {
        live = done.live;
        streamed = done.streamed;
        endpoints = subst (λ now. g.E.EndpointStreams.stands then config limits now) is.objects (c.in_ok-streamed.ensures.stands config limits before all.endpoints is.leads);
        kept = still_kept kept_query (g.V.QueryViews.query_of c.args.self.now.views) (g.V.QueryViews.query_of c.follow.new.self) old new all.kept subs c.in_ok-viewed.ensures.queries;
        views = subst (λ now. g.V.QueryViews.stands c.follow.new.self config now) is.objects (c.in_ok-viewed.ensures.stands config before all.views is.leads);
      };
    }

pub returns-clause-steps : goal.returns-clause-steps
returns-clause-steps g c = λ config limits before event covers is all.
    let self = c.args.self.now in
    let held = c.args.store.now.objects in
    follows_both g.V.QueryViews.kept_query covers g.met.V.QueryViews.same config (λ id. query_at id self.live.subs) (g.V.QueryViews.query_of self.views) (λ id. option_map query_for (g.E.EndpointStreams.key_of self.endpoints id))
    all.kept (λ id. ap (option_map query_for) (all.streamed.opened id)) c.args.change.now.marks before held c.args.steps.now c.follow.new.steps c.follow-2.new.steps
    (c.in_ok-viewed.ensures.steps config before all.views is.leads) (c.in_ok-streamed.ensures.steps config limits before all.endpoints is.leads)
