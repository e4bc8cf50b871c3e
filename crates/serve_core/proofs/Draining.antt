-- A drain of a link is the step of its turn.
use Rattle.std.proofs.Common.{◌≡◌, ◌≢◌, ℕ, ◌+◌, ◌≤◌, Bool, true, false, not, ◌&&◌, cond, List, [], ◌∷◌, ◌++◌, length, Option, Some, None, Ok, Err, refl, sym, ap, ◌∙◌, subst, append-nil, arith, eq-eqb}
use Rattle.std.specs.Prelude.{Result, OnOk, is_some, option_map}
use Rattle.mesh_base.specs.declared.memory.Memory.{Memory}
use Rattle.mesh_base.specs.declared.limits.Limits.{Limits}
use Rattle.mesh_base.specs.declared.sub_id.SubId.{SubId}
use Rattle.mesh_links.specs.Calls.{Continues, close_made, is_open_in, last_in}
use Rattle.mesh_links.specs.declared.call.LinkCall.{LinkCall}
use Rattle.mesh_links.specs.declared.call.LinkCall.TheVariants as calls
use Rattle.view_types.specs.declared.config.Config.{Config}
use Rattle.view_types.specs.declared.query.Query.{Query}
use Rattle.feed_history.specs.KnownPatterns.{known_of}
use Rattle.route_match.specs.Matching.{Pat}
use Rattle.feed_history.specs.Ids.{in_place}
use Rattle.subscriptions.specs.Live.{LiveSubscription}
use Rattle.subscriptions.specs.Live.{id_of as id_in, sub_at}
use Rattle.mesh_hub.specs.Due.{Undue, is_due as is_due_in}
use Rattle.mesh_hub.specs.Hub.{HubState, cancelled, drained, state_of}
use Rattle.link_sessions.specs.Entries.{changed, entries_of, link_at, with_outbox}
use Rattle.link_sessions.specs.Entries.{filled as filled_link}
use Rattle.link_sessions.specs.Roles.{is_written}
use Rattle.link_sessions.specs.Settled.{IsSettled, IsSettledBut}
use Rattle.link_sessions.specs.declared.link.Link.{Link}
use Rattle.fed_hub.specs.HubSteps.{DrainsAt}
use Rattle.fed_hub.specs.LineSteps.{Holds}
use Rattle.fed_hub.specs.declared.hub.FedHub.{FedHub}
use Rattle.serve_rules.specs.Batches.{Serving, frames_due}
use Rattle.serve_rules.specs.FedLines.{FedRow}
use Rattle.serve_rules.specs.Hubs.{IsHubOf, IsLiveFor, sub_of}
use Rattle.serve_rules.specs.LinkStates.{LinkState, closed, drain_to, filled, filled_for, is_due, is_due_for, is_empty, may_drain, one_sub, phase_in, query_of, subs}
use Rattle.serve_rules.specs.Turns.{DrainStep}
use Rattle.serve_rules.proofs.Total.{IsTotal, drain_total}
use Rattle.serve_core.specs.Linked.{IsKept}
use Rattle.serve_core.specs.Served.{AreUnder, IsAt, IsServed, serving_of}
use Rattle.serve_core.specs.Steps.{IsBegun, StaysFed, TakesStep, sub_in}
use Rattle.serve_core.specs.TurnCalls.{Grows, MayClose}
use Rattle.serve_core.specs.declared.turning.Pass.TheVariants as passes
use Rattle.serve_core.specs.declared.turning.Turning.{Turning}
use Rattle.serve_core.proofs.Closes.{GoesWith, IsLetGo, apart_all, asked_role, close_grows, goes_left, let_go, shown_at}
use Rattle.serve_core.proofs.Drains.{due_frames, due_none, shown_then_is, state_ended, state_shown, touched_not}
use Rattle.serve_core.proofs.HubLinks.{IsApart, IsLive, each_live, each_served, here_open, live_each, served_each}
use Rattle.serve_core.proofs.OpenOnes.{AllOpen, all_replaced, both_open, eqb_apart, sum_replaced}
use Rattle.serve_core.proofs.Roles.{written_is}
use Rattle.serve_core.proofs.Settles.{closing_closed, closing_open, few_none, none_fed, same_made}
use Rattle.serve_core.proofs.ShownSubs.{put_here, put_length, put_other, under_put}
use Rattle.serve_core.proofs.Staying.{at_but, at_changed, found_here, found_number}

is_first : (a b : Bool) → (a && b) ≡ true → a ≡ true
is_first true b both = refl
is_first false b both = absurd cc

is_second : (a b : Bool) → (a && b) ≡ true → b ≡ true
is_second true b both = both
is_second false b both = absurd cc

pub record IsAsked (serving : Serving) (s : LinkState) : Type 0 where
  pub query : Query
  pub is : query_of serving s.bytes ≡ Some query

asked_by : (serving : Serving) (fed : List FedRow) (s : LinkState) (found : Option Query) → query_of serving s.bytes ≡ found → is_due_for serving fed s.drained found ≡ true → IsAsked serving s
asked_by serving fed s None is due = absurd cc
asked_by serving fed s (Some query) is due = record { query = query; is = is }

one_id : (a b : SubId) → Some a ≡ Some b → a.0 ≡ b.0
one_id a b same = let one : a ≡ b = cc in ap (λ id. id.0) one

-- ---- what becomes of the link

drain_is : (serving : Serving) (fed : List FedRow) (s : LinkState) (query : Query) (due : Option (List (List ℕ))) → may_drain serving fed s ≡ true → query_of serving s.bytes ≡ Some query → frames_due serving.program query s.drained fed ≡ due → filled fed s due ≡ drain_to serving fed s
unfolding drain_to
drain_is serving fed s query due turn asked is = sym (ap (λ b. cond b (filled_for serving fed s (query_of serving s.bytes)) s) turn ∙ ap (filled_for serving fed s) asked ∙ ap (filled fed s) is)

abbrev filled_now : List FedRow → LinkState → List (List ℕ) → LinkState
filled_now fed s frames = record s { outbox = frames; drained = Some (length fed) }

kept_filled : (serving : Serving) (id_of : ℕ → ℕ) (fed : List FedRow) (s : LinkState) (frames : List (List ℕ)) (link : Link) (query : Query) → query_of serving s.bytes ≡ Some query → is_empty s.outbox ≡ true → IsKept serving id_of s link → IsKept serving id_of (filled_now fed s frames) (filled_link frames link)
kept_filled serving id_of fed s frames link query asked empty is =
    let written : is_written link.session.outbox ≡ true = written_is serving id_of s link is ∙ empty in
    subst (λ one. IsKept serving id_of (filled_now fed s frames) one) (sym (ap (λ b. cond b (with_outbox frames link) link) written))
    (record {
      fine = is.fine;
      readable = is.readable;
      writable = is.writable;
      ended = is.ended;
      role = is.role;
      session = record { config_is = is.session.config_is; limits_are = is.session.limits_are; keeps = is.session.keeps };
      outbox = refl;
      quiet = λ no_feed unasked. absurd (let not_so : None ≡ Some query = sym unasked ∙ asked in cc);
    })

-- some step begins with no call
pub drain_begins : (serving : Serving) (others : List LinkState) (fed : List FedRow) (s : LinkState) → IsBegun (DrainStep serving) others fed s [] fed
drain_begins serving others fed s =
    let total : IsTotal (DrainStep serving) = drain_total serving in
    let one = total.some others fed s in
    record { more = one.made; rest = []; unmarked = tt; after = one.t; stepped = one.stepped }

-- what was fed stays
pub drain_stays : (old new : Turning) (id : ℕ) (answer : Option (List (List ℕ))) (hub : FedHub) → DrainsAt id old.hub hub answer → new.hub ≡ hub → StaysFed old new
drain_stays old new id answer hub drains same = record {
  holds = λ config limits pat fed holds. subst (λ (h : FedHub). Holds config limits pat fed (state_of h.hub)) (sym same)
      (subst (λ st. Holds config limits pat fed st) (sym drains.state) (record { config_is = holds.config_is; limits_are = holds.limits_are; objects = holds.objects; going = holds.going }));
  stopped = ap (λ (h : FedHub). h.stopped) same ∙ drains.same.stopped;
  same_config = ap (λ (h : FedHub). h.config) same ∙ drains.same.config;
}

-- ---- a hub that was drained

module _ (config : Config) (limits : Limits) (pat : Pat) (fed : List FedRow) (done : List LinkState) (s : LinkState) (links : List LinkState) (trace : List LinkCall) (old : Turning) (is_open : s.is_open ≡ true) (at : IsAt config limits pat fed (done ++ s ∷ links) trace old)
    (query : Query) (asked : query_of (serving_of config limits pat) s.bytes ≡ Some query) where
  abbrev serving : Serving
  serving = serving_of config limits pat

  abbrev id : ℕ
  id = at.id_of s.number

  abbrev st : HubState
  st = state_of old.hub.hub

  some_asked : is_some (query_of serving s.bytes) ≡ true
  some_asked = ap is_some asked

  apart : AllOpen (IsApart serving [] at.id_of s.number s (closed s) refl refl 0 done links (last_in trace) at.is.in_order) (done ++ s ∷ links)
  apart =
      let but = at_but config limits pat fed s.number done s links trace old refl is_open at in
      apart_all serving at.id_of s.number old.kept but.keeps.before but.keeps.now but.keeps.is but.keeps.same s refl (closed s) refl 0 done links (last_in trace) at.is.in_order
      (found_here config limits pat fed s.number done s links trace old refl is_open at).is.role some_asked at.keeps.settled.found but.keeps.links_are

  lives : AllOpen (IsLive serving fed at.id_of st.subs) (done ++ s ∷ links)
  lives = live_each serving fed at.id_of st.subs (done ++ s ∷ links) at.is.hub.live

  pub live_here : sub_at id st.subs ≡ Some (sub_of serving fed id query s.drained)
  live_here = subst (λ q. IsLiveFor serving fed st.subs id s.drained q) asked (here_open (IsLive serving fed at.id_of st.subs) done s links is_open lives)

  module _ (frames : List (List ℕ)) (hub : FedHub) (drains : DrainsAt id old.hub hub (Some frames)) where
    abbrev t : LinkState
    t = filled_now fed s frames

    abbrev now : LiveSubscription
    now = sub_of serving fed id query (Some (length fed))

    abbrev subs_now : List LiveSubscription
    subs_now = in_place id_in id (λ sub. now ∷ []) st.subs

    subs_are : (drained st id).subs ≡ subs_now
    subs_are =
        state_shown serving fed st id query s.drained at.is.hub.config at.is.hub.limits at.is.hub.objects live_here frames drains.answer_is
        ∙ ap (λ one. in_place id_in id (λ sub. one ∷ []) st.subs) (shown_then_is serving fed st id query s.drained at.is.hub.config at.is.hub.limits at.is.hub.objects live_here)

    live_by : (u : LinkState) (found : Option Query) → (is_some found ≡ true → at.id_of u.number ≢ id) → IsLiveFor serving fed st.subs (at.id_of u.number) u.drained found → IsLiveFor serving fed subs_now (at.id_of u.number) u.drained found
    live_by u None other live = tt
    live_by u (Some found) other live = put_other id now refl (at.id_of u.number) (eqb_apart id (at.id_of u.number) (λ one. other refl (sym one))) st.subs ∙ live

    live_now : IsLive serving fed at.id_of subs_now t
    live_now = subst (λ q. IsLiveFor serving fed subs_now id (Some (length fed)) q) (sym asked) (put_here id now refl st.subs (sub_of serving fed id query s.drained) live_here)

    each_lives : AllOpen (IsLive serving fed at.id_of subs_now) (done ++ t ∷ links)
    each_lives =
        let P : LinkState → Type 0 = λ u. IsLive serving fed at.id_of st.subs u × IsApart serving [] at.id_of s.number s (closed s) refl refl 0 done links (last_in trace) at.is.in_order u in
        all_replaced P (IsLive serving fed at.id_of subs_now) s.number (λ u other e p. live_by u (query_of serving u.bytes) (p.1 other) p.0) s t refl (λ e. live_now) 0 done links (last_in trace) at.is.in_order
        (both_open (IsLive serving fed at.id_of st.subs) (IsApart serving [] at.id_of s.number s (closed s) refl refl 0 done links (last_in trace) at.is.in_order) (done ++ s ∷ links) lives apart)

    served_now : IsServed serving fed at.id_of old.hub s → IsServed serving fed at.id_of hub t
    served_now own = record {
      due = λ some. drains.due id ∙ ap (λ b. not b && is_due_in old.hub.hub id) (eq-eqb id id refl) ∙ sym (ap (is_due_for serving fed (Some (length fed))) asked ∙ touched_not serving query fed);
      given = λ some. subst (λ m. id ≤ m) (sym drains.requests) (own.given some);
      placed = omega arith;
      undrained = λ unasked. absurd (let not_so : None ≡ Some query = sym unasked ∙ asked in cc);
    }

    each_serves : AllOpen (IsServed serving fed at.id_of hub) (done ++ t ∷ links)
    each_serves =
        let P : LinkState → Type 0 = λ u. IsServed serving fed at.id_of old.hub u × IsApart serving [] at.id_of s.number s (closed s) refl refl 0 done links (last_in trace) at.is.in_order u in
        let serves = served_each serving fed at.id_of old.hub (done ++ s ∷ links) at.is.served in
        all_replaced P (IsServed serving fed at.id_of hub) s.number (λ u other e p. record {
          due = λ some. drains.due (at.id_of u.number) ∙ ap (λ b. not b && is_due_in old.hub.hub (at.id_of u.number)) (eqb_apart (at.id_of u.number) id (p.1 other some)) ∙ p.0.due some;
          given = λ some. subst (λ m. at.id_of u.number ≤ m) (sym drains.requests) (p.0.given some);
          placed = p.0.placed;
          undrained = p.0.undrained;
        }) s t refl (λ e. served_now (here_open (IsServed serving fed at.id_of old.hub) done s links is_open serves)) 0 done links (last_in trace) at.is.in_order
        (both_open (IsServed serving fed at.id_of old.hub) (IsApart serving [] at.id_of s.number s (closed s) refl refl 0 done links (last_in trace) at.is.in_order) (done ++ s ∷ links) serves apart)

    as_many : length (drained st id).subs ≡ length st.subs
    as_many = ap length subs_are ∙ put_length id now refl st.subs

    same_sum : (was more x : ℕ) → more + x ≡ was + x → was ≡ more
    same_sum was more x sum = omega (arith, sum)

    no_more : (a b : ℕ) → a ≡ b → a ≤ b
    no_more a b e = omega (arith, e)

    pub goes_drained : GoesWith serving fed at.id_of (done ++ t ∷ links) old.hub hub
    goes_drained = record {
      config = drains.same.config;
      requests = drains.requests;
      last = ap (λ (x : HubState). x.last) drains.state;
      few = λ limit under. subst (λ (x : HubState). AreUnder hub.requests limit x.subs) (sym drains.state) (subst (λ m. AreUnder m limit (drained st id).subs) (sym drains.requests) (subst (λ all. AreUnder old.hub.requests limit all) (sym subs_are) (under_put id now refl old.hub.requests limit st.subs under)));
      hub = subst (λ x. IsHubOf serving fed (done ++ t ∷ links) at.id_of x) (sym drains.state) (record {
        config = at.is.hub.config;
        limits = at.is.hub.limits;
        objects = at.is.hub.objects;
        going = at.is.hub.going;
        live = each_live serving fed at.id_of (drained st id).subs (done ++ t ∷ links) (subst (λ all. AllOpen (IsLive serving fed at.id_of all) (done ++ t ∷ links)) (sym subs_are) each_lives);
        count = as_many ∙ at.is.hub.count ∙ same_sum (subs serving (done ++ s ∷ links)) (subs serving (done ++ t ∷ links)) (one_sub serving s) (sum_replaced (one_sub serving) done s t links);
      });
      served = each_served serving fed at.id_of hub (done ++ t ∷ links) each_serves;
    }

-- ---- the step

module _ (number : ℕ) (trace_before trace_now : Option (List LinkCall)) (old new : Turning) (tells : Option Pat) (refuses : Option (List ℕ → Bool)) (count : ℕ) where
  -- what is known of a link whose turn it is
  pub record IsTurned (config : Config) (limits : Limits) (pat : Pat) (fed : List FedRow) (s : LinkState) (id_of : ℕ → ℕ) : Type 0 where
    pub is_open : s.is_open ≡ true
    pub empty : is_empty s.outbox ≡ true
    pub asks : IsAsked (serving_of config limits pat) s
    pub sub : sub_in (option_map (λ link. link.role) (link_at number (entries_of old.kept))) ≡ Some (record { 0 = id_of s.number })

  turned : (config : Config) (limits : Limits) (pat : Pat) (fed : List FedRow) (done : List LinkState) (s : LinkState) (links : List LinkState) (trace : List LinkCall) → s.number ≡ number → may_drain (serving_of config limits pat) fed s ≡ true
      → (at : IsAt config limits pat fed (done ++ s ∷ links) trace old) → IsTurned config limits pat fed s at.id_of
  turned config limits pat fed done s links trace same turn at =
      let serving = serving_of config limits pat in
      let rest = is_second s.is_open (s.writable && (is_empty s.outbox && is_due serving fed s)) turn in
      let more = is_second s.writable (is_empty s.outbox && is_due serving fed s) rest in
      let is_open = is_first s.is_open (s.writable && (is_empty s.outbox && is_due serving fed s)) turn in
      let asks = asked_by serving fed s (query_of serving s.bytes) refl (is_second (is_empty s.outbox) (is_due serving fed s) more) in
      let found = found_here config limits pat fed number done s links trace old same is_open at in
      record {
        is_open = is_open;
        empty = is_first (is_empty s.outbox) (is_due serving fed s) more;
        asks = asks;
        sub = ap (λ link. sub_in (option_map (λ one. one.role) link)) (found_number config limits pat fed number done s links trace old same is_open at)
            ∙ ap (λ role. sub_in (Some role)) (found.is.role ∙ asked_role at.id_of s.number (phase_in serving s.bytes) (ap is_some asks.is));
      }

  -- no link that has its turn has no subscription
  pub undrained : trace_now ≡ trace_before → new ≡ old → None ≡ sub_in (option_map (λ link. link.role) (link_at number (entries_of old.kept))) → TakesStep passes.Drains number (known_of tells refuses count count) trace_before old (Ok tt) trace_now new
  undrained same_trace same_now none config limits pat fed trace told holds hub_config = record {
    lines = [];
    made = [];
    grew = same_trace ∙ told ∙ ap Some (sym (append-nil trace));
    is_fed = none_fed config limits pat tells refuses count fed old new (subst (λ x. StaysFed old x) (sym same_now) (record { holds = λ config limits pat fed holds. holds; stopped = refl; same_config = refl })) holds;
    steps = λ matches done s links same turn at.
        absurd (let one = turned config limits pat fed done s links trace same turn at in let not_so : None ≡ Some (record { 0 = at.id_of s.number }) = none ∙ one.sub in cc);
  }

  -- memory ran out, before any call
  pub unfilled : trace_now ≡ trace_before → TakesStep passes.Drains number (known_of tells refuses count count) trace_before old (Err (record {})) trace_now new
  unfilled same_trace config limits pat fed trace told holds hub_config = record {
    lines = [];
    made = [];
    grew = same_trace ∙ told ∙ ap Some (sym (append-nil trace));
    few = few_none count;
    fair = λ fair. fair;
    begins = λ matches done s links same turn at. drain_begins (serving_of config limits pat) (done ++ links) fed s;
  }

  module _ (id : SubId) (sub : Some id ≡ sub_in (option_map (λ link. link.role) (link_at number (entries_of old.kept)))) (hub : FedHub) (same_hub : new.hub ≡ hub) (same_config : new.config ≡ old.config) (same_limits : new.limits ≡ old.limits) where
    at_id : (config : Config) (limits : Limits) (pat : Pat) (fed : List FedRow) (s : LinkState) (id_of : ℕ → ℕ) (answer : Option (List (List ℕ))) → IsTurned config limits pat fed s id_of → DrainsAt id.0 old.hub hub answer → DrainsAt (id_of s.number) old.hub hub answer
    at_id config limits pat fed s id_of answer is drains = subst (λ m. DrainsAt m old.hub hub answer) (one_id id (record { 0 = id_of s.number }) (sub ∙ is.sub)) drains

    pub filled_then : (frames : List (List ℕ)) → trace_now ≡ trace_before → DrainsAt id.0 old.hub hub (Some frames) → entries_of new.kept ≡ changed number (filled_link frames) (entries_of old.kept) → (IsSettledBut number old.kept → IsSettled new.kept)
        → TakesStep passes.Drains number (known_of tells refuses count count) trace_before old (Ok tt) trace_now new
    filled_then frames same_trace drains entries settled config limits pat fed trace told holds hub_config = record {
      lines = [];
      made = [];
      grew = same_trace ∙ told ∙ ap Some (sym (append-nil trace));
      is_fed = none_fed config limits pat tells refuses count fed old new (drain_stays old new id.0 (Some frames) hub drains same_hub) holds;
      steps = λ matches done s links same turn at.
          let serving = serving_of config limits pat in
          let is = turned config limits pat fed done s links trace same turn at in
          let here = at_id config limits pat fed s at.id_of (Some frames) is drains in
          let live = live_here config limits pat fed done s links trace old is.is_open at is.asks.query is.asks.is in
          let due = due_frames serving fed (state_of old.hub.hub) (at.id_of s.number) is.asks.query s.drained at.is.hub.config at.is.hub.limits at.is.hub.objects live frames here.answer_is in
          let after = filled_now fed s frames in
          let goes = goes_drained config limits pat fed done s links trace old is.is_open at is.asks.query is.asks.is frames hub here in
          record {
            after = after;
            stepped = record { calls = closing_open s after refl; fed_now = refl; link = drain_is serving fed s is.asks.query (Some frames) turn is.asks.is due };
            at = subst (λ so_far. IsAt config limits pat fed (done ++ after ∷ links) so_far new) (sym (append-nil trace))
                (at_changed config limits pat fed number done s links trace old same is.is_open s.readable s.writable frames (Some (length fed)) at (filled_link frames) new same_config same_limits
                (subst (λ h. GoesWith serving fed at.id_of (done ++ after ∷ links) old.hub h) (sym same_hub) goes) entries
                (settled ((at_but config limits pat fed number done s links trace old same is.is_open at).keeps.settled)) (λ link kept. kept_filled serving at.id_of fed s frames link is.asks.query is.asks.is is.empty kept));
          };
    }

    -- the frames are put, or memory ran out
    pub filled_by : (frames : List (List ℕ)) (result : Result (Unit {0}) Memory) → trace_now ≡ trace_before → DrainsAt id.0 old.hub hub (Some frames) → OnOk result (entries_of new.kept ≡ changed number (filled_link frames) (entries_of old.kept)) → OnOk result (IsSettledBut number old.kept → IsSettled new.kept)
        → TakesStep passes.Drains number (known_of tells refuses count count) trace_before old result trace_now new
    filled_by frames (Ok done) same_trace drains entries settled = filled_then frames same_trace drains entries settled
    filled_by frames (Err memory) same_trace drains entries settled = unfilled same_trace

    -- a message is too long, and the link is closed
    pub ended_then : DrainsAt id.0 old.hub hub None → IsLetGo number old new → Grows (MayClose number) trace_before trace_now → Continues trace_before trace_now (λ t. close_made t number)
        → TakesStep passes.Drains number (known_of tells refuses count count) trace_before old (Ok tt) trace_now new
    ended_then drains gone more continues config limits pat fed trace told holds hub_config =
        let rest = more trace told in
        record {
          lines = [];
          made = rest.made;
          grew = rest.grew;
          is_fed = none_fed config limits pat tells refuses count fed old new (drain_stays old new id.0 None hub drains same_hub) holds;
          steps = λ matches done s links same turn at.
              let serving = serving_of config limits pat in
              let is = turned config limits pat fed done s links trace same turn at in
              let here = at_id config limits pat fed s at.id_of None is drains in
              let live = live_here config limits pat fed done s links trace old is.is_open at is.asks.query is.asks.is in
              let due = due_none serving fed (state_of old.hub.hub) (at.id_of s.number) is.asks.query s.drained at.is.hub.config at.is.hub.limits at.is.hub.objects live here.answer_is in
              let state = here.state ∙ state_ended serving fed (state_of old.hub.hub) (at.id_of s.number) is.asks.query s.drained at.is.hub.config at.is.hub.limits at.is.hub.objects live here.answer_is in
              let after = closed s in
              let but = at_but config limits pat fed number done s links trace old same is.is_open at in
              let numbered = sym (ap at.id_of same) in
              let goes : GoesWith serving fed at.id_of (done ++ after ∷ links) old.hub hub = goes_left config limits pat fed number done s links trace old same is.is_open after same refl but hub is.asks.query is.asks.is here.same.config here.requests
              (subst (λ m. state_of hub.hub ≡ cancelled (state_of old.hub.hub) m) (sym numbered) state) (subst (λ m. Undue m old.hub.hub hub.hub) (sym numbered) here.due) in
              let one : rest.made ≡ calls.Close number ∷ [] = same_made trace rest.made (calls.Close number ∷ []) trace_now rest.grew
              (close_grows number trace trace_before trace_now told (subst (λ m. is_open_in trace m ≡ true) same (shown_at trace done s links is.is_open at.is.shown)) continues) in
              record {
                after = after;
                stepped = record {
                  calls = one ∙ ap (λ n. calls.Close n ∷ []) (sym same) ∙ sym (closing_closed s after is.is_open refl);
                  fed_now = refl;
                  link = drain_is serving fed s is.asks.query None turn is.asks.is due;
                };
                at = subst (λ made. IsAt config limits pat fed (done ++ after ∷ links) (trace ++ made) new) (sym one)
                    (let_go config limits pat fed number done s links trace old same is.is_open after same refl but new gone
                    (subst (λ h. GoesWith serving fed at.id_of (done ++ after ∷ links) old.hub h) (sym same_hub) goes));
              };
        }
