-- A turn, from its poll on.
use Rattle.std.proofs.Common.{◌≡◌, ◌≤◌, Bool, false, not, List, [], ◌∷◌, ◌++◌, Option, Some, None, Result, Ok, Err, refl, sym, ap, ◌∙◌, subst, append_assoc, append-nil}
use Rattle.mesh_base.specs.declared.limits.Limits.{Limits}
use Rattle.mesh_base.specs.declared.memory.Memory.{Memory}
use Rattle.mesh_links.specs.Calls.{last_in}
use Rattle.mesh_links.specs.declared.call.LinkCall.{LinkCall}
use Rattle.mesh_links.specs.declared.call.LinkCall.TheVariants as calls
use Rattle.mesh_links.specs.declared.call.LinkEvent.{LinkEvent}
use Rattle.view_types.specs.declared.config.Config.{Config}
use Rattle.route_match.specs.Matching.{Pat}
use Rattle.feed_history.specs.KnownPatterns.{PatternsNow, facts_in}
use Rattle.feed_history.specs.MarkCauses.{AreFair}
use Rattle.serve_rules.specs.FedLines.{FedRow, rows_fed, serve_of}
use Rattle.serve_rules.specs.LinkOrder.{AreAboveIn}
use Rattle.serve_rules.specs.LinkStates.{LinkState}
use Rattle.serve_rules.specs.Traces.{opened, waits}
use Rattle.serve_rules.specs.Turns.{calls_of}
use Rattle.serve_rules.proofs.Total.{some_turn_goes_on}
use Rattle.serve_core.specs.Served.{IsAt, serving_of}
use Rattle.serve_core.specs.Shown.{PollsBy}
use Rattle.serve_core.specs.Steps.{HasWork}
use Rattle.serve_core.specs.Turned.{GoesOnFrom, Turns}
use Rattle.serve_core.specs.declared.server.ServeFault.{ServeFault}
use Rattle.serve_core.specs.declared.server.ServeFault.TheVariants as faults
use Rattle.serve_core.specs.declared.server.Turn.{Turn as Answer}
use Rattle.serve_core.specs.declared.turning.Turning.{Turning}
use Rattle.serve_core.proofs.FedParts.{fair_unmarked, few_none}
use Rattle.serve_core.proofs.OpenAfter.{at_opened}
use Rattle.serve_core.proofs.Polls.{failed_at, polled_at, polled_awaits}
use Rattle.serve_core.proofs.TurnParts.{at_begun, awaits_begun}

-- what goes on where a `stop` of an earlier turn is forgotten
pub goes_begun : (known : PatternsNow) (shown : List LinkEvent) (traced : Option (List LinkCall)) (old : Turning) (result : Result Answer Memory) (traced_now : Option (List LinkCall)) (new : Turning)
    → GoesOnFrom known shown traced (record old { hub = record old.hub { stopped = false } }) result traced_now new → GoesOnFrom known shown traced old result traced_now new
goes_begun known shown traced old result traced_now new goes config limits pat fed links trace told at awaits =
    goes config limits pat fed links trace told (at_begun config limits pat fed links trace old at) (awaits_begun config limits pat links trace shown old awaits)

module _ (known : PatternsNow) (traced : Option (List LinkCall)) (old : Turning) (work wait : Bool) (works : HasWork old work) (wait_is : wait ≡ not work) (traced_polled : Option (List LinkCall)) where
  waits_are : (config : Config) (limits : Limits) (pat : Pat) (fed : List FedRow) (links : List LinkState) (trace : List LinkCall) → IsAt config limits pat fed links trace old → wait ≡ waits (serving_of config limits pat) fed links
  waits_are config limits pat fed links trace at = wait_is ∙ ap (λ b. not b) (works config limits pat fed links trace at)

  -- the poll failed
  pub turn_fails : PollsBy wait (Err faults.Links) traced traced_polled → Turns known traced old (Err faults.Links) traced_polled old
  turn_fails polls config limits pat fed links trace told at stands =
      let serving = serving_of config limits pat in
      let same = waits_are config limits pat fed links trace at in
      record {
        grew = subst (λ w. traced_polled ≡ Some (trace ++ calls.Poll w None ∷ [])) same (polls trace told);
        at = failed_at config limits pat fed links trace old at (waits serving fed links);
      }

  -- there was no memory for the poll
  pub turn_idles : known.before ≤ known.now → PollsBy wait (Err faults.Memory) traced traced_polled → Turns known traced old (Err faults.Memory) traced_polled old
  turn_idles later polls config limits pat fed links trace told at stands =
      let serving = serving_of config limits pat in
      let some = some_turn_goes_on serving fed links None in
      record {
        lines = [];
        part = [];
        grew = polls trace told ∙ ap Some (sym (append-nil trace));
        few = few_none known.before known.now later;
        cut = λ told. record {
          round = some.round;
          polled = λ none. refl;
          fresh = subst (λ shown. AreAboveIn (last_in trace) shown) (sym some.showed) tt;
          more = calls_of some.round;
          rest = [];
          unmarked = tt;
          cut = refl;
          fed_is = some.same;
          next = record { turn = some.turn; wait = some.wait; fair = subst (λ fs. AreFair (serve_of config limits pat) (facts_in known) (rows_fed fs)) (sym some.same) stands.fair };
        };
      }

  pub turn_faults : known.before ≤ known.now → (fault : ServeFault) → PollsBy wait (Err fault) traced traced_polled → Turns known traced old (Err fault) traced_polled old
  turn_faults later faults.Links polls = turn_fails polls
  turn_faults later faults.Memory polls = turn_idles later polls

  module _ (shown : List LinkEvent) (polls : PollsBy wait (Ok shown) traced traced_polled) (traced_now : Option (List LinkCall)) (new : Turning) where
    pub turn_taken : (answer : Answer) → GoesOnFrom known shown traced_polled old (Ok answer) traced_now new → Turns known traced old (Ok answer) traced_now new
    turn_taken answer goes config limits pat fed links trace told at stands =
        let serving = serving_of config limits pat in
        let same = waits_are config limits pat fed links trace at in
        let poll = polls trace told in
        let trace_polled : List LinkCall = trace ++ calls.Poll wait (Some shown) ∷ [] in
        let rest = goes config limits pat fed links trace_polled poll.grew (polled_at config limits pat fed links trace old at wait shown) (polled_awaits config limits pat fed links trace old at wait shown poll.fresh) in
        let joined = append_assoc trace (calls.Poll wait (Some shown) ∷ []) rest.made in
        record {
          lines = rest.lines;
          made = calls.Poll wait (Some shown) ∷ rest.made;
          grew = rest.grew ∙ ap Some joined;
          few = rest.few;
          answer_is = rest.answer_is;
          takes = λ told.
              let follows = rest.follows told in
              record {
                round = record { waited = wait; shown = Some shown; made = rest.made; fed = rest.lines ++ fed; links = follows.after };
                shown = shown;
                polled = refl;
                fresh = poll.fresh;
                calls_are = refl;
                fed_is = refl;
                next = record { turn = follows.is; wait = same; fair = rest.fair stands.fair };
                at = subst (λ calls. IsAt config limits pat (rest.lines ++ fed) (opened follows.after) calls new) joined (at_opened config limits pat (rest.lines ++ fed) follows.after (trace_polled ++ rest.made) new follows.at);
              };
        }

    pub turn_cut : (memory : Memory) → GoesOnFrom known shown traced_polled old (Err memory) traced_now new → Turns known traced old (Err faults.Memory) traced_now new
    turn_cut memory goes config limits pat fed links trace told at stands =
        let serving = serving_of config limits pat in
        let same = waits_are config limits pat fed links trace at in
        let poll = polls trace told in
        let trace_polled : List LinkCall = trace ++ calls.Poll wait (Some shown) ∷ [] in
        let rest = goes config limits pat fed links trace_polled poll.grew (polled_at config limits pat fed links trace old at wait shown) (polled_awaits config limits pat fed links trace old at wait shown poll.fresh) in
        let joined = append_assoc trace (calls.Poll wait (Some shown) ∷ []) rest.made in
        record {
          lines = rest.lines;
          part = calls.Poll wait (Some shown) ∷ rest.made;
          grew = rest.grew ∙ ap Some joined;
          few = rest.few;
          cut = λ told.
              let follows = rest.follows told in
              record {
                round = record { waited = wait; shown = Some shown; made = rest.made ++ follows.more; fed = follows.rest ++ (rest.lines ++ fed); links = follows.after };
                polled = λ none. absurd cc;
                fresh = poll.fresh;
                more = follows.more;
                rest = follows.rest;
                unmarked = follows.unmarked;
                cut = refl;
                fed_is = refl;
                next = record { turn = follows.is; wait = same; fair = fair_unmarked (serve_of config limits pat) (facts_in known) follows.rest (rest.lines ++ fed) follows.unmarked (rest.fair stands.fair) };
              };
        }
