-- What follows a poll, and a whole turn.
use Rattle.std.proofs.Common.{◌≡◌, ◌≤◌, ℕ, Bool, true, false, ◌||◌, List, [], ◌∷◌, ◌++◌, Option, Some, Ok, Err, refl, sym, ap, ◌∙◌, subst, append_assoc, append-nil}
use Rattle.std.specs.List.{list_any}
use Rattle.std.proofs.lemmas.List.Folds.{list_any-append}
use Rattle.mesh_base.specs.declared.limits.Limits.{Limits}
use Rattle.mesh_base.specs.declared.memory.Memory.{Memory}
use Rattle.mesh_links.specs.declared.call.LinkCall.{LinkCall}
use Rattle.mesh_links.specs.declared.call.LinkEvent.{LinkEvent}
use Rattle.view_types.specs.declared.config.Config.{Config}
use Rattle.route_match.specs.Matching.{Pat}
use Rattle.feed_history.specs.KnownPatterns.{known_of}
use Rattle.mesh_hub.specs.Hub.{state_of}
use Rattle.fed_hub.specs.LineSteps.{Holds}
use Rattle.fed_hub.specs.declared.hub.FedHub.{FedHub}
use Rattle.serve_rules.specs.Batches.{Serving}
use Rattle.serve_rules.specs.FedLines.{FedRow, is_stop, serve_of}
use Rattle.serve_rules.specs.LinkStates.{LinkState}
use Rattle.serve_rules.specs.Turns.{AfterPoll, Each, Events, Passes, ReadStep, StopStep, has_stop}
use Rattle.serve_rules.proofs.Total.{each_total, read_total, stop_total}
use Rattle.serve_core.specs.Served.{AreServed as AreServedIn, IsAt, serving_of}
use Rattle.serve_core.specs.Shown.{Awaits, ShowsAll}
use Rattle.serve_core.specs.Steps.{TakesPass, stop_step}
use Rattle.serve_core.specs.TurnCalls.{turn_by}
use Rattle.serve_core.specs.Turned.{AreServed, GoesOnFrom, ServesLinks}
use Rattle.serve_core.specs.declared.server.Turn.TheVariants as answers
use Rattle.serve_core.specs.declared.turning.Turning.{Turning}
use Rattle.serve_core.proofs.FedParts.{few_none, few_then, fair_then, stop_is, told_early, told_late}
use Rattle.serve_core.proofs.Passing.{no_close}
use Rattle.serve_core.proofs.ServedLinks.{begun_reading, each_same}

-- ---- the closes of a `stop`

-- none
each_rest : (done : List LinkState) (fed : List FedRow) (ss : List LinkState) → Each (StopStep false) done fed ss [] fed ss
each_rest done fed [] = (refl, refl)
each_rest done fed (s ∷ ss) = ([], [], fed, refl, record { calls = no_close s s.is_open; fed_now = refl; link = refl }, each_rest (done ++ s ∷ []) fed ss)

stop_same : (stopped : Bool) (fed : List FedRow) (ss : List LinkState) (made : List LinkCall) (now : List FedRow) (ts : List LinkState) → Each (StopStep stopped) [] fed ss made now ts → now ≡ fed
stop_same stopped fed ss made now ts each = each_same (StopStep stopped) (λ others fed s made now t stepped. stepped.fed_now) [] fed ss made now ts each

-- ---- from the hub's note

no_stop : (was any now : Bool) → was ≡ false → now ≡ (was || any) → now ≡ false → any ≡ false
no_stop was any now none is not = sym (ap (λ b. b || any) none) ∙ (sym is ∙ not)

some_stop : (was any now : Bool) → was ≡ false → now ≡ (was || any) → now ≡ true → any ≡ true
some_stop was any now none is so = sym (ap (λ b. b || any) none) ∙ (sym is ∙ so)

or_late : (a b : Bool) → b ≡ true → (a || b) ≡ true
or_late true b e = refl
or_late false b e = e

-- ---- the calls after a poll

module _ (serving : Serving) (shown : List LinkEvent) (fed : List FedRow) (links : List LinkState) (closes : List LinkCall) (polled : List LinkState) (events : Events serving false shown links closes polled) where
  -- each pass, and then the closes of a `stop`
  then_stops : (made : List LinkCall) (now : List FedRow) (after : List LinkState) (stops : List LinkCall) (last : List LinkState) → AreServed serving fed polled made now after → Each (StopStep (has_stop serving fed now)) [] now after stops now last
      → AfterPoll serving false (Some shown) fed links (closes ++ (made ++ stops)) now last
  then_stops made now after stops last served each_stop =
      let passes : Passes serving false fed polled (made ++ stops) now last = record {
        reads = served.reads;
        drains = served.drains;
        writes = served.writes;
        stops = stops;
        read = served.read;
        drained = served.drained;
        written = after;
        calls_are = ap (λ calls. calls ++ stops) served.calls_are ∙ append_assoc served.reads (served.drains ++ served.writes) stops ∙ ap (λ calls. served.reads ++ calls) (append_assoc served.drains served.writes stops);
        each_read = served.each_read;
        each_drain = served.each_drain;
        each_write = served.each_write;
        each_stop = each_stop;
      } in
      (closes, made ++ stops, polled, refl, events, passes)

  -- no line was a `stop`
  then_none : (made : List LinkCall) (lines : List FedRow) (after : List LinkState) → list_any (is_stop serving.program) lines ≡ false → AreServed serving fed polled made (lines ++ fed) after
      → AfterPoll serving false (Some shown) fed links (closes ++ made) (lines ++ fed) after
  then_none made lines after none served =
      let now : List FedRow = lines ++ fed in
      let stopped = stop_is serving lines fed ∙ none in
      subst (λ calls. AfterPoll serving false (Some shown) fed links (closes ++ calls) now after) (append-nil made)
      (then_stops made now after [] after served (subst (λ b. Each (StopStep b) [] now after [] now after) (sym stopped) (each_rest [] now after)))

  -- a turn that began with these calls goes on
  record IsEnded (made : List LinkCall) (now : List FedRow) : Type 0 where
    more : List LinkCall
    after : List LinkState
    is : AfterPoll serving false (Some shown) fed links (closes ++ (made ++ more)) now after

  some_end : (made : List LinkCall) (more : List LinkCall) (now : List FedRow) (after : List LinkState) → AreServed serving fed polled (made ++ more) now after → IsEnded made now
  some_end made more now after served =
      let b = has_stop serving fed now in
      let stops = each_total (StopStep b) (stop_total b) [] now after in
      record {
        more = more ++ stops.made;
        after = stops.ts;
        is = subst (λ calls. AfterPoll serving false (Some shown) fed links (closes ++ calls) now stops.ts) (append_assoc made more stops.made) (then_stops (made ++ more) now after stops.made stops.ts served stops.passed);
      }

-- ---- where memory runs out

module _ (shown : List LinkEvent) (tells : Option Pat) (refuses : Option (List ℕ → Bool)) (traced : Option (List LinkCall)) (old : Turning) where
  pub cut_showing : (before now : ℕ) → before ≤ now → (memory : Memory) (traced_now : Option (List LinkCall)) (new : Turning) → ShowsAll shown traced old (Err memory) traced_now new → GoesOnFrom (known_of tells refuses before now) shown traced old (Err memory) traced_now new
  cut_showing before now later memory traced_now new shows config limits pat fed links trace told at awaits =
      let serving = serving_of config limits pat in
      let begun = shows config limits pat fed links trace told at awaits in
      let closes : List LinkCall = begun.made ++ begun.more in
      let read = each_total (ReadStep serving false) (read_total serving) [] fed begun.after in
      let rest = begun_reading serving fed begun.after [] read.made fed [] tt read.ts read.passed in
      let end = some_end serving shown fed links closes begun.after begun.events [] rest.more (rest.rest ++ fed) rest.after rest.served in
      record {
        lines = [];
        made = begun.made;
        grew = begun.grew;
        few = few_none before now later;
        fair = λ fair. fair;
        follows = λ told. record { more = begun.more ++ end.more; rest = rest.rest; unmarked = rest.unmarked; after = end.after; is = subst (λ calls. AfterPoll serving false (Some shown) fed links calls (rest.rest ++ fed) end.after) (append_assoc begun.made begun.more end.more) end.is };
      }

  module _ (traced_shown : Option (List LinkCall)) (polled : Turning) (shows : ShowsAll shown traced old (Ok tt) traced_shown polled) (same : polled.hub ≡ old.hub) where
    holds_polled : (config : Config) (limits : Limits) (pat : Pat) (fed : List FedRow) (links : List LinkState) (trace : List LinkCall) → IsAt config limits pat fed links trace old → Holds config limits pat fed (state_of polled.hub.hub)
    holds_polled config limits pat fed links trace at =
        subst (λ (hub : FedHub). Holds config limits pat fed (state_of hub.hub)) (sym same) (record { config_is = at.is.hub.config; limits_are = at.is.hub.limits; objects = at.is.hub.objects; going = at.is.hub.going })

    pub cut_serving : (before now : ℕ) (memory : Memory) (traced_now : Option (List LinkCall)) (new : Turning) → ServesLinks (known_of tells refuses before now) traced_shown polled (Err memory) traced_now new
        → GoesOnFrom (known_of tells refuses before now) shown traced old (Err memory) traced_now new
    cut_serving before now memory traced_now new serves config limits pat fed links trace told at awaits =
        let serving = serving_of config limits pat in
        let first = shows config limits pat fed links trace told at awaits in
        let begun = serves config limits pat fed (trace ++ first.made) first.grew (holds_polled config limits pat fed links trace at) (ap (λ hub. hub.config) same ∙ at.is.line_config_is) in
        record {
          lines = begun.lines;
          made = first.made ++ begun.made;
          grew = begun.grew ∙ ap Some (append_assoc trace first.made begun.made);
          few = begun.few;
          fair = begun.fair;
          follows = λ told.
              let rest = begun.begins told first.after first.at in
              let now : List FedRow = rest.rest ++ (begun.lines ++ fed) in
              let end = some_end serving shown fed links first.made first.after first.events begun.made rest.more now rest.after rest.served in
              record { more = end.more; rest = rest.rest; unmarked = rest.unmarked; after = end.after; is = subst (λ calls. AfterPoll serving false (Some shown) fed links calls now end.after) (sym (append_assoc first.made begun.made end.more)) end.is };
        }

    -- ---- a turn that goes on, and one that stops

    module _ (before mid : ℕ) (traced_served : Option (List LinkCall)) (served : Turning) (serves : ServesLinks (known_of tells refuses before mid) traced_shown polled (Ok tt) traced_served served) (began : old.hub.stopped ≡ false) where
      was_none : polled.hub.stopped ≡ false
      was_none = ap (λ hub. hub.stopped) same ∙ began

      pub ends_going : served.hub.stopped ≡ false → GoesOnFrom (known_of tells refuses before mid) shown traced old (Ok answers.Going) traced_served served
      ends_going going config limits pat fed links trace told at awaits =
          let serving = serving_of config limits pat in
          let first = shows config limits pat fed links trace told at awaits in
          let all = serves config limits pat fed (trace ++ first.made) first.grew (holds_polled config limits pat fed links trace at) (ap (λ hub. hub.config) same ∙ at.is.line_config_is) in
          let test = is_stop (serve_of config limits pat) in
          let none = no_stop polled.hub.stopped (list_any test all.lines) served.hub.stopped was_none all.is_fed.stopped going in
          let joined = append_assoc trace first.made all.made in
          record {
            lines = all.lines;
            made = first.made ++ all.made;
            grew = all.grew ∙ ap Some joined;
            few = all.is_fed.few;
            fair = all.is_fed.fair;
            answer_is = ap (λ b. turn_by b) (sym none);
            follows = λ told.
                let last = all.serves told first.after first.at in
                record {
                  after = last.after;
                  is = then_none serving shown fed links first.made first.after first.events all.made all.lines last.after none last.served;
                  at = subst (λ calls. IsAt config limits pat (all.lines ++ fed) last.after calls served) joined last.at;
                };
          }

      pub ends_stopped : served.hub.stopped ≡ true → (now : ℕ) (traced_now : Option (List LinkCall)) (new : Turning) → TakesPass stop_step (known_of tells refuses mid now) traced_served served (Ok tt) traced_now new
          → GoesOnFrom (known_of tells refuses before now) shown traced old (Ok answers.Stopped) traced_now new
      ends_stopped stop now traced_now new closes config limits pat fed links trace told at awaits =
          let serving = serving_of config limits pat in
          let program = serve_of config limits pat in
          let first = shows config limits pat fed links trace told at awaits in
          let all = serves config limits pat fed (trace ++ first.made) first.grew (holds_polled config limits pat fed links trace at) (ap (λ hub. hub.config) same ∙ at.is.line_config_is) in
          let test = is_stop program in
          let some = some_stop polled.hub.stopped (list_any test all.lines) served.hub.stopped was_none all.is_fed.stopped stop in
          let config_is = all.is_fed.same_config ∙ (ap (λ hub. hub.config) same ∙ at.is.line_config_is) in
          let last = closes config limits pat (all.lines ++ fed) ((trace ++ first.made) ++ all.made) all.grew all.is_fed.holds config_is in
          let some_all = list_any-append test last.lines all.lines ∙ or_late (list_any test last.lines) (list_any test all.lines) some in
          let joined = append_assoc last.lines all.lines fed in
          let calls_joined = append_assoc (trace ++ first.made) all.made last.made ∙ append_assoc trace first.made (all.made ++ last.made) in
          record {
            lines = last.lines ++ all.lines;
            made = first.made ++ (all.made ++ last.made);
            grew = last.grew ∙ ap Some calls_joined;
            few = few_then last.lines all.lines before mid now all.is_fed.few last.is_fed.few;
            fair = fair_then config limits pat tells refuses (known_of tells refuses before now) fed all.lines last.lines all.is_fed.fair last.is_fed.fair;
            answer_is = ap (λ b. turn_by b) (sym some_all);
            follows = λ told.
                let one = all.serves (told_early config limits pat tells last.lines all.lines told) first.after first.at in
                let two = last.passes (told_late config limits pat tells last.lines all.lines told) one.after one.at in
                let fed_now : List FedRow = (last.lines ++ all.lines) ++ fed in
                let quiet = stop_same true (all.lines ++ fed) one.after last.made (last.lines ++ (all.lines ++ fed)) two.after two.passed in
                let to_now = sym quiet ∙ sym joined in
                let stopped = stop_is serving (last.lines ++ all.lines) fed ∙ some_all in
                let service : AreServed serving fed first.after all.made fed_now one.after = subst (λ fs. AreServed serving fed first.after all.made fs one.after) to_now one.served in
                let ended : Each (StopStep true) [] fed_now one.after last.made fed_now two.after =
                subst (λ fs. Each (StopStep true) [] fs one.after last.made fed_now two.after) to_now (subst (λ fs. Each (StopStep true) [] (all.lines ++ fed) one.after last.made fs two.after) (sym joined) two.passed) in
                record {
                  after = two.after;
                  is = then_stops serving shown fed links first.made first.after first.events all.made fed_now one.after last.made two.after service (subst (λ b. Each (StopStep b) [] fed_now one.after last.made fed_now two.after) (sym stopped) ended);
                  at = subst (λ fs. IsAt config limits pat fs two.after (trace ++ (first.made ++ (all.made ++ last.made))) new) (sym joined) (subst (λ calls. IsAt config limits pat (last.lines ++ (all.lines ++ fed)) two.after calls new) calls_joined two.at);
                };
          }

-- ---- a turn begins

served_again : (serving : Serving) (fed : List FedRow) (id_of : ℕ → ℕ) (hub : FedHub) (links : List LinkState) → AreServedIn serving fed id_of hub links → AreServedIn serving fed id_of (record hub { stopped = false }) links
served_again serving fed id_of hub [] served = tt
served_again serving fed id_of hub (s ∷ links) served =
    ((λ is_open. let one = served.0 is_open in record { due = one.due; given = one.given; placed = one.placed; undrained = one.undrained }), served_again serving fed id_of hub links served.1)

-- a `stop` of an earlier turn is forgotten
pub at_begun : (config : Config) (limits : Limits) (pat : Pat) (fed : List FedRow) (links : List LinkState) (trace : List LinkCall) (old : Turning) → IsAt config limits pat fed links trace old
    → IsAt config limits pat fed links trace (record old { hub = record old.hub { stopped = false } })
at_begun config limits pat fed links trace old at = record {
  id_of = at.id_of;
  is = record {
    config_is = at.is.config_is;
    line_config_is = at.is.line_config_is;
    limits_are = at.is.limits_are;
    in_order = at.is.in_order;
    shown = at.is.shown;
    few_requests = at.is.few_requests;
    numbered = at.is.numbered;
    last_id = at.is.last_id;
    few_subs = at.is.few_subs;
    hub = at.is.hub;
    served = served_again (serving_of config limits pat) fed at.id_of old.hub links at.is.served;
  };
  keeps = at.keeps;
}

pub awaits_begun : (config : Config) (limits : Limits) (pat : Pat) (links : List LinkState) (trace : List LinkCall) (shown : List LinkEvent) (old : Turning) → Awaits config limits pat links trace shown old
    → Awaits config limits pat links trace shown (record old { hub = record old.hub { stopped = false } })
awaits_begun config limits pat links trace shown old awaits = record { last = awaits.last; between = awaits.between; few_requests = awaits.few_requests; above = awaits.above; open_new = awaits.open_new }
