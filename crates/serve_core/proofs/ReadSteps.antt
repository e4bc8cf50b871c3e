-- Each exit of a read of a link that gave bytes.
use Rattle.std.proofs.Common.{◌≡◌, ◌≢◌, ◌⊎◌, inl, inr, ℕ, ◌≤◌, Bool, true, false, not, ◌&&◌, ◌||◌, List, [], ◌∷◌, ◌++◌, drop, length, Option, Some, None, Ok, Err, refl, sym, ap, ◌∙◌, subst, append_assoc}
use Rattle.std.specs.Prelude.{Result, is_ok, is_some}
use Rattle.std.specs.List.{list_any}
use Rattle.mesh_base.specs.declared.limits.Limits.{Limits}
use Rattle.mesh_base.specs.declared.memory.Memory.{Memory}
use Rattle.mesh_links.specs.Calls.{Continues}
use Rattle.mesh_links.specs.declared.call.LinkCall.{LinkCall}
use Rattle.mesh_links.specs.declared.call.LinkCall.TheVariants as calls
use Rattle.mesh_links.specs.declared.call.ReadGot.TheVariants as reads
use Rattle.line_run.specs.Rows.{Row}
use Rattle.request_sim.specs.declared.fault.SimFault.{SimFault}
use Rattle.view_types.specs.declared.config.Config.{Config}
use Rattle.session_core.specs.Phases.{Phase, is_feeding, query_in, rows_in}
use Rattle.session_core.specs.declared.session.Ask.{Ask}
use Rattle.session_core.specs.declared.session.SessionFault.{SessionFault}
use Rattle.feed_history.specs.KnownPatterns.{known_of}
use Rattle.route_match.specs.Matching.{Pat}
use Rattle.mesh_hub.specs.Hub.{state_of}
use Rattle.link_sessions.specs.Entries.{changed, entries_of, filled}
use Rattle.fed_hub.specs.LineSteps.{Holds}
use Rattle.fed_hub.specs.declared.hub.FedHub.{FedHub}
use Rattle.serve_rules.specs.Batches.{Serving}
use Rattle.serve_rules.specs.FedLines.{FedRow, is_stop, serve_of}
use Rattle.serve_rules.specs.LinkStates.{LinkState, admits, admits_by, answers_then, came, closing, fed_rows, fed_then as fed_after, feeds, heard, is_empty, is_feed, may_read, phase_in, query_of, subs, turned_away, within}
use Rattle.serve_rules.specs.Turns.{ReadStep, room}
use Rattle.session_core.specs.Pieces.{answer_to}
use Rattle.session_core.specs.States.{IsFault}
use Rattle.session_core.specs.declared.session.SessionFault.TheVariants.{Memory as OutOfMemory}
use Rattle.serve_core.specs.Hearing.{Hears, IsFaulty, IsHeard}
use Rattle.serve_core.specs.Served.{IsAt, serving_of}
use Rattle.serve_core.specs.Steps.{AreUnmarked, ClosesAt, IsBegun, IsFed, SettlesAt, StaysFed, TakesStep, gone_on}
use Rattle.serve_core.specs.TurnCalls.{Grows, MayClose}
use Rattle.serve_core.specs.declared.turning.Pass.TheVariants as passes
use Rattle.serve_core.specs.declared.turning.Turning.{Turning}
use Rattle.serve_core.proofs.AskShapes.{Heads, asks_refused, asks_shaped}
use Rattle.serve_core.proofs.AsksTaken.{AreSomeHeard, left_over}
use Rattle.serve_core.proofs.FedParts.{fed_none, few_none}
use Rattle.serve_core.proofs.HeardHeads.{answered, taken_but, taken_in}
use Rattle.serve_core.proofs.OpenTraces.{last_read, shown_read}
use Rattle.serve_core.proofs.ReadAsks.{ReadsTo, asked_for, first_of, rows_now}
use Rattle.serve_core.proofs.ReadBytes.{away_step, came_is, drop_none, heard_step, put_at, rows_none}
use Rattle.serve_core.proofs.Settles.{closing_closed, same_made, stays_same, stays_then}
use Rattle.serve_core.proofs.Staying.{at_later, found_here}

is_first : (a b : Bool) → (a && b) ≡ true → a ≡ true
is_first true b both = refl
is_first false b both = absurd cc

is_second : (a b : Bool) → (a && b) ≡ true → b ≡ true
is_second true b both = both
is_second false b both = absurd cc

not_so : (b : Bool) → not b ≡ true → b ≡ false
not_so true is = absurd cc
not_so false is = refl

or_same : (b : Bool) → (b || false) ≡ b
or_same true = refl
or_same false = refl

-- a feed that is read has nothing left to write
fed_empty : (feed empty : Bool) → (not feed || empty) ≡ true → feed ≡ true → empty ≡ false → true ≡ false
fed_empty true empty room is some = sym room ∙ some
fed_empty false empty room is some = absurd cc

-- a fault that isn't a lack of memory is told
fault_is : (fault : SessionFault) (found : Result (List Ask) SessionFault) → fault ≢ OutOfMemory → IsFault fault found → is_ok found ≡ false
fault_is OutOfMemory found known is = absurd (known refl)
fault_is _ found known is = ap (λ (one : Result (List Ask) SessionFault). is_ok one) is

module _ (number : ℕ) (trace_before trace_mid : Option (List LinkCall)) (old : Turning) (piece : List ℕ) (read : Continues trace_before trace_mid (λ t. Some (calls.Read number room (reads.Bytes piece)))) (tells : Option Pat) (refuses : Option (List ℕ → Bool)) (before now : ℕ) (later : before ≤ now) where
  abbrev call : LinkCall
  call = calls.Read number room (reads.Bytes piece)

  fed_around : (config : Config) (limits : Limits) (pat : Pat) (fed lines : List FedRow) (mid between new : Turning) → mid.hub ≡ old.hub → StaysFed between new → IsFed config limits pat (known_of tells refuses before now) fed lines mid between → IsFed config limits pat (known_of tells refuses before now) fed lines old new
  fed_around config limits pat fed lines mid between new same stays is = record {
    holds = stays.holds config limits pat (lines ++ fed) is.holds;
    few = is.few;
    fair = is.fair;
    stopped = stays.stopped ∙ is.stopped ∙ ap (λ (hub : FedHub). hub.stopped || list_any (is_stop (serve_of config limits pat)) lines) same;
    same_config = stays.same_config ∙ is.same_config ∙ ap (λ (hub : FedHub). hub.config) same;
  }

  holds_mid : (config : Config) (limits : Limits) (pat : Pat) (fed : List FedRow) (mid : Turning) → mid.hub ≡ old.hub → Holds config limits pat fed (state_of old.hub.hub) → Holds config limits pat fed (state_of mid.hub.hub)
  holds_mid config limits pat fed mid same holds = subst (λ (hub : FedHub). Holds config limits pat fed (state_of hub.hub)) (sym same) holds

  module _ (config : Config) (limits : Limits) (pat : Pat) (fed : List FedRow) (done : List LinkState) (s : LinkState) (links : List LinkState) (trace : List LinkCall) (same : s.number ≡ number) (turn : may_read (serving_of config limits pat) s ≡ true) where
    abbrev serving : Serving
    serving = serving_of config limits pat

    behind : (s.readable && (not s.ended && (not (is_feed serving s.bytes) || is_empty s.outbox))) ≡ true
    behind = is_second s.is_open (s.readable && (not s.ended && (not (is_feed serving s.bytes) || is_empty s.outbox))) turn

    behind_that : (not s.ended && (not (is_feed serving s.bytes) || is_empty s.outbox)) ≡ true
    behind_that = is_second s.readable (not s.ended && (not (is_feed serving s.bytes) || is_empty s.outbox)) behind

    opens : s.is_open ≡ true
    opens = is_first s.is_open (s.readable && (not s.ended && (not (is_feed serving s.bytes) || is_empty s.outbox))) turn

    going : s.ended ≡ false
    going = not_so s.ended (is_first (not s.ended) (not (is_feed serving s.bytes) || is_empty s.outbox) behind_that)

    has_room : (not (is_feed serving s.bytes) || is_empty s.outbox) ≡ true
    has_room = is_second (not s.ended) (not (is_feed serving s.bytes) || is_empty s.outbox) behind_that

    abbrev at_call : IsAt config limits pat fed (done ++ s ∷ links) trace old → IsAt config limits pat fed (done ++ s ∷ links) (trace ++ call ∷ []) old
    at_call at = at_later config limits pat fed (done ++ s ∷ links) trace (trace ++ call ∷ []) old (last_read trace number room (reads.Bytes piece)) (λ shown. shown_read trace number room (reads.Bytes piece) (done ++ s ∷ links) shown) at

    call_is : (more : List LinkCall) → call ∷ more ≡ calls.Read s.number room (reads.Bytes piece) ∷ more
    call_is more = ap (λ n. calls.Read n room (reads.Bytes piece) ∷ more) (sym same)

    -- answers of a link that feeds no lines
    unfed_none : (met : ℕ → Option SimFault) → is_feed serving (s.bytes ++ piece) ≡ false → answers_then serving fed (fed_rows number met (first_of config limits pat tells refuses number s) (rows_now config limits pat tells refuses number s piece)) ≡ []
    unfed_none met unfed =
        let n = first_of config limits pat tells refuses number s in
        let none = ap (λ rows. let more : List Row = drop n rows in more) (rows_none limits.line (is_empty piece) (phase_in serving (s.bytes ++ piece)) unfed) ∙ drop_none n in
        ap (λ rows. answers_then serving fed (fed_rows number met n rows)) none

    -- and of one on which something is left to write
    left_none : (met : ℕ → Option SimFault) → Heads (phase_in serving s.bytes) (phase_in serving (s.bytes ++ piece)) → (is_feed serving s.bytes ≡ false → query_of serving s.bytes ≡ None → s.outbox ≡ []) → is_empty s.outbox ≡ false
        → answers_then serving fed (fed_rows number met (first_of config limits pat tells refuses number s) (rows_now config limits pat tells refuses number s piece)) ≡ []
    left_none met (inl one) quiet some = by_feed (is_feed serving s.bytes) refl
      where
        by_feed : (b : Bool) → is_feed serving s.bytes ≡ b → answers_then serving fed (fed_rows number met (first_of config limits pat tells refuses number s) (rows_now config limits pat tells refuses number s piece)) ≡ []
        by_feed true is = absurd (let wrong : true ≡ false = fed_empty (is_feed serving s.bytes) (is_empty s.outbox) has_room is some in cc)
        by_feed false is = unfed_none met (one.feed ∙ is)
    left_none met (inr (inl feed)) quiet some = absurd (let wrong : true ≡ false = sym (ap (λ (items : List (List ℕ)). is_empty items) (quiet feed.unfed feed.unasked)) ∙ some in cc)
    left_none met (inr (inr ask)) quiet some = unfed_none met ask.unfed_now

  -- ---- it is heard

  pub read_heard : (heard_now new : Turning) (trace_now : Option (List LinkCall)) → Hears number piece (known_of tells refuses before now) old (Ok true) heard_now → Grows (MayClose number) trace_mid trace_now → SettlesAt number trace_mid heard_now trace_now new → StaysFed heard_now new
      → TakesStep passes.Reads number (known_of tells refuses before now) trace_before old (Ok tt) trace_now new
  read_heard heard_now new trace_now hears more settles stays config limits pat fed trace told holds hub_config =
      let trace_then = trace ++ call ∷ [] in
      let told_then = read trace told in
      let rest = more trace_then told_then in
      let mid = hears.mid in
      let between = hears.takes.between in
      let mid_same : mid.hub ≡ old.hub = ap (λ (one : Turning). one.hub) hears.given.same in
      let asked = asked_for config limits pat tells refuses number hears.asked fed before now mid (Ok true) between hears.takes.answers (holds_mid config limits pat fed mid mid_same holds) (ap (λ (hub : FedHub). hub.config) mid_same ∙ hub_config) hears.takes.each in
      let stays_all = stays_then between heard_now new (stays_same between heard_now (ap (λ (one : Turning). one.hub) hears.takes.same)) stays in
      record {
        lines = asked.lines;
        made = call ∷ rest.made;
        grew = rest.grew ∙ ap Some (append_assoc trace (call ∷ []) rest.made);
        is_fed = fed_around config limits pat fed asked.lines mid between new mid_same stays_all asked.is_fed;
        steps = λ matches done s links same turn at.
            let serving = serving_of config limits pat in
            let is_open = opens config limits pat fed done s links trace same turn in
            let going_on = going config limits pat fed done s links trace same turn in
            let called = at_call config limits pat fed done s links trace same turn at in
            let found = found_here config limits pat fed number done s links trace_then old same is_open called in
            let taken = taken_in config limits pat fed number done s links trace_then same is_open going_on piece old mid (Ok hears.asked) hears.given called in
            let shaped = asks_shaped config limits s.bytes piece hears.asked found.is.fine (answered config limits pat fed number done s links trace_then same is_open going_on piece old mid (Ok hears.asked) hears.given called) in
            let to = asked.reads matches done s links trace_then same is_open going_on piece taken shaped.fine shaped.heads shaped.shape in
            let n = first_of config limits pat tells refuses number s in
            let rows = rows_now config limits pat tells refuses number s piece in
            let lines_are = fed_rows number to.heard.met n rows in
            let added : List (List ℕ) = answers_then serving fed lines_are in
            let t : LinkState = record s { bytes = s.bytes ++ piece; ended = is_empty piece } in
            let u : LinkState = record t { outbox = s.outbox ++ added } in
            let u_at = put_at config limits pat (asked.lines ++ fed) number done t links trace_then same is_open added
            (left_none config limits pat fed done s links trace same turn to.heard.met shaped.heads found.is.quiet) (unfed_none config limits pat fed done s links trace same turn to.heard.met)
            between heard_now (is_empty piece || false) (is_empty piece) (or_same (is_empty piece)) to.heard.at hears.takes.same (hears.takes.entries ∙ ap (λ items. changed number (filled items) (entries_of between.kept)) to.heard.answers_are) hears.takes.settled in
            let settled = settles config limits pat (asked.lines ++ fed) done u links trace_then told_then same is_open u_at in
            let after = gone_on serving u in
            let closes : rest.made ≡ closing u after = same_made trace_then rest.made (closing u after) trace_now rest.grew settled.grew in
            let came_so : lines_are ≡ came serving to.heard.met s piece = ap (λ k. fed_rows k to.heard.met n rows) (sym same) ∙ sym (came_is serving to.heard.met s piece) in
            record {
              after = after;
              stepped = heard_step serving (done ++ links) fed s piece (call ∷ rest.made) (asked.lines ++ fed) after to.heard.met turn to.admits
                  (call_is config limits pat fed done s links trace same turn rest.made ∙ ap (λ made. calls.Read s.number room (reads.Bytes piece) ∷ made) closes)
                  (to.heard.fed_is ∙ ap (fed_after fed) came_so) (ap (λ ls. heard serving fed ls s piece) came_so);
              at = subst (λ calls_so_far. IsAt config limits pat (asked.lines ++ fed) (done ++ after ∷ links) calls_so_far new) (ap (λ made. trace_then ++ made) (sym closes) ∙ append_assoc trace (call ∷ []) rest.made) settled.at;
            };
      }

  -- ---- it is closed

  -- what bytes with a fault come to
  module _ (config : Config) (limits : Limits) (pat : Pat) (fed : List FedRow) (s : LinkState) (others : List LinkState) (refused : is_ok (phase_in (serving_of config limits pat) (s.bytes ++ piece)) ≡ false) where
    faulty_admits : admits_by limits (feeds (serving_of config limits pat) others) (subs (serving_of config limits pat) others) (phase_in (serving_of config limits pat) s.bytes) (phase_in (serving_of config limits pat) (s.bytes ++ piece)) ≡ true
    faulty_admits =
        let serving = serving_of config limits pat in
        by_phase (phase_in serving (s.bytes ++ piece)) refused (is_feeding (phase_in serving s.bytes)) (is_some (query_in (phase_in serving s.bytes)))
      where
        by_flags : (f u : ℕ) (a b : Bool) → (within limits.feeds f a false && within limits.subs u b false) ≡ true
        by_flags f u true true = refl
        by_flags f u true false = refl
        by_flags f u false true = refl
        by_flags f u false false = refl

        by_phase : (now : Result Phase SessionFault) → is_ok now ≡ false → (a b : Bool)
            → (within limits.feeds (feeds (serving_of config limits pat) others) a (is_feeding now) && within limits.subs (subs (serving_of config limits pat) others) b (is_some (query_in now))) ≡ true
        by_phase (Ok now) wrong a b = absurd (let not_so : true ≡ false = wrong in cc)
        by_phase (Err fault) wrong a b = by_flags (feeds (serving_of config limits pat) others) (subs (serving_of config limits pat) others) a b

    unfed_by : (now : Result Phase SessionFault) → is_ok now ≡ false → is_feeding now ≡ false
    unfed_by (Ok now) wrong = absurd (let not_so : true ≡ false = wrong in cc)
    unfed_by (Err fault) wrong = refl

    faulty_came : came (serving_of config limits pat) (λ n. None) s piece ≡ []
    faulty_came =
        let serving = serving_of config limits pat in
        let n = length (rows_in limits.line false (phase_in serving s.bytes)) in
        let none = rows_none limits.line (is_empty piece) (phase_in serving (s.bytes ++ piece)) (unfed_by (phase_in serving (s.bytes ++ piece)) refused) in
        came_is serving (λ n. None) s piece ∙ ap (λ rows. fed_rows s.number (λ n. None) n (drop n rows)) none ∙ ap (λ rows. fed_rows s.number (λ n. None) n rows) (drop_none n)

  pub read_faulty : (heard_now new : Turning) (trace_now : Option (List LinkCall)) → IsFaulty number piece old heard_now → Grows (MayClose number) trace_mid trace_now → ClosesAt number trace_mid heard_now trace_now new → StaysFed heard_now new
      → TakesStep passes.Reads number (known_of tells refuses before now) trace_before old (Ok tt) trace_now new
  read_faulty heard_now new trace_now faulty more closes stays config limits pat fed trace told holds hub_config =
      let trace_then = trace ++ call ∷ [] in
      let told_then = read trace told in
      let rest = more trace_then told_then in
      let stays_all = stays_then old heard_now new (stays_same old heard_now (ap (λ (one : Turning). one.hub) faulty.given.same)) stays in
      record {
        lines = [];
        made = call ∷ rest.made;
        grew = rest.grew ∙ ap Some (append_assoc trace (call ∷ []) rest.made);
        is_fed = fed_none config limits pat tells refuses before now fed old new later holds stays_all;
        steps = λ matches done s links same turn at.
            let serving = serving_of config limits pat in
            let is_open = opens config limits pat fed done s links trace same turn in
            let going_on = going config limits pat fed done s links trace same turn in
            let called = at_call config limits pat fed done s links trace same turn at in
            let found = found_here config limits pat fed number done s links trace_then old same is_open called in
            let taken = taken_in config limits pat fed number done s links trace_then same is_open going_on piece old heard_now (Err faulty.fault) faulty.given called in
            let no_answer = fault_is faulty.fault (answer_to config limits (record { bytes = s.bytes; ended = false }) piece) faulty.known (answered config limits pat fed number done s links trace_then same is_open going_on piece old heard_now (Err faulty.fault) faulty.given called) in
            let refused = asks_refused config limits s.bytes piece found.is.fine no_answer in
            let lines_are = came serving (λ n. None) s piece in
            let after = heard serving fed lines_are s piece in
            let closed : after.is_open ≡ false = ap (λ b. b && (not (is_empty piece) || (is_feeding (phase_in serving (s.bytes ++ piece)) && not (is_empty (s.outbox ++ answers_then serving fed lines_are))))) refused in
            let ends = closes config limits pat fed done s links trace_then told_then same is_open (taken_but config limits pat fed number done s links trace_then same is_open going_on piece heard_now taken) in
            let one : rest.made ≡ calls.Close number ∷ [] = same_made trace_then rest.made (calls.Close number ∷ []) trace_now rest.grew ends.grew in
            let closes_it : rest.made ≡ closing s after = one ∙ ap (λ n. calls.Close n ∷ []) (sym same) ∙ sym (closing_closed s after is_open closed) in
            record {
              after = after;
              stepped = heard_step serving (done ++ links) fed s piece (call ∷ rest.made) fed after (λ n. None) turn (faulty_admits config limits pat fed s (done ++ links) refused)
                  (call_is config limits pat fed done s links trace same turn rest.made ∙ ap (λ made. calls.Read s.number room (reads.Bytes piece) ∷ made) closes_it) (sym (ap (fed_after fed) (faulty_came config limits pat fed s (done ++ links) refused))) refl;
              at = subst (λ calls_so_far. IsAt config limits pat fed (done ++ after ∷ links) calls_so_far new) (ap (λ made. trace_then ++ made) (sym one) ∙ append_assoc trace (call ∷ []) rest.made) (ends.at after same closed);
            };
      }

  -- a limit is met
  pub read_away : (heard_now new : Turning) (trace_now : Option (List LinkCall)) → IsHeard number piece (known_of tells refuses before now) old (Ok false) heard_now → Grows (MayClose number) trace_mid trace_now → ClosesAt number trace_mid heard_now trace_now new → StaysFed heard_now new
      → TakesStep passes.Reads number (known_of tells refuses before now) trace_before old (Ok tt) trace_now new
  read_away heard_now new trace_now hears more closes stays config limits pat fed trace told holds hub_config =
      let trace_then = trace ++ call ∷ [] in
      let told_then = read trace told in
      let rest = more trace_then told_then in
      let mid = hears.mid in
      let mid_same : mid.hub ≡ old.hub = ap (λ (one : Turning). one.hub) hears.given.same in
      let asked = asked_for config limits pat tells refuses number hears.asked fed before now mid (Ok false) heard_now hears.takes.0 (holds_mid config limits pat fed mid mid_same holds) (ap (λ (hub : FedHub). hub.config) mid_same ∙ hub_config) hears.takes.1 in
      record {
        lines = asked.lines;
        made = call ∷ rest.made;
        grew = rest.grew ∙ ap Some (append_assoc trace (call ∷ []) rest.made);
        is_fed = fed_around config limits pat fed asked.lines mid heard_now new mid_same stays asked.is_fed;
        steps = λ matches done s links same turn at.
            let serving = serving_of config limits pat in
            let is_open = opens config limits pat fed done s links trace same turn in
            let going_on = going config limits pat fed done s links trace same turn in
            let called = at_call config limits pat fed done s links trace same turn at in
            let found = found_here config limits pat fed number done s links trace_then old same is_open called in
            let taken = taken_in config limits pat fed number done s links trace_then same is_open going_on piece old mid (Ok hears.asked) hears.given called in
            let shaped = asks_shaped config limits s.bytes piece hears.asked found.is.fine (answered config limits pat fed number done s links trace_then same is_open going_on piece old mid (Ok hears.asked) hears.given called) in
            let to = asked.reads matches done s links trace_then same is_open going_on piece taken shaped.fine shaped.heads shaped.shape in
            let after = turned_away s piece in
            let ends = closes config limits pat fed done s links trace_then told_then same is_open (taken_but config limits pat fed number done s links trace_then same is_open going_on piece heard_now to.taken) in
            let one : rest.made ≡ calls.Close number ∷ [] = same_made trace_then rest.made (calls.Close number ∷ []) trace_now rest.grew ends.grew in
            let closes_it : rest.made ≡ closing s after = one ∙ ap (λ n. calls.Close n ∷ []) (sym same) ∙ sym (closing_closed s after is_open refl) in
            let stepped = away_step serving (done ++ links) fed s piece (call ∷ rest.made) after turn to.admits (call_is config limits pat fed done s links trace same turn rest.made ∙ ap (λ made. calls.Read s.number room (reads.Bytes piece) ∷ made) closes_it) refl in
            record {
              after = after;
              stepped = subst (λ (ls : List FedRow). ReadStep serving false (done ++ links) fed s (call ∷ rest.made) (ls ++ fed) after) (sym to.none) stepped;
              at = subst (λ (ls : List FedRow). IsAt config limits pat (ls ++ fed) (done ++ after ∷ links) (trace ++ (call ∷ rest.made)) new) (sym to.none)
                  (subst (λ calls_so_far. IsAt config limits pat fed (done ++ after ∷ links) calls_so_far new) (ap (λ made. trace_then ++ made) (sym one) ∙ append_assoc trace (call ∷ []) rest.made) (ends.at after same refl));
            };
      }

  pub read_refused : (heard_now new : Turning) (trace_now : Option (List LinkCall)) → Hears number piece (known_of tells refuses before now) old (Ok false) heard_now → Grows (MayClose number) trace_mid trace_now → ClosesAt number trace_mid heard_now trace_now new → StaysFed heard_now new
      → TakesStep passes.Reads number (known_of tells refuses before now) trace_before old (Ok tt) trace_now new
  read_refused heard_now new trace_now (inl faulty) more closes stays = read_faulty heard_now new trace_now faulty more closes stays
  read_refused heard_now new trace_now (inr hears) more closes stays = read_away heard_now new trace_now hears more closes stays

  -- ---- memory ran out

  -- a read that gives these bytes begins so
  begun_heard : (serving : Serving) (others : List LinkState) (fed lines rest : List FedRow) (s : LinkState) (met : ℕ → Option SimFault) → AreUnmarked rest → s.number ≡ number → may_read serving s ≡ true → admits serving others s.bytes (reads.Bytes piece) ≡ true → rest ++ (lines ++ fed) ≡ fed_after fed (came serving met s piece)
      → IsBegun (ReadStep serving false) others fed s (call ∷ []) (lines ++ fed)
  begun_heard serving others fed lines rest s met unmarked same turn admitted fed_is =
      let after = heard serving fed (came serving met s piece) s piece in
      record {
        more = closing s after;
        rest = rest;
        unmarked = unmarked;
        after = after;
        stepped = heard_step serving others fed s piece (call ∷ closing s after) (rest ++ (lines ++ fed)) after met turn admitted (ap (λ n. calls.Read n room (reads.Bytes piece) ∷ closing s after) (sym same)) fed_is refl;
      }

  begun_away : (serving : Serving) (others : List LinkState) (fed lines rest : List FedRow) (s : LinkState) → AreUnmarked rest → s.number ≡ number → may_read serving s ≡ true → admits serving others s.bytes (reads.Bytes piece) ≡ false → rest ++ (lines ++ fed) ≡ fed → IsBegun (ReadStep serving false) others fed s (call ∷ []) (lines ++ fed)
  begun_away serving others fed lines rest s unmarked same turn refused fed_is =
      let after = turned_away s piece in
      record {
        more = closing s after;
        rest = rest;
        unmarked = unmarked;
        after = after;
        stepped = subst (λ fs. ReadStep serving false others fed s (call ∷ closing s after) fs after) (sym fed_is)
            (away_step serving others fed s piece (call ∷ closing s after) after turn refused (ap (λ n. calls.Read n room (reads.Bytes piece) ∷ closing s after) (sym same)) refl);
      }

  begun_some : (config : Config) (limits : Limits) (pat : Pat) (fed : List FedRow) (others : List LinkState) (s : LinkState) → s.number ≡ number → may_read (serving_of config limits pat) s ≡ true → (b : Bool) → admits (serving_of config limits pat) others s.bytes (reads.Bytes piece) ≡ b
      → IsBegun (ReadStep (serving_of config limits pat) false) others fed s (call ∷ []) fed
  begun_some config limits pat fed others s same turn true admitted =
      let serving = serving_of config limits pat in
      let n = first_of config limits pat tells refuses number s in
      let left = left_over s.number n (rows_now config limits pat tells refuses number s piece) fed in
      begun_heard serving others fed [] left.rest s (λ k. None) left.unmarked same turn admitted (left.fed_is ∙ ap (fed_after fed) (sym (came_is serving (λ k. None) s piece)))
  begun_some config limits pat fed others s same turn false refused = begun_away (serving_of config limits pat) others fed [] [] s tt same turn refused refl

  begun_cut : (config : Config) (limits : Limits) (pat : Pat) (fed lines : List FedRow) (others : List LinkState) (s : LinkState) → s.number ≡ number → may_read (serving_of config limits pat) s ≡ true → (some : AreSomeHeard config limits pat tells refuses number fed lines (first_of config limits pat tells refuses number s) (rows_now config limits pat tells refuses number s piece))
      → (admits (serving_of config limits pat) others s.bytes (reads.Bytes piece) ≡ true) ⊎ (rows_now config limits pat tells refuses number s piece ≡ []) → (b : Bool) → admits (serving_of config limits pat) others s.bytes (reads.Bytes piece) ≡ b → IsBegun (ReadStep (serving_of config limits pat) false) others fed s (call ∷ []) (lines ++ fed)
  begun_cut config limits pat fed lines others s same turn some either true admitted =
      let serving = serving_of config limits pat in
      let n = first_of config limits pat tells refuses number s in
      begun_heard serving others fed lines some.rest s some.met some.unmarked same turn admitted
      (some.fed_is ∙ ap (λ k. fed_after fed (fed_rows k some.met n (rows_now config limits pat tells refuses number s piece))) (sym same) ∙ ap (fed_after fed) (sym (came_is serving some.met s piece)))
  begun_cut config limits pat fed lines others s same turn some (inl admitted) false refused = absurd (let wrong : true ≡ false = sym admitted ∙ refused in cc)
  begun_cut config limits pat fed lines others s same turn some (inr none) false refused =
      begun_away (serving_of config limits pat) others fed lines some.rest s some.unmarked same turn refused (some.fed_is ∙ ap (λ rows. fed_after fed (fed_rows number some.met (first_of config limits pat tells refuses number s) rows)) none)

  begun_from : (config : Config) (limits : Limits) (pat : Pat) (fed lines : List FedRow) (done : List LinkState) (s : LinkState) (links : List LinkState) (trace : List LinkCall) (same : s.number ≡ number) (is_open : s.is_open ≡ true) (going_on : s.ended ≡ false) → may_read (serving_of config limits pat) s ≡ true
      → (result : Result Bool Memory) (answers : List (List ℕ)) (new : Turning) → ReadsTo config limits pat tells refuses number fed lines done s links trace same is_open going_on piece result answers new → IsBegun (ReadStep (serving_of config limits pat) false) (done ++ links) fed s (call ∷ []) (lines ++ fed)
  begun_from config limits pat fed lines done s links trace same is_open going_on turn (Ok true) answers new to =
      let serving = serving_of config limits pat in
      let n = first_of config limits pat tells refuses number s in
      begun_heard serving (done ++ links) fed lines [] s to.heard.met tt same turn to.admits
      (to.heard.fed_is ∙ ap (λ k. fed_after fed (fed_rows k to.heard.met n (rows_now config limits pat tells refuses number s piece))) (sym same) ∙ ap (fed_after fed) (sym (came_is serving to.heard.met s piece)))
  begun_from config limits pat fed lines done s links trace same is_open going_on turn (Ok false) answers new to =
      begun_away (serving_of config limits pat) (done ++ links) fed lines [] s tt same turn to.admits (ap (λ (ls : List FedRow). ls ++ fed) to.none)
  begun_from config limits pat fed lines done s links trace same is_open going_on turn (Err memory) answers new to =
      begun_cut config limits pat fed lines (done ++ links) s same turn to.some to.admits (admits (serving_of config limits pat) (done ++ links) s.bytes (reads.Bytes piece)) refl

  pub read_cut : (memory : Memory) (heard_now new : Turning) → Hears number piece (known_of tells refuses before now) old (Err memory) heard_now → TakesStep passes.Reads number (known_of tells refuses before now) trace_before old (Err memory) trace_mid new
  read_cut memory heard_now new (inl since) config limits pat fed trace told holds hub_config = record {
    lines = [];
    made = call ∷ [];
    grew = read trace told;
    few = few_none before now later;
    fair = λ fair. fair;
    begins = λ matches done s links same turn at. begun_some config limits pat fed (done ++ links) s same turn (admits (serving_of config limits pat) (done ++ links) s.bytes (reads.Bytes piece)) refl;
  }
  read_cut memory heard_now new (inr hears) config limits pat fed trace told holds hub_config =
      let trace_then = trace ++ call ∷ [] in
      let mid = hears.mid in
      let mid_same : mid.hub ≡ old.hub = ap (λ (one : Turning). one.hub) hears.given.same in
      let asked = asked_for config limits pat tells refuses number hears.asked fed before now mid hears.takes.result hears.takes.between hears.takes.answers (holds_mid config limits pat fed mid mid_same holds) (ap (λ (hub : FedHub). hub.config) mid_same ∙ hub_config) hears.takes.each in
      record {
        lines = asked.lines;
        made = call ∷ [];
        grew = read trace told;
        few = asked.few;
        fair = asked.fair;
        begins = λ matches done s links same turn at.
            let is_open = opens config limits pat fed done s links trace same turn in
            let going_on = going config limits pat fed done s links trace same turn in
            let called = at_call config limits pat fed done s links trace same turn at in
            let found = found_here config limits pat fed number done s links trace_then old same is_open called in
            let taken = taken_in config limits pat fed number done s links trace_then same is_open going_on piece old mid (Ok hears.asked) hears.given called in
            let shaped = asks_shaped config limits s.bytes piece hears.asked found.is.fine (answered config limits pat fed number done s links trace_then same is_open going_on piece old mid (Ok hears.asked) hears.given called) in
            begun_from config limits pat fed asked.lines done s links trace_then same is_open going_on turn hears.takes.result hears.takes.answers hears.takes.between
            (asked.reads matches done s links trace_then same is_open going_on piece taken shaped.fine shaped.heads shaped.shape);
      }
