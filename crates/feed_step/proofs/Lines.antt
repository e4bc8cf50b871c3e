-- What a line comes to, from what the call that it asks for comes to.
use Rattle.std.proofs.Common.{◌≡◌, ℕ, ◌≤◌, true, false, cond, ◌||◌, List, [], ◌∷◌, ◌++◌, map, Option, Some, None, refl, sym, ap, ◌∙◌, subst, append-nil, inl, inr}
use Rattle.std.specs.Prelude.{IfOk, IfSome, Result, Ok, Err, is_some, option_map}
use Rattle.std.proofs.lemmas.List.{map-append}
use Rattle.mesh_base.specs.declared.sub_id.SubId.{SubId}
use Rattle.view_types.specs.Objects.{ObjectMap}
use Rattle.view_types.specs.declared.query.Query.{Query}
use Rattle.view_types.specs.declared.request.Request.{Request}
use Rattle.request_sim.specs.declared.fault.SimFault.{SimFault}
use Rattle.watch_events.specs.declared.event.Event.{Event}
use Rattle.watch_events.specs.declared.line.Line.{Line}
use Rattle.watch_events.specs.declared.line.Line.TheVariants as lines
use Rattle.feed_history.specs.Optional.{Becomes}
use Rattle.feed_history.proofs.Optional.{Becomes-same}
use Rattle.feed_history.specs.Drains.{unless_too_long}
use Rattle.feed_history.specs.History.{Asked, State, after_line, asked_at, hub_refusal, id_of, line_refusal, messages_due, refusal_of, told_now, too_long_for, ids_of}
use Rattle.mesh_hub.specs.Hub.{HubState, applied, apply_refusal, cancelled, new_refusal, sub_at, subscribed}
use Rattle.feed_history.specs.Ids.{ended, in_place, unknown_refusal, unless_refused}
use Rattle.feed_history.specs.Output.{drain_lines, line_text, lines_if_live, message_lines, row_piece}
use Rattle.feed_history.specs.Program.{Program, has_place_in_replay}
use Rattle.mesh_hub.specs.HubAfter.{seen, seen_sub}
use Rattle.mesh_hub.specs.declared.machine.Reply.{Reply}
use Rattle.mesh_hub.specs.declared.machine.Reply.TheVariants as replies
use Rattle.feed_history.specs.declared.refusal.HubFault.{HubFault}
use Rattle.feed_history.specs.declared.refusal.Refusal.{Refusal}
use Rattle.feed_history.specs.declared.refusal.Refusal.TheVariants as refusals
use Rattle.feed_history.proofs.Placed.{found_has_id}
use Rattle.subscriptions.proofs.Mapped.{mapped_in_place}
use Rattle.mesh_hub.proofs.HubSteps.{applied_seen, cancelled_seen, drained_seen, same_in_place, sub_seen, subscribe_refused, subscribed_seen, unknown_refused}
use Rattle.feed_history.specs.Lengths.{HasLength, RowHasLength}
use Rattle.feed_step.specs.Transcript.{Saying, refusal_in, reply_text, said_by, said_by_line, saying, sim_text, with_reply}
use Rattle.feed_history.specs.KnownPatterns.{PatternsNow, facts_in}
use Rattle.feed_history.specs.MarkCauses.{MayMeetBy}
use Rattle.feed_step.specs.LineStep.{Calls, Drains, IsMetIfAny, IsSimulated, LengthFits, Makes, Replied, TakesByReplies, TakesFrom, Unreplied, drain_refusal, drained_as, drained_lines, drained_unless, held_next, led_to, live_drained, live_unless, text_unless}
use Rattle.feed_step.specs.declared.drain.Drained.{Drained}
use Rattle.feed_history.proofs.Marks.{none_met}

pub IfOk-weaker : {T E : Type 0} (r : Result T E) (P Q : T → Type 0) → ((x : T) → P x → Q x) → IfOk r P → IfOk r Q
IfOk-weaker (Ok x) P Q weaker holds = weaker x holds
IfOk-weaker (Err e) P Q weaker holds = tt

pub IfOk-both : {T E : Type 0} (r : Result T E) (P Q R : T → Type 0) → ((x : T) → P x → Q x → R x) → IfOk r P → IfOk r Q → IfOk r R
IfOk-both (Ok x) P Q R joins first second = joins x first second
IfOk-both (Err e) P Q R joins first second = tt

pub IfSome-weaker : {T : Type 0} (o : Option T) (P Q : T → Type 0) → ((x : T) → P x → Q x) → IfSome o P → IfSome o Q
IfSome-weaker (Some x) P Q weaker holds = weaker x holds
IfSome-weaker None P Q weaker holds = tt

pub IfSome-both : {T : Type 0} (o : Option T) (P Q R : T → Type 0) → ((x : T) → P x → Q x → R x) → IfSome o P → IfSome o Q → IfSome o R
IfSome-both (Some x) P Q R joins first second = joins x first second
IfSome-both None P Q R joins first second = tt

pub IfSome-all : {T : Type 0} (o : Option T) (P : T → Type 0) → ((x : T) → P x) → IfSome o P
IfSome-all (Some x) P all = all x
IfSome-all None P all = tt

-- a refused line leaves the objects as they were
pub held_still : (held : ObjectMap) (refusal : Refusal) (line : Result Line Refusal) → held_next held (Some refusal) line ≡ held
held_still held refusal (Ok (lines.Event event)) = refl
held_still held refusal (Ok (lines.Subscribe id query)) = refl
held_still held refusal (Ok (lines.Cancel id)) = refl
held_still held refusal (Ok (lines.Drain id)) = refl
held_still held refusal (Ok (lines.Simulate request)) = refl
held_still held refusal (Ok lines.Blank) = refl
held_still held refusal (Ok lines.Stop) = refl
held_still held refusal (Err fault) = refl

no_text : (refusal : Option Refusal) (out : List ℕ) → out ≡ out ++ text_unless refusal []
no_text None out = sym (append-nil out)
no_text (Some refusal) out = sym (append-nil out)

-- ---- by what is held

-- the length that a drain tells, where the machine stands where a history leads
length_here : (program : Program) (now : State) (found : Option Asked) → LengthFits (seen program now) (option_map (seen_sub program.config) found) → IfSome found (HasLength program now.objects)
length_here program now None fits = tt
length_here program now (Some asked) fits = fits

-- a refused line tells none
length_unless : (program : Program) (now : State) (line : Result Line Refusal) (refusal : Option Refusal) → RowHasLength program now None line → RowHasLength program now refusal line
length_unless program now line None fits = fits
length_unless program now line (Some refused) fits = tt

-- a line that has a place is refused only for its effect
placed : (program : Program) (now : State) (met : Option SimFault) (line : Line) → program.has_place line ≡ true → refusal_of program now met (Ok line) ≡ line_refusal program now met line
placed program now met line has = ap (λ b. cond b (line_refusal program now met line) (Some refusals.NotHere)) has

module _ (program : Program) (known : PatternsNow) (later : known.before ≤ known.now) (number : ℕ) where
  -- a row that was refused unread
  pub unread_from : (refusal : Refusal) (live out : List ℕ) (state : HubState) → TakesFrom program known number (Err refusal) (Some refusal) live live out out state state
  unread_from refusal live out state now here lives =
      record { met = None; counted = none_met known.before known.now later; may_meet = tt; refusal_is = refl; fits = tt; state = here; live_ids = lives; text = λ told. sym (append-nil out) }

  -- a line that has no place
  pub unplaced_from : (line : Line) → program.has_place line ≡ false → (live out : List ℕ) (state : HubState) → TakesFrom program known number (Ok line) (Some refusals.NotHere) live live out out state state
  unplaced_from line none live out state now here lives = record {
    met = None;
    counted = none_met known.before known.now later;
    may_meet = tt;
    refusal_is = sym (ap (λ b. cond b (line_refusal program now None line) (Some refusals.NotHere)) none);
    fits = tt;
    state = here;
    live_ids = lives;
    text = λ told. sym (append-nil out);
  }

  -- a line that is accepted and changes nothing
  still_from : (line : Line) → program.has_place line ≡ true → ((now : State) → (line_refusal program now None line ≡ None) × (after_line program now (Ok line) ≡ now) × RowHasLength program now None (Ok line) × (line_text program number now (Ok line) ≡ []))
      → (refusal : Option Refusal) (live live_new out out_new : List ℕ) (old new : HubState) → (refusal ≡ None) × (live_new ≡ live) × (out_new ≡ out) × (new ≡ old)
      → TakesFrom program known number (Ok line) refusal live live_new out out_new old new
  still_from line has still refusal live live_new out out_new old new rests now here lives =
      let stays = still now in
      let led : now ≡ led_to program now refusal (Ok line) = sym (ap (λ (r : Option Refusal). led_to program now r (Ok line)) rests.0 ∙ stays.1) in record {
        met = None;
        counted = none_met known.before known.now later;
        may_meet = tt;
        refusal_is = rests.0 ∙ sym stays.0 ∙ sym (placed program now None line has);
        fits = subst (λ (r : Option Refusal). RowHasLength program now r (Ok line)) (sym rests.0) stays.2;
        state = rests.3 ∙ here ∙ ap (seen program) led;
        live_ids = rests.1 ∙ lives ∙ ap (λ (s : State). ids_of s.subs) led;
        text = λ told. rests.2 ∙ sym (append-nil out) ∙ ap (λ (xs : List ℕ). out ++ xs) (sym (ap (λ (r : Option Refusal). text_unless r (line_text program number now (Ok line))) rests.0 ∙ stays.3));
      }

  -- a call leads where its line leads
  led : (now : State) (line : Line) (refusal : Option Refusal) (new : HubState) → refusal ≡ option_map refusals.Hub (hub_refusal program now line)
      → new ≡ seen program (unless_refused (hub_refusal program now line) now (after_line program now (Ok line))) → new ≡ seen program (led_to program now refusal (Ok line))
  led now line refusal new is state = state ∙ ap (seen program) (same (hub_refusal program now line) ∙ ap (λ (r : Option Refusal). led_to program now r (Ok line)) (sym is))
    where
      same : (fault : Option HubFault) → unless_refused fault now (after_line program now (Ok line)) ≡ led_to program now (option_map refusals.Hub fault) (Ok line)
      same None = refl
      same (Some fault) = refl

  event_ids : (now : State) (event : Event) (refusal : Option Refusal) → ids_of now.subs ≡ ids_of (led_to program now refusal (Ok (lines.Event event))).subs
  event_ids now event None = refl
  event_ids now event (Some refusal) = refl

  event_from : (event : Event) → program.has_place (lines.Event event) ≡ true → (refusal : Option Refusal) (live live_new out out_new : List ℕ) (old new : HubState)
      → Makes (apply_refusal old event) (applied old event) refusal new → live_new ≡ live → out_new ≡ out → TakesFrom program known number (Ok (lines.Event event)) refusal live live_new out out_new old new
  event_from event has refusal live live_new out out_new old new makes same silent now here lives =
      let made = subst (λ (s : HubState). Makes (apply_refusal s event) (applied s event) refusal new) here makes in record {
        met = None;
        counted = none_met known.before known.now later;
        may_meet = tt;
        refusal_is = made.refusal_is ∙ sym (placed program now None (lines.Event event) has);
        fits = length_unless program now (Ok (lines.Event event)) refusal tt;
        state = led now (lines.Event event) refusal new made.refusal_is (made.state ∙ applied_seen program now event);
        live_ids = same ∙ lives ∙ event_ids now event refusal;
        text = λ told. silent ∙ no_text refusal out;
      }

  new_ids : (now : State) (id : SubId) (query : Query) (live : List ℕ) (refusal : Option Refusal) → live ≡ ids_of now.subs
      → live_unless refusal live (live ++ id.0 ∷ []) ≡ ids_of (led_to program now refusal (Ok (lines.Subscribe id query))).subs
  new_ids now id query live None lives = ap (λ (xs : List ℕ). xs ++ id.0 ∷ []) lives ∙ sym (map-append id_of now.subs (record { id = id; query = query; told = None } ∷ []))
  new_ids now id query live (Some refusal) lives = lives

  subscribe_from : (id : SubId) (query : Query) → program.has_place (lines.Subscribe id query) ≡ true → (refusal : Option Refusal) (live live_new out out_new : List ℕ) (old new : HubState)
      → Makes (new_refusal old id.0) (subscribed old id query) refusal new → live_new ≡ live_unless refusal live (live ++ id.0 ∷ []) → out_new ≡ out
      → TakesFrom program known number (Ok (lines.Subscribe id query)) refusal live live_new out out_new old new
  subscribe_from id query has refusal live live_new out out_new old new makes adds silent now here lives =
      let made = subst (λ (s : HubState). Makes (new_refusal s id.0) (subscribed s id query) refusal new) here makes in
      let is = made.refusal_is ∙ ap (option_map refusals.Hub) (subscribe_refused program now id query) in record {
        met = None;
        counted = none_met known.before known.now later;
        may_meet = tt;
        refusal_is = is ∙ sym (placed program now None (lines.Subscribe id query) has);
        fits = length_unless program now (Ok (lines.Subscribe id query)) refusal tt;
        state = led now (lines.Subscribe id query) refusal new is (made.state ∙ subscribed_seen program now id query);
        live_ids = adds ∙ new_ids now id query live refusal lives;
        text = λ told. silent ∙ no_text refusal out;
      }

  cancelled_ids : (now : State) (id : SubId) (live : List ℕ) (refusal : Option Refusal) → live ≡ ids_of now.subs
      → live_unless refusal live (in_place (λ other. other) id.0 ended live) ≡ ids_of (led_to program now refusal (Ok (lines.Cancel id))).subs
  cancelled_ids now id live None lives =
      ap (in_place (λ other. other) id.0 ended) lives ∙ sym (mapped_in_place id_of id_of (λ other. other) (λ asked. refl) id.0 ended ended now.subs (λ asked found. refl))
  cancelled_ids now id live (Some refusal) lives = lives

  cancel_from : (id : SubId) → program.has_place (lines.Cancel id) ≡ true → (refusal : Option Refusal) (live live_new out out_new : List ℕ) (old new : HubState)
      → Makes (unknown_refusal id.0 (sub_at id.0 old.subs)) (cancelled old id.0) refusal new → live_new ≡ live_unless refusal live (in_place (λ other. other) id.0 ended live) → out_new ≡ out
      → TakesFrom program known number (Ok (lines.Cancel id)) refusal live live_new out out_new old new
  cancel_from id has refusal live live_new out out_new old new makes removes silent now here lives =
      let made = subst (λ (s : HubState). Makes (unknown_refusal id.0 (sub_at id.0 s.subs)) (cancelled s id.0) refusal new) here makes in
      let is = made.refusal_is ∙ ap (option_map refusals.Hub) (unknown_refused program now id.0) in record {
        met = None;
        counted = none_met known.before known.now later;
        may_meet = tt;
        refusal_is = is ∙ sym (placed program now None (lines.Cancel id) has);
        fits = length_unless program now (Ok (lines.Cancel id)) refusal tt;
        state = led now (lines.Cancel id) refusal new is (made.state ∙ cancelled_seen program now id);
        live_ids = removes ∙ cancelled_ids now id live refusal lives;
        text = λ told. silent ∙ no_text refusal out;
      }

  -- ---- a drain

  module _ (now : State) (id : SubId) where
    -- what comes of it where this stands under the id
    abbrev outcome_at : Option Asked → Drained
    outcome_at found = drained_as (seen program now) id.0 (option_map (seen_sub program.config) found)

    drain_refused : (found : Option Asked) → drain_refusal (outcome_at found) ≡ option_map refusals.Hub (unknown_refusal id.0 found)
    drain_refused None = refl
    drain_refused (Some asked) = by_length (too_long_for program now.objects asked)
      where
        by_length : (bytes : Option ℕ) → drain_refusal (drained_unless bytes) ≡ None
        by_length None = refl
        by_length (Some n) = refl

    -- the ids where one is drained, by whether a message is too long
    told_ids : (asked : Asked) (bytes : Option ℕ) → too_long_for program now.objects asked ≡ bytes → map id_of (told_now program now.objects asked) ≡ unless_too_long bytes asked.id.0
    told_ids asked bytes is = ap (λ (b : Option ℕ). map id_of (unless_too_long b (record asked { told = Some now.objects }))) is ∙ by_length bytes
      where
        by_length : (b : Option ℕ) → map id_of (unless_too_long b (record asked { told = Some now.objects })) ≡ unless_too_long b asked.id.0
        by_length None = refl
        by_length (Some n) = refl

    placed_ids : (asked : Asked) (bytes : Option ℕ) → asked_at id.0 now.subs ≡ Some asked → too_long_for program now.objects asked ≡ bytes
        → ids_of (in_place id_of id.0 (told_now program now.objects) now.subs) ≡ in_place (λ other. other) id.0 (unless_too_long bytes) (ids_of now.subs)
    placed_ids asked bytes found is = mapped_in_place id_of id_of (λ other. other) (λ one. refl) id.0 (told_now program now.objects) (unless_too_long bytes) now.subs
        (λ one at. let same : asked ≡ one = cc in subst (λ (a : Asked). map id_of (told_now program now.objects a) ≡ unless_too_long bytes a.id.0) same (told_ids asked bytes is))

    drained_ids : (live : List ℕ) (found : Option Asked) → live ≡ ids_of now.subs → asked_at id.0 now.subs ≡ found
        → live_drained id.0 (outcome_at found) live ≡ ids_of (led_to program now (drain_refusal (outcome_at found)) (Ok (lines.Drain id))).subs
    drained_ids live None lives is = lives
    drained_ids live (Some asked) lives is = by_length (too_long_for program now.objects asked) refl
      where
        by_length : (bytes : Option ℕ) → too_long_for program now.objects asked ≡ bytes
            → live_drained id.0 (drained_unless bytes) live ≡ ids_of (led_to program now (drain_refusal (drained_unless bytes)) (Ok (lines.Drain id))).subs
        by_length None short = lives ∙ sym (same_in_place (λ (other : ℕ). other) id.0 (ids_of now.subs)) ∙ sym (placed_ids asked None is short)
        by_length (Some n) short = ap (in_place (λ other. other) id.0 ended) lives ∙ sym (placed_ids asked (Some n) is short)

    drained_text : (found : Option Asked) → asked_at id.0 now.subs ≡ found
        → drained_lines (seen program now) id.0 (option_map (seen_sub program.config) found) ≡ text_unless (drain_refusal (outcome_at found)) (lines_if_live program now.objects found)
    drained_text None is = refl
    drained_text (Some asked) is =
        ap (λ (n : ℕ). message_lines program.limits.message n (messages_due program now.objects asked)) (sym (found_has_id id_of id.0 now.subs asked is)) ∙ by_length (too_long_for program now.objects asked)
      where
        by_length : (bytes : Option ℕ) → lines_if_live program now.objects (Some asked) ≡ text_unless (drain_refusal (drained_unless bytes)) (lines_if_live program now.objects (Some asked))
        by_length None = refl
        by_length (Some n) = refl

  drain_from : (id : SubId) → program.has_place (lines.Drain id) ≡ true → (outcome : Drained) (refusal : Option Refusal) (live live_new out out_new : List ℕ) (old new : HubState)
      → Drains id outcome out out_new old new → refusal ≡ drain_refusal outcome → live_new ≡ live_drained id.0 outcome live
      → TakesFrom program known number (Ok (lines.Drain id)) refusal live live_new out out_new old new
  drain_from id has outcome refusal live live_new out out_new old new drains refuses leaves now here lives =
      let drained = subst (λ (s : HubState). Drains id outcome out out_new s new) here drains in
      let found = asked_at id.0 now.subs in
      let expected = outcome_at now id found in
      let outcome_is : outcome ≡ expected = drained.outcome_is ∙ ap (drained_as (seen program now) id.0) (sub_seen program now id.0) in
      let refusal_is : refusal ≡ drain_refusal expected = refuses ∙ ap drain_refusal outcome_is in
      let is = refusal_is ∙ drain_refused now id found in record {
        met = None;
        counted = none_met known.before known.now later;
        may_meet = tt;
        refusal_is = is ∙ sym (placed program now None (lines.Drain id) has);
        fits = length_unless program now (Ok (lines.Drain id)) refusal (length_here program now found (subst (LengthFits (seen program now)) (sub_seen program now id.0) drained.fits));
        state = led now (lines.Drain id) refusal new is (drained.state ∙ drained_seen program now id);
        live_ids = leaves ∙ ap (λ (o : Drained). live_drained id.0 o live) outcome_is ∙ drained_ids now id live found lives refl
            ∙ ap (λ (r : Option Refusal). ids_of (led_to program now r (Ok (lines.Drain id))).subs) (sym refusal_is);
        text = λ told. drained.text ∙ ap (λ (xs : List ℕ). out ++ xs) (ap (drained_lines (seen program now) id.0) (sub_seen program now id.0) ∙ drained_text now id found refl
            ∙ ap (λ (r : Option Refusal). text_unless r (drain_lines program now id.0)) (sym refusal_is));
      }

  -- ---- a simulation

  simulated_state : (request : Request) (now : State) (refusal : Option Refusal) → now ≡ led_to program now refusal (Ok (lines.Simulate request))
  simulated_state request now None = refl
  simulated_state request now (Some refusal) = refl

  may_meet_by : (request : Request) (now : State) (met : Option SimFault) → IsMetIfAny (seen program now) (facts_in known) request met → MayMeetBy now (facts_in known) (Ok (lines.Simulate request)) met
  may_meet_by request now None may = tt
  may_meet_by request now (Some fault) may = record { request = request; simulates = refl; met = may }

  simulate_from : (request : Request) → program.has_place (lines.Simulate request) ≡ true → (refusal : Option Refusal) (live live_new out out_new : List ℕ) (old new : HubState)
      → IsSimulated known number request refusal out out_new old new → live_new ≡ live → TakesFrom program known number (Ok (lines.Simulate request)) refusal live live_new out out_new old new
  simulate_from request has refusal live live_new out out_new old new simulated same now here lives =
      let made = subst (λ (s : HubState). IsSimulated known number request refusal out out_new s new) here simulated in
      let led = simulated_state request now refusal in record {
        met = made.met;
        counted = made.counted;
        may_meet = may_meet_by request now made.met made.may_meet;
        refusal_is = made.refusal_is ∙ sym (placed program now made.met (lines.Simulate request) has);
        fits = length_unless program now (Ok (lines.Simulate request)) refusal tt;
        state = made.state ∙ ap (seen program) led;
        live_ids = same ∙ lives ∙ ap (λ (s : State). ids_of s.subs) led;
        text = λ told. elim told [ inl is ↦ made.text program.matches is | inr none ↦ absurd (none request refl) ];
      }

  -- ---- any line that has a place

  pub called_from : (line : Line) → program.has_place line ≡ true → (refusal : Option Refusal) (live live_new out out_new : List ℕ) (old new : HubState)
      → Calls known number line refusal live live_new out out_new old new → TakesFrom program known number (Ok line) refusal live live_new out out_new old new
  called_from (lines.Event event) has refusal live live_new out out_new old new calls = event_from event has refusal live live_new out out_new old new calls.0 calls.1 calls.2
  called_from (lines.Subscribe id query) has refusal live live_new out out_new old new calls = subscribe_from id query has refusal live live_new out out_new old new calls.0 calls.1 calls.2
  called_from (lines.Cancel id) has refusal live live_new out out_new old new calls = cancel_from id has refusal live live_new out out_new old new calls.0 calls.1 calls.2
  called_from (lines.Drain id) has refusal live live_new out out_new old new calls = drain_from id has calls.0 refusal live live_new out out_new old new calls.1 calls.2 calls.3
  called_from (lines.Simulate request) has refusal live live_new out out_new old new calls = simulate_from request has refusal live live_new out out_new old new calls.0 calls.1
  called_from lines.Blank has refusal live live_new out out_new old new calls = still_from lines.Blank has (λ now. (refl, refl, tt, refl)) refusal live live_new out out_new old new calls
  called_from lines.Stop has refusal live live_new out out_new old new calls = still_from lines.Stop has (λ now. (refl, refl, tt, refl)) refusal live live_new out out_new old new calls

-- ---- by the replies

or_false : (refusal : Option Refusal) → (is_some refusal || false) ≡ is_some refusal
or_false None = refl
or_false (Some refusal) = refl

-- a reply that refuses its line writes nothing
abbrev pub IsPlain : (Reply → List ℕ) → Type 0
IsPlain text = (reply : Reply) → text reply ≡ text_unless (refusal_in reply) (text reply)

reply_texts : IsPlain reply_text
reply_texts (replies.Refused fault) = refl
reply_texts replies.Done = refl
reply_texts (replies.Frames id frames) = refl
reply_texts (replies.TooBig id bytes) = refl
reply_texts (replies.Verdict found) = refl
reply_texts (replies.Pattern fault) = refl

sim_texts : (number : ℕ) (ns : List ℕ) → IsPlain (sim_text number ns)
sim_texts number ns (replies.Refused fault) = refl
sim_texts number ns replies.Done = refl
sim_texts number ns (replies.Frames id frames) = refl
sim_texts number ns (replies.TooBig id bytes) = refl
sim_texts number ns (replies.Verdict found) = refl
sim_texts number ns (replies.Pattern fault) = refl

module _ (number : ℕ) (line : Result Line Refusal) (out : List ℕ) where
  -- a line that takes a reply
  takes_reply_as : (text : Reply → List ℕ) → IsPlain text → (refusal : Option Refusal) (out_new : List ℕ) (old new : List Reply) → ((left : List Reply) (more : List Reply → List Saying) → said_by number line left more ≡ with_reply text number left more)
      → Replied text refusal out out_new old new → TakesByReplies number line refusal out out_new old new
  takes_reply_as text plain refusal out_new old new says replied =
      let written = text replied.reply in
      let answer = refusal_in replied.reply in record {
        mine = replied.reply ∷ [];
        adds = replied.adds;
        text = written;
        texts = replied.texts ∙ ap (λ (xs : List ℕ). out ++ xs) (plain replied.reply ∙ ap (λ (r : Option Refusal). text_unless r written) (sym replied.refuses));
        sayings = saying number answer written ∷ [];
        says = λ left more. says (replied.reply ∷ left) more;
        says_text = append-nil (row_piece number answer written) ∙ ap (λ (r : Option Refusal). row_piece number r written) (sym replied.refuses);
        says_refused = or_false answer ∙ ap (λ (r : Option Refusal). is_some r) (sym replied.refuses);
      }

  pub takes_reply : (refusal : Option Refusal) (out_new : List ℕ) (old new : List Reply) → ((left : List Reply) (more : List Reply → List Saying) → said_by number line left more ≡ with_reply reply_text number left more)
      → Replied reply_text refusal out out_new old new → TakesByReplies number line refusal out out_new old new
  takes_reply = takes_reply_as reply_text reply_texts

  -- one that takes none and writes nothing
  pub takes_none : (old new : List Reply) → ((left : List Reply) (more : List Reply → List Saying) → said_by number line left more ≡ more left)
      → new ≡ old → TakesByReplies number line None out out old new
  takes_none old new says same = record {
    mine = [];
    adds = same ∙ sym (append-nil old);
    text = [];
    texts = sym (append-nil out);
    sayings = [];
    says = says;
    says_text = refl;
    says_refused = refl;
  }

  -- one that is refused on its own
  pub takes_refusal : (refusal : Refusal) (told : List Reply) → ((left : List Reply) (more : List Reply → List Saying) → said_by number line left more ≡ saying number (Some refusal) [] ∷ more left)
      → TakesByReplies number line (Some refusal) out out told told
  takes_refusal refusal told says = record {
    mine = [];
    adds = sym (append-nil told);
    text = [];
    texts = sym (append-nil out);
    sayings = saying number (Some refusal) [] ∷ [];
    says = says;
    says_text = append-nil (row_piece number (Some refusal) []);
    says_refused = refl;
  }

-- a reply that writes nothing, at any text
pub silent : (refusal : Option Refusal) (out : List ℕ) (old new : List Reply) → Replied reply_text refusal [] [] old new → Replied reply_text refusal out out old new
silent refusal out old new replied = record { reply = replied.reply; adds = replied.adds; refuses = replied.refuses; texts = sym (append-nil out) ∙ ap (λ (xs : List ℕ). out ++ xs) replied.texts }

pub simulate_takes : (number : ℕ) (request : Request) (refusal : Option Refusal) (out out_new : List ℕ) (old new : List Reply) → Replied (sim_text number request.ns) refusal out out_new old new
    → TakesByReplies number (Ok (lines.Simulate request)) refusal out out_new old new
simulate_takes number request refusal out out_new old new replied =
    takes_reply_as number (Ok (lines.Simulate request)) out (sim_text number request.ns) (sim_texts number request.ns) refusal out_new old new (λ left more. refl) replied

pub drain_takes : (number : ℕ) (id : SubId) (outcome : Drained) (refusal : Option Refusal) (out out_new : List ℕ) (old new : List Reply) → Replied reply_text (drain_refusal outcome) out out_new old new
    → refusal ≡ drain_refusal outcome → TakesByReplies number (Ok (lines.Drain id)) refusal out out_new old new
drain_takes number id outcome refusal out out_new old new replied is =
    takes_reply number (Ok (lines.Drain id)) out refusal out_new old new (λ left more. refl) (subst (λ (r : Option Refusal). Replied reply_text r out out_new old new) (sym is) replied)

pub cancel_takes : (number : ℕ) (id : SubId) (refusal : Option Refusal) (out : List ℕ) (old new : List Reply) → Unreplied refusal old new
    → TakesByReplies number (Ok (lines.Cancel id)) refusal out out old new
cancel_takes number id refusal out old new unreplied =
    subst (λ (r : Option Refusal). TakesByReplies number (Ok (lines.Cancel id)) r out out old new) (sym unreplied.accepts)
    (takes_none number (Ok (lines.Cancel id)) out old new (λ left more. refl) unreplied.none)

-- ---- a row that doesn't read

pub unread_says : (number : ℕ) (refusal : Refusal) (out : List ℕ) (told : Option (List Reply)) → Becomes told told (TakesByReplies number (Err refusal) (Some refusal) out out)
unread_says number refusal out told = Becomes-same told (TakesByReplies number (Err refusal) (Some refusal) out out) (λ replies. takes_refusal number (Err refusal) out refusal replies (λ left more. refl))

pub unplaced_says : (number : ℕ) (line : Line) → has_place_in_replay line ≡ false → (out : List ℕ) (told : Option (List Reply)) → Becomes told told (TakesByReplies number (Ok line) (Some refusals.NotHere) out out)
unplaced_says number line none out told =
    Becomes-same told (TakesByReplies number (Ok line) (Some refusals.NotHere) out out)
    (λ replies. takes_refusal number (Ok line) out refusals.NotHere replies
    (λ left more. ap (λ b. cond b (said_by_line number line left more) (saying number (Some refusals.NotHere) [] ∷ more left)) none))
