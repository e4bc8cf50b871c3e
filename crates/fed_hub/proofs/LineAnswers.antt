-- What a line comes to, from what the call that it asks for comes to.
use Rattle.std.proofs.Common.{◌≡◌, ◌≢◌, ℕ, ◌≤◌, Bool, true, false, cond, ◌||◌, List, [], ◌∷◌, ◌++◌, Option, Some, None, refl, sym, ap, ◌∙◌, subst, arith, inl, inr}
use Rattle.std.specs.Prelude.{IfOk, OnOk, Result, Ok, Err, option_map}
use Rattle.std.specs.Option.{option_to_list}
use Rattle.mesh_base.specs.declared.limits.Limits.{Limits}
use Rattle.mesh_base.specs.declared.sub_id.SubId.{SubId}
use Rattle.view_types.specs.declared.config.Config.{Config}
use Rattle.view_types.specs.declared.query.Query.{Query}
use Rattle.view_types.specs.declared.request.Request.{Request}
use Rattle.view_types.specs.declared.verdict.Verdict.{Verdict}
use Rattle.watch_events.specs.Given.{Fails}
use Rattle.watch_events.specs.declared.event.Event.{Event}
use Rattle.watch_events.specs.declared.line.Line.{Line}
use Rattle.watch_events.specs.declared.line.Line.TheVariants as lines
use Rattle.watch_events.specs.declared.line.LineFault.{LineFault}
use Rattle.watch_events.specs.declared.line.LineFault.TheVariants as faults
use Rattle.route_match.specs.Matching.{Pat}
use Rattle.request_rules.specs.Verdicts.{verdict}
use Rattle.request_sim.specs.Faults.{IsMet}
use Rattle.request_sim.specs.declared.fault.SimFault.{SimFault}
use Rattle.feed_history.specs.Events.{event_refusal, objects_after}
use Rattle.feed_history.specs.History.{State, after, line_refusal, refusal_of}
use Rattle.feed_history.specs.Ids.{unless_refused}
use Rattle.feed_history.specs.KnownPatterns.{PatternsNow, facts_in, known_of}
use Rattle.feed_history.specs.Program.{Program}
use Rattle.feed_history.specs.Text.{refused_line}
use Rattle.feed_history.specs.VerdictText.{verdict_line}
use Rattle.feed_history.specs.declared.refusal.HubFault.{HubFault}
use Rattle.feed_history.specs.declared.refusal.HubFault.TheVariants as hub_faults
use Rattle.feed_history.specs.declared.refusal.Refusal.{Refusal}
use Rattle.feed_history.specs.declared.refusal.Refusal.TheVariants as refusals
use Rattle.feed_history.specs.MarkCauses.{MayMeetBy}
use Rattle.feed_history.proofs.Marks.{none_met, none_more}
use Rattle.feed_step.specs.LineStep.{Calls, CallsDue, DueIf, IsMetIfAny, IsSimulated, text_unless}
use Rattle.feed_step.specs.Sorts.{sort_in}
use Rattle.feed_step.specs.declared.sort.Sort.TheVariants as sorts
use Rattle.mesh_hub.specs.Due.{StayUnlessSpent, StaysDueOr, is_due}
use Rattle.mesh_hub.specs.Hub.{Answers, Goes, HubState, answer_of, applied, apply_refusal, state_of}
use Rattle.mesh_hub.specs.declared.hub.Hub.{Hub}
use Rattle.subscriptions.specs.Live.{query_at}
use Rattle.feed_history.specs.Due.{is_touched}
use Rattle.serve_rules.specs.FedLines.{FedRow, has_place_in_serve, ok_line, rows_fed, says_stop, serve_of}
use Rattle.fed_hub.specs.LineSteps.{HasByte, Holds, IsItem, TakesLine, answers_of, led_to, touches_by}
use Rattle.fed_hub.specs.declared.hub.FedHub.{FedHub}

pub IfOk-weaker : {T E : Type 0} (r : Result T E) (P Q : T → Type 0) → ((x : T) → P x → Q x) → IfOk r P → IfOk r Q
IfOk-weaker (Ok x) P Q weaker holds = weaker x holds
IfOk-weaker (Err e) P Q weaker holds = tt

pub IfOk-joined : {T E : Type 0} (r : Result T E) (P R : T → Type 0) (Q : Type 0) → ((x : T) → P x → Q → R x) → IfOk r P → OnOk r Q → IfOk r R
IfOk-joined (Ok x) P R Q joins first second = joins x first second
IfOk-joined (Err e) P R Q joins first second = tt

pub or_false : (b : Bool) → b ≡ (b || false)
or_false true = refl
or_false false = refl

pub or_true : (b : Bool) → true ≡ (b || true)
or_true true = refl
or_true false = refl

-- nothing but the hub differs, and whether a `stop` was noted
pub record Rests (stops : Bool) (old new : FedHub) : Type 0 where
  pub hub : new.hub ≡ old.hub
  pub config : new.config ≡ old.config
  pub requests : new.requests ≡ old.requests
  pub stopped : new.stopped ≡ (old.stopped || stops)

-- nothing but the hub differs
pub record SameButHub (old new : FedHub) : Type 0 where
  pub config : new.config ≡ old.config
  pub requests : new.requests ≡ old.requests
  pub stopped : new.stopped ≡ old.stopped

-- ---- answers of the hub

pub none_answer : (u : Unit {0}) (fault : Option HubFault) → Ok u ≡ answer_of fault → fault ≡ None
none_answer u None is = refl
none_answer u (Some fault) is = absurd cc

pub some_answer : (cause : HubFault) (fault : Option HubFault) → Err cause ≡ answer_of fault → fault ≡ Some cause
some_answer cause None is = absurd cc
some_answer cause (Some fault) is = let same : cause ≡ fault = cc in ap (λ (f : HubFault). Some f) (sym same)

-- a fault that is not out of memory
pub goes_for : {T : Type 0} {old after new : HubState} {expected : Result T HubFault} (cause : HubFault) → cause ≢ hub_faults.Memory → Answers old expected after (Err cause) new → Goes old expected after (Err cause) new
goes_for hub_faults.Memory going answers = absurd (going refl)
goes_for (hub_faults.Full held) going answers = answers
goes_for (hub_faults.TooManySubs live) going answers = answers
goes_for (hub_faults.IdOrder last) going answers = answers
goes_for (hub_faults.NoSuchId id) going answers = answers
goes_for (hub_faults.Oversize bytes) going answers = answers

pub due_for : (test : ℕ → Bool) (old new : Hub) (cause : HubFault) → cause ≢ hub_faults.Memory → StaysDueOr test (Err cause) old new → (id : ℕ) → is_due new id ≡ is_due old id
due_for test old new hub_faults.Memory going stays id = absurd (going refl)
due_for test old new (hub_faults.Full held) going stays id = stays id
due_for test old new (hub_faults.TooManySubs live) going stays id = stays id
due_for test old new (hub_faults.IdOrder last) going stays id = stays id
due_for test old new (hub_faults.NoSuchId other) going stays id = stays id
due_for test old new (hub_faults.Oversize bytes) going stays id = stays id

-- the line has no place, or does not read
pub record IsRefusedAlways (line : Result Line Refusal) (refusal : Refusal) : Type 0 where
  pub refuses : (program : Program) (now : State) → program.has_place ≡ has_place_in_serve → refusal_of program now None line ≡ Some refusal
  pub goes : says_stop line ≡ false

-- a line by what it asks for
pub nothing_is : (line : Line) → sort_in line ≡ sorts.Nothing → line ≡ lines.Blank
nothing_is lines.Blank sort = refl
nothing_is (lines.Event event) sort = absurd cc
nothing_is (lines.Subscribe id query) sort = absurd cc
nothing_is (lines.Cancel id) sort = absurd cc
nothing_is (lines.Drain id) sort = absurd cc
nothing_is (lines.Simulate request) sort = absurd cc
nothing_is lines.Stop sort = absurd cc

pub stop_is : (line : Line) → sort_in line ≡ sorts.Stop → line ≡ lines.Stop
stop_is lines.Stop sort = refl
stop_is lines.Blank sort = absurd cc
stop_is (lines.Event event) sort = absurd cc
stop_is (lines.Subscribe id query) sort = absurd cc
stop_is (lines.Cancel id) sort = absurd cc
stop_is (lines.Drain id) sort = absurd cc
stop_is (lines.Simulate request) sort = absurd cc

no_subscribe : (id : SubId) (query : Query) → IsRefusedAlways (Ok (lines.Subscribe id query)) refusals.NotHere
no_subscribe id query = record { refuses = λ program now has. ap (λ h. cond (h (lines.Subscribe id query)) (line_refusal program now None (lines.Subscribe id query)) (Some refusals.NotHere)) has; goes = refl }

no_cancel : (id : SubId) → IsRefusedAlways (Ok (lines.Cancel id)) refusals.NotHere
no_cancel id = record { refuses = λ program now has. ap (λ h. cond (h (lines.Cancel id)) (line_refusal program now None (lines.Cancel id)) (Some refusals.NotHere)) has; goes = refl }

no_drain : (id : SubId) → IsRefusedAlways (Ok (lines.Drain id)) refusals.NotHere
no_drain id = record { refuses = λ program now has. ap (λ h. cond (h (lines.Drain id)) (line_refusal program now None (lines.Drain id)) (Some refusals.NotHere)) has; goes = refl }

pub no_subscription : (line : Line) → sort_in line ≡ sorts.Subscription → IsRefusedAlways (Ok line) refusals.NotHere
no_subscription (lines.Subscribe id query) sort = no_subscribe id query
no_subscription (lines.Cancel id) sort = no_cancel id
no_subscription (lines.Drain id) sort = no_drain id
no_subscription lines.Blank sort = absurd cc
no_subscription (lines.Event event) sort = absurd cc
no_subscription (lines.Simulate request) sort = absurd cc
no_subscription lines.Stop sort = absurd cc

pub always_unread : (fault : LineFault) → IsRefusedAlways (Err (refusals.Line fault)) (refusals.Line fault)
always_unread fault = record { refuses = λ program now has. refl; goes = refl }

-- a fault that is not out of memory is that of the row
pub read_is : (fault : LineFault) (read : Result Line LineFault) → fault ≢ faults.Memory → Fails fault read → read ≡ Err fault
read_is faults.Memory read going fails = absurd (going refl)
read_is faults.TooLong read going fails = fails
read_is faults.NotJson read going fails = fails
read_is faults.NoForm read going fails = fails
read_is faults.UnknownType read going fails = fails
read_is faults.ErrorEvent read going fails = fails
read_is faults.UnknownKind read going fails = fails
read_is (faults.Object fault) read going fails = fails
read_is (faults.RepeatedItem place) read going fails = fails
read_is (faults.BadQuery path) read going fails = fails

-- ---- where no pattern was matched

module _ (tells : Option Pat) (refuses : Option (List ℕ → Bool)) (count number : ℕ) where
  abbrev still : PatternsNow
  still = known_of tells refuses count count

  -- lines that leave the hub as it is
  module _ (old new : FedHub) where
    state_stays : (limits : Limits) (pat : Pat) (fed : List FedRow) → Holds old.config limits pat fed (state_of old.hub) → new.hub ≡ old.hub
        → state_of new.hub ≡ record (state_of old.hub) { objects = (after (serve_of old.config limits pat) (rows_fed fed)).objects }
    state_stays limits pat fed holds same = ap state_of same ∙ ap (λ objects. record (state_of old.hub) { objects = objects }) holds.objects

    due_stays : (id : ℕ) → new.hub ≡ old.hub → is_due new.hub id ≡ is_due old.hub id
    due_stays id same = ap (λ hub. is_due hub id) same

    pub blank_takes : Rests false old new → TakesLine old new number (Ok lines.Blank) still None
    blank_takes rests limits pat fed holds = record {
      met = None;
      fair = tt;
      few = none_more count;
      item_is = λ told. refl;
      state = state_stays limits pat fed holds rests.hub;
      due = λ id. due_stays id rests.hub;
      config = rests.config;
      requests = rests.requests;
      stopped = rests.stopped;
    }

    pub stop_takes : (item : Option (List ℕ)) → IsItem (ok_line number) item → Rests true old new → TakesLine old new number (Ok lines.Stop) still item
    stop_takes item is rests limits pat fed holds = record {
      met = None;
      fair = tt;
      few = none_more count;
      item_is = λ told. rw is refl;
      state = state_stays limits pat fed holds rests.hub;
      due = λ id. due_stays id rests.hub;
      config = rests.config;
      requests = rests.requests;
      stopped = rests.stopped;
    }

    -- a line that is refused whatever is held
    pub refused_takes : (line : Result Line Refusal) (refusal : Refusal) (item : Option (List ℕ)) → IsItem (refused_line number refusal) item → Rests false old new
        → IsRefusedAlways line refusal → TakesLine old new number line still item
    refused_takes line refusal item is rests always limits pat fed holds =
        let program = serve_of old.config limits pat in
        let now = after program (rows_fed fed) in
        let refuses = always.refuses program now refl in record {
          met = None;
          fair = tt;
          few = none_more count;
          item_is = λ told. rw (is, refuses) refl;
          state = rw refuses (state_stays limits pat fed holds rests.hub);
          due = λ id. rw refuses (due_stays id rests.hub);
          config = rests.config;
          requests = rests.requests;
          stopped = rests.stopped ∙ ap (λ b. old.stopped || b) (sym always.goes);
        }

-- ---- a line that the hub is called for

-- what leaves the answer of the line: this text if it was accepted
abbrev pub IsAnswer : ℕ → List ℕ → Option Refusal → Option (List ℕ) → Type 0
IsAnswer number text None item = item ≡ Some text
IsAnswer number text (Some refusal) item = item ≡ Some (refused_line number refusal)

module _ (known : PatternsNow) (later : known.before ≤ known.now) (number : ℕ) (old new : FedHub) (same : SameButHub old new) where
  abbrev s : HubState
  s = state_of old.hub

  -- ---- an event

  module _ (event : Event) where
    abbrev line : Result Line Refusal
    line = Ok (lines.Event event)

    -- the refusal by what is held is that by what the lines lead to
    refusal_is : (limits : Limits) (pat : Pat) (fed : List FedRow) → Holds old.config limits pat fed s
        → apply_refusal s event ≡ event_refusal limits.objects (after (serve_of old.config limits pat) (rows_fed fed)).objects event
    refusal_is limits pat fed holds = ap (λ (l : Limits). event_refusal l.objects s.objects event) holds.limits_are ∙ ap (λ objects. event_refusal limits.objects objects event) holds.objects

    touched_is : (limits : Limits) (pat : Pat) (fed : List FedRow) (id : ℕ) → Holds old.config limits pat fed s
        → is_touched s.config s.objects event (query_at id s.subs) ≡ is_touched old.config (after (serve_of old.config limits pat) (rows_fed fed)).objects event (query_at id s.subs)
    touched_is limits pat fed id holds = ap (λ (c : Config). is_touched c s.objects event (query_at id s.subs)) holds.config_is ∙ ap (λ objects. is_touched old.config objects event (query_at id s.subs)) holds.objects

    -- by whether the hub refuses it
    event_by : (fault : Option HubFault) (item : Option (List ℕ)) → apply_refusal s event ≡ fault → IsAnswer number (ok_line number) (option_map refusals.Hub fault) item
        → state_of new.hub ≡ applied s event → DueIf (option_map refusals.Hub fault) (λ id. is_touched s.config s.objects event (query_at id s.subs)) (is_due old.hub) (is_due new.hub)
        → TakesLine old new number line known item
    event_by None item none is goes due limits pat fed holds =
        let program = serve_of old.config limits pat in
        let now = after program (rows_fed fed) in
        let accepted : event_refusal limits.objects now.objects event ≡ None = sym (refusal_is limits pat fed holds) ∙ none in record {
          met = None;
          fair = tt;
          few = none_met known.before known.now later;
          item_is = λ told. rw (is, accepted) refl;
          state = rw accepted (goes ∙ ap (λ fault. unless_refused {A = HubFault} fault s (record s { objects = objects_after s.objects event })) none
              ∙ ap (λ objects. record s { objects = objects_after objects event }) holds.objects);
          due = λ id. rw accepted (due id ∙ ap (λ b. b || is_due old.hub id) (touched_is limits pat fed id holds));
          config = same.config;
          requests = same.requests;
          stopped = same.stopped ∙ or_false old.stopped;
        }
    event_by (Some cause) item some is goes due limits pat fed holds =
        let program = serve_of old.config limits pat in
        let now = after program (rows_fed fed) in
        let refused : event_refusal limits.objects now.objects event ≡ Some cause = sym (refusal_is limits pat fed holds) ∙ some in record {
          met = None;
          fair = tt;
          few = none_met known.before known.now later;
          item_is = λ told. rw (is, refused) refl;
          state = rw refused (goes ∙ ap (λ fault. unless_refused {A = HubFault} fault s (record s { objects = objects_after s.objects event })) some
              ∙ ap (λ objects. record s { objects = objects }) holds.objects);
          due = λ id. rw refused (due id);
          config = same.config;
          requests = same.requests;
          stopped = same.stopped ∙ or_false old.stopped;
        }

  -- ---- a simulation

  module _ (request : Request) where
    verdict_here : (limits : Limits) (pat : Pat) (fed : List FedRow) → Holds old.config limits pat fed s
        → verdict s.config s.objects pat request ≡ verdict old.config (after (serve_of old.config limits pat) (rows_fed fed)).objects pat request
    verdict_here limits pat fed holds = ap (λ (c : Config). verdict c s.objects pat request) holds.config_is ∙ ap (λ objects. verdict old.config objects pat request) holds.objects

    may_meet : (limits : Limits) (pat : Pat) (fed : List FedRow) (met : Option SimFault) → Holds old.config limits pat fed s → IsMetIfAny s (facts_in known) request met
        → MayMeetBy (after (serve_of old.config limits pat) (rows_fed fed)) (facts_in known) (Ok (lines.Simulate request)) met
    may_meet limits pat fed None holds may = tt
    may_meet limits pat fed (Some fault) holds may = record { request = request; simulates = refl; met = subst (λ objects. IsMet objects (facts_in known) request fault) holds.objects may }

    -- the answer, by the fault that was met
    verdict_item : (limits : Limits) (pat : Pat) (fed : List FedRow) (met : Option SimFault) (refusal : Option Refusal) (text : List ℕ) (item : Option (List ℕ)) → Holds old.config limits pat fed s
        → refusal ≡ option_map refusals.Sim met → IsAnswer number text refusal item
        → text ≡ text_unless refusal (verdict_line number request.ns (verdict s.config s.objects pat request))
        → option_to_list item ≡ answers_of (serve_of old.config limits pat) number (after (serve_of old.config limits pat) (rows_fed fed)) met (Ok (lines.Simulate request))
    verdict_item limits pat fed None None text item holds refuses is writes =
        rw (is, writes) (ap (λ (v : Verdict). verdict_line number request.ns v ∷ []) (verdict_here limits pat fed holds))
    verdict_item limits pat fed None (Some refusal) text item holds refuses is writes = absurd cc
    verdict_item limits pat fed (Some fault) None text item holds refuses is writes = absurd cc
    verdict_item limits pat fed (Some fault) (Some refusal) text item holds refuses is writes = let same : refusal ≡ refusals.Sim fault = cc in rw (is, same) refl

    simulated_led : (limits : Limits) (pat : Pat) (fed : List FedRow) (met : Option SimFault) → Holds old.config limits pat fed s
        → s ≡ record s { objects = (led_to (serve_of old.config limits pat) (after (serve_of old.config limits pat) (rows_fed fed)) met (Ok (lines.Simulate request))).objects }
    simulated_led limits pat fed None holds = ap (λ objects. record s { objects = objects }) holds.objects
    simulated_led limits pat fed (Some fault) holds = ap (λ objects. record s { objects = objects }) holds.objects

    simulated_due : (limits : Limits) (pat : Pat) (fed : List FedRow) (met : Option SimFault) (query : Option Query) (due : Bool)
        → due ≡ (touches_by (serve_of old.config limits pat) (after (serve_of old.config limits pat) (rows_fed fed)) met (Ok (lines.Simulate request)) query || due)
    simulated_due limits pat fed None query due = refl
    simulated_due limits pat fed (Some fault) query due = refl

    verdict_takes : (refusal : Option Refusal) (text : List ℕ) (item : Option (List ℕ)) → IsAnswer number text refusal item → IsSimulated known number request refusal [] text s (state_of new.hub)
        → StayUnlessSpent (Some (state_of new.hub)) (is_due old.hub) (is_due new.hub) → TakesLine old new number (Ok (lines.Simulate request)) known item
    verdict_takes refusal text item is simulated stays limits pat fed holds = record {
      met = simulated.met;
      fair = may_meet limits pat fed simulated.met holds simulated.may_meet;
      few = simulated.counted;
      item_is = λ told. elim told [
        | inl tells_is ↦ verdict_item limits pat fed simulated.met refusal text item holds simulated.refusal_is is (simulated.text pat tells_is)
        | inr none ↦ absurd (none request refl)
      ];
      state = simulated.state ∙ simulated_led limits pat fed simulated.met holds;
      due = λ id. stays (ap (λ (h : HubState). h.spent) simulated.state ∙ holds.going) id ∙ simulated_due limits pat fed simulated.met (query_at id s.subs) (is_due old.hub id);
      config = same.config;
      requests = same.requests;
      stopped = same.stopped ∙ or_false old.stopped;
    }

  -- ---- by what the line asks for

  pub event_called : (line : Line) → sort_in line ≡ sorts.Event → (refusal : Option Refusal) (live live_new out text : List ℕ) (item : Option (List ℕ)) → IsAnswer number (ok_line number) refusal item
      → Calls known number line refusal live live_new out text s (state_of new.hub) → CallsDue line refusal s (Some (state_of new.hub)) (is_due old.hub) (is_due new.hub) → TakesLine old new number (Ok line) known item
  event_called (lines.Event event) sort refusal live live_new out text item is calls due =
      event_by event (apply_refusal s event) item refl (subst (λ (r : Option Refusal). IsAnswer number (ok_line number) r item) calls.0.refusal_is is) calls.0.state
      (subst (λ (r : Option Refusal). DueIf r (λ id. is_touched s.config s.objects event (query_at id s.subs)) (is_due old.hub) (is_due new.hub)) calls.0.refusal_is due)
  event_called (lines.Subscribe id query) sort refusal live live_new out text item is calls due = absurd cc
  event_called (lines.Cancel id) sort refusal live live_new out text item is calls due = absurd cc
  event_called (lines.Drain id) sort refusal live live_new out text item is calls due = absurd cc
  event_called (lines.Simulate request) sort refusal live live_new out text item is calls due = absurd cc
  event_called lines.Blank sort refusal live live_new out text item is calls due = absurd cc
  event_called lines.Stop sort refusal live live_new out text item is calls due = absurd cc

  pub verdict_called : (line : Line) → sort_in line ≡ sorts.Verdict → (refusal : Option Refusal) (live live_new out text : List ℕ) (item : Option (List ℕ)) → out ≡ [] → IsAnswer number text refusal item
      → Calls known number line refusal live live_new out text s (state_of new.hub) → CallsDue line refusal s (Some (state_of new.hub)) (is_due old.hub) (is_due new.hub) → TakesLine old new number (Ok line) known item
  verdict_called (lines.Simulate request) sort refusal live live_new out text item empty is calls due =
      verdict_takes request refusal text item is (subst (λ (before : List ℕ). IsSimulated known number request refusal before text s (state_of new.hub)) empty calls.0) due
  verdict_called (lines.Event event) sort refusal live live_new out text item empty is calls due = absurd cc
  verdict_called (lines.Subscribe id query) sort refusal live live_new out text item empty is calls due = absurd cc
  verdict_called (lines.Cancel id) sort refusal live live_new out text item empty is calls due = absurd cc
  verdict_called (lines.Drain id) sort refusal live live_new out text item empty is calls due = absurd cc
  verdict_called lines.Blank sort refusal live live_new out text item empty is calls due = absurd cc
  verdict_called lines.Stop sort refusal live live_new out text item empty is calls due = absurd cc

-- the call, with the live ids that it was given and left
pub some_live : (known : PatternsNow) (number : ℕ) (line : Line) (refusal : Option Refusal) (live live_new out out_new : List ℕ) (old new : HubState) → Calls known number line refusal live live_new out out_new old new
    → (before : List ℕ) × (after : List ℕ) × Calls known number line refusal before after out out_new old new
some_live known number line refusal live live_new out out_new old new calls = (live, live_new, calls)

verdict_has_byte : (number : ℕ) (ns : List ℕ) (found : Verdict) → HasByte ([] ++ verdict_line number ns found)
verdict_has_byte number ns found = omega arith

-- the line of a verdict has a byte
pub verdict_wrote : (known : PatternsNow) (number : ℕ) (line : Line) → sort_in line ≡ sorts.Verdict → (live live_new out text : List ℕ) (before after : HubState) → out ≡ []
    → Calls known number line None live live_new out text before after → HasByte text
verdict_wrote known number (lines.Simulate request) sort live live_new out text before after empty calls =
    let wrote = calls.0.wrote refl in subst HasByte (sym (wrote.1 ∙ ap (λ (xs : List ℕ). xs ++ verdict_line number request.ns wrote.0) empty)) (verdict_has_byte number request.ns wrote.0)
verdict_wrote known number (lines.Event event) sort live live_new out text before after empty calls = absurd cc
verdict_wrote known number (lines.Subscribe id query) sort live live_new out text before after empty calls = absurd cc
verdict_wrote known number (lines.Cancel id) sort live live_new out text before after empty calls = absurd cc
verdict_wrote known number (lines.Drain id) sort live live_new out text before after empty calls = absurd cc
verdict_wrote known number lines.Blank sort live live_new out text before after empty calls = absurd cc
verdict_wrote known number lines.Stop sort live live_new out text before after empty calls = absurd cc
