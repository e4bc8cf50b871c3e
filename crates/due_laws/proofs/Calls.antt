-- Who is due after calls on a new hub, as after the rows of these calls.
use Rattle.std.proofs.Common.{◌≡◌, ◌&&◌, ◌||◌, not, ℕ, Bool, true, false, cond, eqb, nat_eq, List, [], ◌∷◌, length, Option, Some, None, refl, sym, ap, ◌∙◌, inl, inr, eq-eqb}
use Rattle.std.specs.Prelude.{Result, Ok, option_map}
use Rattle.std.specs.List.{AllByRecursion}
use Rattle.std.specs.Option.{is_some}
use Rattle.std.proofs.lemmas.Bool.Decides.{eqb_tells}
use Rattle.mesh_base.specs.declared.limits.Limits.{Limits}
use Rattle.view_types.specs.declared.config.Config.{Config}
use Rattle.watch_events.specs.declared.line.Line.{Line}
use Rattle.watch_events.specs.declared.line.Line.TheVariants as lines
use Rattle.feed_history.specs.Due.{due_after, is_due, is_touched}
use Rattle.feed_history.specs.History.{Asked, State, after, asked_at, hub_refusal, refusal_of}
use Rattle.feed_history.specs.Live as history
use Rattle.feed_history.specs.Ids.{unknown_refusal}
use Rattle.feed_history.specs.Marks.{MarkedRow}
use Rattle.feed_history.specs.Program.{Program}
use Rattle.feed_history.specs.declared.refusal.HubFault.{HubFault}
use Rattle.feed_history.specs.declared.refusal.Refusal.{Refusal}
use Rattle.feed_history.specs.declared.refusal.Refusal.TheVariants as refusals
use Rattle.feed_history.specs.Live.{LastLineDecidesLive}
use Rattle.subscriptions.specs.Live.{LiveSubscription, query_at}
use Rattle.mesh_hub.specs.HubAfter.{seen, seen_sub}
use Rattle.mesh_hub.proofs.Calls.{after_alike, are_older, history_of, leads_here, program, read_alike, reads_of, rows_of, same_number}
use Rattle.mesh_hub.proofs.HubSteps.{sub_seen, subscribe_refused}
use Rattle.due_laws.specs.Calls.{CallsAreDueHistories, due_called, due_called_all}
use Rattle.due_laws.specs.Laws.{DueAfterRows, DueAreLive}

eqb_back : (a b : ℕ) → eqb a b ≡ eqb b a
eqb_back a b = elim (eqb_tells a b) [
  | inl same ↦ same.0 ∙ sym (eq-eqb b a (sym same.1))
  | inr apart ↦ elim (eqb_tells b a) [
    | inl other ↦ absurd (apart.1 (sym other.1))
    | inr other ↦ apart.0 ∙ sym other.0
  ]
]

is_refused : (refusal : Option HubFault) → is_some (option_map refusals.Hub refusal) ≡ is_some refusal
is_refused None = refl
is_refused (Some fault) = refl

unless : (b before : Bool) → (not b && before) ≡ cond b false before
unless true before = refl
unless false before = refl

module _ (config : Config) (limits : Limits) (live : (p : Program) → LastLineDecidesLive p) (after_rows : (p : Program) → DueAfterRows p) (due_live : (p : Program) → DueAreLive p) where
  -- who is due depends on what the rows say alone
  due_alike : (one other : Option (List ℕ) → Result Line Refusal) (rows : List MarkedRow) → AllByRecursion (λ (row : MarkedRow). one row.0 ≡ other row.0) rows
      → (id : ℕ) → is_due (program config limits one) rows id ≡ is_due (program config limits other) rows id
  due_alike one other [] same id = refl
  due_alike one other (row ∷ past) same id =
      let before = after_alike config limits one other past same.1 in
      after_rows (program config limits one) past row id
      ∙ (λ i. step one (before i) (same.0 i) row (due_alike one other past same.1 id i))
      ∙ sym (after_rows (program config limits other) past row id)
    where
      step : (Option (List ℕ) → Result Line Refusal) → State → Result Line Refusal → MarkedRow → Bool → Bool
      step reads now line row before = cond (is_some (refusal_of (program config limits reads) now row.1 line)) before (due_after config now line id before)

  -- ---- one call

  module _ (reads : Option (List ℕ) → Result Line Refusal) (past : List MarkedRow) (id : ℕ) where
    abbrev the : Program
    the = program config limits reads

    abbrev now : State
    now = after the past

    abbrev before : Bool
    before = is_due the past id

    same_query : (found : Option Asked) → option_map (λ (sub : LiveSubscription). sub.query) (option_map (seen_sub config) found) ≡ option_map (λ (asked : Asked). asked.query) found
    same_query None = refl
    same_query (Some asked) = refl

    query_seen : query_at id (seen the now).subs ≡ history.query_at id now.subs
    query_seen = ap (option_map (λ (sub : LiveSubscription). sub.query)) (sub_seen the now id) ∙ same_query (asked_at id now.subs)

    -- an id that isn't live isn't due
    undue : (asked : ℕ) (found : Option Asked) → asked_at asked now.subs ≡ found → cond (is_some (option_map refusals.Hub (unknown_refusal asked found))) before (cond (eqb asked id) false before) ≡ cond (eqb asked id) false before
    undue asked (Some one) is = refl
    undue asked None is = elim (eqb_tells asked id) [
      | inl same ↦ none_due (is_due the past id) refl (ap (λ n. asked_at n now.subs) (sym same.1) ∙ is) ∙ sym (ap (λ b. cond b false before) same.0)
      | inr apart ↦ sym (ap (λ b. cond b false before) apart.0)
    ]
      where
        none_due : (due : Bool) → is_due the past id ≡ due → asked_at id now.subs ≡ None → due ≡ false
        none_due false is none = refl
        none_due true is none = absurd (cc (sym (due_live the past id is) ∙ ap is_some (sym (live the past id) ∙ ap (option_map (λ (asked : Asked). asked.query)) none)))

    called : (call : Line) → due_called (seen the now) call id before ≡ cond (is_some (refusal_of the now None (Ok call))) before (due_after config now (Ok call) id before)
    called lines.Blank = refl
    called lines.Stop = refl
    called (lines.Simulate request) = refl
    called (lines.Event event) =
        ap (λ query. cond (is_some (hub_refusal the now (lines.Event event))) before (is_touched config now.objects event query || before)) query_seen
        ∙ ap (λ b. cond b before (is_touched config now.objects event (history.query_at id now.subs) || before)) (sym (is_refused (hub_refusal the now (lines.Event event))))
    called (lines.Subscribe asked query) =
        ap (λ refusal. cond (is_some refusal) before (nat_eq id asked.0 || before)) (subscribe_refused the now asked query)
        ∙ ap (λ b. cond (is_some (hub_refusal the now (lines.Subscribe asked query))) before (b || before)) (eqb_back id asked.0)
        ∙ ap (λ b. cond b before (eqb asked.0 id || before)) (sym (is_refused (hub_refusal the now (lines.Subscribe asked query))))
    called (lines.Cancel asked) = unless (nat_eq id asked.0) before ∙ ap (λ b. cond b false before) (eqb_back id asked.0) ∙ sym (undue asked.0 (asked_at asked.0 now.subs) refl)
    called (lines.Drain asked) = unless (nat_eq id asked.0) before ∙ ap (λ b. cond b false before) (eqb_back id asked.0) ∙ sym (undue asked.0 (asked_at asked.0 now.subs) refl)

  -- ---- all calls

  due_here : (calls : List Line) (id : ℕ) → due_called_all config limits calls id ≡ is_due (program config limits (reads_of calls)) (rows_of calls) id
  due_here [] id = refl
  due_here (call ∷ past) id =
      let reads = reads_of (call ∷ past) in
      let alike = read_alike call past (rows_of past) (are_older past) in
      (λ i. due_called (leads_here config limits past i) call id (due_here past id i))
      ∙ (λ i. due_called (seen (program config limits reads) (after_alike config limits (reads_of past) reads (rows_of past) alike i)) call id (due_alike (reads_of past) reads (rows_of past) alike id i))
      ∙ called reads (rows_of past) id call
      ∙ ap (λ (b : Bool).
      let line = cond b (Ok call) (reads_of past (Some (length past ∷ []))) in
      cond (is_some (refusal_of (program config limits reads) (after (program config limits reads) (rows_of past)) None line)) (is_due (program config limits reads) (rows_of past) id)
      (due_after config (after (program config limits reads) (rows_of past)) line id (is_due (program config limits reads) (rows_of past) id))) (sym (same_number (length past)))
      ∙ sym (after_rows (program config limits reads) (rows_of past) (Some (length past ∷ []), None) id)

pub calls_are_due_histories : ((p : Program) → LastLineDecidesLive p) → ((p : Program) → DueAfterRows p) → ((p : Program) → DueAreLive p) → CallsAreDueHistories
calls_are_due_histories live after_rows due_live config limits calls lawful = record {
  history = history_of config limits calls lawful;
  due = due_here config limits live after_rows due_live calls;
}
