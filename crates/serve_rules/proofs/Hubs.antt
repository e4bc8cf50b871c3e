-- What the hub of a server answers.
use Rattle.std.proofs.Common.{◌≡◌, ℕ, suc, ◌-◌, ◌≤◌, Bool, true, false, if◌then◌else◌, List, [], ◌∷◌, ◌++◌, length, Option, Some, None, Result, Ok, Err, refl, sym, ap, subst, ◌∙◌, arith}
use Rattle.std.specs.Prelude.{option_map}
use Rattle.mesh_base.specs.declared.limits.Limits.{Limits}
use Rattle.view_types.specs.declared.config.Config.{Config}
use Rattle.view_types.specs.declared.message.Message.{Message}
use Rattle.view_types.specs.Objects.{ObjectMap}
use Rattle.view_types.specs.declared.query.Query.{Query}
use Rattle.view_types.specs.declared.view.View.{View}
use Rattle.view_rules.specs.Batch.{batch}
use Rattle.view_rules.specs.Views.{view_of}
use Rattle.watch_events.specs.declared.line.Line.{Line}
use Rattle.watch_events.specs.declared.line.Line.TheVariants as lines
use Rattle.route_match.specs.Matching.{Pat}
use Rattle.feed_history.specs.Drains.{frames_of, frames_unless, too_long}
use Rattle.feed_history.specs.History.{Asked, State, after, after_line, id_of, reading_after, refusal_of, row_refusal}
use Rattle.mesh_hub.specs.Hub.{HubState, frames_at, frames_for, messages_for}
use Rattle.feed_history.specs.Ids.{in_place, ended, unless_refused}
use Rattle.feed_history.specs.Marks.{MarkedRow}
use Rattle.feed_history.specs.Program.{Program}
use Rattle.feed_history.specs.declared.refusal.Refusal.{Refusal}
use Rattle.request_sim.specs.declared.fault.SimFault.{SimFault}
use Rattle.serve_rules.specs.FedLines.{FedRow, held_after, serve_of, up_to}
use Rattle.serve_rules.specs.Batches.{Serving, frames_due, frames_unless_long, messages_between}
use Rattle.serve_rules.specs.Due.{IsPlaced}
use Rattle.serve_rules.specs.Hubs.{DrainsAsDue, IsDrainOf, NoLineSubscribes, ShownStays, shown_at, sub_of}
use Rattle.serve_rules.proofs.OwedBytes.{up_to_before}

unless_same : (long : Option ℕ) (messages : List Message) → IsDrainOf (frames_unless_long long messages) (frames_unless long messages)
unless_same None messages = refl
unless_same (Some bytes) messages = refl

abbrev held_before : Serving → List FedRow → Option ℕ → Option ObjectMap
held_before serving fed drained = option_map (λ p. held_after serving.program (up_to p fed)) drained

messages_same : (serving : Serving) (fed : List FedRow) (hub : HubState) (id : ℕ) (query : Query) (drained : Option ℕ) → hub.config ≡ serving.program.config → hub.limits ≡ serving.program.limits → hub.objects ≡ held_after serving.program fed → messages_for hub (sub_of serving fed id query drained) ≡ messages_between serving.program query (held_before serving fed drained) (held_after serving.program fed)
messages_same serving fed hub id query drained c l o =
    let shown = shown_at serving fed query drained in
    ap (λ z. batch shown (view_of z hub.objects query) hub.limits) c ∙ ap (λ z. batch shown (view_of serving.program.config z query) hub.limits) o ∙ ap (λ z. batch shown (view_of serving.program.config (held_after serving.program fed) query) z) l

pub drains_as_due : DrainsAsDue
unfolding frames_due
drains_as_due serving fed hub id query drained c l o live =
    let sub = sub_of serving fed id query drained in
    let messages = messages_for hub sub in
    let due = messages_between serving.program query (held_before serving fed drained) (held_after serving.program fed) in
    let same : messages ≡ due = messages_same serving fed hub id query drained c l o in
    let limit : hub.limits.message ≡ serving.program.limits.message = ap (λ x. x.message) l in
    let answer : frames_at hub id ≡ frames_unless (too_long serving.program.limits.message due) due =
    ap (frames_for hub id) live ∙ ap (λ m. frames_unless (too_long m messages) messages) limit ∙ ap (λ ms. frames_unless (too_long serving.program.limits.message ms) ms) same in
    subst (IsDrainOf (frames_unless_long (too_long serving.program.limits.message due) due)) (sym answer) (unless_same (too_long serving.program.limits.message due) due)

abbrev shown_of : Serving → Query → List FedRow → Option View
shown_of serving query rows = Some (view_of serving.program.config (held_after serving.program rows) query)

pub shown_stays : ShownStays
shown_stays serving fed f query None p = refl
shown_stays serving fed f query (Some place) p = ap (λ rows. shown_of serving query rows) (up_to_before place f fed p)

-- ---- no line subscribes

unless_none : (refusal : Option Refusal) (before later : State) → before.subs ≡ [] → (refusal ≡ None → later.subs ≡ []) → (unless_refused refusal before later).subs ≡ []
unless_none None before later h k = k refl
unless_none (Some refusal) before later h k = h

refused : (refusal : Refusal) → Some refusal ≡ None → ⊥
refused refusal h = cc

none_on : (config : Config) (limits : Limits) (pat : Pat) (now : State) (met : Option SimFault) (line : Result Line Refusal) → now.subs ≡ [] → (unless_refused (refusal_of (serve_of config limits pat) now met line) now (after_line (serve_of config limits pat) now line)).subs ≡ []
none_on config limits pat now met (Err fault) h = h
none_on config limits pat now met (Ok lines.Blank) h = h
none_on config limits pat now met (Ok (lines.Event event)) h = unless_none (refusal_of (serve_of config limits pat) now met (Ok (lines.Event event))) now (after_line (serve_of config limits pat) now (Ok (lines.Event event))) h (λ e. h)
none_on config limits pat now met (Ok (lines.Subscribe id query)) h = h
none_on config limits pat now met (Ok (lines.Cancel id)) h = h
none_on config limits pat now met (Ok (lines.Drain id)) h = h
none_on config limits pat now met (Ok (lines.Simulate request)) h = unless_none (refusal_of (serve_of config limits pat) now met (Ok (lines.Simulate request))) now now h (λ e. h)
none_on config limits pat now met (Ok lines.Stop) h = h

pub no_line_subscribes : NoLineSubscribes
no_line_subscribes config limits pat [] = refl
no_line_subscribes config limits pat (row ∷ past) = none_on config limits pat (after (serve_of config limits pat) past) row.1 (reading_after (serve_of config limits pat) past row) (no_line_subscribes config limits pat past)
