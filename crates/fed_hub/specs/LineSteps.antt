-- The effect of one line of a feed.
use Rattle.std.specs.Prelude.{◌≡◌, ◌≤◌, ◌<◌, ◌+◌, ◌-◌, ◌^◌, ◌++◌, ◌∷◌, ◌||◌, ℕ, Bool, false, not, ◌&&◌, is_some, min, List, [], Option, Some, Result, Ok, Err, length}
use Rattle.std.specs.Option.{option_to_list}
use Rattle.line_run.specs.Rows.{Row}
use Rattle.mesh_base.specs.declared.limits.Limits.{Limits}
use Rattle.view_types.specs.declared.config.Config.{Config}
use Rattle.view_types.specs.declared.query.Query.{Query}
use Rattle.watch_events.specs.Lines.{row_says, text_line}
use Rattle.watch_events.specs.declared.line.Line.{Line}
use Rattle.watch_events.specs.declared.line.Line.TheVariants as lines
use Rattle.route_match.specs.Matching.{Pat}
use Rattle.request_sim.specs.declared.fault.SimFault.{SimFault}
use Rattle.feed_history.specs.Due.{is_touched}
use Rattle.feed_history.specs.History.{State, after, after_line, refusal_of}
use Rattle.feed_history.specs.Ids.{unless_refused}
use Rattle.feed_history.specs.KnownPatterns.{PatternsNow, facts_in}
use Rattle.feed_history.specs.MarkCauses.{IsTold, IsToldFor, MayBeMarked, MayMeetBy}
use Rattle.feed_history.specs.Marks.{AreFew, mark}
use Rattle.feed_history.specs.Program.{Program, refused_unread}
use Rattle.feed_history.specs.declared.refusal.Refusal.{Refusal}
use Rattle.subscriptions.specs.Live.{query_at}
use Rattle.mesh_hub.specs.Due.{is_due}
use Rattle.mesh_hub.specs.Hub.{HubState, state_of}
use Rattle.mesh_hub.specs.declared.hub.Hub.{Hub}
use Rattle.serve_rules.specs.FedLines.{FedRow, answer_to, held_after, is_stop, line_answer, row_answer, rows_fed, says_stop, serve_of}
use Rattle.fed_hub.specs.declared.hub.FedHub.{FedHub}

-- the hub has this configuration and these limits, and holds what is held after these lines
pub record Holds (config : Config) (limits : Limits) (pat : Pat) (fed : List FedRow) (hub : HubState) : Type 0 where
  pub config_is : hub.config ≡ config
  pub limits_are : hub.limits ≡ limits
  pub objects : hub.objects ≡ held_after (serve_of config limits pat) fed
  pub going : hub.spent ≡ false

-- ---- the effect of a line by its contents

abbrev pub IsItem : List ℕ → Option (List ℕ) → Type 0
IsItem text item = item ≡ Some text

abbrev pub HasByte : List ℕ → Type 0
HasByte text = 0 < length text

-- the answers to the line after these lines
abbrev pub answers_of : Program → ℕ → State → Option SimFault → Result Line Refusal → List (List ℕ)
answers_of program number now met line = row_answer number (refusal_of program now met line) (line_answer program number now line)

-- the state after the line
abbrev pub led_to : Program → State → Option SimFault → Result Line Refusal → State
led_to program now met line = unless_refused (refusal_of program now met line) now (after_line program now line)

-- the line is an event of which the query reads a mark
abbrev pub touches_line : Program → State → Result Line Refusal → Option Query → Bool
touches_line program now (Ok (lines.Event event)) query = is_touched program.config now.objects event query
touches_line program now (Ok lines.Blank) query = false
touches_line program now (Ok (lines.Subscribe id asked)) query = false
touches_line program now (Ok (lines.Cancel id)) query = false
touches_line program now (Ok (lines.Drain id)) query = false
touches_line program now (Ok (lines.Simulate request)) query = false
touches_line program now (Ok lines.Stop) query = false
touches_line program now (Err fault) query = false

-- and the line is accepted
abbrev pub touches_by : Program → State → Option SimFault → Result Line Refusal → Option Query → Bool
touches_by program now met line query = not (is_some (refusal_of program now met line)) && touches_line program now line query

-- the ids that are due in the hub after a line
abbrev pub DueAfter : Program → State → Option SimFault → Result Line Refusal → Hub → Hub → Type 0
DueAfter program now met line old new = (id : ℕ) → is_due new id ≡ (touches_by program now met line (query_at id (state_of old).subs) || is_due old id)

-- The line with this number has this answer, if it has one, and the hub holds what is held after it. The line met a fault only if it may,
-- and each fault was counted.
pub record Takes (program : Program) (known : PatternsNow) (now : State) (number : ℕ) (line : Result Line Refusal) (item : Option (List ℕ)) (old new : FedHub) : Type 0 where
  pub met : Option SimFault
  pub fair : MayMeetBy now (facts_in known) line met
  pub few : min (mark met + known.before) (2 ^ 64 - 1) ≤ known.now
  pub item_is : IsToldFor program known.tells line → option_to_list item ≡ answers_of program number now met line
  pub state : state_of new.hub ≡ record (state_of old.hub) { objects = (led_to program now met line).objects }
  pub due : DueAfter program now met line old.hub new.hub
  pub config : new.config ≡ old.config
  pub requests : new.requests ≡ old.requests
  pub stopped : new.stopped ≡ (old.stopped || says_stop line)

abbrev pub TakesLine : FedHub → FedHub → ℕ → Result Line Refusal → PatternsNow → Option (List ℕ) → Type 0
TakesLine old new number line known item = (limits : Limits) (pat : Pat) (fed : List FedRow) → Holds old.config limits pat fed (state_of old.hub)
    → Takes (serve_of old.config limits pat) known (after (serve_of old.config limits pat) (rows_fed fed)) number line item old new

abbrev pub TakesRow : FedHub → FedHub → ℕ → Row → PatternsNow → Option (List ℕ) → Type 0
TakesRow old new number row known item = TakesLine old new number (refused_unread (row_says (text_line old.config) row)) known item

-- ---- a line of a link

-- the line of a link, marked with the fault that it met
abbrev pub fed_row : ℕ → ℕ → Row → Option SimFault → FedRow
fed_row link number row met = record { link = link; number = number; row = (row, met) }

-- A line is applied after those before it: its answer is appended, the hub holds what is held after it and keeps each subscription, and a
-- `stop` is recorded. The line is marked only if it met a pattern that was refused in this call.
pub record Applies (config : Config) (limits : Limits) (pat : Pat) (known : PatternsNow) (fed : List FedRow) (link number : ℕ) (row : Row) (answers answers_now : List (List ℕ)) (old new : FedHub) : Type 0 where
  pub met : Option SimFault
  pub fair : MayBeMarked (serve_of config limits pat) (after (serve_of config limits pat) (rows_fed fed)) (facts_in known) (row, met) met
  pub few : AreFew ((row, met) ∷ []) known.before known.now
  pub answered : IsTold (serve_of config limits pat) known.tells ((row, met) ∷ []) → answers_now ≡ answers ++ answer_to (serve_of config limits pat) fed (fed_row link number row met)
  pub holds : Holds config limits pat (fed_row link number row met ∷ fed) (state_of new.hub)
  pub subs : (state_of new.hub).subs ≡ (state_of old.hub).subs
  pub last : (state_of new.hub).last ≡ (state_of old.hub).last
  pub due : DueAfter (serve_of config limits pat) (after (serve_of config limits pat) (rows_fed fed)) met (refused_unread (row_says (text_line config) row)) old.hub new.hub
  pub same_config : new.config ≡ old.config
  pub requests : new.requests ≡ old.requests
  pub stopped : new.stopped ≡ (old.stopped || is_stop (serve_of config limits pat) (fed_row link number row met))

abbrev pub AppliesTo : FedHub → FedHub → ℕ → Row → PatternsNow → List (List ℕ) → List (List ℕ) → Type 0
AppliesTo old new number row known answers answers_now = (limits : Limits) (pat : Pat) (fed : List FedRow) (link : ℕ) → Holds old.config limits pat fed (state_of old.hub)
    → Applies old.config limits pat known fed link number row answers answers_now old new
