-- A line that changes the view of a query touches the query.
use Rattle.std.proofs.Common.{◌≡◌, false, not, Bool, List, ◌∷◌, Option, Some, None, refl}
use Rattle.std.specs.Prelude.{◌&&◌, IfOk, Result, Ok, Err, is_some}
use Rattle.mesh_base.specs.declared.limits.Limits.{Limits}
use Rattle.view_types.specs.Objects.{AtKeys}
use Rattle.view_types.specs.declared.config.Config.{Config}
use Rattle.view_types.specs.declared.query.Query.{Query}
use Rattle.view_rules.specs.PolicyLaws.{AreLawful}
use Rattle.view_rules.specs.Views.{view_of}
use Rattle.watch_events.specs.Lawful.{IsLawfulLine}
use Rattle.watch_events.specs.declared.line.Line.{Line}
use Rattle.watch_events.specs.declared.line.Line.TheVariants as lines
use Rattle.route_match.specs.Matching.{Pat}
use Rattle.feed_history.specs.History.{State, after, after_line, reading_after, refusal_after}
use Rattle.feed_history.specs.Ids.{unless_refused}
use Rattle.feed_history.specs.Lawful.{HeldAreLawful, HeldAtKeys, ReadsLawfully}
use Rattle.feed_history.specs.Program.{Program}
use Rattle.feed_history.specs.declared.refusal.Refusal.{Refusal}
use Rattle.history_laws.proofs.Held.{row_lawful}
use Rattle.event_laws.specs.Laws.{UntouchedQueriesStay}
use Rattle.fed_hub.specs.LineSteps.{touches_line}
use Rattle.serve_rules.specs.FedLines.{FedRow, rows_fed, serve_of}
use Rattle.serve_rules.specs.OwedBytes.{ChangesTouch}
use Rattle.serve_core.specs.Served.{serving_of}

module _ (stay : UntouchedQueriesStay) (program : Program) (now : State) (at_keys : AtKeys now.objects) (lawful : AreLawful now.objects) (query : Query) where
  view_stays : (refusal : Option Refusal) (line : Result Line Refusal) → IfOk line IsLawfulLine → (not (is_some refusal) && touches_line program now line (Some query)) ≡ false
      → view_of program.config (unless_refused refusal now (after_line program now line)).objects query ≡ view_of program.config now.objects query
  view_stays (Some refusal) line right untouched = refl
  view_stays None (Err fault) right untouched = refl
  view_stays None (Ok lines.Blank) right untouched = refl
  view_stays None (Ok (lines.Event event)) right untouched = (stay program.config now.objects at_keys lawful event right query untouched).view
  view_stays None (Ok (lines.Subscribe id asked)) right untouched = refl
  view_stays None (Ok (lines.Cancel id)) right untouched = refl
  view_stays None (Ok (lines.Drain id)) right untouched = refl
  view_stays None (Ok (lines.Simulate request)) right untouched = refl
  view_stays None (Ok lines.Stop) right untouched = refl

-- So it is of what a server reads.
pub changes_touch : (config : Config) (limits : Limits) (pat : Pat) → UntouchedQueriesStay → ReadsLawfully (serve_of config limits pat) → HeldAreLawful (serve_of config limits pat) → HeldAtKeys (serve_of config limits pat) → ChangesTouch (serving_of config limits pat)
changes_touch config limits pat stay reads lawful at_keys query past f untouched =
    let program = serve_of config limits pat in
    let rows = rows_fed past in
    view_stays stay program (after program rows) (at_keys rows) (lawful rows) query (refusal_after program rows f.row) (reading_after program rows f.row) (row_lawful program reads rows f.row) untouched
