-- Live ids are numbers of 32 bits, since lines have no other.
use Rattle.std.proofs.Common.{◌≡◌, ℕ, ◌<◌, ◌≤◌, ◌^◌, List, [], ◌∷◌, Option, Some, None, Result, Ok, Err, refl, ap, arith, lit<}
use Rattle.line_run.specs.Rows.{Row}
use Rattle.mesh_base.specs.declared.limits.Limits.{Limits}
use Rattle.k8s_meta.specs.Scalars.{number}
use Rattle.k8s_meta.specs.Spots.{Spot}
use Rattle.k8s_meta.specs.Words.{required}
use Rattle.k8s_meta.proofs.Given.{required_gives}
use Rattle.k8s_meta.proofs.GivenNumbers.{number_gives}
use Rattle.route_match.specs.Matching.{Pat}
use Rattle.view_types.specs.declared.config.Config.{Config}
use Rattle.view_types.specs.Objects.{ObjectMap}
use Rattle.watch_events.specs.Lines.{row_says, text_line}
use Rattle.watch_events.specs.declared.line.Line.{Line}
use Rattle.watch_events.specs.declared.line.Line.TheVariants as lines
use Rattle.watch_events.specs.declared.line.LineFault.{LineFault}
use Rattle.watch_events.proofs.OfEachLine.{OfEachLine, text_has}
use Rattle.feed_history.specs.History.{Asked, State, after, after_line, id_of, reading_after, refusal_after, told_now}
use Rattle.feed_history.specs.Ids.{ended, unless_refused}
use Rattle.feed_history.specs.Marks.{MarkedRow}
use Rattle.feed_history.specs.Program.{Program, reading, refused_unread, replay_of}
use Rattle.feed_history.specs.declared.refusal.Refusal.{Refusal}
use Rattle.feed_history.proofs.Lists.{all_joined}
use Rattle.feed_history.proofs.EntriesById.{all_in_place, ended_keeps}
use Rattle.history_laws.proofs.Told.{told_keeps}
use Rattle.output_laws.proofs.Written.{HasSmallIds}

-- ---- lines

-- a subscription's id is of 32 bits
abbrev pub HasSmallId : Line → Type 0
HasSmallId (lines.Subscribe id query) = id.0 < 2 ^ 64
HasSmallId _ = Unit {0}

abbrev Small : {E : Type 0} → Result Line E → Type 0
Small read = (line : Line) → read ≡ Ok line → HasSmallId line

id_small : (s : Spot) (id : ℕ) → required (number 0 4294967295) s ≡ Ok id → id < 2 ^ 64
id_small s id e =
    let low : id ≤ 4294967295 = required_gives (λ (n : ℕ). n ≤ 4294967295) (number 0 4294967295) (number_gives 0 4294967295) s id e in
    let bound : 4294967295 < 2 ^ 64 = lit< tt in
    omega (arith, low, bound)

each_small : (config : Config) → OfEachLine config HasSmallId
each_small config = record {
  blank = tt;
  stop = tt;
  cancel = λ id. tt;
  drain = λ id. tt;
  subscribe = λ s q id method query id_is _. id_small s id id_is;
  simulate = λ s request _. tt;
  bookmark = tt;
  delete = λ key. tt;
  set = λ s kind object _. tt;
  relist = λ s kind items _ _. tt;
}

text_small : (config : Config) (bytes : List ℕ) → Small (text_line config bytes)
text_small config = text_has config HasSmallId (each_small config)

unread_small : (read : Result Line LineFault) → Small read → Small (refused_unread read)
unread_small (Ok x) small line e = let same : x ≡ line = cc in small line (ap Ok same)
unread_small (Err fault) small line e = absurd cc

row_small : (config : Config) (row : Row) → Small (refused_unread (row_says (text_line config) row))
row_small config None line e = absurd cc
row_small config (Some bytes) line e = unread_small (text_line config bytes) (text_small config bytes) line e

-- ---- the history

module _ (program : Program) (small : (held : ObjectMap) (row : MarkedRow) → Small (reading program held row)) where
  ids_step : (now : State) (line : Result Line Refusal) (refusal : Option Refusal) → Small line → HasSmallIds now.subs → HasSmallIds (unless_refused refusal now (after_line program now line)).subs
  ids_step now line (Some refusal) here so_far = so_far
  ids_step now (Err fault) None here so_far = so_far
  ids_step now (Ok lines.Blank) None here so_far = so_far
  ids_step now (Ok (lines.Simulate request)) None here so_far = so_far
  ids_step now (Ok lines.Stop) None here so_far = so_far
  ids_step now (Ok (lines.Event event)) None here so_far = so_far
  ids_step now (Ok (lines.Subscribe id query)) None here so_far =
      all_joined (λ (asked : Asked). asked.id.0 < 2 ^ 64) now.subs (record { id = id; query = query; told = None } ∷ []) so_far (here (lines.Subscribe id query) refl, tt)
  ids_step now (Ok (lines.Cancel id)) None here so_far = all_in_place id_of id.0 ended (ended_keeps id_of) (λ n. n < 2 ^ 64) now.subs so_far
  ids_step now (Ok (lines.Drain id)) None here so_far = all_in_place id_of id.0 (told_now program now.objects) (told_keeps program now.objects) (λ n. n < 2 ^ 64) now.subs so_far

  ids_small : (past : List MarkedRow) → HasSmallIds (after program past).subs
  ids_small [] = tt
  ids_small (row ∷ past) = ids_step (after program past) (reading_after program past row) (refusal_after program past row) (small (after program past).objects row) (ids_small past)

pub replay_ids : (config : Config) (limits : Limits) (pat : Pat) (past : List MarkedRow) → HasSmallIds (after (replay_of config limits pat) past).subs
replay_ids config limits pat = ids_small (replay_of config limits pat) (λ held row. row_small config row.0)
