-- The objects held when a subscription was last drained are those held at the row of its last accepted drain.
use Rattle.std.specs.Prelude.{◌≡◌, ℕ, ◌==◌, List, [], ◌∷◌, Option, Some, None, Result, Ok, Err, if◌then◌else◌, option_map}
use Rattle.watch_events.specs.declared.line.Line.{Line}
use Rattle.watch_events.specs.declared.line.Line.TheVariants as lines
use Rattle.feed_history.specs.History.{Asked, after, asked_at, reading_after, refusal_after}
use Rattle.feed_history.specs.LookBack.{last_told}
use Rattle.feed_history.specs.Marks.{MarkedRow}
use Rattle.feed_history.specs.Program.{Program}
use Rattle.feed_history.specs.declared.refusal.Refusal.{Refusal}

-- If the last of these rows concerns the drains of an id: it is the last drain, or there is none yet.
abbrev pub drain_in : List MarkedRow → Result Line Refusal → ℕ → Option (Option (List MarkedRow))
drain_in rows (Ok (lines.Drain asked)) id = if asked.0 == id then Some (Some rows) else None
drain_in rows (Ok (lines.Subscribe asked query)) id = if asked.0 == id then Some None else None
drain_in rows (Ok (lines.Cancel asked)) id = None
drain_in rows (Ok (lines.Event event)) id = None
drain_in rows (Ok lines.Blank) id = None
drain_in rows (Ok (lines.Simulate request)) id = None
drain_in rows (Ok lines.Stop) id = None
drain_in rows (Err fault) id = None

-- the rows up to the last accepted drain of an id, looking back through them
abbrev pub last_drain : Program → List MarkedRow → ℕ → Option (List MarkedRow)
last_drain program [] id = None
last_drain program (row ∷ past) id = last_told (refusal_after program past row) (drain_in (row ∷ past) (reading_after program past row) id) (last_drain program past id)

abbrev pub LastDrainDecidesShown : Program → Type 0
LastDrainDecidesShown program = (past : List MarkedRow) (id : ℕ) (asked : Asked) → asked_at id (after program past).subs ≡ Some asked
    → asked.told ≡ option_map (λ rows. (after program rows).objects) (last_drain program past id)
