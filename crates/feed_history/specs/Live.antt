-- The last accepted row about an id decides which query is live under it. Live ids ascend, and the greatest accepted id is the greatest
-- of the ids of all accepted subscriptions.
use Rattle.std.specs.Prelude.{◌≡◌, ◌<◌, ℕ, ◌==◌, ◌&&◌, Bool, List, [], ◌∷◌, ◌++◌, Option, Some, None, Result, Ok, Err, if◌then◌else◌, is_some, max, option_and_then, option_map}
use Rattle.view_types.specs.declared.query.Query.{Query}
use Rattle.watch_events.specs.declared.line.Line.{Line}
use Rattle.watch_events.specs.declared.line.Line.TheVariants as lines
use Rattle.feed_history.specs.Marks.{MarkedRow}
use Rattle.feed_history.specs.Program.{Program}
use Rattle.feed_history.specs.declared.refusal.Refusal.{Refusal}
use Rattle.feed_history.specs.History.{Asked, State, after, asked_at, id_of, reading_after, refusal_after, too_long_for}
use Rattle.feed_history.specs.Ids.{AscendBy}
use Rattle.feed_history.specs.LookBack.{last_told}

-- whether a drain of the id would meet a message that is too long
abbrev pub meets_too_long : Program → State → ℕ → Bool
meets_too_long program now id = is_some (option_and_then (too_long_for program now.objects) (asked_at id now.subs))

-- If the row is about the id: the query that is live under it afterwards, or none. A drain ends the id if a message is too long.
abbrev pub asked_by : Program → State → Result Line Refusal → ℕ → Option (Option Query)
asked_by program now (Ok (lines.Subscribe asked query)) id = if asked.0 == id then Some (Some query) else None
asked_by program now (Ok (lines.Cancel asked)) id = if asked.0 == id then Some None else None
asked_by program now (Ok (lines.Drain asked)) id = if (asked.0 == id) && meets_too_long program now id then Some None else None
asked_by program now (Ok (lines.Event event)) id = None
asked_by program now (Ok lines.Blank) id = None
asked_by program now (Ok (lines.Simulate request)) id = None
asked_by program now (Ok lines.Stop) id = None
asked_by program now (Err fault) id = None

-- the query that is live under an id, looking back through the rows
abbrev pub live_at : Program → List MarkedRow → ℕ → Option Query
live_at program [] id = None
live_at program (row ∷ past) id = last_told (refusal_after program past row) (asked_by program (after program past) (reading_after program past row) id) (live_at program past id)

-- the query under an id
abbrev pub query_at : ℕ → List Asked → Option Query
query_at id subs = option_map (λ asked. asked.query) (asked_at id subs)

abbrev pub LastLineDecidesLive : Program → Type 0
LastLineDecidesLive program = (past : List MarkedRow) (id : ℕ) → query_at id (after program past).subs ≡ live_at program past id

-- each id is below those that follow it
abbrev pub Ascend : List Asked → Type 0
Ascend subs = AscendBy id_of subs

abbrev pub LiveIdsAscend : Program → Type 0
LiveIdsAscend program = (past : List MarkedRow) → Ascend (after program past).subs

-- the ids of the subscriptions in accepted rows
abbrev pub id_accepted : Option Refusal → Result Line Refusal → List ℕ
id_accepted (Some refusal) line = []
id_accepted None (Ok (lines.Subscribe id query)) = id.0 ∷ []
id_accepted None (Ok (lines.Event event)) = []
id_accepted None (Ok lines.Blank) = []
id_accepted None (Ok (lines.Cancel id)) = []
id_accepted None (Ok (lines.Drain id)) = []
id_accepted None (Ok (lines.Simulate request)) = []
id_accepted None (Ok lines.Stop) = []
id_accepted None (Err fault) = []

abbrev pub accepted_ids : Program → List MarkedRow → List ℕ
accepted_ids program [] = []
accepted_ids program (row ∷ past) = id_accepted (refusal_after program past row) (reading_after program past row) ++ accepted_ids program past

abbrev pub max_with : ℕ → Option ℕ → ℕ
max_with n None = n
max_with n (Some other) = max n other

abbrev pub greatest : List ℕ → Option ℕ
greatest [] = None
greatest (n ∷ ns) = Some (max_with n (greatest ns))

abbrev pub LastIsGreatest : Program → Type 0
LastIsGreatest program = (past : List MarkedRow) → (after program past).last ≡ greatest (accepted_ids program past)
