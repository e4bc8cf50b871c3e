-- What each subscriber is sent, and the view that results from folding it.
use Rattle.std.specs.Prelude.{◌≡◌, ◌≤◌, ℕ, ◌==◌, List, [], ◌∷◌, ◌++◌, Option, Some, None, Result, Ok, Err, if◌then◌else◌, flat_map, option_map}
use Rattle.std.specs.FinMap.{get}
use Rattle.mesh_base.specs.declared.key.ObjKey.{ObjKey}
use Rattle.view_types.specs.Objects.{ObjectMap}
use Rattle.view_types.specs.declared.message.Message.{Message}
use Rattle.view_types.specs.declared.view.View.{View}
use Rattle.view_rules.specs.Fold.{fold}
use Rattle.view_rules.specs.Views.{view_before, view_of}
use Rattle.watch_events.specs.declared.line.Line.{Line}
use Rattle.watch_events.specs.declared.line.Line.TheVariants as lines
use Rattle.feed_history.specs.Drains.{frames_of}
use Rattle.feed_history.specs.History.{Asked, State, after, asked_at, messages_due, reading_after, refusal_after, too_long_for}
use Rattle.feed_history.specs.LookBack.{last_told}
use Rattle.feed_history.specs.Output.{piece_of, sub_lines}
use Rattle.feed_history.specs.Marks.{MarkedRow}
use Rattle.feed_history.specs.Program.{Program}
use Rattle.feed_history.specs.Text.{frame_line}
use Rattle.feed_history.specs.declared.refusal.Refusal.{Refusal}

-- ---- what is sent

-- no message is sent if one is too long
abbrev pub sent_unless : Option ℕ → List Message → List Message
sent_unless None messages = messages
sent_unless (Some bytes) messages = []

abbrev pub sent_if_live : Program → ObjectMap → Option Asked → List Message
sent_if_live program held None = []
sent_if_live program held (Some asked) = sent_unless (too_long_for program held asked) (messages_due program held asked)

-- the messages that a drain of the id sends
abbrev pub sent_now : Program → State → ℕ → List Message
sent_now program now id = sent_if_live program now.objects (asked_at id now.subs)

-- the messages that a row sends to the subscriber of an id
abbrev pub sent_by : Program → State → Option Refusal → Result Line Refusal → ℕ → List Message
sent_by program now (Some refusal) line id = []
sent_by program now None (Ok (lines.Drain asked)) id = if asked.0 == id then sent_now program now id else []
sent_by program now None (Ok (lines.Subscribe asked query)) id = []
sent_by program now None (Ok (lines.Cancel asked)) id = []
sent_by program now None (Ok (lines.Event event)) id = []
sent_by program now None (Ok lines.Blank) id = []
sent_by program now None (Ok (lines.Simulate request)) id = []
sent_by program now None (Ok lines.Stop) id = []
sent_by program now None (Err fault) id = []

-- all that the subscriber of an id was sent by the rows
abbrev pub sent_to : Program → List MarkedRow → ℕ → List Message
sent_to program [] id = []
sent_to program (row ∷ past) id = sent_to program past id ++ sent_by program (after program past) (refusal_after program past row) (reading_after program past row) id

-- the same, with those sent at the end of the input
abbrev pub sent_in_all : Program → List MarkedRow → ℕ → List Message
sent_in_all program past id = sent_to program past id ++ sent_now program (after program past) id

-- ---- what is shown

-- no view is shown if a message is too long
abbrev pub shown_unless : Option ℕ → View → Option View
shown_unless None view = Some view
shown_unless (Some bytes) view = None

abbrev pub shown_if_live : Program → ObjectMap → Option Asked → Option View
shown_if_live program held None = None
shown_if_live program held (Some asked) = shown_unless (too_long_for program held asked) (view_of program.config held asked.query)

-- the view that a row shows the subscriber of an id, if it is an accepted drain of the id: the view over the objects held
abbrev pub shown_by : Program → State → Result Line Refusal → ℕ → Option View
shown_by program now (Ok (lines.Drain asked)) id = if asked.0 == id then shown_if_live program now.objects (asked_at id now.subs) else None
shown_by program now line id = None

-- the view that the last drain of an id showed its subscriber, looking back through the rows, if there was one
abbrev pub last_shown : Program → List MarkedRow → ℕ → Option View
last_shown program [] id = None
last_shown program (row ∷ past) id =
    last_told (refusal_after program past row) (option_map Some (shown_by program (after program past) (reading_after program past row) id)) (last_shown program past id)

-- Folding what a subscriber was sent gives the view that its last drain showed it, also after its subscription has ended by a
-- cancellation or by a message that is too long.
abbrev pub FoldsToWhatWasShown : Program → Type 0
FoldsToWhatWasShown program = 1 ≤ program.limits.frame_addrs → (past : List MarkedRow) (id : ℕ) → fold (sent_to program past id) ≡ last_shown program past id

-- Folding what a live subscriber was sent gives the view over the objects held at its last drain, or no view.
abbrev pub FoldsToLastShown : Program → Type 0
FoldsToLastShown program = 1 ≤ program.limits.frame_addrs → (past : List MarkedRow) (id : ℕ) (asked : Asked) → asked_at id (after program past).subs ≡ Some asked
    → fold (sent_to program past id) ≡ view_before program.config asked.query asked.told

-- A live subscriber is owed nothing: its view is the one that it was last shown.
abbrev pub IsOwedNothing : Program → State → Asked → Type 0
IsOwedNothing program now asked = view_before program.config asked.query asked.told ≡ Some (view_of program.config now.objects asked.query)

-- Whenever a live subscriber is owed nothing, folding what it was sent gives the view defined by filters over the objects held.
abbrev pub FoldsToView : Program → Type 0
FoldsToView program = 1 ≤ program.limits.frame_addrs → (past : List MarkedRow) (id : ℕ) (asked : Asked) → asked_at id (after program past).subs ≡ Some asked
    → IsOwedNothing program (after program past) asked → fold (sent_to program past id) ≡ Some (view_of program.config (after program past).objects asked.query)

-- the last drain of a live subscription, at the end of the input, meets no message that is too long
abbrev pub IsDrained : Program → List MarkedRow → ℕ → Asked → Type 0
IsDrained program past id asked = (asked_at id (after program past).subs ≡ Some asked) × (too_long_for program (after program past).objects asked ≡ None)

-- The same at the end of the input.
abbrev pub EndFoldsToView : Program → Type 0
EndFoldsToView program = 1 ≤ program.limits.frame_addrs → (past : List MarkedRow) (id : ℕ) (asked : Asked) → IsDrained program past id asked
    → fold (sent_in_all program past id) ≡ Some (view_of program.config (after program past).objects asked.query)

-- If two lists of rows give the same objects, a query has the same view after both.
abbrev pub SameObjectsSameView : Program → Type 0
SameObjectsSameView program = 1 ≤ program.limits.frame_addrs → (past other : List MarkedRow)
    → ((key : ObjKey) → get (after program past).objects key ≡ get (after program other).objects key)
    → (id other_id : ℕ) (asked other_asked : Asked) → IsDrained program past id asked → IsDrained program other other_id other_asked → asked.query ≡ other_asked.query
    → fold (sent_in_all program past id) ≡ fold (sent_in_all program other other_id)

-- ---- what is written

-- the frames of messages, each on a line of its own
abbrev pub frame_lines : ℕ → List Message → List ℕ
frame_lines id messages = flat_map (frame_line id) (frames_of messages)

-- An accepted drain without a message that is too long writes what it sends.
abbrev pub DrainWritesWhatIsSent : Program → Type 0
DrainWritesWhatIsSent program = (past : List MarkedRow) (row : MarkedRow) (asked : Asked) → refusal_after program past row ≡ None → reading_after program past row ≡ Ok (lines.Drain asked.id)
    → IsDrained program past asked.id.0 asked → piece_of program past row ≡ frame_lines asked.id.0 (sent_by program (after program past) None (reading_after program past row) asked.id.0)

-- So does the end of the input.
abbrev pub EndWritesWhatIsSent : Program → Type 0
EndWritesWhatIsSent program = (past : List MarkedRow) (asked : Asked) → IsDrained program past asked.id.0 asked
    → sub_lines program (after program past).objects asked ≡ frame_lines asked.id.0 (sent_now program (after program past) asked.id.0)
