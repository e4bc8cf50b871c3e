-- Laws on which subscriptions are due.
use Rattle.std.specs.Prelude.{◌≡◌, ℕ, true, false, List, [], ◌∷◌, Some, None, if◌then◌else◌, is_some}
use Rattle.feed_history.specs.Deliveries.{IsOwedNothing}
use Rattle.feed_history.specs.Due.{due_after, is_due}
use Rattle.feed_history.specs.History.{Asked, after, asked_at, messages_due, reading_after, refusal_after}
use Rattle.feed_history.specs.Live.{live_at}
use Rattle.feed_history.specs.Marks.{MarkedRow}
use Rattle.feed_history.specs.Program.{Program}

-- An accepted row changes which ids are due as its line does, and a refused row does not.
abbrev pub DueAfterRows : Program → Type 0
DueAfterRows program = (past : List MarkedRow) (row : MarkedRow) (id : ℕ)
    → is_due program (row ∷ past) id ≡ (if is_some (refusal_after program past row) then is_due program past id else due_after program.config (after program past) (reading_after program past row) id (is_due program past id))

abbrev pub DueAreLive : Program → Type 0
DueAreLive program = (past : List MarkedRow) (id : ℕ) → is_due program past id ≡ true → is_some (live_at program past id) ≡ true

abbrev pub NeverDrainedAreDue : Program → Type 0
NeverDrainedAreDue program = (past : List MarkedRow) (id : ℕ) (asked : Asked) → asked_at id (after program past).subs ≡ Some asked → asked.told ≡ None → is_due program past id ≡ true

abbrev pub OnlyDueAreOwed : Program → Type 0
OnlyDueAreOwed program = (past : List MarkedRow) (id : ℕ) (asked : Asked) → asked_at id (after program past).subs ≡ Some asked → is_due program past id ≡ false
    → IsOwedNothing program (after program past) asked

abbrev pub OnlyDueAreSent : Program → Type 0
OnlyDueAreSent program = (past : List MarkedRow) (id : ℕ) (asked : Asked) → asked_at id (after program past).subs ≡ Some asked → is_due program past id ≡ false
    → messages_due program (after program past).objects asked ≡ []
