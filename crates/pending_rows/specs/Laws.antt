-- Noting a change keeps the endpoints that were last shown.
use Rattle.std.specs.Prelude.{◌≡◌, Bool, List}
use Rattle.view_diff.specs.Earlier.{IsByAddress, Stood, earlier_rows}
use Rattle.view_types.specs.declared.endpoint.EndpointView.{EndpointView}
use Rattle.pending_rows.specs.Pending.{last_view, with_notes, pending_of}

-- Rows have changed at some addresses, which lead back from the new rows to the old ones. Once they are noted beside those that were
-- pending, what was last shown is the same given the new rows as it was given the old ones.
abbrev pub NotingKeeps : Type 0
NotingKeeps = (exists : Bool) (pending after before : List Stood) (old new : EndpointView) → IsByAddress pending → IsByAddress after → IsByAddress before
    → earlier_rows before new.rows ≡ old.rows → pending_of after ≡ with_notes before (pending_of pending)
    → last_view exists after new ≡ last_view exists pending old
