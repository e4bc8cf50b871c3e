-- A drain leaves a subscription under its id, told of the objects held, or none.
use Rattle.std.proofs.Common.{◌≡◌, Option, Some, refl}
use Rattle.view_types.specs.Objects.{ObjectMap}
use Rattle.feed_history.specs.History.{Asked, id_of, told_now, too_long_for}
use Rattle.feed_history.specs.Program.{Program}
use Rattle.feed_history.proofs.EntriesById.{KeepsIds, WasDrained, drained_keeps, then_at, was_drained}

abbrev pub told_of : ObjectMap → Asked → Asked
told_of held asked = record asked { told = Some held }

pub told_keeps : (program : Program) (held : ObjectMap) → KeepsIds id_of (told_now program held)
told_keeps program held = drained_keeps id_of (too_long_for program held) (told_of held) (λ asked. refl)

pub was_told : (program : Program) (held : ObjectMap) (found : Option Asked) (left : Asked) → then_at (told_now program held) found ≡ Some left → WasDrained (too_long_for program held) (told_of held) found left
was_told program held = was_drained (too_long_for program held) (told_of held)
