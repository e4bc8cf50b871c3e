-- What is noted on a change.
use Rattle.std.specs.Prelude.{List, IfSome}
use Rattle.view_types.specs.Objects.{ObjectMap}
use Rattle.view_types.specs.declared.mark.Mark.{Mark}
use Rattle.server_index.specs.Concerned.{AreListed}
use Rattle.server_index.specs.Matches.{AreRight}
use Rattle.server_index.specs.declared.change_notes.ChangeNotes.{ChangeNotes}

-- the Servers are those held after the change, and the ports that are listed are those that its
-- marks may concern
pub record NotesHold (held : ObjectMap) (changed : List Mark) (notes : ChangeNotes) : Type 0 where
  pub right : AreRight held notes.servers
  pub listed : IfSome notes.concerns (λ listed. AreListed held changed listed.items)
