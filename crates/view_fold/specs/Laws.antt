-- The result of folding messages is a view in order.
use Rattle.std.specs.Prelude.{List}
use Rattle.view_types.specs.declared.message.Message.{Message}
use Rattle.view_rules.specs.Fold.{IsOrderlyIfShown, fold}

-- its rows are in order, each key once, and a Service that does not exist has none
abbrev pub FoldsAreOrderly : Type 0
FoldsAreOrderly = (messages : List Message) → IsOrderlyIfShown (fold messages)
