-- The exit statuses.
use Rattle.std.specs.Prelude.{ℕ}
use Rattle.line_run.specs.declared.status.Status.{Status}
use Rattle.line_run.specs.declared.status.Status.TheVariants.{Done, SomeRefused, Usage, Memory, ReadFault, WriteFault, InputTooLong}

abbrev pub code_of : Status → ℕ
code_of Done = 0
code_of SomeRefused = 1
code_of Usage = 2
code_of Memory = 3
code_of ReadFault = 4
code_of WriteFault = 5
code_of InputTooLong = 6
