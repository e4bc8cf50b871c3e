-- The text of the fault of a line.
use Rattle.std.specs.Prelude.{ℕ, List, [], ◌++◌, codes}
use Rattle.std.specs.Fmt.{decimal}
use Rattle.k8s_meta.specs.FaultText.{read_fault_text}
use Rattle.watch_events.specs.declared.line.LineFault.{LineFault}
use Rattle.watch_events.specs.declared.line.LineFault.TheVariants.{Memory, TooLong, NotJson, NoForm, UnknownType, ErrorEvent, UnknownKind, Object, RepeatedItem, BadQuery}

-- Out of memory has no text.
abbrev pub line_fault_text : LineFault → List ℕ
line_fault_text Memory = []
line_fault_text TooLong = codes "TooLong"
line_fault_text NotJson = codes "NotJson"
line_fault_text NoForm = codes "NoForm"
line_fault_text UnknownType = codes "UnknownType"
line_fault_text ErrorEvent = codes "ErrorEvent"
line_fault_text UnknownKind = codes "UnknownKind"
line_fault_text (Object fault) = read_fault_text fault
line_fault_text (RepeatedItem place) = codes "RepeatedItem " ++ decimal place
line_fault_text (BadQuery path) = codes "BadQuery " ++ path
