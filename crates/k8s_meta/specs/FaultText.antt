-- The string of an error: its name, the path of the member, and what is wrong with its value.
use Rattle.std.specs.Prelude.{ℕ, List, [], ◌++◌, codes}
use Rattle.k8s_meta.specs.declared.fault.ReadFault.{ReadFault}
use Rattle.k8s_meta.specs.declared.fault.ReadFault.TheVariants.{Memory, Missing, WrongType, BadName, BadValue}
use Rattle.k8s_meta.specs.declared.fault.What.{What}
use Rattle.k8s_meta.specs.declared.fault.What.TheVariants.{Address, Network, Range, Choice, Duration, Quantity, Method, Shape, TwoReferences}

abbrev pub what_text : What → List ℕ
what_text Address = codes "Address"
what_text Network = codes "Network"
what_text Range = codes "Range"
what_text Choice = codes "Choice"
what_text Duration = codes "Duration"
what_text Quantity = codes "Quantity"
what_text Method = codes "Method"
what_text Shape = codes "Shape"
what_text TwoReferences = codes "TwoReferences"

-- The string of Memory is empty.
abbrev pub read_fault_text : ReadFault → List ℕ
read_fault_text Memory = []
read_fault_text (Missing path) = codes "Missing " ++ path
read_fault_text (WrongType path) = codes "WrongType " ++ path
read_fault_text (BadName path) = codes "BadName " ++ path
read_fault_text (BadValue path what) = codes "BadValue " ++ (path ++ (codes " " ++ what_text what))
