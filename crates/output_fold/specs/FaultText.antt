-- The texts of faults. Out of memory has none.
use Rattle.std.specs.Prelude.{ℕ, List, [], ◌++◌, codes}
use Rattle.std.specs.Fmt.{decimal}
use Rattle.proto_wire.specs.declared.fault.WireFault.{WireFault}
use Rattle.proto_wire.specs.declared.fault.WireFault.TheVariants as wire
use Rattle.proxy_proto.specs.declared.fault.ProtoFault.{ProtoFault}
use Rattle.proxy_proto.specs.declared.fault.ProtoFault.TheVariants as proto
use Rattle.output_fold.specs.declared.fault.FoldFault.{FoldFault}
use Rattle.output_fold.specs.declared.fault.FoldFault.TheVariants.{Memory, TooLong, NotLine, Compressed, Message}

-- A message can have the first three faults.
abbrev pub wire_fault_text : WireFault → List ℕ
wire_fault_text (wire.Truncated at) = codes "Truncated " ++ decimal at
wire_fault_text (wire.BadTag at) = codes "BadTag " ++ decimal at
wire_fault_text (wire.LongVarint at) = codes "LongVarint " ++ decimal at
wire_fault_text wire.Compressed = codes "Compressed"
wire_fault_text (wire.TooLong len) = codes "TooLong " ++ decimal len
wire_fault_text wire.Memory = []

-- A message can have all faults except the last three, which only requests have.
abbrev pub proto_fault_text : ProtoFault → List ℕ
proto_fault_text (proto.Wire fault) = codes "Wire " ++ wire_fault_text fault
proto_fault_text (proto.Repeated field) = codes "Repeated " ++ decimal field
proto_fault_text (proto.WrongWire field) = codes "WrongWire " ++ decimal field
proto_fault_text (proto.NotUtf8 field) = codes "NotUtf8 " ++ decimal field
proto_fault_text (proto.Range field) = codes "Range " ++ decimal field
proto_fault_text (proto.Absent field) = codes "Absent " ++ decimal field
proto_fault_text proto.NoChoice = codes "NoChoice"
proto_fault_text proto.BadAuthority = codes "BadAuthority"
proto_fault_text proto.BadWorkload = codes "BadWorkload"
proto_fault_text proto.Memory = []

abbrev pub fold_fault_text : FoldFault → List ℕ
fold_fault_text TooLong = codes "TooLong"
fold_fault_text NotLine = codes "NotLine"
fold_fault_text Compressed = codes "Compressed"
fold_fault_text (Message fault) = proto_fault_text fault
fold_fault_text Memory = []
