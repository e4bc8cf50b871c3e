use Rattle.std.proofs.Common.{ap}
use Rattle.proto_wire.specs.Wire.{Scan, unless_fault}
use Rattle.proto_wire.proofs.Round as Round
use Rattle.proto_wire.proofs.laws.records_come_back.Goals as goal

pub returns : goal.returns
returns c = λ rs fits. ap (λ (s : Scan). unless_fault s.fault s.records) (Round.reads_back rs fits)
