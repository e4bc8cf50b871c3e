use Rattle.proto_wire.proofs.Round as Round
use Rattle.proto_wire.proofs.laws.reads_back.Goals as goal

pub returns : goal.returns
returns c = λ rs fits. Round.reads_back rs fits
