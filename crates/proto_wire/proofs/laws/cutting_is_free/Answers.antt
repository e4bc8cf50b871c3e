use Rattle.proto_wire.proofs.Cuttings as Cuttings
use Rattle.proto_wire.proofs.laws.cutting_is_free.Goals as goal

pub returns : goal.returns
returns c = λ limit pieces. Cuttings.cutting_is_free limit pieces
