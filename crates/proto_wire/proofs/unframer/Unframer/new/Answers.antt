use Rattle.std.proofs.Common.{rules}
use Rattle.proto_wire.specs.Frames.{frames_up_to}
use Rattle.proto_wire.proofs.unframer.Unframer.new.Goals as goal

pub returns-clause-fed : goal.returns-clause-fed
unfolding frames_up_to
returns-clause-fed c = search rules
