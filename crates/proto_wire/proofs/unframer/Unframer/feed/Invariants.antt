use Rattle.std.proofs.Common.{◌≡◌}
use Rattle.proto_wire.specs.Unframing.{frames_from}
use Rattle.proto_wire.proofs.Feeding.{behind, left}
use Rattle.proto_wire.proofs.unframer.Unframer.feed.Given as goal

abbrev pub invariant-loop-messages : goal.invariant-loop-messages
invariant-loop-messages l = record {
  limit : l.self.limit ≡ l.fn.self.limit;
  frames : behind l.messages (frames_from l.self l.rest) ≡ frames_from l.fn.self l.piece;
}

abbrev pub decreases-loop-messages : goal.decreases-loop-messages
decreases-loop-messages l = left l.self.part l.rest
