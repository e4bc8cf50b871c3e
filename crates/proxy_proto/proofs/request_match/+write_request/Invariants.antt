use Rattle.std.proofs.Common.{◌≡◌, ◌++◌, drop, map}
use Rattle.proto_wire.specs.Wire.{spelling}
use Rattle.proxy_proto.specs.Profiles.{seq_records, request_match_records}
use Rattle.proxy_proto.proofs.request_match.+write_request.Given as goal

abbrev pub invariant-write_request_parts-loop-at : goal.invariant-write_request_parts-loop-at
invariant-write_request_parts-loop-at l = l.out ≡ spelling (seq_records (map request_match_records (drop l.at l.parts))) ++ l.fn.out
