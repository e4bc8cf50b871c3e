use Rattle.std.proofs.Common.{◌≡◌, ◌++◌, drop, map}
use Rattle.proto_wire.specs.Wire.{spelling}
use Rattle.proxy_proto.specs.Profiles.{seq_records, response_match_records}
use Rattle.proxy_proto.proofs.response_match.+write_response.Given as goal

abbrev pub invariant-write_response_parts-loop-at : goal.invariant-write_response_parts-loop-at
invariant-write_response_parts-loop-at l = l.out ≡ spelling (seq_records (map response_match_records (drop l.at l.parts))) ++ l.fn.out
