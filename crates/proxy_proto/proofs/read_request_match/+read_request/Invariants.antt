use Rattle.std.proofs.Common.{◌≡◌, ◌+◌, ◌*◌, ◌++◌, drop, map}
use Rattle.proto_wire.specs.Given.{view_record}
use Rattle.proxy_proto.specs.LookUps.{each_in}
use Rattle.proxy_proto.specs.ProfileReading.{request_match_in}
use Rattle.proxy_proto.proofs.read_request_match.+read_request.Given as goal

abbrev pub decreases-read_request_match : goal.decreases-read_request_match
decreases-read_request_match l = 3 * l.depth

abbrev pub decreases-read_parts : goal.decreases-read_parts
decreases-read_parts l = 3 * l.depth + 1

abbrev pub decreases-choose : goal.decreases-choose
decreases-choose l = 3 * l.depth + 2

abbrev pub invariant-read_parts-loop-record : goal.invariant-read_parts-loop-record
invariant-read_parts-loop-record l = l.parts ++ each_in 1 (request_match_in l.depth) (map view_record (drop l.record-index l.records)) ≡ each_in 1 (request_match_in l.depth) (map view_record l.records)
