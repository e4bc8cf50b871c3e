use Rattle.std.proofs.Common.{◌≡◌, ◌++◌, drop, map}
use Rattle.proto_wire.specs.Given.{view_record}
use Rattle.proxy_proto.specs.LookUps.{texts_in}
use Rattle.proxy_proto.proofs.look_up.texts_in.Given as goal

abbrev pub invariant-loop-record : goal.invariant-loop-record
invariant-loop-record l = l.texts ++ texts_in l.number (map view_record (drop l.record-index l.records)) ≡ texts_in l.number (map view_record l.records)
