use Rattle.std.proofs.Common.{◌≡◌, ◌-◌, map, length}
use Rattle.proto_wire.specs.Wire.{scan_in, scan_of}
use Rattle.proto_wire.specs.Given.{view_record}
use Rattle.proto_wire.proofs.Scans.{with_front}
use Rattle.proto_wire.proofs.scan.scan.Given as goal

abbrev pub invariant-loop : goal.invariant-loop
invariant-loop l = with_front (map view_record l.records.items) (scan_in (length l.bytes - l.counter) (length l.bytes) l.rest) ≡ scan_of l.bytes
