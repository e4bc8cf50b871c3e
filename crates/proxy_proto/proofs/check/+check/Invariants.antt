use Rattle.std.proofs.Common.{◌≡◌, ◌+◌, ◌-◌, ◌*◌, take, drop, map, []}
use Rattle.proto_wire.specs.Given.{view_record}
use Rattle.proxy_proto.specs.Faults.{fault_at, records_fault}
use Rattle.proxy_proto.specs.MetKeys.{AreMet}
use Rattle.proxy_proto.proofs.check.+check.Given as goal

abbrev pub decreases-check : goal.decreases-check
decreases-check l = 3 * l.depth

abbrev pub decreases-check_value : goal.decreases-check_value
decreases-check_value l = 3 * l.depth + 1

abbrev pub decreases-check_record : goal.decreases-check_record
decreases-check_record l = 3 * l.depth + 2

-- what is left to find is left to find after the records so far, whose keys are met
abbrev pub invariant-check-loop-i : goal.invariant-check-loop-i
invariant-check-loop-i l = record {
  left : records_fault (fault_at (l.depth - 1)) l.fields (map view_record (take l.i l.found.records.items)) (map view_record (drop l.i l.found.records.items))
      ≡ records_fault (fault_at (l.depth - 1)) l.fields [] (map view_record l.found.records.items);
  keys : AreMet l.fields l.keys (map view_record (take l.i l.found.records.items));
}
