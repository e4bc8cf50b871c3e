use Rattle.std.proofs.Common.{◌≡◌, ℕ, List, Option}
use Rattle.line_run.specs.Rows.{Row}
use Rattle.line_run.specs.Within.{now_of, Says}
use Rattle.line_run.proofs.feeder.Feeder.write_end.Given as goal

abbrev pub invariant-pieces : goal.invariant-pieces
invariant-pieces g l = record {
  says : (start : g.row.M.Denot) (held : Option (List ℕ)) (past : List Row)
      → Says (g.M.LineMachine.ending start) held past (now_of l.fn.machine (g.K.Sink.held l.fn.sink) l.fn.self)
      → Says (g.M.LineMachine.ending start) held past (now_of l.machine (g.K.Sink.held l.sink) l.self);
  told : g.K.Sink.faults l.sink ≡ g.K.Sink.faults l.fn.sink;
  keeps : g.M.LineMachine.keeps l.fn.machine l.machine;
}

abbrev pub decreases-pieces : goal.decreases-pieces
decreases-pieces g l = g.M.LineMachine.pieces_left l.machine
