use Rattle.std.proofs.Common.{◌≡◌, ◌≤◌, ◌+◌, ℕ, List, ◌++◌, length, Option}
use Rattle.line_run.specs.Rows.{NoBreak}
use Rattle.line_run.specs.Within.{now_of, Come}
use Rattle.line_run.proofs.feeder.Feeder.feed.Given as goal

abbrev pub invariant-loop-found : goal.invariant-loop-found
invariant-loop-found g l = record {
  part : NoBreak l.self.cutter.part.items;
  lines : l.self.lines + length l.rest ≤ l.fn.self.lines + length l.block;
  come : (start : g.row.M.Denot) (held : Option (List ℕ)) (taken : List ℕ)
      → Come (g.M.LineMachine.stands start) l.limit held taken l.fn.self.cutter.part.items (now_of l.fn.machine (g.K.Sink.held l.fn.sink) l.fn.self)
      → Come (g.M.LineMachine.stands start) l.limit held (taken ++ l.block) (l.self.cutter.part.items ++ l.rest) (now_of l.machine (g.K.Sink.held l.sink) l.self);
  told : g.K.Sink.faults l.sink ≡ g.K.Sink.faults l.fn.sink;
  keeps : g.M.LineMachine.keeps l.fn.machine l.machine;
}

abbrev pub decreases-loop-found : goal.decreases-loop-found
decreases-loop-found g l = length l.rest
