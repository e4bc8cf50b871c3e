use Rattle.std.proofs.Common.{◌∷◌}
use Rattle.line_run.specs.Rows.{row_of}
use Rattle.line_run.specs.Within.{now_of, Says}
use Rattle.line_run.proofs.Progress.{Moves-none, says_moved, stands_stops, on_err}
use Rattle.line_run.proofs.feeder.Feeder.give.Goals as goal

pub returns-in_default-clause-stopped : goal.returns-in_default-clause-stopped
returns-in_default-clause-stopped g c = λ start held past rest counted says.
    stands_stops (g.M.LineMachine.stands start) (g.M.LineMachine.ending start) (g.M.LineMachine.ended start) _ (row_of c.args.limit c.args.self.now.cutter.part.items ∷ rest) says (Moves-none _ _) c.tell.ensures.keeps

pub returns-in_err-flush_much-clause-stopped : goal.returns-in_err-flush_much-clause-stopped
returns-in_err-flush_much-clause-stopped g c = on_err c.from_residual.result (λ start held past rest counted says.
    let told : Says (g.M.LineMachine.stands start) held (row_of c.args.limit c.args.self.now.cutter.part.items ∷ past) (now_of c.tell.new.machine (g.K.Sink.held c.args.sink.now) c.tell.new.self) =
    record { sent = says.sent; written = says.written; at_past = c.in-Ok.ensures.stands start past says.sent counted says.at_past } in
    stands_stops (g.M.LineMachine.stands start) (g.M.LineMachine.ending start) (g.M.LineMachine.ended start) _ rest told c.in_err-flush_much.ensures.front.1 (g.M.LineMachine.keeps_itself _))

pub returns-clause-stands : goal.returns-clause-stands
returns-clause-stands g c = λ start held past counted says.
    let told : Says (g.M.LineMachine.stands start) held (row_of c.args.limit c.args.self.now.cutter.part.items ∷ past) (now_of c.tell.new.machine (g.K.Sink.held c.args.sink.now) c.tell.new.self) =
    record { sent = says.sent; written = says.written; at_past = c.in-Ok.ensures.stands start past says.sent counted says.at_past } in
    says_moved (g.M.LineMachine.stands start) told c.in_ok-flush_much.ensures.moved
