use Rattle.std.specs.Prelude.{◌⊎◌}
use Rattle.line_run.specs.Within.{Now, Says}
use Rattle.line_run.proofs.Progress.{Moves-none, says_moved, ending_stops, end_stops, on_err, told_too, told_either}
use Rattle.line_run.proofs.feeder.Feeder.next_piece.Goals as goal

pub returns-in_default-clause-stopped : goal.returns-in_default-clause-stopped
returns-in_default-clause-stopped g c = λ start held past says.
    ending_stops (g.M.LineMachine.stands start) (g.M.LineMachine.ending start) (g.M.LineMachine.ended start) _ says (Moves-none _ _) c.end.ensures.keeps

pub returns-in_err-flush_much-clause-stopped : goal.returns-in_err-flush_much-clause-stopped
returns-in_err-flush_much-clause-stopped g c = on_err c.from_residual.result (λ start held past says.
    let s = c.args.self.now in
    let now : Now g.row.M.Denot = record { machine = c.end.new.self; held = g.K.Sink.held c.args.sink.now; out = c.end.new.out.items; lines = s.lines; refused = s.refused } in
    let here = told_either c.end.result c.in-Ok.more c.in-Ok.is
    (λ more. c.end.ensures.more more start past says.sent s.refused says.at_past) (λ last. c.end.ensures.last last start past says.sent s.refused says.at_past) in
    let told : Says (λ machine past said refused. g.M.LineMachine.ending start machine past said refused ⊎ g.M.LineMachine.ended start machine past said refused) held past now =
    record { sent = says.sent; written = says.written; at_past = here } in
    end_stops (g.M.LineMachine.stands start) (g.M.LineMachine.ending start) (g.M.LineMachine.ended start) _ told c.in_err-flush_much.ensures.front.1 (g.M.LineMachine.keeps_itself _))

pub returns-clause-more : goal.returns-clause-more
returns-clause-more g c = λ more start held past says.
    let s = c.args.self.now in
    let now : Now g.row.M.Denot = record { machine = c.end.new.self; held = g.K.Sink.held c.args.sink.now; out = c.end.new.out.items; lines = s.lines; refused = s.refused } in
    let told : Says (g.M.LineMachine.ending start) held past now =
    record { sent = says.sent; written = says.written; at_past = c.end.ensures.more (told_too c.end.result c.in-Ok.more _ c.in-Ok.is more) start past says.sent s.refused says.at_past } in
    says_moved (g.M.LineMachine.ending start) told c.in_ok-flush_much.ensures.moved

pub returns-clause-last : goal.returns-clause-last
returns-clause-last g c = λ last start held past says.
    let s = c.args.self.now in
    let now : Now g.row.M.Denot = record { machine = c.end.new.self; held = g.K.Sink.held c.args.sink.now; out = c.end.new.out.items; lines = s.lines; refused = s.refused } in
    let told : Says (g.M.LineMachine.ended start) held past now =
    record { sent = says.sent; written = says.written; at_past = c.end.ensures.last (told_too c.end.result c.in-Ok.more _ c.in-Ok.is last) start past says.sent s.refused says.at_past } in
    says_moved (g.M.LineMachine.ended start) told c.in_ok-flush_much.ensures.moved
