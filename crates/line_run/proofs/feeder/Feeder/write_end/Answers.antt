use Rattle.line_run.proofs.Progress.{says_moved, ended_stops, on_err, told_is}
use Rattle.line_run.proofs.feeder.Feeder.write_end.Goals as goal

pub returns-in_err-next_piece-clause-stopped : goal.returns-in_err-next_piece-clause-stopped
returns-in_err-next_piece-clause-stopped g c = on_err c.from_residual.result (λ start held past says.
    c.in_err-next_piece.ensures.stopped start held past (c.pieces.invariant.says start held past says))

pub returns-in_err-flush-clause-stopped : goal.returns-in_err-flush-clause-stopped
returns-in_err-flush-clause-stopped g c = on_err c.from_residual-in_err-flush.result (λ start held past says.
    ended_stops (g.M.LineMachine.stands start) (g.M.LineMachine.ending start) (g.M.LineMachine.ended start) _
    (c.next_piece.ensures.last (told_is c.next_piece.result c.in_ok-next_piece.field-0 _ c.in_ok-next_piece.was c.if-branch.false) start held past (c.pieces.invariant.says start held past says))
    c.in_err-flush.ensures.front.1 (g.M.LineMachine.keeps_itself _))

pub returns-clause-ended : goal.returns-clause-ended
returns-clause-ended g c = λ start held past says.
    says_moved (g.M.LineMachine.ended start)
    (c.next_piece.ensures.last (told_is c.next_piece.result c.in_ok-next_piece.field-0 _ c.in_ok-next_piece.was c.if-branch.false) start held past (c.pieces.invariant.says start held past says))
    c.in_ok-flush.ensures.moved

pub returns-in_err-next_piece-clause-keeps : goal.returns-in_err-next_piece-clause-keeps
returns-in_err-next_piece-clause-keeps g c = g.M.LineMachine.keeps_on _ _ _ c.pieces.invariant.keeps c.next_piece.ensures.keeps

pub returns-in_err-flush-clause-keeps : goal.returns-in_err-flush-clause-keeps
returns-in_err-flush-clause-keeps g c = g.M.LineMachine.keeps_on _ _ _ c.pieces.invariant.keeps c.next_piece.ensures.keeps

pub returns-clause-keeps : goal.returns-clause-keeps
returns-clause-keeps g c = g.M.LineMachine.keeps_on _ _ _ c.pieces.invariant.keeps c.next_piece.ensures.keeps
