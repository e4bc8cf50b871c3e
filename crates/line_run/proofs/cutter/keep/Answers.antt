use Rattle.std.proofs.Common.{arith, sym}
use Rattle.line_run.proofs.Cut.{NoBreak-append, rows_of-long}
use Rattle.line_run.proofs.cutter.keep.Goals as goal

pub returns-in_ok-extend_from_slice-clause-part : goal.returns-in_ok-extend_from_slice-clause-part
returns-in_ok-extend_from_slice-clause-part c = λ none.
    rw c.in_ok-extend_from_slice.ensures.items (NoBreak-append c.args.part.now.items c.args.piece.now c.requires none)

pub returns-else-len-limit-clause-rows : goal.returns-else-len-limit-clause-rows
returns-else-len-limit-clause-rows c = λ none rest.
    sym (rows_of-long c.args.limit c.args.part.now.items c.args.piece.now rest c.requires none (omega (arith, c.args.part.now.ok.0)))
