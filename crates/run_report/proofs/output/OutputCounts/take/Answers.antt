use Rattle.std.proofs.Common.{◌+◌, take, drop}
use Rattle.std.proofs.lemmas.List.{take_rest}
use Rattle.run_report.specs.Written.{AreWritten}
use Rattle.run_report.proofs.Fronts.{front_starts, front_grows, front_is_all}
use Rattle.run_report.proofs.output.OutputCounts.take.Goals as goal

pub loop-at-init : goal.loop-at-init
loop-at-init c = front_starts AreWritten c.args.self.now c.args.piece.now

pub loop-at-preserved : goal.loop-at-preserved
loop-at-preserved c =
    let at = c.in-Some.at in
    let rest = c.loop-at.rest.now in
    rw (take_rest rest (at + 1))
    (front_grows AreWritten c.args.self.now c.loop-at.self c.take_part.new.self c.end_line.new.self c.args.piece.now rest (take at rest) (drop (at + 1) rest) c.loop-at.invariant c.in-Some.ensures.cut c.take_part.ensures c.end_line.ensures)

pub returns : goal.returns
returns c = front_is_all AreWritten c.args.self.now c.loop-at.self c.take_part-2.new.self c.args.piece.now c.loop-at.rest.now c.loop-at.invariant c.take_part-2.ensures
