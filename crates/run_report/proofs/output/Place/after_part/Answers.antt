use Rattle.std.proofs.Common.{rules}
use Rattle.run_report.proofs.Places.{passes_rest}
use Rattle.run_report.proofs.output.Place.after_part.Goals as goal

pub returns-then-is_passing : goal.returns-then-is_passing
returns-then-is_passing c = λ line is. passes_rest c.args.self c.loop-byte.place c.args.part.now c.loop-byte.byte-index c.is_passing.result c.loop-byte.invariant c.is_passing.ensures (search rules) line is
