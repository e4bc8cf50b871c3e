use Rattle.std.proofs.Common.{ℕ, List, ◌++◌, take}
use Rattle.run_report.specs.Written.{IsAt}
use Rattle.run_report.proofs.output.Place.after_part.Given as goal

abbrev pub invariant-loop-byte : goal.invariant-loop-byte
invariant-loop-byte l = (line : List ℕ) → IsAt l.fn.self line → IsAt l.place (line ++ take l.byte-index l.part)
