use Rattle.std.proofs.Common.{rules}
use Rattle.mesh_base.proofs.Cuts.{pieces_some}
use Rattle.output_fold.proofs.line.frame_words.Goals as goal

pub returns-then-not-is_number_of : goal.returns-then-not-is_number_of
returns-then-not-is_number_of c = let some = pieces_some 32 c.in-Some.hex.now in rw (c.in-Some.ensures.cut, some.2) (search rules)
