use Rattle.std.proofs.Common.{rules}
use Rattle.mesh_base.proofs.Cuts.{pieces_some}
use Rattle.cluster_sample.proofs.counts.frame_size.Goals as goal

pub returns-in-Some-cut-2 : goal.returns-in-Some-cut-2
returns-in-Some-cut-2 c = let more = pieces_some 32 c.in-Some-cut-2.field-0.1.now in rw (c.in-Some.ensures.cut, c.in-Some-cut.ensures.cut, c.in-Some-cut-2.ensures.cut, more.2) (search rules)
