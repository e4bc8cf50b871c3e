use Rattle.slice_marks.proofs.Agreeing.{none_agree}
use Rattle.slice_marks.proofs.slices.SliceMarks.new.Goals as goal

pub returns-clause-agree : goal.returns-clause-agree
returns-clause-agree c = none_agree _ c.new.ensures.empty c.new-2.ensures.empty
