use Rattle.std.proofs.Common.{Some, None, ap, ◌∙◌}
use Rattle.slice_marks.proofs.Reading.{first_any, has_any}
use Rattle.slice_marks.proofs.slices.SliceMarks.is_read.Goals as goal

pub returns-in-Some : goal.returns-in-Some
returns-in-Some c = first_any c.at.result.now (Some c.in-Some.field-0.now) c.in-Some.ensures.value ∙ ap has_any c.at.ensures.value

pub returns-in-None : goal.returns-in-None
returns-in-None c = first_any c.at.result.now None c.in-None.ensures.value ∙ ap has_any c.at.ensures.value
