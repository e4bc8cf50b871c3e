use Rattle.output_laws.proofs.Diagnoses.{agrees_with_diagnosis}
use Rattle.output_laws.proofs.laws.frames_and_a_diagnosis_agree.Goals as goal

pub returns : goal.returns
returns c config limits pat = agrees_with_diagnosis config limits pat (c.frames_and_objects_agree.ensures config limits pat)
