use Rattle.feed_history.specs.Program.{replay_of}
use Rattle.output_laws.proofs.Diagnoses.{replay_agrees}
use Rattle.output_laws.proofs.laws.a_replay_and_a_diagnosis_agree.Goals as goal

pub returns : goal.returns
returns c config limits pat = replay_agrees config limits pat (c.marks_change_nothing.ensures (replay_of config limits pat)) (c.frames_and_a_diagnosis_agree.ensures config limits pat)
