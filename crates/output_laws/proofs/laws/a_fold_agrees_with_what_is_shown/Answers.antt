use Rattle.feed_history.specs.Program.{replay_of}
use Rattle.output_laws.proofs.SameObjects.{agrees_with}
use Rattle.output_laws.proofs.laws.a_fold_agrees_with_what_is_shown.Goals as goal

pub returns : goal.returns
returns c config limits pat other = agrees_with (replay_of config limits pat) other (c.frames_and_objects_agree.ensures config limits pat)
