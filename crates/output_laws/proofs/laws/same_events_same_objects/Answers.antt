use Rattle.output_laws.proofs.SameObjects.{same_objects}
use Rattle.output_laws.proofs.laws.same_events_same_objects.Goals as goal

pub returns : goal.returns
returns c = same_objects
