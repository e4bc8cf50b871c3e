use Rattle.serve_core.specs.Served.{serving_of}
use Rattle.serve_core.proofs.RunLaws.{is_by_places}
use Rattle.serve_core.proofs.laws.due_by_places.Goals as goal

pub returns : goal.returns
returns c config limits pat known status trace run k none = is_by_places (serving_of config limits pat) known status trace run c.places.ensures.all_due c.places.ensures.all_ascend k none
