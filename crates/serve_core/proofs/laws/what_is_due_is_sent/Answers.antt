use Rattle.serve_core.specs.Served.{serving_of}
use Rattle.serve_core.proofs.RunLaws.{is_sent}
use Rattle.serve_core.proofs.laws.what_is_due_is_sent.Goals as goal

pub returns : goal.returns
returns c config limits pat known status trace run k = is_sent (serving_of config limits pat) known status trace run c.due.ensures.whole k
