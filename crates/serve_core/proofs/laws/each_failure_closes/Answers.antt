use Rattle.serve_core.specs.Served.{serving_of}
use Rattle.serve_core.proofs.RunLaws.{all_close}
use Rattle.serve_core.proofs.laws.each_failure_closes.Goals as goal

pub returns : goal.returns
returns c config limits pat known status trace run = all_close (serving_of config limits pat) known status trace run c.failures_close.ensures.read c.failures_close.ensures.write
