use Rattle.serve_core.specs.Served.{serving_of}
use Rattle.serve_core.proofs.RunLaws.{holds_one}
use Rattle.serve_core.proofs.laws.each_outbox_holds_one.Goals as goal

pub returns : goal.returns
returns c config limits pat known status trace run before after is = holds_one (serving_of config limits pat) known status trace run c.outboxes_hold_one.ensures before after is
