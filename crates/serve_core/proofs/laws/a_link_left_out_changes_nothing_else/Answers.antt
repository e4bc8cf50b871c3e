use Rattle.serve_core.specs.Served.{serving_of}
use Rattle.serve_core.proofs.RunLaws.{is_left_out}
use Rattle.serve_core.proofs.laws.a_link_left_out_changes_nothing_else.Goals as goal

pub returns : goal.returns
returns c config limits pat known status trace run k unmet none = is_left_out (serving_of config limits pat) known status trace run c.erasure.ensures.trace c.erasure.ensures.others k unmet none
