use Rattle.line_run.proofs.Cut.{last_is}
use Rattle.line_run.proofs.cutter.Cutter.has_last.Goals as goal

pub returns : goal.returns
returns c = λ limit. let part = c.args.self.now.part in last_is limit part.items _ c.is_empty.result part.ok.0 c.is_empty.ensures c.requires
