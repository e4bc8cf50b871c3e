use Rattle.std.proofs.Common.{◌+◌, ap, ◌∙◌}
use Rattle.cluster_sample.proofs.Lines.{lines_counted}
use Rattle.cluster_sample.proofs.counts.count_lines.Goals as goal

pub returns-in-len1-up : goal.returns-in-len1-up
returns-in-len1-up c = ap (λ k. k + 1) c.count_breaks.ensures ∙ lines_counted c.args.text.now c.in-len1-up.len_at_least
