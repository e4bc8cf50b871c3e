use Rattle.std.proofs.Common.{◌∙◌}
use Rattle.regex_patterns.proofs.FromStart.{small_of_start}
use Rattle.regex_patterns.proofs.build.build_small.Goals as goal

pub returns : goal.returns
returns c = small_of_start c.args.pattern.now c.as_str.result.now c.small.result (c.as_str.ensures.value ∙ c.in_ok-source.ensures) c.small.ensures
