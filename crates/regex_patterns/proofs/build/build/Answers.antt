use Rattle.std.proofs.Common.{◌∙◌}
use Rattle.regex_patterns.proofs.Telling.{built_of_read}
use Rattle.regex_patterns.proofs.build.build.Goals as goal

pub returns : goal.returns
returns c = built_of_read c.args.pattern.now c.as_str.result.now (c.as_str.ensures.value ∙ c.in_ok-source.ensures) c.read.result c.read.ensures
