use Rattle.std.proofs.Common.{◌∙◌, ap, is_some}
use Rattle.regex_nfa.specs.Run.{run}
use Rattle.regex_patterns.proofs.FromStart.{one_place}
use Rattle.regex_patterns.proofs.small.begins_in.Goals as goal

pub returns-in-Ok : goal.returns-in-Ok
returns-in-Ok c = c.is_some.ensures ∙ (ap is_some c.in-Ok.ensures.span ∙ one_place (run c.args.nfa.now c.args.bytes.now _ c.args.nfa.now.start))
