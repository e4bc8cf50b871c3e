use Rattle.serve_rules.proofs.TraceExtension.{begins_with_nothing, cut_extends, turn_extends}
use Rattle.serve_rules.proofs.Total.{some_turn_goes_on}
use Rattle.serve_rules.proofs.laws.turns_extend.Goals as goal

pub returns-clause-nothing : goal.returns-clause-nothing
returns-clause-nothing c = begins_with_nothing

pub returns-clause-turn : goal.returns-clause-turn
returns-clause-turn c = turn_extends

pub returns-clause-cut : goal.returns-clause-cut
returns-clause-cut c = cut_extends

pub returns-clause-some : goal.returns-clause-some
returns-clause-some c = some_turn_goes_on
