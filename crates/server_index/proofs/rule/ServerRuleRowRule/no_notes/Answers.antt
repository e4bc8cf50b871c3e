use Rattle.server_index.proofs.rule.ServerRuleRowRule.no_notes.Goals as goal

pub returns : goal.returns
returns c = λ held change. c.new.ensures held change.marks
