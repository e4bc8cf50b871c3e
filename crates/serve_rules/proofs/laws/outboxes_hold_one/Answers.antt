use Rattle.serve_rules.proofs.OutboxSteps.{outboxes_hold_one}
use Rattle.serve_rules.proofs.laws.outboxes_hold_one.Goals as goal

pub returns : goal.returns
returns c = outboxes_hold_one
