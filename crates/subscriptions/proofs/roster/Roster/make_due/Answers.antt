use Rattle.std.proofs.Common.{◌∙◌}
use Rattle.subscriptions.proofs.MadeDue.{due_next}
use Rattle.subscriptions.proofs.roster.Roster.make_due.Goals as goal

pub loop-id-preserved : goal.loop-id-preserved
loop-id-preserved c = (
  c.make_one_due.ensures.subs ∙ c.loop-id.invariant.0,
  λ live. due_next c.args.ids.now c.loop-id.id-index c.loop-id-test.true c.args.self.now c.loop-id.self c.make_one_due.new.self c.stand_in_range.ensures live (c.loop-id.invariant.1 live) c.in_ok-near.ensures.due,
)
