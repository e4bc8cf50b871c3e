use Rattle.subscriptions.proofs.Near.{all_above}
use Rattle.subscriptions.proofs.due_list.are_above.Goals as goal

pub returns : goal.returns
returns c = λ is. all_above c.args.ids.now c.requires c.args.id c.args.at (c.has_rank.ensures.level is)
