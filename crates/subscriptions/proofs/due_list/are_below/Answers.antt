use Rattle.std.proofs.Common.{arith}
use Rattle.subscriptions.proofs.Near.{all_below}
use Rattle.subscriptions.proofs.due_list.are_below.Goals as goal

pub returns-clause-below : goal.returns-clause-below
returns-clause-below c = λ is.
    let apart = c.if-at-eq0.false in
    all_below c.args.ids.now c.requires c.args.id c.args.at (omega (arith, apart)) (c.has_rank.ensures.within is) (c.has_rank.ensures.level is)
