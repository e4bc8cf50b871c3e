use Rattle.std.proofs.Common.{◌<◌, ap, drop, length}
use Rattle.std.specs.List.{remove}
use Rattle.subscriptions.proofs.DueIds.{fewer_rise}
use Rattle.subscriptions.proofs.Front.{remove_behind, remove_longer}
use Rattle.subscriptions.proofs.due_list.DueList.take_at.Goals as goal

pub invariant_of-self : goal.invariant_of-self
invariant_of-self c =
    let start = c.self.inside.start in
    let ids = c.self.inside.ids.items in
    let within : c.args.at < length (drop start ids) = rw c.self.view_is c.requires in
    rw c.remove.ensures.items (
      remove_longer start c.args.at ids c.self.invariant.0,
      rw (remove_behind start c.args.at ids) (fewer_rise (drop start ids) c.self.invariant.1 c.args.at within),
    )

pub returns-else-at-as_slice : goal.returns-else-at-as_slice
returns-else-at-as_slice c =
    rw (c.remove.ensures.items, remove_behind c.self.inside.start c.args.at c.self.inside.ids.items) (ap (λ ids. remove ids c.args.at) c.self.view_is)
