use Rattle.std.proofs.Common.{ap, ◌∙◌}
use Rattle.subscriptions.specs.Live.{id_of, sub_at}
use Rattle.subscriptions.proofs.ById.{found}
use Rattle.subscriptions.proofs.live.Subscriptions.get.Goals as goal

pub returns : goal.returns
returns c = c.get.ensures.value ∙ found id_of c.args.id c.self.inside.by_id.entries c.self.invariant ∙ ap (sub_at c.args.id) c.self.view_is
