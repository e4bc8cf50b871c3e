use Rattle.std.proofs.Common.{ap, ◌∙◌}
use Rattle.view_relay.specs.ById.{value_at}
use Rattle.view_relay.proofs.ById.{found}
use Rattle.view_relay.proofs.by_id.ById.get.Goals as goal

pub returns : goal.returns
returns g c = c.get.ensures.value ∙ found c.args.id c.self.inside.map.entries ∙ ap (value_at c.args.id) c.self.view_is
