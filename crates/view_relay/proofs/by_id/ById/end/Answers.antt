use Rattle.std.proofs.Common.{ap, ◌∙◌}
use Rattle.std.specs.Option.{is_some}
use Rattle.feed_history.specs.Ids.{ended, in_place}
use Rattle.view_relay.specs.ById.{id_of, value_at}
use Rattle.view_relay.proofs.ById.{found, removed}
use Rattle.view_relay.proofs.by_id.ById.end.Goals as goal

pub returns-clause-there : goal.returns-clause-there
returns-clause-there g c =
    c.is_some.ensures ∙ ap is_some (c.remove.ensures.value ∙ found c.args.id c.self.inside.map.entries ∙ ap (value_at c.args.id) c.self.view_is)

pub returns-clause-gone : goal.returns-clause-gone
returns-clause-gone g c =
    c.remove.ensures.entries ∙ removed c.args.id c.self.inside.map.entries ∙ ap (in_place id_of c.args.id ended) c.self.view_is
