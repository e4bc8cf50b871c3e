use Rattle.std.proofs.Common.{ap, ◌∙◌}
use Rattle.feed_history.specs.Ids.{in_place}
use Rattle.view_relay.specs.ById.{id_of, put_in_place}
use Rattle.view_relay.proofs.ById.{puts}
use Rattle.view_relay.proofs.by_id.ById.put.Goals as goal

pub returns : goal.returns
returns g c =
    puts c.args.id c.args.value c.self.inside.map c.put_at.new.map c.put_at.ensures ∙ ap (in_place id_of c.args.id (put_in_place c.args.value)) c.self.view_is
