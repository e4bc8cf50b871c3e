use Rattle.std.proofs.Common.{Some, None, ◌∙◌}
use Rattle.row_views.specs.Ids.{key_at}
use Rattle.inbound_views.proofs.SetKeys.{name_of_row, no_row, part_shown}
use Rattle.inbound_views.proofs.views.InboundViews.server_named.Goals as goal

pub returns-in-Some : goal.returns-in-Some
returns-in-Some c = λ config held kept.
    c.name_in.ensures ∙ name_of_row config held (key_at c.args.self.now.servers.by_id c.args.id) c.in-Some.part.now (part_shown config held _ _ (Some c.in-Some.part.now) kept.servers.filtered (c.in-Some.ensures held kept.servers.rows))

pub returns-in-None : goal.returns-in-None
returns-in-None c = λ config held kept.
    no_row config held (key_at c.args.self.now.servers.by_id c.args.id) (part_shown config held _ _ None kept.servers.filtered (c.in-None.ensures held kept.servers.rows))
