use Rattle.std.proofs.Common.{refl}
use Rattle.link_sessions.proofs.Settling.{opening_at, subscriber_settled}
use Rattle.link_sessions.proofs.open_links.OpenLinks.begin_sub.Goals as goal

pub returns-clause-settled : goal.returns-clause-settled
returns-clause-settled c = λ opening unknown. subscriber_settled c.args.number c.args.self.now _ (opening_at _ opening) c.args.id c.set_role_at.ensures c.in_ok-insert.ensures.updates (record { to_read = refl; to_write = refl }) refl unknown
