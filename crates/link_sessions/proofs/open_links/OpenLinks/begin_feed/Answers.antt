use Rattle.std.proofs.Common.{refl}
use Rattle.link_sessions.proofs.Settling.{feed_settled, opening_at}
use Rattle.link_sessions.proofs.open_links.OpenLinks.begin_feed.Goals as goal

pub returns-clause-settled : goal.returns-clause-settled
returns-clause-settled c = λ opening. feed_settled c.args.number c.args.self.now _ (opening_at _ opening) c.set_role_at.ensures (record { to_read = refl; to_write = refl }) refl refl
