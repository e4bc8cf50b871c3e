use Rattle.std.proofs.Common.{refl}
use Rattle.link_sessions.proofs.Settling.{fed_settled}
use Rattle.link_sessions.proofs.open_links.OpenLinks.feed.Goals as goal

pub returns-clause-settled : goal.returns-clause-settled
returns-clause-settled c = fed_settled c.args.number c.args.piece.now c.args.self.now _ c.feed_at.result c.feed_at.ensures (record { to_read = refl; to_write = refl }) (record { by_sub = refl; feeds = refl })
