use Rattle.std.proofs.Common.{true, refl}
use Rattle.link_sessions.proofs.Settling.{changed_settled}
use Rattle.link_sessions.proofs.open_links.OpenLinks.end.Goals as goal

pub returns-clause-settled : goal.returns-clause-settled
returns-clause-settled c = changed_settled c.args.number (λ link. record link { ended = true }) c.args.self.now _ c.end_at.ensures (λ v at. refl) (record { to_read = refl; to_write = refl }) (record { by_sub = refl; feeds = refl })
