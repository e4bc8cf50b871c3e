use Rattle.std.proofs.Common.{refl}
use Rattle.std.proofs.lemmas.Result.{on_ok_weaker}
use Rattle.link_sessions.proofs.Settling.{but_one, changed_settled}
use Rattle.link_sessions.proofs.open_links.OpenLinks.set_readable.Goals as goal

pub returns-clause-settled : goal.returns-clause-settled
returns-clause-settled c =
    on_ok_weaker c.settle.result (λ settles before.
    settles (changed_settled c.args.number (λ link. record link { readable = c.args.readable }) c.args.self.now _ c.set_readable_at.ensures (λ v at. refl) (record { to_read = refl; to_write = refl }) (record { by_sub = refl; feeds = refl })
    (but_one c.args.number c.args.self.now before))) c.settle.ensures.settled
