use Rattle.std.proofs.Common.{refl}
use Rattle.std.proofs.lemmas.Result.{on_ok_weaker}
use Rattle.link_sessions.specs.Entries.{wrote_of}
use Rattle.link_sessions.proofs.Settling.{but_one, changed_settled}
use Rattle.link_sessions.proofs.open_links.OpenLinks.wrote.Goals as goal

pub returns-clause-settled : goal.returns-clause-settled
returns-clause-settled c =
    on_ok_weaker c.settle.result (λ settles before.
    settles (changed_settled c.args.number (wrote_of c.args.n) c.args.self.now _ c.wrote_at.ensures (λ v at. refl) (record { to_read = refl; to_write = refl }) (record { by_sub = refl; feeds = refl })
    (but_one c.args.number c.args.self.now before))) c.settle.ensures.settled
