use Rattle.std.proofs.Common.{refl}
use Rattle.std.proofs.lemmas.Result.{on_ok_weaker}
use Rattle.link_sessions.specs.Entries.{filled}
use Rattle.link_sessions.proofs.Settling.{changed_settled, filled_role}
use Rattle.link_sessions.proofs.open_links.OpenLinks.put.Goals as goal

pub returns-clause-settled : goal.returns-clause-settled
returns-clause-settled c =
    on_ok_weaker c.settle.result (λ settles before.
    settles (changed_settled c.args.number (filled c.args.items) c.args.self.now _ c.in_ok-fill_at.ensures (λ v at. filled_role c.args.items v) (record { to_read = refl; to_write = refl }) (record { by_sub = refl; feeds = refl }) before)) c.settle.ensures.settled
