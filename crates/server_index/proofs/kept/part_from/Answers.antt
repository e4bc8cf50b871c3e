use Rattle.std.proofs.Common.{◌≡◌, ℕ, List, Option, IfOk, subst}
use Rattle.server_index.specs.Matches.{Terms, part_from}
use Rattle.server_index.proofs.kept.part_from.Goals as goal

pub returns-in-Some : goal.returns-in-Some
returns-in-Some c =
    let port = c.args.port.now in
    subst (λ (first : Option (List ℕ × Terms)). IfOk c.named_part.result (λ part. part ≡ part_from port.from.now.config.now port.pod.now port.key.now.port first))
    c.in-Some.ensures c.named_part.ensures

pub returns-in-None : goal.returns-in-None
returns-in-None c =
    let port = c.args.port.now in
    subst (λ (first : Option (List ℕ × Terms)). IfOk c.default_part.result (λ part. part ≡ part_from port.from.now.config.now port.pod.now port.key.now.port first))
    c.in-None.ensures c.default_part.ensures
