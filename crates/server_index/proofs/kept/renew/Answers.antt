use Rattle.std.proofs.Common.{Some, sym, ap, ◌∙◌}
use Rattle.std.specs.Prelude.{slice_get}
use Rattle.server_index.specs.Matches.{part_from}
use Rattle.server_index.specs.declared.matching.Matching.{Matching}
use Rattle.server_index.proofs.kept.renew.Goals as goal

pub returns-then-not-differs-clause-row : goal.returns-then-not-differs-clause-row
returns-then-not-differs-clause-row g c = λ is.
    let port = c.args.port.now in
    is ∙ ap (λ (servers : Matching). Some (part_from port.from.now.config.now port.pod.now port.key.now.port (slice_get servers.by_name.entries 0))) (sym (c.in_ok-differs.ensures.same c.if-not-differs.true))
