use Rattle.std.proofs.Common.{◌≡◌, false, subst}
use Rattle.std.specs.List.{list_any}
use Rattle.server_index.specs.Concerned.{stirs}
use Rattle.server_index.specs.declared.name_filter.NameFilter.{NameFilter}
use Rattle.server_index.proofs.Quiet.{left_alone}
use Rattle.server_index.proofs.kept.follow.Goals as goal

pub returns-then-passes_over-clause-stands : goal.returns-then-passes_over-clause-stands
returns-then-passes_over-clause-stands g c = λ held well leads.
    let port = c.args.port.now in
    let quiet = c.passes_over.ensures c.if-passes_over.true port.from.now.store.now.objects c.args.changed.now c.requires.notes in
    left_alone port.from.now.config.now port.key.now c.args.kept.now leads well
    (subst (λ (names : NameFilter). list_any (stirs port.from.now.store.now.objects names c.args.kept.now.values) c.args.changed.now ≡ false) c.names.ensures quiet)
