use Rattle.std.proofs.Common.{◌+◌, ◌≤◌, sym, subst}
use Rattle.mesh_base.specs.declared.key.Kind.{Kind}
use Rattle.mark_rules.specs.Reads.{authz_reads_of, cost}
use Rattle.authz_index.proofs.lookup.authz_of.Goals as goal

pub returns-in-Server-clause-steps : goal.returns-in-Server-clause-steps
returns-in-Server-clause-steps g c =
    let held = c.args.from.now.store.now.objects in
    let key = c.args.key.now in
    subst (λ (k : Kind). c.server_authz.new.steps ≤ c.args.steps.now + cost held (authz_reads_of held key k)) (sym c.in-Server.is) c.server_authz.ensures.steps
