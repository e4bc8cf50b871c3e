use Rattle.std.proofs.Common.{◌+◌, ◌≤◌, ap, sym, subst, ◌∙◌}
use Rattle.view_types.specs.declared.query.Target.TheVariants.{Address}
use Rattle.mark_rules.specs.Reads.{cost, outbound_reads}
use Rattle.view_scratch.proofs.outbound.outbound.Goals as goal

pub returns-in-Service-clause-steps : goal.returns-in-Service-clause-steps
returns-in-Service-clause-steps g c =
    let held = c.args.from.now.store.now.objects in
    subst (λ target. c.to_service.new.steps ≤ c.args.steps.now + cost held (outbound_reads held target)) (sym c.in-Service.is) c.to_service.ensures.steps

pub returns-in-Address-clause-value : goal.returns-in-Address-clause-value
returns-in-Address-clause-value g c = rw (c.in-Address.is ∙ ap (λ ip. Address ip c.in-Address.port) (sym c.get.ensures)) c.to_address.ensures.value

pub returns-in-Address-clause-steps : goal.returns-in-Address-clause-steps
returns-in-Address-clause-steps g c = rw (c.in-Address.is ∙ ap (λ ip. Address ip c.in-Address.port) (sym c.get.ensures)) c.to_address.ensures.steps
