use Rattle.std.proofs.Common.{ap, sym, ◌∙◌}
use Rattle.view_types.specs.declared.query.Target.TheVariants.{Address}
use Rattle.view_scratch.proofs.profile.profile.Goals as goal

pub returns-in-Address-clause-steps : goal.returns-in-Address-clause-steps
returns-in-Address-clause-steps g c = rw (c.in-Address.is ∙ ap (λ ip. Address ip c.in-Address.port) (sym c.get.ensures)) c.address_profile.ensures.steps
