use Rattle.std.proofs.Common.{ap, sym, ◌∙◌}
use Rattle.view_types.specs.declared.query.Target.TheVariants.{Address}
use Rattle.outbound_index.proofs.lookup.outbound_of.Goals as goal

pub returns-in-Address-clause-row : goal.returns-in-Address-clause-row
returns-in-Address-clause-row g c = rw (c.in-Address.is ∙ ap (λ ip. Address ip c.in-Address.port) (sym c.get.ensures)) c.to_address.ensures.row

pub returns-in-Address-clause-steps : goal.returns-in-Address-clause-steps
returns-in-Address-clause-steps g c = rw (c.in-Address.is ∙ ap (λ ip. Address ip c.in-Address.port) (sym c.get.ensures)) c.to_address.ensures.steps
