use Rattle.std.specs.Option.{option_copied}
use Rattle.view_types.specs.declared.mark.Mark.TheVariants.{IpService}
use Rattle.mark_rules.proofs.Counts.{first_steps}
use Rattle.view_scratch.proofs.address.service_at.Goals as goal

pub returns-clause-steps : goal.returns-clause-steps
returns-clause-steps g c =
    first_steps (IpService c.args.ip) c.args.store.now.objects (option_copied c.service_at.result) c.args.steps.now c.object_at.new.steps
    (c.service_at.ensures c.in_ok-check_going.ensures.going) c.object_at.ensures.steps
