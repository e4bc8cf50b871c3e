use Rattle.std.specs.Option.{option_copied}
use Rattle.view_types.specs.declared.mark.Mark.TheVariants.{IpPod}
use Rattle.mark_rules.proofs.Counts.{first_steps}
use Rattle.view_scratch.proofs.address.pod_at.Goals as goal

pub returns-clause-steps : goal.returns-clause-steps
returns-clause-steps g c =
    first_steps (IpPod c.args.ip) c.args.store.now.objects (option_copied c.pod_at.result) c.args.steps.now c.object_at.new.steps
    (c.pod_at.ensures c.in_ok-check_going.ensures.going) c.object_at.ensures.steps
