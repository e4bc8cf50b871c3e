use Rattle.std.proofs.Common.{length, ap, arith, ◌∙◌}
use Rattle.view_types.specs.declared.mark.Mark.TheVariants.{PolicyOn}
use Rattle.mark_rules.proofs.Counts.{objects_count}
use Rattle.policy_rows.proofs.candidates.route_candidates.Goals as goal

pub returns-in_err-add_all-clause-steps : goal.returns-in_err-add_all-clause-steps
returns-in_err-add_all-clause-steps g c =
    let count = ap length c.in_ok-keys.ensures ∙ objects_count (PolicyOn c.args.route.now.ns c.args.target c.args.route.now.name) c.args.store.now.objects in
    let steps = c.add_all.ensures.steps in
    omega (arith, count, steps)

pub returns-clause-steps : goal.returns-clause-steps
returns-clause-steps g c =
    let count = ap length c.in_ok-keys.ensures ∙ objects_count (PolicyOn c.args.route.now.ns c.args.target c.args.route.now.name) c.args.store.now.objects in
    let steps = c.add_all.ensures.steps in
    omega (arith, count, steps)
