use Rattle.std.proofs.Common.{◌∙◌}
use Rattle.std.proofs.lemmas.Result.{IfErr-weaker, IfOk-weaker}
use Rattle.route_match.specs.Asking.{facts_of}
use Rattle.request_sim.specs.FullViews.{full_view}
use Rattle.request_sim.proofs.Alone.{decision_full, fault_full}
use Rattle.request_sim.proofs.Meets.{simulated}
use Rattle.request_sim.proofs.decide.decide.Goals as goal

pub returns-clause-simulated : goal.returns-clause-simulated
returns-clause-simulated g c = λ held authz at_keys gives is.
    let config = c.args.simulation.now.config.now in
    let request = c.args.simulation.now.request.now in
    let view = c.args.view.now in
    let facts = facts_of g.P.Patterns c.args.patterns.now in
    simulated c.decisions_are_verdicts.ensures c.rows_show_their_matches.ensures config held at_keys request c.fits_its_type.ensures (full_view authz view) is facts c.decide_by_rows.result
    (λ pat told. IfOk-weaker c.decide_by_rows.result _ _ (λ verdict found. found ∙ decision_full authz config pat request view) (c.decide_by_rows.ensures.decided authz pat gives told))
    (IfErr-weaker c.decide_by_rows.result _ _ (λ fault named. fault_full authz facts request view fault named) c.decide_by_rows.ensures.named)
