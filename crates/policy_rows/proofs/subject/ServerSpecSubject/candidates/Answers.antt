use Rattle.std.proofs.Common.{sym, ap, ◌∙◌}
use Rattle.std.proofs.lemmas.Result.{IfOk-weaker}
use Rattle.std.specs.List.{filter}
use Rattle.view_rules.specs.Policies.{applies_to_server}
use Rattle.policy_rows.proofs.AmongMarked.{among_server}
use Rattle.policy_rows.proofs.subject.ServerSpecSubject.candidates.Goals as goal

pub returns-clause-among : goal.returns-clause-among
returns-clause-among g c =
    let held = c.args.store.now.objects in
    let server = c.args.self.now in
    IfOk-weaker c.server_candidates.result _ _ (λ found is. among_server held server ∙ ap (filter (applies_to_server held server)) (sym is)) c.server_candidates.ensures.objects
