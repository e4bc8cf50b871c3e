use Rattle.std.proofs.Common.{refl, sym, ◌∙◌}
use Rattle.fed_hub.proofs.LineAnswers.{IfOk-weaker, blank_takes, no_subscription, nothing_is, or_false, or_true, refused_takes, stop_is, stop_takes}
use Rattle.fed_hub.proofs.hub.FedHub.take_line.Goals as goal

pub returns-in-Nothing-clause-takes : goal.returns-in-Nothing-clause-takes
returns-in-Nothing-clause-takes g c =
    let patterns = c.args.patterns.now in
    rw (nothing_is c.args.line (sym c.sort_of.ensures ∙ c.in-Nothing.is)) (blank_takes (g.P.Patterns.tells patterns) (g.P.Patterns.refuses patterns) (g.P.Patterns.refusals patterns) c.args.number c.args.self.now c.args.self.now
    (record { hub = refl; config = refl; requests = refl; stopped = or_false c.args.self.now.stopped }))

pub returns-in-Stop-clause-takes : goal.returns-in-Stop-clause-takes
returns-in-Stop-clause-takes g c =
    let patterns = c.args.patterns.now in
    rw (stop_is c.args.line (sym c.sort_of.ensures ∙ c.in-Stop.is)) (IfOk-weaker c.accepted.result _ _ (λ item is.
    stop_takes (g.P.Patterns.tells patterns) (g.P.Patterns.refuses patterns) (g.P.Patterns.refusals patterns) c.args.number c.args.self.now _ item is
    (record { hub = refl; config = refl; requests = refl; stopped = or_true c.args.self.now.stopped })) c.accepted.ensures.item)

pub returns-in-Subscription-clause-takes : goal.returns-in-Subscription-clause-takes
returns-in-Subscription-clause-takes g c =
    let patterns = c.args.patterns.now in
    IfOk-weaker c.refused.result _ _ (λ item is.
    refused_takes (g.P.Patterns.tells patterns) (g.P.Patterns.refuses patterns) (g.P.Patterns.refusals patterns) c.args.number c.args.self.now c.args.self.now _ _ item is
    (record { hub = refl; config = refl; requests = refl; stopped = or_false c.args.self.now.stopped }) (no_subscription c.args.line (sym c.sort_of.ensures ∙ c.in-Subscription.is))) c.refused.ensures.item
