use Rattle.std.proofs.Common.{sym, ◌∙◌}
use Rattle.link_sessions.proofs.Draining.{drains_here, drains_nowhere, is_open, no_subscriber}
use Rattle.link_sessions.proofs.open_links.OpenLinks.to_drain.Goals as goal

pub returns-in_err-number : goal.returns-in_err-number
returns-in_err-number c = rw c.from_residual.ensures (λ settled. no_subscriber c.args.self.now c.args.id.0 settled (sym c.in_err-number.ensures.value))

pub returns-in_err-link : goal.returns-in_err-link
returns-in_err-link c = λ settled. absurd (is_open c.args.self.now c.args.id.0 settled c.in_ok-number.field-0.now (sym c.in_ok-number.ensures.value) (sym c.in_err-link.ensures.value))

pub returns-then-is_to_drain : goal.returns-then-is_to_drain
returns-then-is_to_drain c = λ settled.
    drains_here c.args.self.now c.args.id.0 settled c.in_ok-number.field-0.now (sym c.in_ok-number.ensures.value) c.in_ok-link.link.now (sym c.in_ok-link.ensures.value) (sym c.is_to_drain.ensures ∙ c.if-is_to_drain.true)

pub returns-else-is_to_drain : goal.returns-else-is_to_drain
returns-else-is_to_drain c = λ settled.
    drains_nowhere c.args.self.now c.args.id.0 settled c.in_ok-number.field-0.now (sym c.in_ok-number.ensures.value) c.in_ok-link.link.now (sym c.in_ok-link.ensures.value) (sym c.is_to_drain.ensures ∙ c.if-is_to_drain.false)
