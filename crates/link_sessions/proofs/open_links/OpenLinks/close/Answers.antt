use Rattle.std.proofs.Common.{refl, sym}
use Rattle.link_sessions.proofs.Closing.{closed_settled, found_feed, found_opening, found_without}
use Rattle.link_sessions.proofs.open_links.OpenLinks.close.Goals as goal

pub returns-in-Opening-clause-settled : goal.returns-in-Opening-clause-settled
returns-in-Opening-clause-settled c = λ settled.
    closed_settled c.args.number c.args.self.now _ c.remove-link.ensures.updates c.remove.ensures.updates c.remove-2.ensures.updates
    (found_opening c.args.number c.args.self.now _ c.remove-link.ensures.updates c.remove-link.ensures.entries c.in_ok-role.field-0 (sym c.in_ok-role.ensures.value) c.in-Opening.is refl refl settled.found) settled

pub returns-in-Feed-clause-settled : goal.returns-in-Feed-clause-settled
returns-in-Feed-clause-settled c = λ settled.
    closed_settled c.args.number c.args.self.now _ c.remove-link.ensures.updates c.remove.ensures.updates c.remove-2.ensures.updates
    (found_feed c.args.number c.args.self.now _ c.remove-link.ensures.updates c.remove-link.ensures.entries c.in_ok-role.field-0 (sym c.in_ok-role.ensures.value) c.in-Feed.is refl c.saturating_sub-self.ensures settled.found) settled

pub returns-in-Subscriber-clause-settled : goal.returns-in-Subscriber-clause-settled
returns-in-Subscriber-clause-settled c = λ settled.
    closed_settled c.args.number c.args.self.now _ c.remove-link.ensures.updates c.remove.ensures.updates c.remove-2.ensures.updates
    (found_without c.args.number c.args.self.now _ c.remove-link.ensures.updates c.remove-link.ensures.entries c.in-Subscriber.id c.in_ok-role.field-0 (sym c.in_ok-role.ensures.value) c.in-Subscriber.is c.remove-in-Subscriber.ensures.updates refl settled.found) settled
