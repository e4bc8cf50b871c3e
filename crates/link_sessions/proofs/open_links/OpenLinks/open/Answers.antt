use Rattle.std.proofs.Common.{◌≡◌, false, Option, Some, None, refl, sym, ◌∙◌}
use Rattle.std.specs.Prelude.{is_some}
use Rattle.std.proofs.lemmas.Result.{on_ok_weaker}
use Rattle.link_sessions.specs.declared.link.Link.{Link}
use Rattle.link_sessions.proofs.Closing.{added_settled}
use Rattle.link_sessions.proofs.open_links.OpenLinks.open.Goals as goal

none_there : (found : Option Link) → is_some found ≡ false → found ≡ None
none_there None e = refl
none_there (Some link) e = absurd cc

pub returns-clause-settled : goal.returns-clause-settled
returns-clause-settled c =
    on_ok_weaker c.settle.result (λ settles before.
    settles (added_settled c.args.number c.args.link c.args.self.now _ c.in_ok-insert.ensures.updates c.requires (none_there _ (sym c.contains_key.ensures ∙ c.if-contains_key.false)) c.in_ok-insert.ensures.was_ordered
    c.in_ok-insert.ensures.entries refl refl refl refl before)) c.settle.ensures.settled
