use Rattle.std.proofs.Common.{inl, inr, refl, sym, ◌∙◌}
use Rattle.std.proofs.lemmas.Bool.{false≢true}
use Rattle.std.proofs.lemmas.Result.{on_ok_weaker}
use Rattle.inbound_views.proofs.views.InboundViews.note_moved.Goals as goal

pub returns-then-has_keys : goal.returns-then-has_keys
returns-then-has_keys c = λ config held kept. inl ((c.has_keys.ensures config held kept).0 c.if-has_keys.true, refl)

pub returns : goal.returns
returns c =
    on_ok_weaker c.add.result
    (λ is config held kept. inr (λ has. false≢true (sym c.if-has_keys.false ∙ (c.has_keys.ensures config held kept).1 has), is))
    c.add.ensures.ok
