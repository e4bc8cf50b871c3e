use Rattle.std.proofs.Common.{ℕ, List, get_or, take, sym, ap, subst, ◌∙◌}
use Rattle.std.proofs.lemmas.Bool.{false≢true}
use Rattle.std.proofs.lemmas.List.{take_all, take_more}
use Rattle.mark_graph.specs.RowMarks.{has_row}
use Rattle.inbound_views.specs.Standing.{AreThoseWithout, HasKeys}
use Rattle.inbound_views.proofs.SetKeys.{one_noted}
use Rattle.inbound_views.proofs.views.InboundViews.moved_among.Goals as goal

pub loop-id-init : goal.loop-id-init
loop-id-init c = λ config held kept. record { all = λ id has out. absurd (false≢true has); only = λ id has. absurd (false≢true (sym (ap (has_row id) c.new-moved.ensures) ∙ has)) }

pub loop-id-preserved : goal.loop-id-preserved
loop-id-preserved c = λ config held kept.
    let Has : ℕ → Type 0 = HasKeys config held c.args.keys c.args.self.now in
    let ids = c.args.ids.now in
    let i = c.loop-id.id-index in
    subst (λ (done : List ℕ). AreThoseWithout Has done c.note_moved.new.moved) (sym (take_more ids i 0 c.loop-id-test.true))
    (one_noted Has (take i ids) c.loop-id.moved c.note_moved.new.moved (get_or ids i 0) (c.loop-id.invariant config held kept) (c.in_ok-note_moved.ensures config held kept))

pub returns : goal.returns
returns c = λ config held kept.
    let Has : ℕ → Type 0 = HasKeys config held c.args.keys c.args.self.now in
    subst (λ (done : List ℕ). AreThoseWithout Has done c.loop-id.moved) (take_all c.loop-id.id-index c.args.ids.now c.loop-id-test.false) (c.loop-id.invariant config held kept)
