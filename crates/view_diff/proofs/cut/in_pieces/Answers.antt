use Rattle.std.proofs.Common.{◌≡◌, ◌++◌, [], ◌∷◌, sym, ap, ◌∙◌, append_assoc, arith}
use Rattle.std.proofs.lemmas.List.{nil_from_length}
use Rattle.view_rules.specs.Batch.{in_pieces}
use Rattle.view_diff.proofs.Pieces.{goes_out, last_goes_out, none_goes_out}
use Rattle.view_diff.proofs.cut.in_pieces.Goals as goal
use Rattle.view_diff.proofs.cut.in_pieces.Goals.{then-len-ne0+in_ok-add-3, else-len-ne0}

pub loop-item-preserved-in-Continue-branch-2 : goal.loop-item-preserved-in-Continue-branch-2
loop-item-preserved-in-Continue-branch-2 g c =
    let piece = c.add.new.self in
    let rest = c.next.new.self.rest.items in
    let so_far : c.loop-item.pieces ++ in_pieces c.args.size (piece ++ rest) ≡ in_pieces c.args.size c.args.items =
    ap (λ xs. c.loop-item.pieces ++ in_pieces c.args.size xs)
    (ap (λ xs. xs ++ rest) c.in_ok-add.ensures.ok ∙ append_assoc c.loop-item.piece (c.in-Some.item ∷ []) rest ∙ ap (λ xs. c.loop-item.piece ++ xs) (sym c.in-Some.ensures.steps.0))
    ∙ c.loop-item.invariant.whole in
    let empty : c.replace.new.dest ≡ [] = c.replace.ensures.after ∙ c.new.ensures in
    record {
      whole = rw (empty, c.in_ok-add-2.ensures.ok, c.replace.ensures.value) (goes_out c.loop-item.pieces _ c.args.size piece rest c.requires (sym c.len.ensures ∙ c.if-len-size.true) so_far);
      room = rw empty (omega arith);
    }

pub returns : goal.returns
returns g c =
    let none : c.loop-item.item-iterator.rest.items ≡ [] = nil_from_length _ (sym c.loop-item.item-iterator.rest.ok.0 ∙ c.in-None.ensures.steps.0) in
    let so_far : c.loop-item.pieces ++ in_pieces c.args.size (c.loop-item.piece ++ []) ≡ in_pieces c.args.size c.args.items =
    ap (λ xs. c.loop-item.pieces ++ in_pieces c.args.size (c.loop-item.piece ++ xs)) (sym none) ∙ c.loop-item.invariant.whole in
    elim c.if-len-ne0.branch [
      | then-len-ne0+in_ok-add-3 w ↦ w.pieces-is ∙ w.in_ok-add-3.ensures.ok ∙ last_goes_out c.loop-item.pieces _ c.args.size c.loop-item.piece c.loop-item.invariant.room (λ e. w.if-len-ne0.true (c.len-2.ensures ∙ e)) so_far
      | else-len-ne0 w ↦ w.pieces-is ∙ none_goes_out c.loop-item.pieces _ c.args.size c.loop-item.piece (sym c.len-2.ensures ∙ w.if-len-ne0.false) so_far
    ]
