-- Texts of more pieces than are asked for, and texts put together again.
use Rattle.std.proofs.Common.{◌≡◌, ℕ, List, ◌∷◌, ◌++◌, None, refl, sym, ap, ◌∙◌}
use Rattle.std.specs.List.{join_with_byte}
use Rattle.std.proofs.lemmas.List.Splits.{join_with_byte-slice_split}
use Rattle.mesh_base.specs.Pieces.{pieces}
use Rattle.mesh_base.proofs.Cuts.{pieces_some}
use Rattle.mesh_text.specs.Targets.{bracketed, hosted}
use Rattle.mesh_text.specs.Workloads.{workload_of_pieces}

pub bracketed_more : (a b : List ℕ) (mark : ℕ) (text : List ℕ) → bracketed (a ∷ b ∷ pieces mark text) ≡ None
bracketed_more a b mark text = let some = pieces_some mark text in rw some.2 refl

pub hosted_more : (domain a b : List ℕ) (mark : ℕ) (text : List ℕ) → hosted domain (a ∷ b ∷ pieces mark text) ≡ None
hosted_more domain a b mark text = let some = pieces_some mark text in rw some.2 refl

pub workload_more : (a b : List ℕ) (mark : ℕ) (text : List ℕ) → workload_of_pieces (a ∷ b ∷ pieces mark text) ≡ None
workload_more a b mark text = let some = pieces_some mark text in rw some.2 refl

joined : (mark : ℕ) (text : List ℕ) → join_with_byte mark (pieces mark text) ≡ text
unfolding pieces
joined mark text = join_with_byte-slice_split mark text

with_more : (mark : ℕ) (piece text : List ℕ) → join_with_byte mark (piece ∷ pieces mark text) ≡ piece ++ mark ∷ text
with_more mark piece text =
    let some = pieces_some mark text in
    let whole : join_with_byte mark (some.0 ∷ some.1) ≡ text = ap (join_with_byte mark) (sym some.2) ∙ joined mark text in
    ap (λ ps. join_with_byte mark (piece ∷ ps)) some.2 ∙ ap (λ t. piece ++ mark ∷ t) whole

-- a text is its first piece, the mark and what follows
pub put_together : (mark : ℕ) (text piece rest : List ℕ) → pieces mark text ≡ piece ∷ pieces mark rest → text ≡ piece ++ mark ∷ rest
put_together mark text piece rest e = sym (joined mark text) ∙ ap (join_with_byte mark) e ∙ with_more mark piece rest
