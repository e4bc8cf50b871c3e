-- Words behind others.
use Rattle.std.proofs.Common.{◌≡◌, ℕ, false, List, ◌∷◌, Err, refl}
use Rattle.mesh_base.specs.Pieces.{pieces}
use Rattle.mesh_base.proofs.Cuts.{pieces_some}
use Rattle.output_fold.specs.Lines.{are_two_numbers, last_word}
use Rattle.output_fold.specs.declared.fault.FoldFault.TheVariants.{NotLine}

pub more_than_two : (a b : List ℕ) (mark : ℕ) (text : List ℕ) → are_two_numbers (a ∷ b ∷ pieces mark text) ≡ false
more_than_two a b mark text = let some = pieces_some mark text in rw some.2 refl

pub more_words : (hex : List ℕ) (mark : ℕ) (text : List ℕ) → last_word hex (pieces mark text) ≡ Err NotLine
more_words hex mark text = let some = pieces_some mark text in rw some.2 refl
