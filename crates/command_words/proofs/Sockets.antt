-- A text of more pieces than two.
use Rattle.std.proofs.Common.{◌≡◌, ℕ, List, ◌∷◌, None, refl}
use Rattle.mesh_base.specs.Pieces.{pieces}
use Rattle.mesh_base.proofs.Cuts.{pieces_some}
use Rattle.command_words.specs.Sockets.{pair_of}

pub pair_of_more : (a b : List ℕ) (mark : ℕ) (text : List ℕ) → pair_of (a ∷ b ∷ pieces mark text) ≡ None
pair_of_more a b mark text = let some = pieces_some mark text in rw some.2 refl
