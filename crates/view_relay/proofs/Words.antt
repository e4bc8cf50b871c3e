-- Words behind others.
use Rattle.std.proofs.Common.{◌≡◌, ℕ, List, ◌∷◌, Err, refl}
use Rattle.mesh_base.specs.Pieces.{pieces}
use Rattle.mesh_base.proofs.Cuts.{pieces_some}
use Rattle.view_relay.specs.RelayLines.{id_alone, id_and_bytes}
use Rattle.view_relay.specs.declared.fault.RelayFault.TheVariants.{NotLine}

pub more_than_an_id : (word : List ℕ) (mark : ℕ) (text : List ℕ) → id_alone (word ∷ pieces mark text) ≡ Err NotLine
more_than_an_id word mark text = let some = pieces_some mark text in rw some.2 refl

pub more_than_two : (word hex : List ℕ) (mark : ℕ) (text : List ℕ) → id_and_bytes (word ∷ hex ∷ pieces mark text) ≡ Err NotLine
more_than_two word hex mark text = let some = pieces_some mark text in rw some.2 refl
