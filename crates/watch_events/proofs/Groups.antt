-- The group before the slash of an API version.
use Rattle.std.proofs.Common.{◌≡◌, ℕ, List, ◌∷◌, refl}
use Rattle.mesh_base.specs.Pieces.{pieces}
use Rattle.mesh_base.proofs.Cuts.{pieces_some}
use Rattle.watch_events.specs.Kinds.{before_slash}

-- after a cut there is always a version
pub group_first : (group : List ℕ) (mark : ℕ) (text : List ℕ) → before_slash (group ∷ pieces mark text) ≡ group
group_first group mark text = let some = pieces_some mark text in rw some.2 refl
