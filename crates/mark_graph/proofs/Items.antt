-- Lists of one item.
use Rattle.std.proofs.Common.{◌≡◌, ℕ, zero, suc, ◌<◌, List, [], ◌∷◌, length, take, refl, arith}
use Rattle.std.specs.List.{remove}

pub none_left : {T : Type 0} (items : List T) (at : ℕ) → at < length (take 1 items) → remove (take 1 items) at ≡ []
none_left [] at within = absurd (omega (arith, within))
none_left (x ∷ xs) zero within = refl
none_left (x ∷ xs) (suc at) within = absurd (omega (arith, within))
