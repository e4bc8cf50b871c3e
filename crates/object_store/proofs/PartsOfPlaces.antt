-- A place and a key, tested together.
use Rattle.std.proofs.Common.{◌≡◌, Bool, true, false, ◌&&◌, refl}

pub place_first : (ns value key : Bool) → (ns && (value && key)) ≡ ((ns && value) && key)
place_first true value key = refl
place_first false value key = refl

pub key_first : (ns value key : Bool) → (ns && (value && key)) ≡ (key && (ns && value))
key_first true true true = refl
key_first true true false = refl
key_first true false true = refl
key_first true false false = refl
key_first false value true = refl
key_first false value false = refl
