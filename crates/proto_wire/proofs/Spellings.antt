-- The spelling of joined records is the spellings joined.
use Rattle.std.proofs.Common.{◌≡◌, ◌++◌, List, [], ◌∷◌, append_assoc, refl}
use Rattle.std.proofs.lemmas.List.{append-nil}
use Rattle.std.proofs.lemmas.List.Concat.{flat_map-append, flat_map-cons}
use Rattle.proto_wire.specs.declared.record.Rec.{Rec}
use Rattle.proto_wire.specs.Wire.{spelled, spelling}

pub spelling-append : (xs ys : List Rec) → spelling (xs ++ ys) ≡ spelling xs ++ spelling ys
spelling-append xs ys = flat_map-append spelled xs ys

pub spelling-cons : (x : Rec) (xs : List Rec) → spelling (x ∷ xs) ≡ spelled x ++ spelling xs
spelling-cons x xs = flat_map-cons spelled x xs

pub spelling-one : (x : Rec) → spelling (x ∷ []) ≡ spelled x
spelling-one x = append-nil (spelled x)

pub spelling-none : spelling [] ≡ []
spelling-none = refl

pub ruleset spellings = (spelling-append, spelling-cons, spelling-one, spelling-none, append_assoc, append-nil)
