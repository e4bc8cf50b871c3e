-- What a sort by keys makes of objects with distinct keys.
use Rattle.std.proofs.Common.{◌≡◌, ◌+◌, ◌<◌, Bool, true, false, ◌&&◌, List, [], ◌∷◌, map, length, get_or, Ordering, refl, sym, ap, subst, ◌∙◌, arith}
use lib.Dec.{T}
use Rattle.std.specs.List.{AllByRecursion, IsDistinct}
use Rattle.std.specs.List.Sorted.{IsPermutation, IsSortedBy, IsStrictlySortedBy}
use Rattle.std.specs.Ordering.{eq_by_cmp, is_lt, is_eq, ordering_reverse}
use Rattle.std.specs.Cmp.{eq_by_cmp_equiv}
use Rattle.std.specs.FinMap.Entries.{below_all}
use Rattle.std.proofs.lemmas.List.{get_or-map, length-map}
use Rattle.std.proofs.lemmas.List.Sorted.{IsPermutation-map}
use Rattle.std.proofs.lemmas.Map.Keys.{IsDistinct-IsPermutation, apart_from_distinct, sorted_from_all_adjacent, sorted_head, sorted_tail}
use Rattle.std.specs.declared.cmp.Ordering.TheVariants.{Less, Equal, Greater}
use Rattle.mesh_base.specs.declared.key.ObjKey.{ObjKey}
use Rattle.mesh_base.specs.KeyOrder.{key_cmp}
use Rattle.mesh_base.specs.Keyed.{keyed}
use Rattle.mesh_base.proofs.KeyOrder.{keys_total}
use Rattle.view_types.specs.declared.object.Object.{Object}
use Rattle.view_types.specs.Objects.{key_of}
use Rattle.object_store.proofs.KindLists.{Sorted}

both : (a b : Bool) → T a → T b → T (a && b)
both true b p q = q
both false b p q = p

-- keys that rise by the library's word
below_each : (k : ObjKey) (os : List Object) → AllByRecursion (λ j. key_cmp k j ≡ Less) (map key_of os) → T (below_all key_cmp k (keyed key_cmp key_of (λ o. o) os))
below_each k [] all = tt
below_each k (o ∷ os) all = both _ _ (subst (λ r. T (is_lt r)) (sym all.0) tt) (below_each k os all.1)

from_rising : (os : List Object) → IsStrictlySortedBy key_cmp (map key_of os) → Sorted os
from_rising [] rising = tt
from_rising (o ∷ os) rising =
    both _ _ (below_each (key_of o) os (sorted_head key_cmp (key_of o) (map key_of os) rising)) (from_rising os (sorted_tail key_cmp (key_of o) (map key_of os) rising))

strict : (r : Ordering) → is_lt (ordering_reverse r) ≡ false → is_eq r ≡ false → r ≡ Less
strict Less le differ = refl
strict Equal le differ = cc
strict Greater le differ = cc

strictly : (a b : ObjKey) → is_lt (key_cmp b a) ≡ false → eq_by_cmp key_cmp a b ≡ false → key_cmp a b ≡ Less
strictly a b le differ = strict (key_cmp a b) (ap is_lt (sym (keys_total.antisymm b a)) ∙ le) differ

-- objects with distinct keys, after a sort
pub arranged : (os : List Object) → IsSortedBy (λ x y. is_lt (key_cmp (key_of x) (key_of y))) os → IsDistinct (eq_by_cmp key_cmp) (map key_of os) → Sorted os
arranged [] sorted apart = tt
arranged (o ∷ os) sorted apart = from_rising (o ∷ os) (sorted_from_all_adjacent keys_total (map key_of (o ∷ os)) (key_of o) (λ k lt.
    let within : k + 1 < length (o ∷ os) = rw (sym (length-map (o ∷ os) key_of)) lt in
    rw (get_or-map key_of (o ∷ os) k o (key_of o) (omega arith), get_or-map key_of (o ∷ os) (k + 1) o (key_of o) within)
    (strictly (key_of (get_or (o ∷ os) k o)) (key_of (get_or (o ∷ os) (k + 1) o)) (sorted k o (omega arith) within)
    (rw (get_or-map key_of (o ∷ os) k o (key_of o) (omega arith), get_or-map key_of (o ∷ os) (k + 1) o (key_of o) within) at
    (apart_from_distinct (eq_by_cmp key_cmp) (map key_of (o ∷ os)) k (k + 1) (key_of o) apart (omega arith) lt)))))

pub apart-moved : (xs ys : List Object) → IsPermutation xs ys → IsDistinct (eq_by_cmp key_cmp) (map key_of xs) → IsDistinct (eq_by_cmp key_cmp) (map key_of ys)
apart-moved xs ys moved = IsDistinct-IsPermutation (eq_by_cmp key_cmp) (eq_by_cmp_equiv keys_total).symm (map key_of xs) (map key_of ys) (IsPermutation-map key_of xs ys moved)
