-- The one match that is negated.
use Rattle.std.proofs.Common.{◌≡◌, ◌≢◌, List, [], ◌∷◌, length, get_or, Some, Err, refl, sym, ap, arith}
use Rattle.serde_json.specs.Data.{no_items, item}
use Rattle.serde_json.specs.View.{view, items_view}
use Rattle.serde_json.specs.declared.value.Value.{Value}
use Rattle.k8s_meta.specs.Spots.{Spot}
use Rattle.k8s_meta.specs.declared.fault.What.TheVariants as what
use Rattle.k8s_meta.specs.declared.fault.ReadFault.TheVariants as faults
use Rattle.profile_objects.specs.Matches.{only_of}

pub one_item : (vs : List Value) (v : Value) → length vs ≡ 1 → v ≡ get_or vs 0 v → items_view vs ≡ item (view v) no_items
one_item [] v e is = absurd (omega (arith, e))
one_item (w ∷ []) v e is = ap (λ (u : Value). item (view u) no_items) (sym is)
one_item (w ∷ x ∷ vs) v e is = absurd (omega (arith, e))

pub other_items : (s : Spot) (vs : List Value) → length vs ≢ 1 → only_of s (Some (items_view vs)) ≡ Err (faults.BadValue s.at what.Shape)
other_items s [] ne = refl
other_items s (w ∷ []) ne = elim (ne refl) [ ]
other_items s (w ∷ x ∷ vs) ne = refl
