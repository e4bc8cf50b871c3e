-- Lists of values, and maps of strings.
use Rattle.std.specs.Prelude.{ℕ, suc, List, [], ◌∷◌, Option, Some, Result, Ok, is_some, option_and_then, option_to_list, if◌then◌else◌}
use Rattle.std.specs.List.{flat_map}
use Rattle.std.specs.Cmp.Lexicographic.{slice_cmp}
use Rattle.std.specs.Ordering.{nat_cmp}
use Rattle.std.specs.FinMap as map
use Rattle.serde_json.specs.Data.{Items, no_items, item, Members, no_members, member}
use Rattle.serde_json.specs.Find.{as_null, as_object}
use Rattle.k8s_meta.specs.Spots.{Spot, item_spot, ◌>>=◌}
use Rattle.k8s_meta.specs.Words.{typed, default, list, string_in}
use Rattle.k8s_meta.specs.declared.fault.ReadFault.{ReadFault}

-- the items from the index n on, up to the first error
unfoldable pub each_from : {A : Type 0} → (Spot → Result A ReadFault) → List ℕ → ℕ → Items → Result (List A) ReadFault
each_from read at n no_items = Ok []
each_from read at n (item d ds) = do
  x ← read (item_spot at n d)
  xs ← each_from read at (suc n) ds
  Ok (x ∷ xs)

-- the items of a list, which is empty if absent
unfoldable pub each : {A : Type 0} → (Spot → Result A ReadFault) → Spot → Result (List A) ReadFault
each read s = default [] (λ l. list l >>= each_from read l.at 0) s

-- the parts of the values, joined in order
abbrev pub gathered : {A B : Type 0} → (A → List B) → Result (List A) ReadFault → Result (List B) ReadFault
gathered parts read = read >>= λ xs. Ok (flat_map parts xs)

-- the values of the items that have one
abbrev pub each_some : {A : Type 0} → (Spot → Result (Option A) ReadFault) → Spot → Result (List A) ReadFault
each_some read s = gathered option_to_list (each read s)

abbrev pub LabelMap : Type 0
LabelMap = map.FinMap (slice_cmp nat_cmp) (List ℕ)

-- Strings by keys, inserted in order. A null counts as absent.
unfoldable pub labels_from : LabelMap → Members → Option LabelMap
labels_from found no_members = Some found
labels_from found (member key d ds) =
    if is_some (as_null d) then labels_from found ds else option_and_then (λ t. labels_from (map.insert found key t) ds) (string_in d)

-- an object of strings, which is empty if absent
unfoldable pub label_map : Spot → Result LabelMap ReadFault
label_map s = default map.empty (λ m. typed m.at (option_and_then (labels_from map.empty) (as_object m.value))) s
