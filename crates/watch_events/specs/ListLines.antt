-- The contents of a list of all objects of a kind, by a table of kinds.
use Rattle.std.specs.Prelude.{◌-◌, ◌++◌, ℕ, suc, Bool, List, [], ◌∷◌, Option, Some, None, Result, Ok, Err, bytes_eq, codes, drop, length, map, take, if◌then◌else◌}
use Rattle.std.specs.List.{list_any}
use Rattle.k8s_meta.specs.Lists.{each}
use Rattle.k8s_meta.specs.Spots.{Spot, ◌·◌}
use Rattle.k8s_meta.specs.declared.key.Key.TheVariants as keys
use Rattle.watch_events.specs.Reading.{of_object, ◌>>=◌}
use Rattle.watch_events.specs.Tables.{Table, kind_of}
use Rattle.watch_events.specs.declared.form.Form.{Form}
use Rattle.watch_events.specs.declared.form.Form.TheVariants as forms
use Rattle.watch_events.specs.declared.line.LineFault.{LineFault}
use Rattle.watch_events.specs.declared.line.LineFault.TheVariants as faults

-- the name of the kind of the items of a list, whose own kind is such as `ServiceList`
abbrev pub item_kind : List ℕ → Option (List ℕ)
item_kind t = if bytes_eq (drop (length t - 4) t) (codes "List") then Some (take (length t - 4) t) else None

-- the key is among these
abbrev pub is_among : {K : Type 0} → (K → K → Bool) → List K → K → Bool
is_among same before key = list_any (same key) before

-- from the nth index on, the first whose key occurs before it
abbrev pub repeated_from : {K : Type 0} → (K → K → Bool) → List K → ℕ → List K → Option ℕ
repeated_from same before n [] = None
repeated_from same before n (key ∷ more) = if is_among same before key then Some n else repeated_from same (before ++ key ∷ []) (suc n) more

-- the index of the first item with the key of an earlier one
abbrev pub repeated : {C M K : Type 0} → Table C M K → List M → Option ℕ
repeated table items = repeated_from table.same [] 0 (map table.key items)

-- The items replace all objects of their kind.
abbrev pub unless_repeated : {C M K : Type 0} → C → List M → Option ℕ → Result (Form C M K) LineFault
unless_repeated kind items None = Ok (forms.Relist kind items)
unless_repeated kind items (Some place) = Err (faults.RepeatedItem place)

-- Items are read as the list's kind, whatever kind they name.
unfoldable pub list_of : {C M K : Type 0} → Table C M K → List ℕ → Spot → Result (Form C M K) LineFault
list_of table name s = do
  kind ← kind_of table name s
  items ← of_object (each (table.object kind) (s · keys.Items))
  unless_repeated kind items (repeated table items)
