-- Subscriptions in a map by id.
use Rattle.std.specs.Prelude.{◌≡◌, ◌<◌, ◌^◌, ℕ, List, Option, Some, None}
use Rattle.std.specs.BTreeMap as tree
use Rattle.std.specs.BTreeMap.{BTreeMap, Updates, is_at}
use Rattle.std.specs.List.{AllByRecursion}
use Rattle.std.specs.Map.{set_value}
use Rattle.std.specs.Ordering.{nat_cmp}
use Rattle.view_types.specs.declared.view.View.{View}
use Rattle.subscriptions.specs.Live.{LiveSubscription, id_of, showing}

-- each is stored under its own id, which is below 2 ^ 32
abbrev pub AreByIds : List (ℕ × LiveSubscription) → Type 0
AreByIds entries = AllByRecursion (λ entry. (id_of entry.1 ≡ entry.0) × (entry.0 < 2 ^ 32)) entries

-- The subscription under the id, if there is one, was shown the view, and nothing else changed.
abbrev pub ShowsOne : ℕ → View → BTreeMap ℕ LiveSubscription → BTreeMap ℕ LiveSubscription → Option LiveSubscription → Type 0
ShowsOne id view old new None = new.entries ≡ old.entries
ShowsOne id view old new (Some sub) = (new.entries ≡ set_value (is_at (nat_cmp id)) old.entries (showing view sub)) × Updates nat_cmp old new id (Some (showing view sub))

abbrev pub ShowsAt : ℕ → View → BTreeMap ℕ LiveSubscription → BTreeMap ℕ LiveSubscription → Type 0
ShowsAt id view old new = ShowsOne id view old new (tree.get nat_cmp old id)
