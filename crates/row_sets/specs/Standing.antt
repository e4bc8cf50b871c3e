-- The rows of the keys that ids are open with are those over the objects held.
use Rattle.std.specs.Prelude.{◌≡◌, ◌≤◌, ◌+◌, ◌&&◌, not, ℕ, Bool, true, false, List, [], Option, Some, None, if◌then◌else◌}
use Rattle.std.specs.BTreeMap as tree
use Rattle.std.specs.BTreeMap.{BTreeMap}
use Rattle.std.specs.BTreeSet as sorted
use Rattle.std.specs.BTreeSet.{BTreeSet}
use Rattle.std.specs.List.{AllByRecursion, IsDistinct, list_any, sum_by}
use Rattle.std.specs.Ordering.{eq_by_cmp, nat_cmp}
use Rattle.std.specs.declared.cmp.Ordering.{Ordering}
use Rattle.view_types.specs.Objects.{ObjectMap}
use Rattle.view_types.specs.declared.mark.Mark.{Mark}
use Rattle.mark_graph.specs.RowMarks.{AllHaveRows, row_at}
use Rattle.mark_graph.specs.declared.rows_by_mark.RowsByMark.{RowsByMark}
use Rattle.mark_rules.specs.Marks.{meets}
use Rattle.mark_rules.specs.Reads.{cost}
use Rattle.row_table.specs.IndexRows.{Filter, has_key}
use Rattle.row_views.specs.Ids.{has_ids}

abbrev pub keys_in : {Key : Type 0} → Option (List Key) → List Key
keys_in None = []
keys_in (Some keys) = keys

-- the keys that an id is open with
abbrev pub keys_at : {Key : Type 0} → BTreeMap ℕ (List Key) → ℕ → List Key
keys_at by_id id = keys_in (tree.get nat_cmp by_id id)

-- the list contains the key, and the set does not
abbrev pub is_left_out : {Key : Type 0} → (Key → Key → Ordering) → List Key → BTreeSet Key → Key → Bool
is_left_out cmp keys set key = has_key cmp keys key && not (sorted.contains cmp set key)

module _ {Index Key : Type 0} (cmp : Key → Key → Ordering) (users : Index → Key → ℕ) (stand : Index → ObjectMap → Type 0) (held : ObjectMap) (index : Index) (by_key : RowsByMark Key) where
  -- The index stands for the objects held, and its users are the keys that have ids, each once. A
  -- key that is stored has an id.
  pub record InUse : Type 0 where
    pub rows : stand index held
    pub one_user : (key : Key) → users index key ≡ (if has_ids cmp by_key key then 1 else 0)
    pub each : AllHaveRows cmp by_key

  -- These keys are in use, and each id is at exactly the keys that it is open with.
  pub record Standing (by_id : BTreeMap ℕ (List Key)) : Type 0 where
    pub in_use : InUse
    pub ids : (key : Key) (id : ℕ) → row_at cmp by_key key id ≡ has_key cmp (keys_at by_id id) key

module _ {Key Row : Type 0} (filter : Filter Key Row) (held : ObjectMap) where
  -- the row of one of the keys reads a mark of a change
  abbrev pub any_met : List Mark → List Key → Bool
  any_met changed keys = list_any (λ key. meets (filter.reads held key) changed) keys

  -- the most objects that are looked up when an id is opened with these keys: what the unused ones
  -- read
  abbrev pub open_cost : (Key → Bool) → List Key → ℕ
  open_cost used keys = sum_by (λ key. if used key then 0 else cost held (filter.reads held key)) keys

  -- the row of a key that is used
  abbrev pub row_if : Bool → Key → Option Row
  row_if used key = if used then Some (filter.row_of held key) else None

  -- New keys, each once, read everything that is looked up when an id is opened with these.
  pub record EntersWithin (cmp : Key → Key → Ordering) (used : Key → Bool) (keys : List Key) (old new : ℕ) : Type 0 where
    pub entered : List Key
    pub each : AllByRecursion (λ key. (has_key cmp keys key ≡ true) × (used key ≡ false)) entered
    pub once : IsDistinct (eq_by_cmp cmp) entered
    pub most : new ≤ old + sum_by (λ key. cost held (filter.reads held key)) entered
