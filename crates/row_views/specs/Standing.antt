-- The rows of ids are those over the objects held.
use Rattle.std.specs.Prelude.{◌≡◌, ◌≤◌, ◌+◌, ℕ, Bool, true, false, List, Option, Some, None, if◌then◌else◌, option_map}
use Rattle.std.specs.BTreeMap.{BTreeMap}
use Rattle.std.specs.List.{AllByRecursion, IsDistinct, sum_by}
use Rattle.std.specs.Ordering.{eq_by_cmp}
use Rattle.std.specs.declared.cmp.Ordering.{Ordering}
use Rattle.view_types.specs.Objects.{ObjectMap}
use Rattle.view_types.specs.declared.mark.Mark.{Mark}
use Rattle.mark_rules.specs.Marks.{meets}
use Rattle.mark_rules.specs.Reads.{cost}
use Rattle.row_table.specs.IndexRows.{Filter}
use Rattle.row_views.specs.Ids.{AreTied, is_open}
use Rattle.row_views.specs.declared.numbered_ids.NumberedIds.{NumberedIds}

-- The index stands for the objects held, and the keys with users are those that ids are open with.
pub record Standing {Index Key : Type 0} (cmp : Key → Key → Ordering) (users : Index → Key → ℕ) (number_at : Index → Key → Option ℕ) (stand : Index → ObjectMap → Type 0) (held : ObjectMap) (index : Index) (by_number : NumberedIds) (by_id : BTreeMap ℕ Key) : Type 0 where
  pub rows : stand index held
  pub one_user : (key : Key) → users index key ≡ (if is_open (number_at index) by_number key then 1 else 0)
  pub tied : AreTied cmp (number_at index) by_number by_id

module _ {Key Row : Type 0} (filter : Filter Key Row) where
  -- the row of a key, if there is one, reads a mark of a change
  abbrev pub is_met : ObjectMap → List Mark → Option Key → Bool
  is_met held changed None = false
  is_met held changed (Some key) = meets (filter.reads held key) changed

  -- the row of the key, if there is one, is unchanged
  abbrev pub HasSameRow : ObjectMap → ObjectMap → Option Key → Type 0
  HasSameRow before after key = option_map (filter.row_of after) key ≡ option_map (filter.row_of before) key

  -- Keys that are used and read a mark of a change, each once, read everything that is looked up
  -- when their rows follow it.
  pub record FollowCost (cmp : Key → Key → Ordering) (used : Key → Bool) (changed : List Mark) (before after : ObjectMap) (old new : ℕ) : Type 0 where
    pub keys : List Key
    pub each : AllByRecursion (λ key. (used key ≡ true) × (meets (filter.reads before key) changed ≡ true)) keys
    pub once : IsDistinct (eq_by_cmp cmp) keys
    pub most : new ≤ old + sum_by (λ key. cost after (filter.reads after key)) keys

-- The rows stand for the objects held, and are those of this filter.
pub record AreKept {Index Key Row : Type 0} (cmp : Key → Key → Ordering) (users : Index → Key → ℕ) (number_at : Index → Key → Option ℕ) (stand : Index → ObjectMap → Type 0) (filter_of : Index → Filter Key Row) (filter : Filter Key Row)
    (held : ObjectMap) (index : Index) (by_number : NumberedIds) (by_id : BTreeMap ℕ Key) : Type 0 where
  pub rows : Standing cmp users number_at stand held index by_number by_id
  pub filtered : filter_of index ≡ filter
