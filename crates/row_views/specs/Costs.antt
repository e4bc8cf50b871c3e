-- The most objects that are looked up when ids are opened and when views follow a change.
use Rattle.std.specs.Prelude.{◌≡◌, ◌≤◌, ◌+◌, ◌⊎◌, ℕ, true, List, [], ◌∷◌, Option}
use Rattle.std.specs.List.{AllByRecursion, sum_by}
use Rattle.view_types.specs.Objects.{ObjectMap}
use Rattle.view_types.specs.declared.config.Config.{Config}
use Rattle.view_types.specs.declared.mark.Mark.{Mark}
use Rattle.view_types.specs.declared.query.Query.{Query}
use Rattle.mark_rules.specs.Marks.{meets}
use Rattle.mark_rules.specs.Reads.{cost, reads}
use Rattle.mark_rules.specs.declared.keys.RowKey.{RowKey}
use Rattle.row_views.specs.InUse.{IsInUse}
use Rattle.row_views.specs.Queries.{rows_at}

-- no row occurs twice
abbrev pub AreApart : List RowKey → Type 0
AreApart [] = Unit {0}
AreApart (key ∷ keys) = AllByRecursion (λ other. key ≡ other → ⊥) keys × AreApart keys

module _ (config : Config) where
  -- what these rows read in total
  abbrev pub cost_of : ObjectMap → List RowKey → ℕ
  cost_of held keys = sum_by (λ key. cost held (reads config held key)) keys

  -- the most objects that are looked up when an id is opened with a query, if it is kept
  abbrev pub open_cost : ObjectMap → Option Query → ℕ
  open_cost held query = cost_of held (rows_at config held query)

  -- it is in use and reads a mark of a change, or the change brings it into use
  abbrev pub IsFollowed : List Mark → ObjectMap → ObjectMap → (ℕ → Option Query) → RowKey → Type 0
  IsFollowed changed before after queries key =
      (IsInUse config before queries key × (meets (reads config before key) changed ≡ true)) ⊎ ((IsInUse config before queries key → ⊥) × IsInUse config after queries key)

  -- Such rows, each once, which read everything that is looked up.
  pub record FollowedRows (changed : List Mark) (before after : ObjectMap) (queries : ℕ → Option Query) (old new : ℕ) : Type 0 where
    pub keys : List RowKey
    pub each : AllByRecursion (IsFollowed changed before after queries) keys
    pub once : AreApart keys
    pub most : new ≤ old + cost_of after keys

  -- There are such rows.
  abbrev pub FollowsWithin : List Mark → ObjectMap → ObjectMap → (ℕ → Option Query) → ℕ → ℕ → Type 0
  FollowsWithin changed before after queries old new = ∥ FollowedRows changed before after queries old new ∥₁
