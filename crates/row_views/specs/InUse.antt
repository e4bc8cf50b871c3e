-- The rows that have users, and their queries.
use Rattle.std.specs.Prelude.{◌≡◌, ◌<◌, ℕ, Option, Some, None}
use Rattle.std.specs.List.{Contains}
use Rattle.view_types.specs.Objects.{ObjectMap}
use Rattle.view_types.specs.declared.config.Config.{Config}
use Rattle.view_types.specs.declared.query.Query.{Query}
use Rattle.mark_rules.specs.declared.keys.RowKey.{RowKey}
use Rattle.row_views.specs.Queries.{rows_at}

-- how many users the row of a key has, if an index keeps rows of its kind
abbrev pub users_if : {Key : Type 0} → (Key → ℕ) → Option Key → ℕ
users_if users None = 0
users_if users (Some key) = users key

module _ (config : Config) (held : ObjectMap) (queries : ℕ → Option Query) where
  -- The row is one of those of the query of an id.
  pub record IsInUse (key : RowKey) : Type 0 where
    pub id : ℕ
    pub of_query : Contains (rows_at config held (queries id)) key

  -- The rows that have users are exactly those of the queries that ids are open with.
  pub record AreInUse (users : RowKey → ℕ) : Type 0 where
    pub used : (key : RowKey) → 0 < users key → ∥ IsInUse key ∥₁
    pub unused : (key : RowKey) → users key ≡ 0 → IsInUse key → ⊥
