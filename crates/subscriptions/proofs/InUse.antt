-- The rows that have users are those of the queries of the live subscriptions.
use Rattle.std.proofs.Common.{◌≡◌, ◌<◌, ◌+◌, ◌⊎◌, inl, inr, ℕ, zero, suc, Option, subst, arith}
use Rattle.std.specs.List.{Contains}
use Rattle.std.specs.Prelude.{option_and_then, option_map}
use Rattle.view_types.specs.Objects.{ObjectMap}
use Rattle.view_types.specs.declared.config.Config.{Config}
use Rattle.view_types.specs.declared.query.Query.{Query}
use Rattle.mark_rules.specs.declared.keys.RowKey.{RowKey}
use Rattle.endpoint_streams.specs.Streams.{query_for}
use Rattle.row_views.specs.InUse.{AreInUse}
use Rattle.row_views.specs.Queries.{ShowsSame, rows_at}
use Rattle.row_views.proofs.Truncated.{map_truncated}
use Rattle.subscriptions.specs.Live.{Covers, endpoint_key}
use Rattle.subscriptions.proofs.Costs.{of_both, of_streamed, of_viewed}

-- ---- queries in two parts

-- one of two numbers is above 0 where their sum is
some_of : (n m : ℕ) → 0 < n + m → (0 < n) ⊎ (0 < m)
some_of zero m some = inr (omega (arith, some))
some_of (suc n) m some = inl (omega arith)

-- Each row of the whole is one of the first part or of the second, and each of these is one of the whole.
module _ (config : Config) (held : ObjectMap) (whole first second : ℕ → Option Query) (of_first : (id : ℕ) (key : RowKey) → Contains (rows_at config held (first id)) key → Contains (rows_at config held (whole id)) key)
    (of_second : (id : ℕ) (key : RowKey) → Contains (rows_at config held (second id)) key → Contains (rows_at config held (whole id)) key)
    (of_whole : (id : ℕ) (key : RowKey) → Contains (rows_at config held (whole id)) key → Contains (rows_at config held (first id)) key ⊎ Contains (rows_at config held (second id)) key) where
  -- the users of both are those of the whole
  pub joined_in_use : (some more : RowKey → ℕ) → AreInUse config held first some → AreInUse config held second more → AreInUse config held whole (λ key. some key + more key)
  joined_in_use some more these those = record {
    used = λ key has. elim (some_of (some key) (more key) has) [
      | inl one ↦ map_truncated (these.used key one) (λ used. record { id = used.id; of_query = of_first used.id key used.of_query })
      | inr one ↦ map_truncated (those.used key one) (λ used. record { id = used.id; of_query = of_second used.id key used.of_query })
    ];
    unused = λ key none used. elim (of_whole used.id key used.of_query) [
      | inl of ↦ these.unused key (omega (arith, none)) (record { id = used.id; of_query = of })
      | inr of ↦ those.unused key (omega (arith, none)) (record { id = used.id; of_query = of })
    ];
  }

-- those of its stream and of the view that is kept of it are the rows of a query
module _ (kept : Query → Option Query) (covers : Covers kept) (same : ShowsSame kept) (config : Config) (held : ObjectMap) (queries streamed viewed : ℕ → Option Query)
    (are_streamed : (id : ℕ) → streamed id ≡ option_map query_for (option_and_then endpoint_key (queries id))) (are_viewed : (id : ℕ) → viewed id ≡ option_and_then kept (queries id)) where
  pub all_in_use : (some more : RowKey → ℕ) → AreInUse config held streamed some → AreInUse config held viewed more → AreInUse config held queries (λ key. some key + more key)
  all_in_use some more these those =
      joined_in_use config held queries (λ id. option_map query_for (option_and_then endpoint_key (queries id))) (λ id. option_and_then kept (queries id))
      (λ id key at. (of_streamed kept covers same config held (queries id) key at).1)
      (λ id key at. (of_viewed kept covers same config held (queries id) key at).1)
      (λ id key at. elim (of_both kept covers same config held (queries id) key at) [ inl of ↦ inr of | inr of ↦ inl of ])
      some more
      (subst (λ (asked : ℕ → Option Query). AreInUse config held asked some) (λ i id. are_streamed id i) these)
      (subst (λ (asked : ℕ → Option Query). AreInUse config held asked more) (λ i id. are_viewed id i) those)
