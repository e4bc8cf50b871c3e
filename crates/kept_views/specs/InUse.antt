-- The rows that have users in one of the three parts.
use Rattle.std.proofs.Common.{◌≡◌, ◌+◌, ◌<◌, ◌⊎◌, inl, inr, ℕ, zero, suc, Option, Some, None, refl, subst, arith}
use Rattle.std.specs.List.{Contains}
use Rattle.std.specs.Option.{option_or}
use Rattle.view_types.specs.Objects.{ObjectMap}
use Rattle.view_types.specs.declared.config.Config.{Config}
use Rattle.view_types.specs.declared.query.Query.{Query}
use Rattle.mark_rules.specs.declared.keys.RowKey.{RowKey}
use Rattle.row_views.specs.InUse.{AreInUse}
use Rattle.row_views.specs.Queries.{rows_at}
use Rattle.row_views.proofs.InUse.{none_there}
use Rattle.row_views.proofs.Truncated.{map_truncated}
use Rattle.kept_views.specs.Parts.{AreApart, PartsStand, first_of}

-- if a sum is above 0, one of its two numbers is
some_of : (n m : ℕ) → 0 < n + m → (0 < n) ⊎ (0 < m)
some_of zero m some = inr (omega (arith, some))
some_of (suc n) m some = inl (omega arith)

module _ (config : Config) (held : ObjectMap) where
  -- ---- the rows of a query that is open in one of two parts

  pub in_first : (key : RowKey) (first second : Option Query) → Contains (rows_at config held first) key → Contains (rows_at config held (option_or first second)) key
  in_first key None second of = absurd (none_there of)
  in_first key (Some query) second of = of

  pub in_second : (key : RowKey) (first second : Option Query) → ((query : Query) → first ≡ Some query → second ≡ None) → Contains (rows_at config held second) key → Contains (rows_at config held (option_or first second)) key
  in_second key None second apart of = of
  in_second key (Some query) second apart of = absurd (none_there (subst (λ (o : Option Query). Contains (rows_at config held o) key) (apart query refl) of))

  pub in_either : (key : RowKey) (first second : Option Query) → Contains (rows_at config held (option_or first second)) key → Contains (rows_at config held first) key ⊎ Contains (rows_at config held second) key
  in_either key None second of = inr of
  in_either key (Some query) second of = inl of

  -- ---- the rows that have users

  either_in_use : (asked others : ℕ → Option Query) (users more : RowKey → ℕ) → AreApart asked others → AreInUse config held asked users → AreInUse config held others more → AreInUse config held (λ id. option_or (asked id) (others id)) (λ key. users key + more key)
  either_in_use asked others users more apart these those = record {
    used = λ key some. elim (some_of (users key) (more key) some) [
      | inl one ↦ map_truncated (these.used key one) (λ used. record { id = used.id; of_query = in_first key (asked used.id) (others used.id) used.of_query })
      | inr one ↦ map_truncated (those.used key one) (λ used. record { id = used.id; of_query = in_second key (asked used.id) (others used.id) (apart used.id) used.of_query })
    ];
    unused = λ key none used. elim (in_either key (asked used.id) (others used.id) used.of_query) [
      | inl of ↦ these.unused key (omega (arith, none)) (record { id = used.id; of_query = of })
      | inr of ↦ those.unused key (omega (arith, none)) (record { id = used.id; of_query = of })
    ];
  }

  pub parts_in_use : {Profiles Ports Outbound : Type 0} {of_profiles of_ports of_outbound : ℕ → Option Query} {profiles ports outbound : RowKey → ℕ} → PartsStand Profiles Ports Outbound of_profiles of_ports of_outbound
      → AreInUse config held of_profiles profiles → AreInUse config held of_ports ports → AreInUse config held of_outbound outbound
      → AreInUse config held (λ id. first_of (of_profiles id) (of_ports id) (of_outbound id)) (λ key. profiles key + (ports key + outbound key))
  parts_in_use {of_profiles} {of_ports} {of_outbound} {profiles} {ports} {outbound} stand these those others =
      either_in_use of_profiles (λ id. option_or (of_ports id) (of_outbound id)) profiles (λ key. ports key + outbound key) stand.profiles_apart these
      (either_in_use of_ports of_outbound ports outbound stand.ports_apart those others)
