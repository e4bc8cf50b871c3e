-- The rows that have users are those of the keys of open streams.
use Rattle.std.proofs.Common.{◌≡◌, ◌<◌, inl, ℕ, true, cond, [], ◌∷◌, Option, Some, None, refl, sym, ap, ◌∙◌, arith}
use Rattle.std.proofs.lemmas.Bool.{false≢true}
use Rattle.std.specs.Cmp.{IsTotalOrder, below_irrefl}
use Rattle.std.specs.FinMap.{IsAntisymmetric}
use Rattle.std.specs.List.{Contains}
use Rattle.std.specs.Option.{is_some}
use Rattle.std.specs.Prelude.{option_map}
use Rattle.std.specs.declared.cmp.Ordering.{Ordering}
use Rattle.mesh_base.specs.declared.limits.Limits.{Limits}
use Rattle.view_types.specs.Objects.{ObjectMap}
use Rattle.view_types.specs.declared.config.Config.{Config}
use Rattle.view_types.specs.declared.query.Query.{Query}
use Rattle.view_rules.proofs.Among.{contained}
use Rattle.mark_rules.specs.contracts.keys.EndpointKeyOrd.TheImpl.Laws.{total-law}
use Rattle.mark_rules.specs.declared.keys.EndpointKey.{EndpointKey}
use Rattle.mark_rules.specs.declared.keys.RowKey.{RowKey}
use Rattle.mark_rules.specs.declared.keys.RowKey.TheVariants as row
use Rattle.row_table.proofs.Keys.{is_itself}
use Rattle.row_views.specs.Ids.{is_key}
use Rattle.row_views.specs.InUse.{AreInUse, IsInUse}
use Rattle.row_views.specs.Queries.{rows_at}
use Rattle.row_views.proofs.Costs.{own_row}
use Rattle.row_views.proofs.InUse.{in_use_of, is_used, none_there, only_there}
use Rattle.endpoint_index.specs.EndpointKeys.{endpoint_keys_exact}
use Rattle.endpoint_streams.specs.Streams.{query_for}
use Rattle.key_streams.specs.declared.streams.KeyStreams.{KeyStreams}
use Rattle.shared_endpoints.specs.ByKey.{Streams, key_cmp, streams_at}
use Rattle.shared_endpoints.specs.Sharing.{AreTied, HasOneAt, has_at}
use Rattle.shared_endpoints.specs.Standing.{StandsExactly, key_of_id, users}
use Rattle.shared_endpoints.specs.declared.shared.SharedEndpoints.{SharedEndpoints}

-- how many users the row of a key has; only rows of endpoints have users here
abbrev pub row_users : SharedEndpoints → RowKey → ℕ
row_users s (row.Endpoint key) = users s.index key
row_users s _ = 0

-- the queries of the streams
abbrev pub asked_at : SharedEndpoints → ℕ → Option Query
asked_at s id = option_map query_for (key_of_id s id)

-- ---- the key of an open stream has streams

module _ {F : Type 0} where
  some_at : (o : Option (KeyStreams F)) (id : ℕ) → has_at o id ≡ true → is_some o ≡ true
  some_at None id has = absurd (false≢true has)
  some_at (Some streams) id has = refl

module _ {Key F : Type 0} (cmp : Key → Key → Ordering) (total : IsTotalOrder cmp) (exact : IsAntisymmetric cmp) (streams : Key → Option (KeyStreams F)) (key_of : ℕ → Option Key) (tied : AreTied cmp streams key_of) where
  pub has_stream_at : (id : ℕ) (key : Key) → key_of id ≡ Some key → has_at (streams key) id ≡ true
  has_stream_at id key is = tied key id ∙ ap (is_key cmp key) is ∙ is_itself cmp total exact key

  pub has_streams : (id : ℕ) (key : Key) → key_of id ≡ Some key → is_some (streams key) ≡ true
  has_streams id key is = some_at (streams key) id (has_stream_at id key is)

-- the row of a query for endpoints is that of its key
row_asked : (config : Config) (held : ObjectMap) (asked : Option EndpointKey) (key : RowKey) → Contains (rows_at config held (option_map query_for asked)) key → (k : EndpointKey) × (asked ≡ Some k) × (row.Endpoint k ≡ key)
row_asked config held None key of = absurd (none_there of)
row_asked config held (Some k) key of = (k, refl, only_there of)

-- ---- the state without unused keys

module _ (config : Config) (limits : Limits) (held : ObjectMap) (s : SharedEndpoints) (st : StandsExactly config limits held s) where
  -- a key that has streams is the key of an open stream
  pub in_use : (key : EndpointKey) → is_some (streams_at s.by_key key) ≡ true → IsInUse config held (asked_at s) (row.Endpoint key)
  in_use key some = by (streams_at s.by_key key) refl (st.each key)
    where
      by : (o : Option Streams) → streams_at s.by_key key ≡ o → HasOneAt o → IsInUse config held (asked_at s) (row.Endpoint key)
      by None e one = absurd (false≢true (sym (ap is_some e) ∙ some))
      by (Some streams) e one = record {
        id = one.0;
        of_query = own_row key_cmp total-law endpoint_keys_exact row.Endpoint query_for config held (λ k. contained (row.Endpoint k ∷ []) (row.Endpoint k) (inl refl)) key (key_of_id s one.0) (sym (st.stands.shared.tied key one.0) ∙ ap (λ (o : Option Streams). has_at o one.0) e ∙ one.1);
      }

  used : (key : RowKey) → 0 < row_users s key → IsInUse config held (asked_at s) key
  used (row.Endpoint key) some = in_use key (is_used (users s.index key) (is_some (streams_at s.by_key key)) (st.stands.indexed.one_user key) some)
  used (row.Profile key) some = absurd (below_irrefl 0 some)
  used (row.Server key) some = absurd (below_irrefl 0 some)
  used (row.Route key) some = absurd (below_irrefl 0 some)
  used (row.Authz key) some = absurd (below_irrefl 0 some)
  used (row.Outbound key) some = absurd (below_irrefl 0 some)

  unused : (key : RowKey) → row_users s key ≡ 0 → IsInUse config held (asked_at s) key → ⊥
  unused key none is =
      let has = row_asked config held (key_of_id s is.id) key is.of_query in
      let there = has_streams key_cmp total-law endpoint_keys_exact (streams_at s.by_key) (key_of_id s) st.stands.shared.tied is.id has.0 has.1 in
      let one : row_users s key ≡ 1 = ap (row_users s) (sym has.2) ∙ st.stands.indexed.one_user has.0 ∙ ap (λ b. cond b 1 0) there in
      omega (arith, none, one)

pub all_in_use : (config : Config) (limits : Limits) (held : ObjectMap) (s : SharedEndpoints) → ∥ StandsExactly config limits held s ∥₁ → AreInUse config held (asked_at s) (row_users s)
all_in_use config limits held s stands = in_use_of stands (λ st. record { used = λ key some. ∣ used config limits held s st key some ∣₁; unused = unused config limits held s st })
