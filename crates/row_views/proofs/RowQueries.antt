-- Rows that queries ask for, one each: what is known of the row of a key is known of its query.
use Rattle.std.proofs.Common.{◌≡◌, ◌≤◌, ◌+◌, ℕ, Bool, cond, List, [], ◌∷◌, Option, Some, None, refl, sym, ap, subst, ◌∙◌, arith}
use Rattle.std.proofs.lemmas.List.{append-nil}
use Rattle.std.specs.BTreeMap.{BTreeMap}
use Rattle.std.specs.Cmp.{IsTotalOrder}
use Rattle.std.specs.FinMap.{IsAntisymmetric}
use Rattle.std.specs.List.{Contains, flat_map}
use Rattle.std.specs.Prelude.{option_map}
use Rattle.std.specs.declared.cmp.Ordering.{Ordering}
use Rattle.view_types.specs.Objects.{ObjectMap}
use Rattle.view_types.specs.declared.config.Config.{Config}
use Rattle.view_types.specs.declared.mark.Mark.{Mark}
use Rattle.view_types.specs.declared.query.Query.{Query}
use Rattle.view_types.specs.declared.view.View.{View}
use Rattle.view_rules.specs.Views.{view_of}
use Rattle.mark_rules.specs.Marks.{meets}
use Rattle.mark_rules.specs.Reads.{cost, query_reads, reads}
use Rattle.mark_rules.specs.Rows.{rows}
use Rattle.mark_rules.specs.declared.keys.RowKey.{RowKey}
use Rattle.row_table.specs.IndexRows.{Filter}
use Rattle.row_views.specs.Costs.{FollowedRows, open_cost}
use Rattle.row_views.specs.Ids.{AreTied, is_open, key_at}
use Rattle.row_views.specs.Queries.{reads_one, rows_at, view_at}
use Rattle.row_views.specs.Standing.{FollowCost, is_met}
use Rattle.row_views.specs.declared.numbered_ids.NumberedIds.{NumberedIds}
use Rattle.row_views.proofs.Costs.{followed, in_use, opened_within}

module _ {Key Row : Type 0} (kept : Filter Key Row) (query_for : Key → Query) (config : Config) where
  -- the row of a key is the view of its query
  pub seen_as_asked : (held : ObjectMap) (seen : Row → View) → ((key : Key) → seen (kept.row_of held key) ≡ view_of config held (query_for key)) → (filter : Filter Key Row) → filter ≡ kept → (key : Option Key) (row : Option Row)
      → row ≡ option_map (filter.row_of held) key → option_map seen row ≡ view_at config held (option_map query_for key)
  seen_as_asked held seen shows filter same key row is = ap (option_map seen) (is ∙ ap (λ f. option_map (f.row_of held) key) same) ∙ by key
    where
      by : (key : Option Key) → option_map seen (option_map (kept.row_of held) key) ≡ view_at config held (option_map query_for key)
      by None = refl
      by (Some key) = ap Some (shows key)

  module _ (row : Key → RowKey) (only : (held : ObjectMap) (key : Key) → rows config held (query_for key) ≡ row key ∷ []) (reading : (held : ObjectMap) (key : Key) → reads config held (row key) ≡ kept.reads held key) where
    read_as_asked : (held : ObjectMap) (key : Key) → kept.reads held key ≡ query_reads config held (query_for key)
    read_as_asked held key = sym (reading held key) ∙ sym (append-nil (reads config held (row key))) ∙ sym (ap (flat_map (reads config held)) (only held key))

    -- it reads what its query reads
    pub met_as_asked : (held : ObjectMap) (filter : Filter Key Row) → filter ≡ kept → (changed : List Mark) (key : Option Key) → is_met filter held changed key ≡ reads_one config held changed (option_map query_for key)
    met_as_asked held filter same changed None = refl
    met_as_asked held filter same changed (Some key) = ap (λ marks. meets marks changed) (ap (λ f. f.reads held key) same ∙ read_as_asked held key)

    -- what is looked up as an id is opened
    pub opened_as_asked : (held : ObjectMap) (filter : Filter Key Row) → filter ≡ kept → (key : Key) (query : Option Query) → Some (query_for key) ≡ query → (used : Bool) (old new : ℕ) → new ≤ old + cond used 0 (cost held (filter.reads held key))
        → new ≤ old + open_cost config held query
    opened_as_asked held filter same key query is used old new most =
        opened_within used config held (row key) query (filter.reads held key) old new (ap (rows_at config held) (sym is) ∙ only held key) (reading held key ∙ ap (λ f. f.reads held key) (sym same)) most

    -- and as a change is followed
    module _ (cmp : Key → Key → Ordering) (total : IsTotalOrder cmp) (exact : IsAntisymmetric cmp) (row_exact : (a b : Key) → row a ≡ row b → a ≡ b) (before after : ObjectMap) (changed : List Mark) (number_at : Key → Option ℕ) (by_number : NumberedIds) (by_id : BTreeMap ℕ Key) where
      own : (key : Key) → Contains (rows config before (query_for key)) (row key)
      own key = subst (λ (keys : List RowKey). Contains keys (row key)) (sym (only before key)) (0, omega arith, refl)

      pub followed_as_asked : AreTied cmp number_at by_number by_id → (filter : Filter Key Row) → filter ≡ kept → (old new : ℕ) → FollowCost filter cmp (is_open number_at by_number) changed before after old new → FollowedRows config changed before after (λ id. option_map query_for (key_at by_id id)) old new
      followed_as_asked tied filter same old new most =
          followed cmp total exact row row_exact kept config reading before after changed (λ id. option_map query_for (key_at by_id id)) (is_open number_at by_number) (in_use cmp total exact row query_for config before own number_at by_number by_id tied) old new
          (subst (λ (f : Filter Key Row). FollowCost f cmp (is_open number_at by_number) changed before after old new) same most)
