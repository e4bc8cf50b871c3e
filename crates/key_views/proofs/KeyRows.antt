-- The rows of keys as the views of their queries.
use Rattle.std.proofs.Common.{◌≡◌, ◌≤◌, ◌+◌, ℕ, Bool, cond, List, Option, Some, sym, ap, ◌∙◌}
use Rattle.std.specs.BTreeMap.{BTreeMap}
use Rattle.std.specs.Cmp.{IsTotalOrder}
use Rattle.std.specs.FinMap.{IsAntisymmetric}
use Rattle.std.specs.Prelude.{option_map}
use Rattle.std.specs.declared.cmp.Ordering.{Ordering}
use Rattle.view_types.specs.Objects.{ObjectMap}
use Rattle.view_types.specs.declared.config.Config.{Config}
use Rattle.view_types.specs.declared.mark.Mark.{Mark}
use Rattle.view_types.specs.declared.query.Query.{Query}
use Rattle.view_types.specs.declared.view.View.{View}
use Rattle.mark_rules.specs.Reads.{cost}
use Rattle.mark_rules.specs.declared.keys.RowKey.{RowKey}
use Rattle.row_table.specs.IndexRows.{Filter}
use Rattle.row_views.specs.Costs.{FollowedRows, open_cost}
use Rattle.row_views.specs.Ids.{AreTied, is_open, key_at}
use Rattle.row_views.specs.Queries.{reads_one, view_at}
use Rattle.row_views.specs.Standing.{FollowCost, is_met}
use Rattle.row_views.specs.declared.numbered_ids.NumberedIds.{NumberedIds}
use Rattle.row_views.proofs.RowQueries.{followed_as_asked, met_as_asked, opened_as_asked, seen_as_asked}
use Rattle.key_views.specs.Asked.{AreAsked}

module _ {Key Row : Type 0} {rows_under : Config → Filter Key Row} {query_for : Key → Query} {row_key : Key → RowKey} {key_in : RowKey → Option Key} {view_in : Row → View} (asked : AreAsked rows_under query_for row_key key_in view_in) where
  row_exact : (a b : Key) → row_key a ≡ row_key b → a ≡ b
  row_exact a b same = let is : Some a ≡ Some b = sym (asked.back a) ∙ ap key_in same ∙ asked.back b in cc is

  module _ (config : Config) where
    pub view_is : (held : ObjectMap) (filter : Filter Key Row) → filter ≡ rows_under config → (key : Option Key) (row : Option Row) → row ≡ option_map (filter.row_of held) key → option_map view_in row ≡ view_at config held (option_map query_for key)
    view_is held = seen_as_asked (rows_under config) query_for config held view_in (asked.shown config held)

    pub met_is : (held : ObjectMap) (filter : Filter Key Row) → filter ≡ rows_under config → (changed : List Mark) (key : Option Key) → is_met filter held changed key ≡ reads_one config held changed (option_map query_for key)
    met_is = met_as_asked (rows_under config) query_for config row_key (asked.only config) (asked.reading config)

    pub opened_is : (held : ObjectMap) (filter : Filter Key Row) → filter ≡ rows_under config → (key : Key) (query : Option Query) → Some (query_for key) ≡ query → (used : Bool) (old new : ℕ)
        → new ≤ old + cond used 0 (cost held (filter.reads held key)) → new ≤ old + open_cost config held query
    opened_is = opened_as_asked (rows_under config) query_for config row_key (asked.only config) (asked.reading config)

    pub followed_is : (cmp : Key → Key → Ordering) → IsTotalOrder cmp → IsAntisymmetric cmp → (before after : ObjectMap) (changed : List Mark) (number_at : Key → Option ℕ) (by_number : NumberedIds) (by_id : BTreeMap ℕ Key) → AreTied cmp number_at by_number by_id
        → (filter : Filter Key Row) → filter ≡ rows_under config → (old new : ℕ) → FollowCost filter cmp (is_open number_at by_number) changed before after old new → FollowedRows config changed before after (λ id. option_map query_for (key_at by_id id)) old new
    followed_is cmp total exact = followed_as_asked (rows_under config) query_for config row_key (asked.only config) (asked.reading config) cmp total exact row_exact
