-- Rows, each of which is the view of a query.
use Rattle.std.specs.Prelude.{◌≡◌, List, [], ◌∷◌, Option, Some}
use Rattle.view_types.specs.Objects.{ObjectMap}
use Rattle.view_types.specs.declared.config.Config.{Config}
use Rattle.view_types.specs.declared.query.Query.{Query}
use Rattle.view_types.specs.declared.view.View.{View}
use Rattle.view_rules.specs.Views.{view_of}
use Rattle.mark_rules.specs.Reads.{reads}
use Rattle.mark_rules.specs.Rows.{rows}
use Rattle.mark_rules.specs.declared.keys.RowKey.{RowKey}
use Rattle.row_table.specs.IndexRows.{Filter}

-- The row of a key is the view of its query, and the query requests this row alone. It reads the
-- same marks as among the rows of all sorts, and its key is found from it there.
pub record AreAsked {Key Row : Type 0} (rows_under : Config → Filter Key Row) (query_for : Key → Query) (row_key : Key → RowKey) (key_in : RowKey → Option Key) (view_in : Row → View) : Type 0 where
  pub shown : (config : Config) (held : ObjectMap) (key : Key) → view_in ((rows_under config).row_of held key) ≡ view_of config held (query_for key)
  pub only : (config : Config) (held : ObjectMap) (key : Key) → rows config held (query_for key) ≡ row_key key ∷ []
  pub reading : (config : Config) (held : ObjectMap) (key : Key) → reads config held (row_key key) ≡ (rows_under config).reads held key
  pub own : (of : RowKey) (key : Key) → key_in of ≡ Some key → row_key key ≡ of
  pub back : (key : Key) → key_in (row_key key) ≡ Some key
