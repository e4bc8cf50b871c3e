-- Queries that ids are open with.
use Rattle.std.specs.Prelude.{◌≡◌, Bool, false, List, [], Option, Some, None, option_map}
use Rattle.view_types.specs.Objects.{ObjectMap}
use Rattle.view_types.specs.declared.config.Config.{Config}
use Rattle.view_types.specs.declared.mark.Mark.{Mark}
use Rattle.view_types.specs.declared.query.Query.{Query}
use Rattle.view_types.specs.declared.view.View.{View}
use Rattle.view_rules.specs.Views.{as_asked, view_of}
use Rattle.mark_rules.specs.Marks.{meets}
use Rattle.mark_rules.specs.Reads.{query_reads}
use Rattle.mark_rules.specs.Rows.{rows}
use Rattle.mark_rules.specs.declared.keys.RowKey.{RowKey}

-- the view of a query, if there is one
abbrev pub view_at : Config → ObjectMap → Option Query → Option View
view_at config held query = option_map (view_of config held) query

-- a query, if there is one, reads a mark of a change
abbrev pub reads_one : Config → ObjectMap → List Mark → Option Query → Bool
reads_one config held changed None = false
reads_one config held changed (Some query) = meets (query_reads config held query) changed

-- The query that is kept for another has the same view, in the form that the other requests, and
-- the same rows.
abbrev pub ShowsSame : (Query → Option Query) → Type 0
ShowsSame kept = (query asked : Query) → kept query ≡ Some asked → (config : Config) (held : ObjectMap)
    → (as_asked query (view_of config held asked) ≡ view_of config held query) × (rows config held asked ≡ rows config held query)

-- the rows of a query, if there is one
abbrev pub rows_at : Config → ObjectMap → Option Query → List RowKey
rows_at config held None = []
rows_at config held (Some query) = rows config held query
