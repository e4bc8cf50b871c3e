-- What the last change affected of the endpoints of a key.
use Rattle.std.specs.Prelude.{if◌then◌else◌, List, [], Option, Some, None}
use Rattle.std.specs.BTreeSet.{contains}
use Rattle.mark_rules.specs.contracts.keys.EndpointKeyOrd as key_order
use Rattle.mark_rules.specs.declared.keys.EndpointKey.{EndpointKey}
use Rattle.row_table.specs.TableRows.{kept_in, row_at}
use Rattle.view_diff.specs.Earlier.{Stood}
use Rattle.view_types.specs.declared.endpoint.EndpointRow.{EndpointRow}
use Rattle.view_types.specs.declared.endpoint.EndpointView.{EndpointView}
use Rattle.endpoint_index.specs.declared.index.EndpointIndex.{EndpointIndex}
use Rattle.endpoint_index.specs.declared.kept.KeptEndpoints.{KeptEndpoints}

-- the rows of a view, if there is one
abbrev pub rows_shown : Option EndpointView → List EndpointRow
rows_shown None = []
rows_shown (Some view) = view.rows

abbrev pub notes_in : Option KeptEndpoints → List Stood
notes_in None = []
notes_in (Some kept) = kept.slices.rows.notes

-- the notes of a key that the last change affected, and none for any other
abbrev pub notes_at : EndpointIndex → EndpointKey → List Stood
notes_at s key =
    if contains key_order.TheImpl.cmp-value.it s.touched key then notes_in (kept_in (row_at key_order.TheImpl.cmp-value.it s.rows.table.used s.rows.table.rows key))
    else []
