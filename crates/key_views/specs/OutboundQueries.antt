-- The queries of outbound views, and the rows of their targets.
use Rattle.std.proofs.Common.{◌≡◌, Option, Some, None, refl, sym, ap}
use Rattle.view_types.specs.declared.config.Config.{Config}
use Rattle.view_types.specs.declared.outbound.OutboundView.{OutboundView}
use Rattle.view_types.specs.declared.query.Query.{Query}
use Rattle.view_types.specs.declared.query.Query.TheVariants.{Traffic}
use Rattle.view_types.specs.declared.query.Target.{Target}
use Rattle.view_types.specs.declared.view.View.TheVariants as view
use Rattle.view_rules.specs.Views.{view_of}
use Rattle.mark_rules.specs.Reads.{outbound_reads}
use Rattle.mark_rules.specs.Rows.{outbound_row, rows}
use Rattle.mark_rules.specs.declared.keys.RowKey.{RowKey}
use Rattle.mark_rules.specs.declared.keys.RowKey.TheVariants as row
use Rattle.row_table.specs.IndexRows.{Filter}
use Rattle.row_views.specs.Queries.{ShowsSame}
use Rattle.key_views.specs.Asked.{AreAsked}

-- a query for an outbound view; no other view is kept
abbrev pub outbound_query : Query → Option Query
outbound_query (Traffic target) = Some (Traffic target)
outbound_query _ = None

-- the query of a target
abbrev pub query_for : Target → Query
query_for target = Traffic target

-- the rows of targets, and what each reads
abbrev pub outbound_rows : Config → Filter Target OutboundView
outbound_rows config = record { row_of = outbound_row config; reads = outbound_reads }

-- it is kept as it is
pub outbound_same : ShowsSame outbound_query
outbound_same (Traffic target) asked is config held =
    let same : Traffic target ≡ asked = cc is in
    (ap (view_of config held) (sym same), ap (rows config held) (sym same))
outbound_same _ asked is config held = absurd (cc is)

-- the target of a row that is an outbound view
abbrev pub target_in : RowKey → Option Target
target_in (row.Outbound target) = Some target
target_in _ = None

own_row : (of : RowKey) (target : Target) → target_in of ≡ Some target → row.Outbound target ≡ of
own_row (row.Outbound target) other is = cc is
own_row _ other is = absurd (cc is)

pub outbound_asked : AreAsked outbound_rows query_for row.Outbound target_in view.Outbound
outbound_asked = record {
  shown = λ config held target. refl;
  only = λ config held target. refl;
  reading = λ config held target. refl;
  own = own_row;
  back = λ target. refl;
}
