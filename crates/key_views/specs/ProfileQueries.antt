-- The queries of profiles, and the rows of their keys.
use Rattle.std.proofs.Common.{◌≡◌, Option, Some, None, refl, sym, ap}
use Rattle.view_types.specs.declared.config.Config.{Config}
use Rattle.view_types.specs.declared.outbound.ProfileView.{ProfileView}
use Rattle.view_types.specs.declared.query.Query.{Query}
use Rattle.view_types.specs.declared.query.Query.TheVariants.{Profile}
use Rattle.view_types.specs.declared.view.View.TheVariants as view
use Rattle.view_rules.specs.Views.{view_of}
use Rattle.mark_rules.specs.Reads.{profile_reads}
use Rattle.mark_rules.specs.Rows.{profile_row, rows}
use Rattle.mark_rules.specs.declared.keys.ProfileKey.{ProfileKey}
use Rattle.mark_rules.specs.declared.keys.RowKey.{RowKey}
use Rattle.mark_rules.specs.declared.keys.RowKey.TheVariants as row
use Rattle.row_table.specs.IndexRows.{Filter}
use Rattle.row_views.specs.Queries.{ShowsSame}
use Rattle.key_views.specs.Asked.{AreAsked}

-- a query for a profile, as far as its view depends on it
abbrev pub profile_query : Query → Option Query
profile_query (Profile target ctx) = Some (Profile target (record { ns = ctx.ns; node = None }))
profile_query _ = None

-- the query of a key
abbrev pub query_for : ProfileKey → Query
query_for key = Profile key.target (record { ns = key.client; node = None })

-- the rows of keys, and what each reads
abbrev pub profile_rows : Config → Filter ProfileKey ProfileView
profile_rows config = record { row_of = profile_row config; reads = profile_reads config }

-- the node of a client has no effect
pub profiles_same : ShowsSame profile_query
profiles_same (Profile target ctx) asked is config held =
    let same : Profile target (record { ns = ctx.ns; node = None }) ≡ asked = cc is in
    (ap (view_of config held) (sym same), ap (rows config held) (sym same))
profiles_same _ asked is config held = absurd (cc is)

-- the key of a row that is a profile
abbrev pub key_in : RowKey → Option ProfileKey
key_in (row.Profile key) = Some key
key_in _ = None

own_row : (of : RowKey) (key : ProfileKey) → key_in of ≡ Some key → row.Profile key ≡ of
own_row (row.Profile key) other is = cc is
own_row _ other is = absurd (cc is)

pub profiles_asked : AreAsked profile_rows query_for row.Profile key_in view.Profile
profiles_asked = record {
  shown = λ config held key. refl;
  only = λ config held key. refl;
  reading = λ config held key. refl;
  own = own_row;
  back = λ key. refl;
}
