-- What a subscriber sees after applying the messages that it is sent.
use Rattle.std.specs.Prelude.{◌≡◌, ℕ, true, false, List, [], ◌∷◌, Option, Some, None, map}
use Rattle.std.specs.FinMap.{FinMap, values}
use Rattle.std.specs.List.Sorted.{IsStrictlySortedBy}
use Rattle.net_cidr.specs.declared.ip.Ip.{Ip}
use Rattle.view_types.specs.declared.endpoint.EndpointRow.{EndpointRow}
use Rattle.view_types.specs.declared.endpoint.EndpointView.{EndpointView}
use Rattle.view_types.specs.declared.message.Message.{Message}
use Rattle.view_types.specs.declared.message.Message.TheVariants.{Add, Remove, NoEndpoints, Profile as WholeProfile, Server as WholeServer, Outbound as WholeOutbound, Whole, AuthzPut, AuthzGone}
use Rattle.view_types.specs.declared.server_view.AuthzRow.{AuthzRow}
use Rattle.view_types.specs.declared.server_view.ServerView.{ServerView}
use Rattle.view_types.specs.declared.server_view.ServerView.TheVariants.{Absent, Present}
use Rattle.view_types.specs.declared.view.View.{View}
use Rattle.view_types.specs.declared.view.View.TheVariants.{Endpoints, Profile, Server, Outbound, ServerRows}
use Rattle.view_rules.specs.AuthzOrder.{AuthzKey, RowsRise, authz_cmp, authz_key}
use Rattle.view_rules.specs.ByKey.{map_of, put_all, take_all}
use Rattle.view_rules.specs.Endpoints.{no_endpoints, pair_cmp, pair_of}

-- rows by their addresses and ports
abbrev pub RowMap : Type 0
RowMap = FinMap pair_cmp EndpointRow

-- each row replaces that of its address and port
abbrev pub put_rows : List EndpointRow → RowMap → RowMap
put_rows = put_all pair_cmp pair_of

abbrev pub row_map : List EndpointRow → RowMap
row_map = map_of pair_cmp pair_of

abbrev pub take_out : List (Ip × ℕ) → RowMap → RowMap
take_out = take_all pair_cmp pair_of

-- authorizations by their kinds and names
abbrev pub AuthzMap : Type 0
AuthzMap = FinMap authz_cmp AuthzRow

abbrev pub put_authz : List AuthzRow → AuthzMap → AuthzMap
put_authz = put_all authz_cmp authz_key

abbrev pub authz_map : List AuthzRow → AuthzMap
authz_map = map_of authz_cmp authz_key

abbrev pub take_authz : List AuthzKey → AuthzMap → AuthzMap
take_authz = take_all authz_cmp authz_key

-- ---- messages

abbrev pub with_rows : List EndpointRow → EndpointView → EndpointView
with_rows rows view = record { exists = true; rows = values (put_rows rows (row_map view.rows)) }

abbrev pub without_pairs : List (Ip × ℕ) → EndpointView → EndpointView
without_pairs pairs view = record { exists = view.exists; rows = values (take_out pairs (row_map view.rows)) }

-- the endpoints shown; none before the first message
abbrev pub seen : Option View → EndpointView
seen (Some (Endpoints view)) = view
seen _ = no_endpoints

-- the authorizations of the Server, if there is one
abbrev pub authz_of : ServerView → List AuthzRow
authz_of Absent = []
authz_of (Present row) = row.authz

-- with its authorizations edited; an absent view stays absent
abbrev pub with_authz : (AuthzMap → AuthzMap) → ServerView → ServerView
with_authz edit Absent = Absent
with_authz edit (Present row) = Present (record row { authz = values (edit (authz_map row.authz)) })

-- the view of a port that is shown; absent before the first message
abbrev pub seen_port : Option View → ServerView
seen_port (Some (ServerRows view)) = view
seen_port _ = Absent

-- the view after one more message
abbrev pub shown_after : Option View → Message → View
shown_after shown (Add rows) = Endpoints (with_rows rows (seen shown))
shown_after shown (Remove pairs) = Endpoints (without_pairs pairs (seen shown))
shown_after shown (NoEndpoints exists) = Endpoints (record { exists = exists; rows = [] })
shown_after shown (WholeProfile view) = Profile view
shown_after shown (WholeServer view) = Server view
shown_after shown (WholeOutbound view) = Outbound view
shown_after shown (Whole view) = ServerRows (with_authz (λ authz. authz) view)
shown_after shown (AuthzPut rows) = ServerRows (with_authz (put_authz rows) (seen_port shown))
shown_after shown (AuthzGone keys) = ServerRows (with_authz (take_authz keys) (seen_port shown))

abbrev pub folded_onto : Option View → List Message → Option View
folded_onto view [] = view
folded_onto view (m ∷ ms) = folded_onto (Some (shown_after view m)) ms

-- the view that the messages show; none before the first
abbrev pub fold : List Message → Option View
fold messages = folded_onto None messages

-- each view of endpoints: rows are in order, each address and port once, and a Service that does
-- not exist has none
pub record IsOrderly (view : EndpointView) : Type 0 where
  pub rise : IsStrictlySortedBy pair_cmp (map pair_of view.rows)
  pub absent : view.exists ≡ false → view.rows ≡ []

-- the same for the endpoints that were shown, and for the authorizations of a Server that is sent
-- by rows
abbrev pub IsOrderlyIfShown : Option View → Type 0
IsOrderlyIfShown (Some (Endpoints view)) = IsOrderly view
IsOrderlyIfShown (Some (ServerRows view)) = RowsRise (authz_of view)
IsOrderlyIfShown _ = Unit {0}
