-- The records of a route's message, `HttpRoute`, and of the messages nested in it.
use Rattle.std.specs.Prelude.{ℕ, List, [], ◌∷◌, ◌++◌, Option}
use Rattle.mesh_base.specs.declared.key.Kind.{Kind}
use Rattle.mesh_base.specs.declared.key.Kind.TheVariants.{LinkerdRoute, GatewayRoute}
use Rattle.view_types.specs.declared.route.Filter.{Filter}
use Rattle.view_types.specs.declared.route.Filter.TheVariants.{Headers, Redirect}
use Rattle.view_types.specs.declared.route.HttpMatch.{HttpMatch}
use Rattle.view_types.specs.declared.route.NameMatch.{NameMatch}
use Rattle.view_types.specs.declared.route.PathMatch.{PathMatch}
use Rattle.view_types.specs.declared.route.PathMatch.TheVariants.{Exact, Prefix, Regex}
use Rattle.view_types.specs.declared.server_view.BackendRow.{BackendRow}
use Rattle.view_types.specs.declared.server_view.RouteRow.{RouteRow}
use Rattle.view_types.specs.declared.server_view.RuleRow.{RuleRow}
use Rattle.proto_wire.specs.declared.record.Rec.{Rec}
use Rattle.proto_wire.specs.Wire.{spelling}
use Rattle.proxy_proto.specs.Authorizations.{authz_records}
use Rattle.proxy_proto.specs.FieldRecords.{chunk, number_field, bool_field, text_field, optional_text, optional_number, optional_field, texts_field, each_field}
use Rattle.proxy_proto.specs.Profiles.{duration_records}

-- ---- HttpMatch, with PathMatch and NameMatch

abbrev pub path_number : PathMatch → ℕ
path_number (Exact text) = 1
path_number (Prefix text) = 2
path_number (Regex text) = 3

abbrev pub path_text : PathMatch → List ℕ
path_text (Exact text) = text
path_text (Prefix text) = text
path_text (Regex text) = text

unfoldable pub path_records : PathMatch → List Rec
path_records path = number_field 1 (path_number path) ++ text_field 2 (path_text path)

unfoldable pub name_records : NameMatch → List Rec
name_records part = text_field 1 part.name ++ (text_field 2 part.value ++ bool_field 3 part.regex)

unfoldable pub match_records : HttpMatch → List Rec
match_records m =
    chunk 1 (spelling (path_records m.path))
    ∷ (each_field 2 name_records m.headers
    ++ (each_field 3 name_records m.query
    ++ optional_text 4 m.method))

-- ---- Filter: a choice of HeaderChange, with NameValue, and Redirect

unfoldable pub value_records : List ℕ × List ℕ → List Rec
value_records pair = text_field 1 pair.0 ++ text_field 2 pair.1

unfoldable pub headers_records : List (List ℕ × List ℕ) → List (List ℕ × List ℕ) → List (List ℕ) → List Rec
headers_records add set remove = each_field 1 value_records add ++ (each_field 2 value_records set ++ texts_field 3 remove)

unfoldable pub redirect_records : Option (List ℕ) → Option (List ℕ) → Option ℕ → ℕ → List Rec
redirect_records scheme host port status =
    optional_text 1 scheme
    ++ (optional_text 2 host
    ++ (optional_number 3 port
    ++ number_field 4 status))

unfoldable pub filter_records : Filter → List Rec
filter_records (Headers add set remove) = chunk 1 (spelling (headers_records add set remove)) ∷ []
filter_records (Redirect scheme host port status) = chunk 2 (spelling (redirect_records scheme host port status)) ∷ []

-- ---- RouteRule, with Backend

unfoldable pub backend_records : BackendRow → List Rec
backend_records backend =
    text_field 1 backend.ns
    ++ (text_field 2 backend.name
    ++ (number_field 3 backend.port
    ++ (number_field 4 backend.weight
    ++ bool_field 5 backend.missing)))

unfoldable pub rule_records : RuleRow → List Rec
rule_records rule =
    each_field 1 match_records rule.matches
    ++ (each_field 2 filter_records rule.filters
    ++ (each_field 3 backend_records rule.backends
    ++ (optional_field 4 duration_records rule.request_timeout
    ++ optional_field 5 duration_records rule.backend_timeout)))

-- ---- HttpRoute

-- the number of a kind of routes; 0 for any other kind
abbrev pub route_number : Kind → ℕ
route_number LinkerdRoute = 1
route_number GatewayRoute = 2
route_number _ = 0

unfoldable pub http_route_records : RouteRow → List Rec
http_route_records route =
    number_field 1 (route_number route.kind)
    ++ (text_field 2 route.name
    ++ (optional_text 3 route.created
    ++ (texts_field 4 route.hosts
    ++ (each_field 5 rule_records route.rules
    ++ each_field 6 authz_records route.authz))))
