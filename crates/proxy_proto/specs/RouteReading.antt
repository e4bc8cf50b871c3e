-- The contents of a route's message, `HttpRoute`, and of the messages nested in it.
use Rattle.std.specs.Prelude.{ℕ, List, ◌==◌, if◌then◌else◌}
use Rattle.mesh_base.specs.declared.key.Kind.{Kind}
use Rattle.mesh_base.specs.declared.key.Kind.TheVariants.{LinkerdRoute, GatewayRoute}
use Rattle.view_types.specs.declared.route.Filter.{Filter}
use Rattle.view_types.specs.declared.route.Filter.TheVariants.{Headers, Redirect}
use Rattle.view_types.specs.declared.route.HttpMatch.{HttpMatch}
use Rattle.view_types.specs.declared.route.NameMatch.{NameMatch}
use Rattle.view_types.specs.declared.route.PathMatch.{PathMatch}
use Rattle.view_types.specs.declared.route.PathMatch.TheVariants.{Exact, Prefix, Regex}
use Rattle.view_types.specs.declared.server_view.BackendRow.{BackendRow}
use Rattle.view_types.specs.declared.server_view.RouteRow.{RouteRow}
use Rattle.view_types.specs.declared.server_view.RuleRow.{RuleRow}
use Rattle.proto_wire.specs.declared.record.Rec.{Rec}
use Rattle.proxy_proto.specs.AuthorizationReading.{authz_in}
use Rattle.proxy_proto.specs.EndpointReading.{label_in}
use Rattle.proxy_proto.specs.Faults.{number_in}
use Rattle.proxy_proto.specs.LookUps.{has, number_below, flag_in, string_in, texts_in, inside, each_message, optional_in, some_string, some_number}
use Rattle.proxy_proto.specs.ProfileReading.{duration_in}

-- ---- matches

abbrev pub path_from : ℕ → List ℕ → PathMatch
path_from n text = if n == 1 then Exact text else (if n == 2 then Prefix text else Regex text)

unfoldable pub path_in : List Rec → PathMatch
path_in rs = path_from (number_in 1 rs) (string_in 2 rs)

unfoldable pub name_in : List Rec → NameMatch
name_in rs = record { name = string_in 1 rs; value = string_in 2 rs; regex = flag_in 3 rs }

unfoldable pub match_in : List Rec → HttpMatch
match_in rs = record {
  path = path_in (inside 1 rs);
  headers = each_message 2 name_in rs;
  query = each_message 3 name_in rs;
  method = some_string (string_in 4 rs);
}

-- ---- filters

unfoldable pub headers_in : List Rec → Filter
headers_in rs = Headers (each_message 1 label_in rs) (each_message 2 label_in rs) (texts_in 3 rs)

unfoldable pub redirect_in : List Rec → Filter
redirect_in rs = Redirect (some_string (string_in 1 rs)) (some_string (string_in 2 rs)) (some_number (number_below 65536 3 rs)) (number_below 65536 4 rs)

unfoldable pub filter_in : List Rec → Filter
filter_in rs = if has 1 rs then headers_in (inside 1 rs) else redirect_in (inside 2 rs)

-- ---- rules and routes

unfoldable pub backend_in : List Rec → BackendRow
backend_in rs = record {
  ns = string_in 1 rs;
  name = string_in 2 rs;
  port = number_below 65536 3 rs;
  weight = number_below 4294967296 4 rs;
  missing = flag_in 5 rs;
}

unfoldable pub rule_in : List Rec → RuleRow
rule_in rs = record {
  matches = each_message 1 match_in rs;
  filters = each_message 2 filter_in rs;
  backends = each_message 3 backend_in rs;
  request_timeout = optional_in 4 duration_in rs;
  backend_timeout = optional_in 5 duration_in rs;
}

abbrev pub route_kind : ℕ → Kind
route_kind n = if n == 1 then LinkerdRoute else GatewayRoute

unfoldable pub http_route_in : List Rec → RouteRow
http_route_in rs = record {
  kind = route_kind (number_in 1 rs);
  name = string_in 2 rs;
  created = some_string (string_in 3 rs);
  hosts = texts_in 4 rs;
  rules = each_message 5 rule_in rs;
  authz = each_message 6 authz_in rs;
}
