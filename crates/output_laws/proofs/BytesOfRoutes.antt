-- The records of routes are in bytes.
use Rattle.std.proofs.Common.{ℕ, ◌/◌, ◌%◌, ◌^◌, ◌<◌, List, ◌++◌, Option, Some, None, arith, lit<}
use Rattle.std.specs.Prelude.{IsUtf8}
use Rattle.k8s_meta.specs.Lawful.{IsShort, IsSomePort}
use Rattle.mesh_base.specs.declared.key.Kind.{Kind}
use Rattle.mesh_base.specs.declared.key.Kind.TheVariants.{LinkerdRoute, GatewayRoute}
use Rattle.proxy_proto.specs.Authorizations.{authz_records}
use Rattle.proxy_proto.specs.FieldRecords.{bool_field, each_field, number_field, optional_field, optional_number, optional_text, text_field, texts_field}
use Rattle.proxy_proto.specs.Profiles.{duration_records}
use Rattle.proxy_proto.specs.Routes.{backend_records, filter_records, headers_records, http_route_records, match_records, name_records, path_records, redirect_records, route_number, rule_records, value_records}
use Rattle.proxy_proto.specs.Sendable.{IsRouteKind, IsSendableAuthz, IsSendableBackend, IsSendableRoute, IsSendableRule}
use Rattle.view_types.specs.Lawful.{AreLawfulHeaders, IsLawfulFilter, IsLawfulMatch, IsLawfulName, IsLawfulPath, IsLawfulRedirect}
use Rattle.view_types.specs.declared.route.Filter.{Filter}
use Rattle.view_types.specs.declared.route.Filter.TheVariants.{Headers, Redirect}
use Rattle.view_types.specs.declared.route.HttpMatch.{HttpMatch}
use Rattle.view_types.specs.declared.route.NameMatch.{NameMatch}
use Rattle.view_types.specs.declared.route.PathMatch.{PathMatch}
use Rattle.view_types.specs.declared.route.PathMatch.TheVariants.{Exact, Prefix, Regex}
use Rattle.view_types.specs.declared.server_view.BackendRow.{BackendRow}
use Rattle.view_types.specs.declared.server_view.RouteRow.{RouteRow}
use Rattle.view_types.specs.declared.server_view.RuleRow.{RuleRow}
use Rattle.output_laws.proofs.Bytes.{AreSound, sound_bool, sound_both, sound_each, sound_inside, sound_number, sound_some_text, sound_text, sound_texts}
use Rattle.output_laws.proofs.BytesOfEndpoints.{authz_sound, port_small, weight_small}

-- ---- matches and filters

path_sound : (path : PathMatch) → IsLawfulPath path → AreSound (path_records path)
unfolding path_records
path_sound (Exact text) good = sound_both (number_field 1 1) (text_field 2 text) (sound_number 1 1 (lit< tt) (lit< tt)) (sound_text 2 text (lit< tt) good)
path_sound (Prefix text) good = sound_both (number_field 1 2) (text_field 2 text) (sound_number 1 2 (lit< tt) (lit< tt)) (sound_text 2 text (lit< tt) good)
path_sound (Regex text) good = sound_both (number_field 1 3) (text_field 2 text) (sound_number 1 3 (lit< tt) (lit< tt)) (sound_text 2 text (lit< tt) good)

name_sound : (part : NameMatch) → IsLawfulName part → AreSound (name_records part)
unfolding name_records
name_sound part good = sound_both (text_field 1 part.name) (text_field 2 part.value ++ bool_field 3 part.regex) (sound_text 1 part.name (lit< tt) good.name)
    (sound_both (text_field 2 part.value) (bool_field 3 part.regex) (sound_text 2 part.value (lit< tt) good.value) (sound_bool 3 part.regex (lit< tt)))

match_sound : (m : HttpMatch) → IsLawfulMatch m → AreSound (match_records m)
unfolding match_records
match_sound m good = (
  sound_inside 1 (path_records m.path) (lit< tt) (path_sound m.path good.path),
  sound_both (each_field 2 name_records m.headers) (each_field 3 name_records m.query ++ optional_text 4 m.method)
      (sound_each 2 IsLawfulName name_records (lit< tt) name_sound m.headers good.headers)
      (sound_both (each_field 3 name_records m.query) (optional_text 4 m.method) (sound_each 3 IsLawfulName name_records (lit< tt) name_sound m.query good.query) (sound_some_text 4 m.method (lit< tt) good.method)),
)

abbrev IsPair : List ℕ × List ℕ → Type 0
IsPair p = IsUtf8 p.0 × IsUtf8 p.1

value_sound : (pair : List ℕ × List ℕ) → IsPair pair → AreSound (value_records pair)
unfolding value_records
value_sound pair good = sound_both (text_field 1 pair.0) (text_field 2 pair.1) (sound_text 1 pair.0 (lit< tt) good.0) (sound_text 2 pair.1 (lit< tt) good.1)

headers_sound : (add set : List (List ℕ × List ℕ)) (remove : List (List ℕ)) → AreLawfulHeaders add set remove → AreSound (headers_records add set remove)
unfolding headers_records
headers_sound add set remove good = sound_both (each_field 1 value_records add) (each_field 2 value_records set ++ texts_field 3 remove) (sound_each 1 IsPair value_records (lit< tt) value_sound add good.added)
    (sound_both (each_field 2 value_records set) (texts_field 3 remove) (sound_each 2 IsPair value_records (lit< tt) value_sound set good.replaced) (sound_texts 3 remove (lit< tt) good.removed))

some_port_sound : (port : Option ℕ) → IsSomePort port → AreSound (optional_number 3 port)
some_port_sound None good = tt
some_port_sound (Some port) good = sound_number 3 port (lit< tt) (port_small port good)

redirect_sound : (scheme host : Option (List ℕ)) (port : Option ℕ) (status : ℕ) → IsLawfulRedirect scheme host port status → AreSound (redirect_records scheme host port status)
unfolding redirect_records
redirect_sound scheme host port status good =
    sound_both (optional_text 1 scheme) (optional_text 2 host ++ (optional_number 3 port ++ number_field 4 status)) (sound_some_text 1 scheme (lit< tt) good.scheme_text)
    (sound_both (optional_text 2 host) (optional_number 3 port ++ number_field 4 status) (sound_some_text 2 host (lit< tt) good.host_text)
    (sound_both (optional_number 3 port) (number_field 4 status) (some_port_sound port good.port_number) (sound_number 4 status (lit< tt) (port_small status good.status_number))))

filter_sound : (filter : Filter) → IsLawfulFilter filter → AreSound (filter_records filter)
unfolding filter_records
filter_sound (Headers add set remove) good = (sound_inside 1 (headers_records add set remove) (lit< tt) (headers_sound add set remove good), tt)
filter_sound (Redirect scheme host port status) good = (sound_inside 2 (redirect_records scheme host port status) (lit< tt) (redirect_sound scheme host port status good), tt)

-- ---- rules

pub duration_sound : (nanoseconds : ℕ) → nanoseconds < 2 ^ 63 → AreSound (duration_records nanoseconds)
unfolding duration_records
duration_sound n short =
    let bound : 2 ^ 63 < 2 ^ 64 = lit< tt in
    let more : 1000000000 < 2 ^ 64 = lit< tt in
    sound_both (number_field 1 (n / 1000000000)) (number_field 2 (n % 1000000000)) (sound_number 1 (n / 1000000000) (lit< tt) (omega (arith, short, bound))) (sound_number 2 (n % 1000000000) (lit< tt) (omega (arith, more)))

pub timeout_sound : (field : ℕ) (time : Option ℕ) → field < 16 → IsShort time → AreSound (optional_field field duration_records time)
timeout_sound field None low short = tt
timeout_sound field (Some n) low short = (sound_inside field (duration_records n) low (duration_sound n short), tt)

backend_sound : (backend : BackendRow) → IsSendableBackend backend → AreSound (backend_records backend)
unfolding backend_records
backend_sound b good =
    sound_both (text_field 1 b.ns) (text_field 2 b.name ++ (number_field 3 b.port ++ (number_field 4 b.weight ++ bool_field 5 b.missing))) (sound_text 1 b.ns (lit< tt) good.ns)
    (sound_both (text_field 2 b.name) (number_field 3 b.port ++ (number_field 4 b.weight ++ bool_field 5 b.missing)) (sound_text 2 b.name (lit< tt) good.name)
    (sound_both (number_field 3 b.port) (number_field 4 b.weight ++ bool_field 5 b.missing) (sound_number 3 b.port (lit< tt) (port_small b.port good.port))
    (sound_both (number_field 4 b.weight) (bool_field 5 b.missing) (sound_number 4 b.weight (lit< tt) (weight_small b.weight good.weight)) (sound_bool 5 b.missing (lit< tt)))))

rule_sound : (rule : RuleRow) → IsSendableRule rule → AreSound (rule_records rule)
unfolding rule_records
rule_sound rule good =
    let times = optional_field 4 duration_records rule.request_timeout ++ optional_field 5 duration_records rule.backend_timeout in
    sound_both (each_field 1 match_records rule.matches) (each_field 2 filter_records rule.filters ++ (each_field 3 backend_records rule.backends ++ times))
    (sound_each 1 IsLawfulMatch match_records (lit< tt) match_sound rule.matches good.matches)
    (sound_both (each_field 2 filter_records rule.filters) (each_field 3 backend_records rule.backends ++ times) (sound_each 2 IsLawfulFilter filter_records (lit< tt) filter_sound rule.filters good.filters)
    (sound_both (each_field 3 backend_records rule.backends) times (sound_each 3 IsSendableBackend backend_records (lit< tt) backend_sound rule.backends good.backends)
    (sound_both (optional_field 4 duration_records rule.request_timeout) (optional_field 5 duration_records rule.backend_timeout)
    (timeout_sound 4 rule.request_timeout (lit< tt) good.request) (timeout_sound 5 rule.backend_timeout (lit< tt) good.backend))))

-- ---- routes

route_kind_sound : (kind : Kind) → IsRouteKind kind → AreSound (number_field 1 (route_number kind))
route_kind_sound LinkerdRoute good = sound_number 1 1 (lit< tt) (lit< tt)
route_kind_sound GatewayRoute good = sound_number 1 2 (lit< tt) (lit< tt)
route_kind_sound _ good = absurd good

pub route_sound : (route : RouteRow) → IsSendableRoute route → AreSound (http_route_records route)
unfolding http_route_records
route_sound route good =
    let authz = each_field 6 authz_records route.authz in
    let rules = each_field 5 rule_records route.rules ++ authz in
    sound_both (number_field 1 (route_number route.kind)) (text_field 2 route.name ++ (optional_text 3 route.created ++ (texts_field 4 route.hosts ++ rules))) (route_kind_sound route.kind good.kind)
    (sound_both (text_field 2 route.name) (optional_text 3 route.created ++ (texts_field 4 route.hosts ++ rules)) (sound_text 2 route.name (lit< tt) good.name)
    (sound_both (optional_text 3 route.created) (texts_field 4 route.hosts ++ rules) (sound_some_text 3 route.created (lit< tt) good.created_text)
    (sound_both (texts_field 4 route.hosts) rules (sound_texts 4 route.hosts (lit< tt) good.hosts)
    (sound_both (each_field 5 rule_records route.rules) authz (sound_each 5 IsSendableRule rule_records (lit< tt) rule_sound route.rules good.rules)
    (sound_each 6 IsSendableAuthz authz_records (lit< tt) authz_sound route.authz good.authz)))))
