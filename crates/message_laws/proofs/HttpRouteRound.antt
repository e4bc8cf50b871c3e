-- What is written of a route in a policy is read back.
use Rattle.std.proofs.Common.{◌≡◌, ◌^◌, ◌<◌, ◌≤◌, ◌==◌, false, List, [], ◌∷◌, length, None, refl, arith, lit<, lit≤}
use Rattle.mesh_base.specs.declared.key.Kind.{Kind}
use Rattle.mesh_base.specs.declared.key.Kind.TheVariants.{LinkerdRoute, GatewayRoute}
use Rattle.view_types.specs.Lawful.{IsLawfulFilter, IsLawfulMatch}
use Rattle.view_types.specs.declared.server_view.BackendRow.{BackendRow}
use Rattle.view_types.specs.declared.server_view.RouteRow.{RouteRow}
use Rattle.view_types.specs.declared.server_view.RuleRow.{RuleRow}
use Rattle.proto_wire.specs.Wire.{spelling}
use Rattle.proxy_proto.specs.declared.table.Schema.TheVariants as schemas
use Rattle.proxy_proto.specs.AuthorizationReading.{authz_in}
use Rattle.proxy_proto.specs.Authorizations.{authz_records}
use Rattle.proxy_proto.specs.Faults.{end_fault}
use Rattle.proxy_proto.specs.FieldRecords.{number_field, bool_field, text_field, optional_text, optional_field, texts_field, each_field}
use Rattle.proxy_proto.specs.ProfileReading.{duration_in}
use Rattle.proxy_proto.specs.Profiles.{duration_records}
use Rattle.proxy_proto.specs.RouteReading.{backend_in, filter_in, http_route_in, match_in, route_kind, rule_in}
use Rattle.proxy_proto.specs.Routes.{backend_records, filter_records, http_route_records, match_records, route_number, rule_records}
use Rattle.proxy_proto.specs.Sendable.{IsRouteKind, IsSendableAuthz, IsSendableBackend, IsSendableRoute, IsSendableRule}
use Rattle.proxy_proto.specs.Tables.{fields_of}
use Rattle.message_laws.proofs.AuthorizationRound.{authz_comes}
use Rattle.message_laws.proofs.Coming.{each_comes}
use Rattle.message_laws.proofs.FieldBlocks.{AllWritten, FieldBlock, block, laid, laid_comes}
use Rattle.message_laws.proofs.HttpMatchRound.{filter_comes, match_comes}
use Rattle.message_laws.proofs.RouteRound.{timeout_comes}
use Rattle.message_laws.proofs.WrittenFields.{ComesIfShort, EachComes, OptionalComes, below_read, each_read, each_written, flag_read, flag_written, number_read, number_written, optional_read, optional_text_read, optional_text_written, optional_written, text_read, text_written, texts_read, texts_written}

-- ---- a backend

abbrev backend_blocks : BackendRow → List FieldBlock
backend_blocks b =
    block 1 (text_field 1 b.ns)
    ∷ block 2 (text_field 2 b.name)
    ∷ block 3 (number_field 3 b.port)
    ∷ block 4 (number_field 4 b.weight)
    ∷ block 5 (bool_field 5 b.missing)
    ∷ []

backend_laid : (b : BackendRow) → backend_records b ≡ laid (backend_blocks b)
unfolding backend_records laid
backend_laid b = refl

backend_written : (b : BackendRow) → IsSendableBackend b → AllWritten schemas.Backend (backend_blocks b)
backend_written b fits =
    let port = fits.port in
    let weight = fits.weight in (
      text_written schemas.Backend 1 b.ns (lit< tt, lit< tt) refl fits.ns,
      (
        text_written schemas.Backend 2 b.name (lit< tt, lit< tt) refl fits.name,
        (
          number_written schemas.Backend 3 65535 b.port (lit< tt, lit< tt) refl (omega arith) (lit< tt),
          (
            number_written schemas.Backend 4 4294967295 b.weight (lit< tt, lit< tt) refl (omega arith) (lit< tt),
            (flag_written schemas.Backend 5 b.missing (lit< tt, lit< tt) refl, tt),
          ),
        ),
      ),
    )

backend_back : (b : BackendRow) → IsSendableBackend b → backend_in (laid (backend_blocks b)) ≡ b
unfolding backend_in
backend_back b fits =
    let s = schemas.Backend in
    let bs = backend_blocks b in
    let w = backend_written b fits in
    rw (text_read s bs w 1 b.ns refl fits.ns, text_read s bs w 2 b.name refl fits.name, below_read s bs w 65536 3 b.port refl fits.port, below_read s bs w 4294967296 4 b.weight refl fits.weight, flag_read s bs w 5 b.missing refl) refl

backend_comes : (b : BackendRow) → IsSendableBackend b → ComesIfShort schemas.Backend backend_in (backend_records b) b
backend_comes b fits = rw (backend_laid b) (λ short. laid_comes schemas.Backend backend_in (backend_blocks b) b (backend_written b fits) refl refl (backend_back b fits) short)

-- ---- a rule

abbrev rule_blocks : RuleRow → List FieldBlock
rule_blocks rule =
    block 1 (each_field 1 match_records rule.matches)
    ∷ block 2 (each_field 2 filter_records rule.filters)
    ∷ block 3 (each_field 3 backend_records rule.backends)
    ∷ block 4 (optional_field 4 duration_records rule.request_timeout)
    ∷ block 5 (optional_field 5 duration_records rule.backend_timeout)
    ∷ []

rule_laid : (rule : RuleRow) → rule_records rule ≡ laid (rule_blocks rule)
unfolding rule_records laid
rule_laid rule = refl

record RuleParts (rule : RuleRow) : Type 0 where
  matches : EachComes 1 schemas.HttpMatch match_in match_records rule.matches
  filters : EachComes 2 schemas.Filter filter_in filter_records rule.filters
  backends : EachComes 3 schemas.Backend backend_in backend_records rule.backends
  request : OptionalComes 4 schemas.Duration duration_in duration_records rule.request_timeout
  backend : OptionalComes 5 schemas.Duration duration_in duration_records rule.backend_timeout

rule_parts : (rule : RuleRow) → IsSendableRule rule → RuleParts rule
rule_parts rule fits = record {
  matches = each_comes 1 schemas.HttpMatch match_in match_records IsLawfulMatch rule.matches match_comes fits.matches;
  filters = each_comes 2 schemas.Filter filter_in filter_records IsLawfulFilter rule.filters filter_comes fits.filters;
  backends = each_comes 3 schemas.Backend backend_in backend_records IsSendableBackend rule.backends backend_comes fits.backends;
  request = timeout_comes 4 rule.request_timeout fits.request;
  backend = timeout_comes 5 rule.backend_timeout fits.backend;
}

rule_written : (rule : RuleRow) → RuleParts rule → AllWritten schemas.RouteRule (rule_blocks rule)
rule_written rule parts = (
  each_written schemas.RouteRule 1 schemas.HttpMatch match_in match_records rule.matches (lit< tt, lit< tt) refl parts.matches,
  (
    each_written schemas.RouteRule 2 schemas.Filter filter_in filter_records rule.filters (lit< tt, lit< tt) refl parts.filters,
    (
      each_written schemas.RouteRule 3 schemas.Backend backend_in backend_records rule.backends (lit< tt, lit< tt) refl parts.backends,
      (
        optional_written schemas.RouteRule 4 schemas.Duration duration_in duration_records rule.request_timeout (lit< tt, lit< tt) refl parts.request,
        (optional_written schemas.RouteRule 5 schemas.Duration duration_in duration_records rule.backend_timeout (lit< tt, lit< tt) refl parts.backend, tt),
      ),
    ),
  ),
)

rule_back : (rule : RuleRow) → RuleParts rule → length (spelling (laid (rule_blocks rule))) < 2 ^ 64 → rule_in (laid (rule_blocks rule)) ≡ rule
unfolding rule_in
rule_back rule parts short =
    let s = schemas.RouteRule in
    let bs = rule_blocks rule in
    let w = rule_written rule parts in
    let matches = each_read s bs w 1 schemas.HttpMatch match_in match_records rule.matches refl parts.matches short in
    let filters = each_read s bs w 2 schemas.Filter filter_in filter_records rule.filters refl parts.filters short in
    let backends = each_read s bs w 3 schemas.Backend backend_in backend_records rule.backends refl parts.backends short in
    let request = optional_read s bs w 4 schemas.Duration duration_in duration_records rule.request_timeout refl parts.request short in
    let backend = optional_read s bs w 5 schemas.Duration duration_in duration_records rule.backend_timeout refl parts.backend short in
    rw (matches, filters, backends, request, backend) refl

rule_comes : (rule : RuleRow) → IsSendableRule rule → ComesIfShort schemas.RouteRule rule_in (rule_records rule) rule
rule_comes rule fits =
    let parts = rule_parts rule fits in
    rw (rule_laid rule) (λ short. laid_comes schemas.RouteRule rule_in (rule_blocks rule) rule (rule_written rule parts) refl refl (rule_back rule parts short) short)

-- ---- a route

abbrev route_blocks : RouteRow → List FieldBlock
route_blocks route =
    block 1 (number_field 1 (route_number route.kind))
    ∷ block 2 (text_field 2 route.name)
    ∷ block 3 (optional_text 3 route.created)
    ∷ block 4 (texts_field 4 route.hosts)
    ∷ block 5 (each_field 5 rule_records route.rules)
    ∷ block 6 (each_field 6 authz_records route.authz)
    ∷ []

route_laid : (route : RouteRow) → http_route_records route ≡ laid (route_blocks route)
unfolding http_route_records laid
route_laid route = refl

-- the number of a kind of routes
record IsNumbered (kind : Kind) : Type 0 where
  most : route_number kind ≤ 2
  some : (route_number kind == 0) ≡ false
  back : route_kind (route_number kind) ≡ kind

numbered : (kind : Kind) → IsRouteKind kind → IsNumbered kind
numbered LinkerdRoute fits = record { most = lit≤ tt; some = refl; back = refl }
numbered GatewayRoute fits = record { most = lit≤ tt; some = refl; back = refl }
numbered _ fits = absurd fits

rules_come : (route : RouteRow) → IsSendableRoute route → EachComes 5 schemas.RouteRule rule_in rule_records route.rules
rules_come route fits = each_comes 5 schemas.RouteRule rule_in rule_records IsSendableRule route.rules rule_comes fits.rules

authz_come : (route : RouteRow) → IsSendableRoute route → EachComes 6 schemas.Authz authz_in authz_records route.authz
authz_come route fits = each_comes 6 schemas.Authz authz_in authz_records IsSendableAuthz route.authz authz_comes fits.authz

route_written : (route : RouteRow) → IsSendableRoute route → AllWritten schemas.HttpRoute (route_blocks route)
route_written route fits = (
  number_written schemas.HttpRoute 1 2 (route_number route.kind) (lit< tt, lit< tt) refl (numbered route.kind fits.kind).most (lit< tt),
  (
    text_written schemas.HttpRoute 2 route.name (lit< tt, lit< tt) refl fits.name,
    (
      optional_text_written schemas.HttpRoute 3 route.created (lit< tt, lit< tt) refl fits.created_text,
      (
        texts_written schemas.HttpRoute 4 route.hosts (lit< tt, lit< tt) refl fits.hosts,
        (
          each_written schemas.HttpRoute 5 schemas.RouteRule rule_in rule_records route.rules (lit< tt, lit< tt) refl (rules_come route fits),
          (each_written schemas.HttpRoute 6 schemas.Authz authz_in authz_records route.authz (lit< tt, lit< tt) refl (authz_come route fits), tt),
        ),
      ),
    ),
  ),
)

route_ends : (route : RouteRow) → IsSendableRoute route → end_fault schemas.HttpRoute (fields_of schemas.HttpRoute) (record { records = laid (route_blocks route); fault = None }) ≡ None
route_ends route fits =
    rw (number_read schemas.HttpRoute (route_blocks route) (route_written route fits) 1 (route_number route.kind) refl, (numbered route.kind fits.kind).some) refl

route_back : (route : RouteRow) → IsSendableRoute route → length (spelling (laid (route_blocks route))) < 2 ^ 64 → http_route_in (laid (route_blocks route)) ≡ route
unfolding http_route_in
route_back route fits short =
    let s = schemas.HttpRoute in
    let bs = route_blocks route in
    let w = route_written route fits in
    let kind = number_read s bs w 1 (route_number route.kind) refl in
    let name = text_read s bs w 2 route.name refl fits.name in
    let created = optional_text_read s bs w 3 route.created refl fits.created_text fits.created in
    let hosts = texts_read s bs w 4 route.hosts refl fits.hosts in
    let rules = each_read s bs w 5 schemas.RouteRule rule_in rule_records route.rules refl (rules_come route fits) short in
    let authz = each_read s bs w 6 schemas.Authz authz_in authz_records route.authz refl (authz_come route fits) short in
    rw (kind, (numbered route.kind fits.kind).back, name, created, hosts, rules, authz) refl

pub http_route_comes : (route : RouteRow) → IsSendableRoute route → ComesIfShort schemas.HttpRoute http_route_in (http_route_records route) route
http_route_comes route fits =
    rw (route_laid route) (λ short. laid_comes schemas.HttpRoute http_route_in (route_blocks route) route (route_written route fits) refl (route_ends route fits) (route_back route fits short) short)
