-- The decision on a request from the inbound view of its port, with the rows of the view in place of the objects.
use Rattle.std.specs.Prelude.{◌&&◌, ℕ, Bool, true, false, if◌then◌else◌, List, [], ◌∷◌, Option, Some, None, find, map}
use Rattle.std.specs.List.{slice_get}
use Rattle.std.specs.Ordering.{is_gt}
use Rattle.view_types.specs.declared.config.Config.{Config}
use Rattle.view_types.specs.declared.request.HttpRequest.{HttpRequest}
use Rattle.view_types.specs.declared.request.Request.{Request}
use Rattle.view_types.specs.declared.server_view.AuthzRow.{AuthzRow}
use Rattle.view_types.specs.declared.server_view.RouteRow.{RouteRow}
use Rattle.view_types.specs.declared.server_view.ServerRow.{ServerRow}
use Rattle.view_types.specs.declared.server_view.ServerView.{ServerView}
use Rattle.view_types.specs.declared.server_view.ServerView.TheVariants.{Absent, Present}
use Rattle.view_types.specs.declared.verdict.Decider.{Decider}
use Rattle.view_types.specs.declared.verdict.Decider.TheVariants.{Authz}
use Rattle.view_types.specs.declared.verdict.Verdict.{Verdict}
use Rattle.view_types.specs.declared.verdict.Verdict.TheVariants.{Allowed, NotFound, NoWorkload}
use Rattle.view_rules.specs.AuthzOrder.{authz_cmp, authz_key}
use Rattle.route_match.specs.Matching.{Pat, best, row_shape}
use Rattle.route_match.specs.declared.best.Candidate.{Candidate}
use Rattle.request_rules.specs.Admits.{row_admits}
use Rattle.request_rules.specs.Verdicts.{asks_routes, by_paths, by_policy}

abbrev pub row_decider : AuthzRow → Decider
row_decider row = Authz row.kind row.name

-- the first row of a list that admits the client
abbrev pub first_admitting : Request → List AuthzRow → Option AuthzRow
first_admitting request rows = find (row_admits request.client request.tls) rows

-- the first of two rows by kind and name; of rows with the same kind and name, the first argument
abbrev pub lesser : Option AuthzRow → Option AuthzRow → Option AuthzRow
lesser None other = other
lesser (Some row) None = Some row
lesser (Some row) (Some other) = Some (if is_gt (authz_cmp (authz_key row) (authz_key other)) then other else row)

-- the verdict by a row that admits the client, or another verdict if there is no such row
abbrev pub by_row : Verdict → Option AuthzRow → Verdict
by_row otherwise None = otherwise
by_row otherwise (Some row) = Allowed (row_decider row)

-- by the rows of the Server alone, then by the probes and the policy
abbrev pub by_server : Config → Request → ServerRow → Verdict
by_server config request server = by_row (by_paths config request server.protocol server.policy server.probes) (first_admitting request server.authz)

-- by the rows of the Server and of the matched route, then by the policy
abbrev pub by_route : Config → Request → ServerRow → Option RouteRow → Verdict
by_route config request server None = NotFound
by_route config request server (Some route) =
    by_row (by_policy config request server.policy) (lesser (first_admitting request server.authz) (first_admitting request route.authz))

-- the indexes of a candidate's route, of its rule in the route, and of the match in the rule
abbrev pub places_of : Candidate → ℕ × ℕ × ℕ
places_of found = (found.route, found.rule, found.item)

abbrev pub route_at : List RouteRow → Option (ℕ × ℕ × ℕ) → Option RouteRow
route_at routes None = None
route_at routes (Some places) = slice_get routes places.0

abbrev pub route_found : List RouteRow → Option Candidate → Option RouteRow
route_found routes None = None
route_found routes (Some found) = slice_get routes found.route

abbrev pub has_rows : List RouteRow → Bool
has_rows [] = false
has_rows (row ∷ rows) = true

abbrev pub by_http : Config → Pat → Request → ServerRow → Option HttpRequest → Verdict
by_http config pat request server None = by_server config request server
by_http config pat request server (Some http) =
    if has_rows server.routes && asks_routes server.protocol
    then by_route config request server (route_found server.routes (best pat http (map row_shape server.routes)))
    else by_server config request server

abbrev pub decision : Config → Pat → Request → ServerView → Verdict
decision config pat request Absent = NoWorkload
decision config pat request (Present server) = by_http config pat request server request.http
