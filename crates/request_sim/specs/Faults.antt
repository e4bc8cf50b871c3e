-- The possible results of a simulation, and the law that a decision on a view is the verdict of the written policy.
use Rattle.std.specs.Prelude.{◌≡◌, ◌≤◌, ◌+◌, ℕ, true, List, Option, Some, Result, Ok, Err, length, map}
use Rattle.std.specs.List.{slice_get}
use Rattle.net_cidr.specs.Texts.{FitsIp}
use Rattle.view_types.specs.Objects.{AtKeys, ObjectMap}
use Rattle.view_types.specs.declared.config.Config.{Config}
use Rattle.view_types.specs.declared.request.HttpRequest.{HttpRequest}
use Rattle.view_types.specs.declared.request.Request.{Request}
use Rattle.view_types.specs.declared.server_view.RouteRow.{RouteRow}
use Rattle.view_types.specs.declared.server_view.ServerRow.{ServerRow}
use Rattle.view_types.specs.declared.server_view.ServerView.{ServerView}
use Rattle.view_types.specs.declared.server_view.ServerView.TheVariants.{Absent, Present}
use Rattle.view_types.specs.declared.verdict.Verdict.{Verdict}
use Rattle.view_rules.specs.Inbound.{inbound}
use Rattle.route_match.specs.Asking.{PatternFacts}
use Rattle.route_match.specs.Faults.{NamesMatch}
use Rattle.route_match.specs.Matching.{Pat, row_shape}
use Rattle.request_rules.specs.Meeting.{MayMeet, route_text}
use Rattle.request_rules.specs.Verdicts.{asks_routes, verdict}
use Rattle.request_sim.specs.Decision.{decision}
use Rattle.request_sim.specs.declared.fault.SimFault.{SimFault}
use Rattle.request_sim.specs.declared.fault.SimFault.TheVariants.{Memory, Pattern}

-- the simulation met a regular expression that is refused
abbrev pub MetPattern : {T : Type 0} → Result T SimFault → Type 0
MetPattern (Err (Pattern route rule item)) = Unit {0}
MetPattern (Err Memory) = ⊥
MetPattern (Ok value) = ⊥

-- the fault names a match that the request may meet
abbrev pub IsMet : ObjectMap → PatternFacts → Request → SimFault → Type 0
IsMet held facts request (Pattern route rule item) = MayMeet held facts request route rule item
IsMet held facts request Memory = ⊥

-- The text names a route of the namespace that is one of these rows, and its match at these indexes uses a regular expression that is
-- refused.
pub record NamesRow (facts : PatternFacts) (ns : List ℕ) (routes : List RouteRow) (http : HttpRequest) (text : List ℕ) (rule item : ℕ) : Type 0 where
  pub place : ℕ
  pub row : RouteRow
  pub row_is : slice_get routes place ≡ Some row
  pub text_is : text ≡ route_text ns row.name
  pub named : NamesMatch facts http (map row_shape routes) place rule item

-- the fault names a match of these rows, or memory ran out
abbrev pub IsOfRows : PatternFacts → List ℕ → List RouteRow → HttpRequest → SimFault → Type 0
IsOfRows facts ns routes http (Pattern route rule item) = NamesRow facts ns routes http route rule item
IsOfRows facts ns routes http Memory = Unit {0}

-- The same, if the request is HTTP and routes are used with the protocol of the port.
pub record NamesCounted (facts : PatternFacts) (ns : List ℕ) (server : ServerRow) (http : Option HttpRequest) (text : List ℕ) (rule item : ℕ) : Type 0 where
  pub protocol_asks : asks_routes server.protocol ≡ true
  pub asked : HttpRequest
  pub http_is : http ≡ Some asked
  pub names : NamesRow facts ns server.routes asked text rule item

abbrev pub IsOfServer : PatternFacts → List ℕ → ServerRow → Option HttpRequest → SimFault → Type 0
IsOfServer facts ns server http (Pattern route rule item) = NamesCounted facts ns server http route rule item
IsOfServer facts ns server http Memory = Unit {0}

abbrev pub IsOfView : PatternFacts → Request → ServerView → SimFault → Type 0
IsOfView facts request Absent fault = ⊥
IsOfView facts request (Present server) fault = IsOfServer facts request.ns server request.http fault

-- The result of a simulation over these objects: the verdict, if it is known which patterns match; or a fault.
abbrev pub Simulated : Config → ObjectMap → PatternFacts → Request → Result Verdict SimFault → Type 0
Simulated config held facts request (Ok found) = (pat : Pat) → facts.tells ≡ Some pat → found ≡ verdict config held pat request
Simulated config held facts request (Err (Pattern route rule item)) = MayMeet held facts request route rule item
Simulated config held facts request (Err Memory) = Unit {0}

-- a string of this length and capacity has room to append the name of any of these rows
abbrev pub HasRoomFor : List RouteRow → ℕ → ℕ → Type 0
HasRoomFor routes len capacity = (k : ℕ) (row : RouteRow) → slice_get routes k ≡ Some row → len + length row.name ≤ capacity

-- the decision on a view is the verdict over any objects that have this view
abbrev pub DecisionsAreVerdicts : Type 0
DecisionsAreVerdicts = (config : Config) (held : ObjectMap) → AtKeys held → (pat : Pat) (request : Request) → FitsIp request.client
    → decision config pat request (inbound config held request.ns request.pod request.port) ≡ verdict config held pat request
