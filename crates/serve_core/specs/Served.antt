-- The state of a server, which represents the lines fed to it and its open links.
use Rattle.std.specs.Prelude.{◌≡◌, ◌≤◌, ◌<◌, ◌+◌, ◌^◌, ◌&&◌, not, ℕ, zero, suc, Bool, true, false, if◌then◌else◌, List, [], ◌∷◌, Option, Some, None, is_some, length}
use Rattle.std.specs.List.{sum_by}
use Rattle.mesh_base.specs.declared.limits.Limits.{Limits}
use Rattle.mesh_links.specs.Calls.{is_open_in, last_in}
use Rattle.mesh_links.specs.declared.call.LinkCall.{LinkCall}
use Rattle.view_types.specs.declared.config.Config.{Config}
use Rattle.view_types.specs.declared.query.Query.{Query}
use Rattle.route_match.specs.Matching.{Pat}
use Rattle.feed_history.specs.History.{after, reading_after}
use Rattle.feed_history.specs.Marks.{MarkedRow}
use Rattle.feed_history.specs.Program.{Program}
use Rattle.subscriptions.specs.Live.{LiveSubscription}
use Rattle.mesh_hub.specs.Due.{is_due as is_due_in}
use Rattle.mesh_hub.specs.Hub.{state_of}
use Rattle.serve_rules.specs.FedLines.{FedRow, serve_of}
use Rattle.serve_rules.specs.Batches.{Serving}
use Rattle.serve_rules.specs.Due.{IsPlaced}
use Rattle.serve_rules.specs.Hubs.{IsHubOf}
use Rattle.serve_rules.specs.LinkOrder.{AreBetween}
use Rattle.serve_rules.specs.LinkStates.{LinkState, is_due, query_of}
use Rattle.fed_hub.specs.LineSteps.{touches_by}
use Rattle.fed_hub.specs.declared.hub.FedHub.{FedHub}
use Rattle.serve_core.specs.Linked.{Keeps, KeepsBut}
use Rattle.serve_core.specs.declared.turning.Turning.{Turning}

-- A line touches a query if it is an accepted event, and the query read one of its marks before it.
abbrev pub touches_in : Program → Query → List MarkedRow → MarkedRow → Bool
touches_in program query past row = touches_by program (after program past) row.1 (reading_after program past row) (Some query)

abbrev pub serving_of : Config → Limits → Pat → Serving
serving_of config limits pat = record { program = serve_of config limits pat; touches = touches_in (serve_of config limits pat) }

-- ---- the server

-- For an open link: if it is a subscriber, the hub has its subscription due exactly if the link is due, under an accepted id, and the place
-- of its last drain is within what was fed. If it has not subscribed, it was not drained.
pub record IsServed (serving : Serving) (fed : List FedRow) (id_of : ℕ → ℕ) (hub : FedHub) (s : LinkState) : Type 0 where
  pub due : is_some (query_of serving s.bytes) ≡ true → is_due_in hub.hub (id_of s.number) ≡ is_due serving fed s
  pub given : is_some (query_of serving s.bytes) ≡ true → id_of s.number ≤ hub.requests
  pub placed : IsPlaced s.drained fed
  pub undrained : query_of serving s.bytes ≡ None → s.drained ≡ None

abbrev pub AreServed : Serving → List FedRow → (ℕ → ℕ) → FedHub → List LinkState → Type 0
AreServed serving fed id_of hub [] = Unit {0}
AreServed serving fed id_of hub (s ∷ links) = (s.is_open ≡ true → IsServed serving fed id_of hub s) × AreServed serving fed id_of hub links

-- the greatest accepted id is the number of accepted requests
abbrev pub last_of : ℕ → Option ℕ
last_of zero = None
last_of (suc n) = Some (suc n)

-- all ids are those of accepted requests
abbrev pub AreUpTo : ℕ → List LiveSubscription → Type 0
AreUpTo requests [] = Unit {0}
AreUpTo requests (sub ∷ subs) = (sub.id.0 ≤ requests) × AreUpTo requests subs

-- the subscriptions of the requests so far are within the limit
pub record AreUnder (requests limit : ℕ) (subs : List LiveSubscription) : Type 0 where
  pub few : length subs ≤ limit
  pub ids : AreUpTo requests subs

-- in the trace, each of these open links is open
abbrev pub AreShown : List LinkCall → List LinkState → Type 0
AreShown trace [] = Unit {0}
AreShown trace (s ∷ links) = (s.is_open ≡ true → is_open_in trace s.number ≡ true) × AreShown trace links

-- 1 if the link is open and has not subscribed
abbrev pub one_unasked : Serving → LinkState → ℕ
one_unasked serving s = if s.is_open && not (is_some (query_of serving s.bytes)) then 1 else 0

abbrev pub unasked : Serving → List LinkState → ℕ
unasked serving links = sum_by (one_unasked serving) links

-- The numbers of these links fit in 32 bits, and so do the numbers of all requests that may still be accepted.
pub record AreNumbered (requests : ℕ) (links : List LinkState) : Type 0 where
  pub last : ℕ
  pub between : AreBetween 0 links last
  pub few_requests : requests ≤ last
  pub less : last < 2 ^ 32

-- The rest of the state while memory lasts, besides the links. Each link subscribes at most once, so that no request lacks a number.
pub record IsNearly (config : Config) (limits : Limits) (pat : Pat) (fed : List FedRow) (links : List LinkState) (trace : List LinkCall) (id_of : ℕ → ℕ) (now : Turning) : Type 0 where
  pub config_is : now.config ≡ config
  pub line_config_is : now.hub.config ≡ config
  pub limits_are : now.limits ≡ limits
  pub in_order : AreBetween 0 links (last_in trace)
  pub shown : AreShown trace links
  pub few_requests : now.hub.requests + unasked (serving_of config limits pat) links ≤ last_in trace
  pub numbered : AreNumbered (now.hub.requests + unasked (serving_of config limits pat) links) links
  pub last_id : (state_of now.hub.hub).last ≡ last_of now.hub.requests
  pub few_subs : AreUnder now.hub.requests limits.subs (state_of now.hub.hub).subs
  pub hub : IsHubOf (serving_of config limits pat) fed links id_of (state_of now.hub.hub)
  pub served : AreServed (serving_of config limits pat) fed id_of now.hub links

-- While memory lasts, the state represents the lines fed and these links after this trace.
pub record IsAt (config : Config) (limits : Limits) (pat : Pat) (fed : List FedRow) (links : List LinkState) (trace : List LinkCall) (now : Turning) : Type 0 where
  pub id_of : ℕ → ℕ
  pub is : IsNearly config limits pat fed links trace id_of now
  pub keeps : Keeps (serving_of config limits pat) id_of links now.kept

-- the same while the link of one number is changed
pub record IsAtBut (config : Config) (limits : Limits) (pat : Pat) (fed : List FedRow) (number : ℕ) (links : List LinkState) (trace : List LinkCall) (now : Turning) : Type 0 where
  pub id_of : ℕ → ℕ
  pub is : IsNearly config limits pat fed links trace id_of now
  pub keeps : KeepsBut (serving_of config limits pat) id_of number links now.kept
