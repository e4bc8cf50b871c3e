-- The properties of each object and line that is read, which applying it requires.
use Rattle.std.specs.Prelude.{◌≡◌, ◌<◌, ℕ, List, Ok, IsUtf8}
use Rattle.std.specs.List.{AllByRecursion}
use Rattle.k8s_meta.specs.Given.{GivesOnly}
use Rattle.net_cidr.specs.Texts.{FitsIp}
use Rattle.mesh_base.specs.declared.key.Kind.{Kind}
use Rattle.mesh_base.specs.declared.limits.Limits.{Limits}
use Rattle.view_types.specs.Lawful.{IsLawful}
use Rattle.view_types.specs.Objects.{IsListOf, kind_of}
use Rattle.view_types.specs.declared.config.Config.{Config}
use Rattle.view_types.specs.declared.object.Object.{Object}
use Rattle.view_types.specs.declared.query.Query.{Query}
use Rattle.view_types.specs.declared.query.Query.TheVariants as queries
use Rattle.view_types.specs.declared.query.Target.{Target}
use Rattle.view_types.specs.declared.query.Target.TheVariants as targets
use Rattle.view_types.specs.declared.request.Request.{Request}
use Rattle.watch_events.specs.Lines.{line_of, text_line}
use Rattle.watch_events.specs.Objects.{object_at}
use Rattle.watch_events.specs.declared.event.Event.{Event}
use Rattle.watch_events.specs.declared.event.Event.TheVariants.{Set, Delete, Relist, Bookmark}
use Rattle.watch_events.specs.declared.line.Line.{Line}
use Rattle.watch_events.specs.declared.line.Line.TheVariants as lines

-- a lawful object of a kind
abbrev pub IsLawfulOf : Kind → Object → Type 0
IsLawfulOf kind o = IsLawful o × (kind_of o ≡ kind)

abbrev pub ObjectsAreLawful : Type 0
ObjectsAreLawful = (kind : Kind) → GivesOnly (IsLawfulOf kind) (object_at kind)

-- Its objects are lawful. Those of a list are of its kind, with distinct keys.
abbrev pub IsLawfulEvent : Event → Type 0
IsLawfulEvent (Set object) = IsLawful object
IsLawfulEvent (Delete key) = Unit {0}
IsLawfulEvent (Relist kind items) = IsListOf kind items × AllByRecursion IsLawful items
IsLawfulEvent Bookmark = Unit {0}

-- a port of a Service: its names are in UTF-8, and the port is within its type
pub record IsLawfulServicePort (ns name : List ℕ) (port : ℕ) : Type 0 where
  pub ns_text : IsUtf8 ns
  pub name_text : IsUtf8 name
  pub small : port < 65536

-- An address is within its type, too.
abbrev pub IsLawfulTarget : Target → Type 0
IsLawfulTarget (targets.Service ns name port) = IsLawfulServicePort ns name port
IsLawfulTarget (targets.Address ip port) = FitsIp ip × (port < 65536)

-- The parts of a query that occur in messages. A query for a port of a Pod has none.
abbrev pub IsLawfulQuery : Query → Type 0
IsLawfulQuery (queries.Profile target ctx) = IsLawfulTarget target
IsLawfulQuery (queries.Traffic target) = IsLawfulTarget target
IsLawfulQuery _ = Unit {0}

-- The client's address and the port of a simulation are within their types.
abbrev pub IsLawfulRequest : Request → Type 0
IsLawfulRequest request = FitsIp request.client × (request.port < 65536)

abbrev pub IsLawfulLine : Line → Type 0
IsLawfulLine (lines.Event event) = IsLawfulEvent event
IsLawfulLine (lines.Subscribe id query) = IsLawfulQuery query
IsLawfulLine (lines.Simulate request) = IsLawfulRequest request
IsLawfulLine _ = Unit {0}

-- each line that is read, both of any length and up to a limit
abbrev pub TextsAreLawful : Type 0
TextsAreLawful = (config : Config) (bytes : List ℕ) (line : Line) → text_line config bytes ≡ Ok line → IsLawfulLine line

abbrev pub LinesAreLawful : Type 0
LinesAreLawful = (config : Config) (limits : Limits) (bytes : List ℕ) (line : Line) → line_of config limits bytes ≡ Ok line → IsLawfulLine line
