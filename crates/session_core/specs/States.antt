-- The state that a session keeps in place of the bytes of its input.
use Rattle.std.specs.Prelude.{◌≡◌, ◌<◌, ℕ, true, false, List, [], ◌∷◌, ◌++◌, length, Option, Result, Ok, Err}
use Rattle.line_run.specs.Rows.{NoBreak, rows_of}
use Rattle.mesh_base.specs.declared.limits.Limits.{Limits}
use Rattle.proto_wire.specs.Frames.{head_of}
use Rattle.proto_wire.specs.Unframing.{Held}
use Rattle.view_types.specs.declared.config.Config.{Config}
use Rattle.view_types.specs.declared.query.Method.{Method}
use Rattle.view_types.specs.declared.query.Query.{Query}
use Rattle.session_core.specs.Feeds.{FeedPart}
use Rattle.session_core.specs.Lines.{rows_so_far}
use Rattle.session_core.specs.Pieces.{line_asks, Given, asks_so_far}
use Rattle.session_core.specs.Phases.{Phase, Feeding, Asking, Asked, path_bound, asked_in, phase_behind, phase_of}
use Rattle.session_core.specs.declared.session.Ask.{Ask}
use Rattle.session_core.specs.declared.session.Ask.TheVariants as asks
use Rattle.session_core.specs.declared.session.Path.{Path}
use Rattle.session_core.specs.declared.session.SessionFault.{SessionFault}
use Rattle.session_core.specs.declared.session.SessionFault.TheVariants as faults
use Rattle.session_core.specs.declared.state.State.{State}
use Rattle.session_core.specs.declared.state.State.TheVariants as states
use Rattle.session_core.specs.declared.state.Step.{Step}

-- This is the fault, unless memory ran out.
abbrev pub IsFault : {A : Type 0} → SessionFault → Result A SessionFault → Type 0
IsFault faults.Memory found = Unit {0}
IsFault faults.BadPath found = found ≡ Err faults.BadPath
IsFault (faults.Proto fault) found = found ≡ Err (faults.Proto fault)
IsFault faults.Extra found = found ≡ Err faults.Extra

-- ---- the contents of each state

-- all bytes so far
pub record Opens (part : List ℕ) (given : Given) : Type 0 where
  pub live : given.ended ≡ false
  pub bytes : given.bytes ≡ part
  pub short : length part < path_bound
  pub line : NoBreak part

-- the incomplete line of a feed, and the number of its complete lines
pub record Cuts (limit : ℕ) (text : List ℕ) (feed : FeedPart) : Type 0 where
  pub lines : feed.lines ≡ length (rows_so_far limit false text)
  pub cut : (more : List ℕ) → rows_of limit (text ++ more) ≡ rows_so_far limit false text ++ rows_of limit (feed.part ++ more)

pub record Feeds (config : Config) (limits : Limits) (feed : FeedPart) (given : Given) : Type 0 where
  pub live : given.ended ≡ false
  pub text : List ℕ
  pub phase : phase_of config limits given.bytes ≡ Ok (Feeding text)
  pub cuts : Cuts limits.line text feed

-- the bytes of the request
pub record Asks (config : Config) (limits : Limits) (method : Method) (frames : Held) (given : Given) : Type 0 where
  pub live : given.ended ≡ false
  pub rest : List ℕ
  pub held : frames.part ≡ Ok rest
  pub limit : frames.limit ≡ limits.request
  pub phase : phase_of config limits given.bytes ≡ Ok Asking
  pub asks : (more : List ℕ) → phase_of config limits (given.bytes ++ more) ≡ asked_in config method (head_of limits.request (rest ++ more))

pub record HasAsked (config : Config) (limits : Limits) (given : Given) : Type 0 where
  pub live : given.ended ≡ false
  pub query : Query
  pub phase : phase_of config limits given.bytes ≡ Ok (Asked query)

pub record HasEnded (config : Config) (limits : Limits) (given : Given) : Type 0 where
  pub ended : given.ended ≡ true
  pub last : Phase
  pub phase : phase_of config limits given.bytes ≡ Ok last

-- This is the state after what was passed.
abbrev pub Keeps : Config → Limits → State → Given → Type 0
Keeps config limits (states.Opening part) given = Opens part given
Keeps config limits (states.Feeding feed) given = Feeds config limits feed given
Keeps config limits (states.Asking method frames) given = Asks config limits method frames given
Keeps config limits states.Asked given = HasAsked config limits given
Keeps config limits states.Ended given = HasEnded config limits given
Keeps config limits (states.Fault fault) given = IsFault fault (phase_of config limits given.bytes)

-- ---- the effect of a piece

-- What is passed next adds these requests.
pub record Adds (config : Config) (limits : Limits) (given next : Given) (added : List Ask) : Type 0 where
  pub before : List Ask
  pub was : asks_so_far config limits given ≡ Ok before
  pub now : asks_so_far config limits next ≡ Ok (before ++ added)

pub record Goes (config : Config) (limits : Limits) (given next : Given) (step : Step) : Type 0 where
  pub adds : Adds config limits given next step.asks
  pub keeps : Keeps config limits step.state next

-- A piece leads from what was passed to what is passed next: by a step, or with the fault.
abbrev pub Steps : Config → Limits → Given → Given → Result Step SessionFault → Type 0
Steps config limits given next (Ok step) = Goes config limits given next step
Steps config limits given next (Err fault) = IsFault fault (phase_of config limits next.bytes)

-- The bytes of a request continue with these.
pub record ToRequest (config : Config) (limits : Limits) (given next : Given) (method : Method) (rest : List ℕ) : Type 0 where
  pub none : asks_so_far config limits given ≡ Ok []
  pub live : next.ended ≡ false
  pub asks : (more : List ℕ) → phase_of config limits (next.bytes ++ more) ≡ asked_in config method (head_of limits.request (rest ++ more))

-- All bytes so far are the path line and these bytes after it.
pub record Begins (config : Config) (limits : Limits) (given next : Given) (path : Option Path) (rest : List ℕ) : Type 0 where
  pub none : asks_so_far config limits given ≡ Ok []
  pub live : next.ended ≡ false
  pub phase : (more : List ℕ) → phase_of config limits (next.bytes ++ more) ≡ phase_behind config limits path (rest ++ more)

-- The text of a feed continues with the piece, of which these lines are requested already.
pub record ToFeed (config : Config) (limits : Limits) (given next : Given) (text piece : List ℕ) (asked : List Ask) : Type 0 where
  pub live : next.ended ≡ false
  pub before : List Ask
  pub was : asks_so_far config limits given ≡ Ok before
  pub asks : before ++ asked ≡ asks.FeedBegins ∷ line_asks 0 (rows_so_far limits.line false text)
  pub phase : phase_of config limits next.bytes ≡ Ok (Feeding (text ++ piece))

-- ---- answers

-- This is the answer, unless memory ran out.
abbrev pub Answers : Result (List Ask) SessionFault → Result (List Ask) SessionFault → Type 0
Answers (Ok asked) answer = answer ≡ Ok asked
Answers (Err fault) answer = IsFault fault answer
