-- The calls that a turn of a server makes on its links, and their order.
use Rattle.std.specs.Prelude.{◌≡◌, ◌⊎◌, ◌<◌, ◌^◌, ℕ, Bool, true, false, List, [], ◌∷◌, ◌++◌, Option, Some, None, Result, Ok, Err}
use Rattle.mesh_base.specs.declared.memory.Memory.{Memory}
use Rattle.mesh_links.specs.Counts.{NoneFalls}
use Rattle.mesh_links.specs.declared.call.LinkCall.{LinkCall}
use Rattle.mesh_links.specs.declared.call.LinkCall.TheVariants as calls
use Rattle.mesh_links.specs.declared.call.LinkEvent.{LinkEvent}
use Rattle.mesh_links.specs.declared.call.ReadGot.{ReadGot}
use Rattle.mesh_links.specs.declared.call.WriteGot.{WriteGot}
use Rattle.mesh_links.specs.declared.links.Links.{Ghosts}
use Rattle.serve_rules.specs.Turns.{room}
use Rattle.serve_core.specs.declared.serve.ServeStatus.{ServeStatus}
use Rattle.serve_core.specs.declared.serve.ServeStatus.TheVariants as statuses
use Rattle.serve_core.specs.declared.server.ServeFault.{ServeFault}
use Rattle.serve_core.specs.declared.server.ServeFault.TheVariants as faults
use Rattle.serve_core.specs.declared.server.Turn.{Turn}
use Rattle.serve_core.specs.declared.server.Turn.TheVariants as turns
use Rattle.serve_core.specs.declared.turning.Pass.{Pass}
use Rattle.serve_core.specs.declared.turning.Pass.TheVariants as passes

-- a property of a list of calls
abbrev pub Shape : Type 1
Shape = List LinkCall → Type 0

pub record Growth (shape : Shape) (trace : List LinkCall) (trace_now : Option (List LinkCall)) : Type 0 where
  pub made : List LinkCall
  pub grew : trace_now ≡ Some (trace ++ made)
  pub is : shape made

-- if the trace was known before, it is known now, and grew by such calls
abbrev pub Grows : Shape → Option (List LinkCall) → Option (List LinkCall) → Type 0
Grows shape old new = (trace : List LinkCall) → old ≡ Some trace → Growth shape trace new

-- Such calls were made, and no count decreased.
pub record Calls {S : Type 0} (N : Ghosts S) (shape : Shape) (old new : S) : Type 0 where
  pub grows : Grows shape (N.trace old) (N.trace new)
  pub counts : NoneFalls (N.counts old) (N.counts new)

-- the calls of the first, and then those of the second
abbrev pub Then : Shape → Shape → Shape
Then first second made = (before : List LinkCall) × (after : List LinkCall) × (made ≡ before ++ after) × first before × second after

abbrev pub Nothing : Shape
Nothing made = made ≡ []

abbrev pub One : LinkCall → Shape
One call made = made ≡ call ∷ []

-- ---- one link

-- no call, or a close of the link
abbrev pub MayClose : ℕ → Shape
MayClose link made = Nothing made ⊎ One (calls.Close link) made

-- a read into a buffer of 16,384 bytes
abbrev pub IsRead : ℕ → Shape
IsRead link made = (got : ReadGot) × One (calls.Read link room got) made

abbrev pub IsWrite : ℕ → Shape
IsWrite link made = (piece : List ℕ) × (got : WriteGot) × One (calls.Write link piece got) made

-- The calls of a pass on one link. A close comes directly after its cause. If memory runs out, there may be no call.
abbrev pub Visit : Pass → ℕ → Shape
Visit passes.Reads link made = Nothing made ⊎ Then (IsRead link) (MayClose link) made
Visit passes.Drains link made = MayClose link made
Visit passes.Writes link made = Nothing made ⊎ Then (IsWrite link) (MayClose link) made

-- ---- each link

-- Links below this number are visited in the order of their numbers, each once. Numbers and calls are given with the last first.
abbrev pub Visits : (ℕ → Shape) → ℕ → List (ℕ × List LinkCall) → Shape
Visits visit below [] made = Nothing made
Visits visit below (last ∷ before) made = (last.0 < below) × visit last.0 last.1 × (earlier : List LinkCall) × (made ≡ earlier ++ last.1) × Visits visit last.0 before earlier

abbrev pub VisitsBelow : (ℕ → Shape) → ℕ → Shape
VisitsBelow visit below made = (visits : List (ℕ × List LinkCall)) × Visits visit below visits made

-- each link is visited at most once
abbrev pub Each : (ℕ → Shape) → Shape
Each visit = VisitsBelow visit (2 ^ 32)

-- ---- a turn

-- closes of new links
abbrev pub AllCloses : Shape
AllCloses [] = Unit {0}
AllCloses (call ∷ more) = ((link : ℕ) × (call ≡ calls.Close link)) × AllCloses more

-- the reads, the drains and the writes
abbrev pub PassesOver : Shape
PassesOver = Then (Each (Visit passes.Reads)) (Then (Each (Visit passes.Drains)) (Each (Visit passes.Writes)))

-- the links are closed after a `stop`
abbrev pub ClosesBy : Result Turn Memory → Shape
ClosesBy (Ok turns.Going) = Nothing
ClosesBy (Ok turns.Stopped) = Each MayClose
ClosesBy (Err memory) = Nothing

-- closes of new links above the limit, then the reads, drains and writes, then the closes of a `stop`
abbrev pub AfterPoll : Result Turn Memory → Shape
AfterPoll ended = Then AllCloses (Then PassesOver (ClosesBy ended))

abbrev pub Polls : Option (List LinkEvent) → Shape
Polls shown made = (wait : Bool) × One (calls.Poll wait shown) made

-- a poll and what follows it
abbrev pub IsTurn : Result Turn Memory → Shape
IsTurn ended made = (shown : List LinkEvent) × Then (Polls (Some shown)) (AfterPoll ended) made

-- The calls of a turn by its result: one poll, which failed, if the result is Links, and the first calls of a turn if memory ran out.
abbrev pub TurnShape : Result Turn ServeFault → Shape
TurnShape (Ok turn) = IsTurn (Ok turn)
TurnShape (Err faults.Links) = Polls None
TurnShape (Err faults.Memory) = λ made. Nothing made ⊎ IsTurn (Err (record {})) made

abbrev pub PollShape : Result (List LinkEvent) ServeFault → Shape
PollShape (Ok shown) = Polls (Some shown)
PollShape (Err faults.Links) = Polls None
PollShape (Err faults.Memory) = Nothing

abbrev pub is_spent_by : Result Turn ServeFault → Bool
is_spent_by (Ok turn) = false
is_spent_by (Err faults.Links) = false
is_spent_by (Err faults.Memory) = true

-- the result of a turn by whether a `stop` line was accepted in it
abbrev pub turn_by : Bool → Turn
turn_by false = turns.Going
turn_by true = turns.Stopped

-- ---- turns

-- turns that returned Going, the last one first
abbrev pub GoingTurns : List (List LinkCall) → Shape
GoingTurns [] made = Nothing made
GoingTurns (turn ∷ before) made = IsTurn (Ok turns.Going) turn × (earlier : List LinkCall) × (made ≡ earlier ++ turn) × GoingTurns before earlier

abbrev pub AllGoing : Shape
AllGoing made = (turns : List (List LinkCall)) × GoingTurns turns made

-- the result of the last turn
abbrev pub last_answer : ServeStatus → Result Turn ServeFault
last_answer statuses.Stopped = Ok turns.Stopped
last_answer statuses.Memory = Err faults.Memory
last_answer statuses.LinksFault = Err faults.Links

-- turns that returned Going, and then the last one
abbrev pub RunShape : ServeStatus → Shape
RunShape status = Then AllGoing (TurnShape (last_answer status))
