-- One turn, as a relation between the lines fed and the links before it, its calls, and the lines fed and the links after it.
use Rattle.std.specs.Prelude.{◌≡◌, ℕ, ◌==◌, Bool, true, false, ◌&&◌, ◌||◌, if◌then◌else◌, List, [], ◌∷◌, ◌++◌, map, Option, Some, None, nat_lt}
use Rattle.std.specs.List.{list_any}
use Rattle.mesh_links.specs.declared.call.LinkCall.{LinkCall}
use Rattle.mesh_links.specs.declared.call.LinkCall.TheVariants as calls
use Rattle.mesh_links.specs.declared.call.LinkEvent.{LinkEvent}
use Rattle.mesh_links.specs.declared.call.LinkEvent.TheVariants as events
use Rattle.mesh_links.specs.declared.call.ReadGot.{ReadGot}
use Rattle.mesh_links.specs.declared.call.WriteGot.{WriteGot}
use Rattle.request_sim.specs.declared.fault.SimFault.{SimFault}
use Rattle.session_core.specs.Outboxes.{head}
use Rattle.serve_rules.specs.FedLines.{FedRow, is_stop, lines_since}
use Rattle.serve_rules.specs.Batches.{Serving}
use Rattle.serve_rules.specs.LinkStates.{LinkState, fresh, closed, open_links, may_read, admits, read_to, read_feeds, drain_to, may_write, write_to, closing}

-- the buffer size of a read
abbrev pub room : ℕ
room = 16384

-- In a law on turns that reach no limit, this test of a limit holds.
abbrev pub Unmet : Bool → Bool → Type 0
Unmet true test = test ≡ true
Unmet false test = Unit {0}

-- ---- the events of a poll

abbrev pub made_readable : ℕ → LinkState → LinkState
made_readable n s = record s { readable = s.readable || (s.is_open && s.number == n) }

abbrev pub made_writable : ℕ → LinkState → LinkState
made_writable n s = record s { writable = s.writable || (s.is_open && s.number == n) }

abbrev pub admits_link : Serving → List LinkState → Bool
admits_link serving all = nat_lt (open_links all) serving.program.limits.links

-- the links after an event
abbrev pub event_to : Serving → List LinkState → LinkEvent → List LinkState
event_to serving all (events.New n) = if admits_link serving all then all ++ fresh n ∷ [] else all
event_to serving all (events.Readable n) = map (made_readable n) all
event_to serving all (events.Writable n) = map (made_writable n) all

abbrev pub event_closes : Serving → List LinkState → LinkEvent → List LinkCall
event_closes serving all (events.New n) = if admits_link serving all then [] else calls.Close n ∷ []
event_closes serving all (events.Readable n) = []
event_closes serving all (events.Writable n) = []

abbrev pub event_within : Serving → List LinkState → LinkEvent → Bool
event_within serving all (events.New n) = admits_link serving all
event_within serving all (events.Readable n) = true
event_within serving all (events.Writable n) = true

abbrev pub Events : Serving → Bool → List LinkEvent → List LinkState → List LinkCall → List LinkState → Type 0
Events serving strict [] all made ts = (made ≡ []) × (ts ≡ all)
Events serving strict (e ∷ shown) all made ts = (rest : List LinkCall) × (made ≡ event_closes serving all e ++ rest) × Unmet strict (event_within serving all e) × Events serving strict shown (event_to serving all e) rest ts

-- ---- the passes

-- a step of one link beside the others: what was fed before it, the link, the calls, what was fed after it, and the link after it
abbrev pub Step : Type 1
Step = List LinkState → List FedRow → LinkState → List LinkCall → List FedRow → LinkState → Type 0

-- a step of each link, in the order of the links
abbrev pub Each : Step → List LinkState → List FedRow → List LinkState → List LinkCall → List FedRow → List LinkState → Type 0
Each step done fed [] made now [] = (made ≡ []) × (now ≡ fed)
Each step done fed [] made now (t ∷ ts) = ⊥
Each step done fed (s ∷ ss) made now [] = ⊥
Each step done fed (s ∷ ss) made now (t ∷ ts) = (first : List LinkCall) × (rest : List LinkCall) × (mid : List FedRow) × (made ≡ first ++ rest) × step (done ++ ss) fed s first mid t × Each step (done ++ t ∷ []) mid ss rest now ts

-- a read of a link, whose simulations met these pattern faults
pub record Reads (serving : Serving) (strict : Bool) (others : List LinkState) (fed : List FedRow) (s : LinkState) (made : List LinkCall) (now : List FedRow) (t : LinkState) : Type 0 where
  pub got : ReadGot
  pub met : ℕ → Option SimFault
  pub calls : made ≡ calls.Read s.number room got ∷ closing s t
  pub fed_now : now ≡ read_feeds serving (admits serving others s.bytes got) met fed s got
  pub link : t ≡ read_to serving (admits serving others s.bytes got) met fed s got
  pub unmet : Unmet strict (admits serving others s.bytes got)

-- no call is made, and nothing changes
pub record Rests (fed : List FedRow) (s : LinkState) (made : List LinkCall) (now : List FedRow) (t : LinkState) : Type 0 where
  pub calls : made ≡ []
  pub fed_now : now ≡ fed
  pub link : t ≡ s

abbrev pub ReadIf : Bool → Serving → Bool → Step
ReadIf true serving strict others fed s made now t = Reads serving strict others fed s made now t
ReadIf false serving strict others fed s made now t = Rests fed s made now t

abbrev pub ReadStep : Serving → Bool → Step
ReadStep serving strict others fed s made now t = ReadIf (may_read serving s) serving strict others fed s made now t

-- no call is made except the close of a link that has become this
pub record Becomes (fed : List FedRow) (s : LinkState) (made : List LinkCall) (now : List FedRow) (t expected : LinkState) : Type 0 where
  pub calls : made ≡ closing s t
  pub fed_now : now ≡ fed
  pub link : t ≡ expected

abbrev pub DrainStep : Serving → Step
DrainStep serving others fed s made now t = Becomes fed s made now t (drain_to serving fed s)

pub record Writes (serving : Serving) (fed : List FedRow) (s : LinkState) (made : List LinkCall) (now : List FedRow) (t : LinkState) : Type 0 where
  pub got : WriteGot
  pub calls : made ≡ calls.Write s.number (head s.outbox) got ∷ closing s t
  pub fed_now : now ≡ fed
  pub link : t ≡ write_to serving s got

abbrev pub WriteIf : Bool → Serving → Step
WriteIf true serving others fed s made now t = Writes serving fed s made now t
WriteIf false serving others fed s made now t = Rests fed s made now t

abbrev pub WriteStep : Serving → Step
WriteStep serving others fed s made now t = WriteIf (may_write s) serving others fed s made now t

-- if a stop was fed, each link is closed
abbrev pub StopStep : Bool → Step
StopStep stopped others fed s made now t = Becomes fed s made now t (if stopped then closed s else s)

-- one of the lines that were added is a stop
abbrev pub has_stop : Serving → List FedRow → List FedRow → Bool
has_stop serving fed now = list_any (is_stop serving.program) (lines_since fed now)

-- the reads, the drains, the writes, and the closes of a stop
pub record Passes (serving : Serving) (strict : Bool) (fed : List FedRow) (polled : List LinkState) (made : List LinkCall) (now : List FedRow) (after : List LinkState) : Type 0 where
  pub reads : List LinkCall
  pub drains : List LinkCall
  pub writes : List LinkCall
  pub stops : List LinkCall
  pub read : List LinkState
  pub drained : List LinkState
  pub written : List LinkState
  pub calls_are : made ≡ reads ++ (drains ++ (writes ++ stops))
  pub each_read : Each (ReadStep serving strict) [] fed polled reads now read
  pub each_drain : Each (DrainStep serving) [] now read drains now drained
  pub each_write : Each (WriteStep serving) [] now drained writes now written
  pub each_stop : Each (StopStep (has_stop serving fed now)) [] now written stops now after

-- ---- the turn

-- The calls after a poll that reported these events. A poll that failed ends the turn.
abbrev pub AfterPoll : Serving → Bool → Option (List LinkEvent) → List FedRow → List LinkState → List LinkCall → List FedRow → List LinkState → Type 0
AfterPoll serving strict None fed before made now after = (made ≡ []) × (now ≡ fed) × (after ≡ before)
AfterPoll serving strict (Some shown) fed before made now after = (closes : List LinkCall) × (rest : List LinkCall) × (polled : List LinkState) × (made ≡ closes ++ rest) × Events serving strict shown before closes polled × Passes serving strict fed polled rest now after

-- A turn: whether its poll waited, the events that it reported, the calls after the poll, all lines fed when it ended, and the links then,
-- including those that it closed.
pub record Turn : Type 0 where
  pub waited : Bool
  pub shown : Option (List LinkEvent)
  pub made : List LinkCall
  pub fed : List FedRow
  pub links : List LinkState

abbrev pub calls_of : Turn → List LinkCall
calls_of r = calls.Poll r.waited r.shown ∷ r.made

-- this is a whole turn, whether or not its poll was right to wait
abbrev pub IsTurn : Serving → Bool → List FedRow → List LinkState → Turn → Type 0
IsTurn serving strict fed before r = AfterPoll serving strict r.shown fed before r.made r.fed r.links
