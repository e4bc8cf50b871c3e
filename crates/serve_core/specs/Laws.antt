-- Laws on the calls of a server, from its first turn to its last. If the last turn was cut short, they are about the turn that it began.
use Rattle.std.specs.Prelude.{◌≡◌, ℕ, ◌==◌, Bool, true, false, List, [], ◌∷◌, ◌++◌, map, Option, Some, None}
use Rattle.std.specs.List.{concat}
use Rattle.mesh_base.specs.declared.limits.Limits.{Limits}
use Rattle.mesh_links.specs.declared.call.LinkCall.{LinkCall}
use Rattle.mesh_links.specs.declared.call.LinkCall.TheVariants as calls
use Rattle.mesh_links.specs.declared.call.ReadGot.TheVariants as reads
use Rattle.mesh_links.specs.declared.call.WriteGot.TheVariants as writes
use Rattle.view_types.specs.declared.config.Config.{Config}
use Rattle.route_match.specs.Matching.{Pat}
use Rattle.feed_history.specs.KnownPatterns.{PatternsNow}
use Rattle.serve_rules.specs.Batches.{Serving}
use Rattle.serve_rules.specs.Due.{Ascend, NoFeedIn, batches, due_items, find, places, written}
use Rattle.serve_rules.specs.LinkErasure.{NeverFeed, round_without}
use Rattle.serve_rules.specs.LinkStates.{LinkState}
use Rattle.serve_rules.specs.Outboxes.{EachHoldsOne}
use Rattle.serve_rules.specs.OwedBytes.{IsOwed}
use Rattle.serve_rules.specs.Traces.{AreTurns, fed_in, links_in}
use Rattle.serve_rules.specs.Turns.{Turn}
use Rattle.serve_rules.specs.WrittenBytes.{SameFor, asked_query}
use Rattle.serve_core.specs.Ends.{EndsAfter}
use Rattle.serve_core.specs.Served.{serving_of}
use Rattle.serve_core.specs.declared.serve.ServeStatus.{ServeStatus}

-- all turns, including the last one
abbrev pub turns_in : {serving : Serving} {known : PatternsNow} {status : ServeStatus} {trace_now : Option (List LinkCall)} → EndsAfter serving known status trace_now → List Turn
turns_in run = run.turns ++ run.last ∷ []

-- P for each server that has ended, and its calls
abbrev pub OfEachRun : ((serving : Serving) (known : PatternsNow) (status : ServeStatus) (trace : List LinkCall) → EndsAfter serving known status (Some trace) → Type 0) → Type 0
OfEachRun holds = (config : Config) (limits : Limits) (pat : Pat) (known : PatternsNow) (status : ServeStatus) (trace : List LinkCall) (run : EndsAfter (serving_of config limits pat) known status (Some trace))
    → holds (serving_of config limits pat) known status trace run

-- ---- what is written

-- what was written is due, and so is the unwritten rest, which is the outbox if the link is open after whole turns
pub record IsSent (serving : Serving) (k : ℕ) (trace more : List LinkCall) (turns : List Turn) : Type 0 where
  pub rest : List ℕ
  pub joined : written k trace ++ rest ≡ concat (due_items serving k [] None turns)
  pub unwritten : more ≡ [] → (t : LinkState) → find k (links_in [] turns) ≡ Some t → rest ≡ concat t.outbox

-- What a server writes on a link is the beginning of its answers and its frames.
abbrev pub SendsWhatIsDue : Type 0
SendsWhatIsDue = OfEachRun (λ serving known status trace run. (k : ℕ) → IsSent serving k trace run.more (turns_in run))

pub record IsByPlaces (serving : Serving) (k : ℕ) (turns : List Turn) : Type 0 where
  pub due : due_items serving k [] None turns ≡ batches serving (asked_query serving k None turns) (fed_in [] turns) None (places k None turns)
  pub ascend : Ascend None (places k None turns)

-- What a link that is no feed is due is a function of the lines fed, of its query and of the places of its drains, which never decrease.
abbrev pub DueIsByPlaces : Type 0
DueIsByPlaces = OfEachRun (λ serving known status trace run. (k : ℕ) → NoFeedIn serving k (turns_in run) → IsByPlaces serving k (turns_in run))

-- ---- isolation

-- turns that may follow one another from the start, in which no limit on links, feeds or subscriptions was reached
abbrev pub MeetNoLimit : Serving → List Turn → Type 0
MeetNoLimit serving turns = AreTurns serving true [] [] turns

-- Without the link, the turns are still turns; each other link is due the same, at the same places, and is written the same.
pub record IsLeftOut (serving : Serving) (k : ℕ) (turns : List Turn) : Type 0 where
  pub are : MeetNoLimit serving (map (round_without k) turns)
  pub same : (j : ℕ) → (j == k) ≡ false → SameFor serving j [] None (map (round_without k) turns) turns

-- If no limit was reached, a link that is never a feed may be left out.
abbrev pub OthersStay : Type 0
OthersStay = OfEachRun (λ serving known status trace run. (k : ℕ) → MeetNoLimit serving (turns_in run) → NeverFeed serving k (turns_in run) → IsLeftOut serving k (turns_in run))

-- After each turn, each outbox has the rest of one batch, or of the answers to one read.
abbrev pub OutboxesHoldOneOf : Type 0
OutboxesHoldOneOf = OfEachRun (λ serving known status trace run. (before after : List Turn) → turns_in run ≡ before ++ after → EachHoldsOne serving (links_in [] before))

-- ---- polls

-- If a poll waits, no link has bytes to be written, unless its last write returned Pending.
abbrev pub WaitsForNoneThatIsOwed : Type 0
WaitsForNoneThatIsOwed = OfEachRun (λ serving known status trace run. (before : List Turn) (r : Turn) (after : List Turn) → turns_in run ≡ before ++ r ∷ after → r.waited ≡ true
    → (k : ℕ) (s : LinkState) → find k (links_in [] before) ≡ Some s → IsOwed serving (fed_in [] before) s → s.writable ≡ false)

-- ---- failures

-- the link whose read or write failed
abbrev pub failed_link : LinkCall → Option ℕ
failed_link (calls.Poll wait got) = None
failed_link (calls.Read n space (reads.Bytes piece)) = None
failed_link (calls.Read n space reads.Pending) = None
failed_link (calls.Read n space reads.Failed) = Some n
failed_link (calls.Write n piece (writes.Took count)) = None
failed_link (calls.Write n piece writes.Pending) = None
failed_link (calls.Write n piece writes.Failed) = Some n
failed_link (calls.Close n) = None

abbrev pub ClosesNext : Option ℕ → List LinkCall → Type 0
ClosesNext None more = Unit {0}
ClosesNext (Some n) more = (after : List LinkCall) × (more ≡ calls.Close n ∷ after)

-- each link whose read or write fails is closed by the next call
abbrev pub FailuresClose : List LinkCall → Type 0
FailuresClose [] = Unit {0}
FailuresClose (call ∷ more) = ClosesNext (failed_link call) more × FailuresClose more

abbrev pub EachFailureCloses : Type 0
EachFailureCloses = OfEachRun (λ serving known status trace run. FailuresClose (trace ++ run.more))
