-- The causes for which a link is closed. At each point of a turn where a link may be closed, it is closed exactly for one of these causes.
use Rattle.std.specs.Prelude.{◌≡◌, ◌&&◌, ◌||◌, not, ℕ, Bool, true, false, if◌then◌else◌, List, [], ◌∷◌, ◌++◌, Option, Some, None, is_ok, is_some}
use Rattle.mesh_links.specs.declared.call.LinkCall.{LinkCall}
use Rattle.mesh_links.specs.declared.call.LinkCall.TheVariants as calls
use Rattle.mesh_links.specs.declared.call.ReadGot.{ReadGot}
use Rattle.mesh_links.specs.declared.call.ReadGot.TheVariants as reads
use Rattle.mesh_links.specs.declared.call.WriteGot.{WriteGot}
use Rattle.mesh_links.specs.declared.call.WriteGot.TheVariants as writes
use Rattle.view_types.specs.declared.query.Query.{Query}
use Rattle.serve_rules.specs.Batches.{Serving, frames_due}
use Rattle.serve_rules.specs.FedLines.{FedRow}
use Rattle.serve_rules.specs.LinkStates.{LinkState, admits, closing, is_empty, is_feed, may_drain, phase_in, query_of}
use Rattle.serve_rules.specs.Turns.{DrainStep, Reads, StopStep, Writes}

-- its bytes are no path, no valid request, or more than one request
abbrev pub has_fault : Serving → List ℕ → Bool
has_fault serving bytes = not (is_ok (phase_in serving bytes))

-- its input has ended, and if it is a feed, nothing is left to write on it
abbrev pub is_over : Serving → LinkState → Bool
is_over serving t = t.ended && (not (is_feed serving t.bytes) || is_empty t.outbox)

-- The read failed, or what was read exceeds a limit or has a fault, or the link is over.
abbrev pub read_closes : Serving → List LinkState → LinkState → ReadGot → LinkState → Bool
read_closes serving others s (reads.Bytes piece) t = not (admits serving others s.bytes (reads.Bytes piece)) || (has_fault serving (s.bytes ++ piece) || is_over serving t)
read_closes serving others s reads.Pending t = false
read_closes serving others s reads.Failed t = true

abbrev pub is_too_long : Serving → List FedRow → Option ℕ → Option Query → Bool
is_too_long serving fed drained None = false
is_too_long serving fed drained (Some query) = not (is_some (frames_due serving.program query drained fed))

-- It is the link's turn to be drained, and one of the messages is too long.
abbrev pub drain_closes : Serving → List FedRow → LinkState → Bool
drain_closes serving fed s = may_drain serving fed s && is_too_long serving fed s.drained (query_of serving s.bytes)

-- The write failed, or the link is over. The bytes of an open link have no fault.
abbrev pub write_closes : Serving → LinkState → WriteGot → LinkState → Bool
write_closes serving s (writes.Took n) t = has_fault serving s.bytes || is_over serving t
write_closes serving s writes.Pending t = false
write_closes serving s writes.Failed t = true

-- an open link is closed exactly if the cause is present
pub record ClosesIf (cause : Bool) (s t : LinkState) : Type 0 where
  pub is_open : t.is_open ≡ not cause
  pub close : closing s t ≡ (if cause then calls.Close s.number ∷ [] else [])

pub record CloseCauses (serving : Serving) (others : List LinkState) (fed : List FedRow) (s : LinkState) (made : List LinkCall) (now : List FedRow) (t : LinkState) : Type 0 where
  pub read : (step : Reads serving false others fed s made now t) → ClosesIf (read_closes serving others s step.got t) s t
  pub drain : DrainStep serving others fed s made now t → ClosesIf (drain_closes serving fed s) s t
  pub write : (step : Writes serving fed s made now t) → ClosesIf (write_closes serving s step.got t) s t
  -- after the turn in which a `stop` line was accepted
  pub stop : (stopped : Bool) → StopStep stopped others fed s made now t → ClosesIf stopped s t

abbrev pub EachCloseHasItsCause : Type 0
EachCloseHasItsCause = (serving : Serving) (others : List LinkState) (fed : List FedRow) (s : LinkState) (made : List LinkCall) (now : List FedRow) (t : LinkState) → s.is_open ≡ true → CloseCauses serving others fed s made now t
