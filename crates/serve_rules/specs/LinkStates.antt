-- The state of a link, and the effect of each result of a call on it.
use Rattle.std.specs.Prelude.{ℕ, ◌+◌, Bool, true, false, not, ◌&&◌, ◌||◌, if◌then◌else◌, List, [], ◌∷◌, ◌++◌, length, drop, Option, Some, None, is_some, Result, is_ok, nat_lt}
use Rattle.std.specs.List.{sum_by}
use Rattle.line_run.specs.Rows.{Row}
use Rattle.mesh_base.specs.declared.limits.Limits.{Limits}
use Rattle.mesh_links.specs.declared.call.LinkCall.{LinkCall}
use Rattle.mesh_links.specs.declared.call.LinkCall.TheVariants as calls
use Rattle.mesh_links.specs.declared.call.ReadGot.{ReadGot}
use Rattle.mesh_links.specs.declared.call.ReadGot.TheVariants as reads
use Rattle.mesh_links.specs.declared.call.WriteGot.{WriteGot}
use Rattle.mesh_links.specs.declared.call.WriteGot.TheVariants as writes
use Rattle.view_types.specs.declared.query.Query.{Query}
use Rattle.request_sim.specs.declared.fault.SimFault.{SimFault}
use Rattle.session_core.specs.Outboxes.{wrote}
use Rattle.session_core.specs.Phases.{Phase, is_feeding, phase_of, query_in, rows_in}
use Rattle.session_core.specs.declared.session.SessionFault.{SessionFault}
use Rattle.serve_rules.specs.FedLines.{FedRow, answer_to}
use Rattle.serve_rules.specs.Batches.{Serving, frames_due, is_due_since}

-- A link: whether it is open; whether a read and a write may return something other than Pending; whether its input has ended; its bytes so
-- far; its outbox; and how many lines had been fed at its last drain, if it was drained.
pub record LinkState : Type 0 where
  pub number : ℕ
  pub is_open : Bool
  pub readable : Bool
  pub writable : Bool
  pub ended : Bool
  pub bytes : List ℕ
  pub outbox : List (List ℕ)
  pub drained : Option ℕ

abbrev pub fresh : ℕ → LinkState
fresh n = record { number = n; is_open = true; readable = true; writable = true; ended = false; bytes = []; outbox = []; drained = None }

abbrev pub closed : LinkState → LinkState
closed s = record s { is_open = false }

abbrev pub is_empty : {A : Type 0} → List A → Bool
is_empty [] = true
is_empty (x ∷ xs) = false

-- ---- the contents of its bytes

abbrev pub phase_in : Serving → List ℕ → Result Phase SessionFault
phase_in serving bytes = phase_of serving.program.config serving.program.limits bytes

abbrev pub is_feed : Serving → List ℕ → Bool
is_feed serving bytes = is_feeding (phase_in serving bytes)

-- the query of a subscriber
abbrev pub query_of : Serving → List ℕ → Option Query
query_of serving bytes = query_in (phase_in serving bytes)

-- A link stays open unless its bytes have a fault, or its input has ended; a feed whose input has ended stays open until its
-- answers are written.
abbrev pub goes_on : Result Phase SessionFault → Bool → List (List ℕ) → Bool
goes_on phase ended outbox = is_ok phase && (not ended || (is_feeding phase && not (is_empty outbox)))

-- ---- how many are open

abbrev pub one_open : LinkState → ℕ
one_open s = if s.is_open then 1 else 0

abbrev pub one_feed : Serving → LinkState → ℕ
one_feed serving s = if s.is_open && is_feed serving s.bytes then 1 else 0

abbrev pub one_sub : Serving → LinkState → ℕ
one_sub serving s = if s.is_open && is_some (query_of serving s.bytes) then 1 else 0

abbrev pub open_links : List LinkState → ℕ
open_links all = sum_by one_open all

abbrev pub feeds : Serving → List LinkState → ℕ
feeds serving all = sum_by (one_feed serving) all

abbrev pub subs : Serving → List LinkState → ℕ
subs serving all = sum_by (one_sub serving) all

-- ---- a read

abbrev pub may_read : Serving → LinkState → Bool
may_read serving s = s.is_open && (s.readable && (not s.ended && (not (is_feed serving s.bytes) || is_empty s.outbox)))

-- a link that has become a feed (or a subscriber) is within the limit, given this number of others
abbrev pub within : ℕ → ℕ → Bool → Bool → Bool
within limit others was now = was || (not now || nat_lt others limit)

-- the limits admit the new phase of a link, given the numbers of feeds and subscriptions of other links
abbrev pub admits_by : Limits → ℕ → ℕ → Result Phase SessionFault → Result Phase SessionFault → Bool
admits_by limits other_feeds other_subs was now = within limits.feeds other_feeds (is_feeding was) (is_feeding now) && within limits.subs other_subs (is_some (query_in was)) (is_some (query_in now))

abbrev pub admits : Serving → List LinkState → List ℕ → ReadGot → Bool
admits serving others old (reads.Bytes piece) = admits_by serving.program.limits (feeds serving others) (subs serving others) (phase_in serving old) (phase_in serving (old ++ piece))
admits serving others old reads.Pending = true
admits serving others old reads.Failed = true

-- the rows in a link's bytes
abbrev pub rows_by : Serving → Bool → List ℕ → List Row
rows_by serving ended bytes = rows_in serving.program.limits.line ended (phase_in serving bytes)

-- rows of a link as lines, numbered from the next number, with the faults that the lines with these numbers met
abbrev pub fed_rows : ℕ → (ℕ → Option SimFault) → ℕ → List Row → List FedRow
fed_rows link met before [] = []
fed_rows link met before (row ∷ rows) = record { link = link; number = before + 1; row = (row, met (before + 1)) } ∷ fed_rows link met (before + 1) rows

-- the lines that a piece completes; the empty piece is the end of the input
unfoldable pub came : Serving → (ℕ → Option SimFault) → LinkState → List ℕ → List FedRow
came serving met s piece =
    let before = length (rows_by serving false s.bytes) in
    fed_rows s.number met before (drop before (rows_by serving (is_empty piece) (s.bytes ++ piece)))

-- the lines fed before, followed by these lines
abbrev pub fed_then : List FedRow → List FedRow → List FedRow
fed_then fed [] = fed
fed_then fed (f ∷ more) = fed_then (f ∷ fed) more

-- the answers to these lines, one after another
abbrev pub answers_then : Serving → List FedRow → List FedRow → List (List ℕ)
answers_then serving fed [] = []
answers_then serving fed (f ∷ more) = answer_to serving.program fed f ++ answers_then serving (f ∷ fed) more

-- a link after a piece whose lines were applied
abbrev pub heard : Serving → List FedRow → List FedRow → LinkState → List ℕ → LinkState
heard serving fed lines s piece =
    let outbox = s.outbox ++ answers_then serving fed lines in
    record s { is_open = goes_on (phase_in serving (s.bytes ++ piece)) (is_empty piece) outbox; ended = is_empty piece; bytes = s.bytes ++ piece; outbox = outbox }

-- a link after a piece by which it would exceed a limit: it is closed
abbrev pub turned_away : LinkState → List ℕ → LinkState
turned_away s piece = record s { is_open = false; bytes = s.bytes ++ piece }

-- the link after a read
unfoldable pub read_to : Serving → Bool → (ℕ → Option SimFault) → List FedRow → LinkState → ReadGot → LinkState
read_to serving admitted met fed s (reads.Bytes piece) = if admitted then heard serving fed (came serving met s piece) s piece else turned_away s piece
read_to serving admitted met fed s reads.Pending = record s { readable = false }
read_to serving admitted met fed s reads.Failed = closed s

-- what was fed after a read
unfoldable pub read_feeds : Serving → Bool → (ℕ → Option SimFault) → List FedRow → LinkState → ReadGot → List FedRow
read_feeds serving admitted met fed s (reads.Bytes piece) = if admitted then fed_then fed (came serving met s piece) else fed
read_feeds serving admitted met fed s reads.Pending = fed
read_feeds serving admitted met fed s reads.Failed = fed

-- ---- a drain

abbrev pub is_due_for : Serving → List FedRow → Option ℕ → Option Query → Bool
is_due_for serving fed drained None = false
is_due_for serving fed drained (Some query) = is_due_since serving query drained fed

abbrev pub is_due : Serving → List FedRow → LinkState → Bool
is_due serving fed s = is_due_for serving fed s.drained (query_of serving s.bytes)

abbrev pub may_drain : Serving → List FedRow → LinkState → Bool
may_drain serving fed s = s.is_open && (s.writable && (is_empty s.outbox && is_due serving fed s))

-- The frames of a drain are put into the outbox. If a message is too long, the link is closed.
abbrev pub filled : List FedRow → LinkState → Option (List (List ℕ)) → LinkState
filled fed s None = closed s
filled fed s (Some frames) = record s { outbox = frames; drained = Some (length fed) }

abbrev pub filled_for : Serving → List FedRow → LinkState → Option Query → LinkState
filled_for serving fed s None = s
filled_for serving fed s (Some query) = filled fed s (frames_due serving.program query s.drained fed)

-- the link after the drain pass
unfoldable pub drain_to : Serving → List FedRow → LinkState → LinkState
drain_to serving fed s = if may_drain serving fed s then filled_for serving fed s (query_of serving s.bytes) else s

-- ---- a write

abbrev pub may_write : LinkState → Bool
may_write s = s.is_open && (s.writable && not (is_empty s.outbox))

-- the link after a write
unfoldable pub write_to : Serving → LinkState → WriteGot → LinkState
write_to serving s (writes.Took n) = record s { is_open = goes_on (phase_in serving s.bytes) s.ended (wrote n s.outbox); outbox = wrote n s.outbox }
write_to serving s writes.Pending = record s { writable = false }
write_to serving s writes.Failed = closed s

-- ---- work, and closes

abbrev pub has_work : Serving → List FedRow → LinkState → Bool
has_work serving fed s = may_read serving s || (s.is_open && (s.writable && (not (is_empty s.outbox) || is_due serving fed s)))

-- the close that comes directly after its cause
abbrev pub closing : LinkState → LinkState → List LinkCall
closing s t = if s.is_open && not t.is_open then calls.Close s.number ∷ [] else []
