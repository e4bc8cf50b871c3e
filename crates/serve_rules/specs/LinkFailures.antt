-- A link whose read or write fails is closed, and nothing else changes.
use Rattle.std.specs.Prelude.{◌≡◌, ℕ, ◌==◌, Bool, true, false, List, [], ◌∷◌, Some}
use Rattle.std.specs.List.{list_any}
use Rattle.mesh_links.specs.declared.call.LinkCall.{LinkCall}
use Rattle.mesh_links.specs.declared.call.LinkCall.TheVariants as calls
use Rattle.mesh_links.specs.declared.call.ReadGot.TheVariants as reads
use Rattle.mesh_links.specs.declared.call.WriteGot.TheVariants as writes
use Rattle.session_core.specs.Outboxes.{head}
use Rattle.serve_rules.specs.FedLines.{FedRow}
use Rattle.serve_rules.specs.Batches.{Serving}
use Rattle.serve_rules.specs.LinkStates.{LinkState, closed}
use Rattle.serve_rules.specs.Turns.{ReadStep, Turn, IsTurn, WriteStep, room}
use Rattle.serve_rules.specs.Due.{NoNew, Once, find}

-- The link is closed by the next call, nothing is fed, and nothing else of the link changes.
pub record IsClosedAlone (fed : List FedRow) (s : LinkState) (rest : List LinkCall) (now : List FedRow) (t : LinkState) : Type 0 where
  pub closes : rest ≡ calls.Close s.number ∷ []
  pub fed_now : now ≡ fed
  pub link : t ≡ closed s

abbrev pub FailedReadCloses : Type 0
FailedReadCloses = (serving : Serving) (strict : Bool) (others : List LinkState) (fed : List FedRow) (s : LinkState) (rest : List LinkCall) (now : List FedRow) (t : LinkState)
    → ReadStep serving strict others fed s (calls.Read s.number room reads.Failed ∷ rest) now t → IsClosedAlone fed s rest now t

abbrev pub FailedWriteCloses : Type 0
FailedWriteCloses = (serving : Serving) (others : List LinkState) (fed : List FedRow) (s : LinkState) (rest : List LinkCall) (now : List FedRow) (t : LinkState)
    → WriteStep serving others fed s (calls.Write s.number (head s.outbox) writes.Failed ∷ rest) now t → IsClosedAlone fed s rest now t

-- ---- in a turn

abbrev pub is_failure : ℕ → LinkCall → Bool
is_failure k (calls.Poll wait got) = false
is_failure k (calls.Read n space (reads.Bytes piece)) = false
is_failure k (calls.Read n space reads.Pending) = false
is_failure k (calls.Read n space reads.Failed) = n == k
is_failure k (calls.Write n piece (writes.Took count)) = false
is_failure k (calls.Write n piece writes.Pending) = false
is_failure k (calls.Write n piece writes.Failed) = n == k
is_failure k (calls.Close n) = false

-- a read or a write of the link failed
abbrev pub has_failed : ℕ → List LinkCall → Bool
has_failed k made = list_any (is_failure k) made

-- A link that fails in a turn is not open after it.
abbrev pub FailureCloses : Type 0
FailureCloses = (serving : Serving) (strict : Bool) (k : ℕ) (fed : List FedRow) (before : List LinkState) (r : Turn) (s : LinkState)
    → IsTurn serving strict fed before r → NoNew k r.shown → Once k before → find k before ≡ Some s → has_failed k r.made ≡ true
    → (t : LinkState) × (find k r.links ≡ Some t) × (t.is_open ≡ false)
