use Rattle.std.proofs.Common.{◌≡◌, ℕ, false, take}
use Rattle.link_sessions.specs.Entries.{entries_of, passes_at}
use Rattle.link_sessions.specs.Settled.{IsSettled}
use Rattle.serve_core.specs.LinkTurns.{drains_among}
use Rattle.serve_core.proofs.turning.drains_any.Given as goal

abbrev pub invariant-loop-id : goal.invariant-loop-id
invariant-loop-id l = IsSettled l.kept → (n : ℕ) → passes_at (drains_among (take l.id-index l.ids)) (entries_of l.kept) n ≡ false
