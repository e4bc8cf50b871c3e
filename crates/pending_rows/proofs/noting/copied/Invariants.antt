use Rattle.std.proofs.Common.{◌≡◌, take}
use Rattle.pending_rows.proofs.noting.copied.Given as goal

-- the addresses so far are copied
abbrev pub invariant-loop-stood : goal.invariant-loop-stood
invariant-loop-stood l = l.copy.items ≡ take l.stood-index l.before
