use Rattle.std.proofs.Common.{take}
use Rattle.link_sessions.specs.Settled.{IsSettled}
use Rattle.serve_core.specs.LinkTurns.{IsFoundAmong}
use Rattle.serve_core.proofs.turning.find_drains.Given as goal

abbrev pub invariant-loop-id : goal.invariant-loop-id
invariant-loop-id l = IsSettled l.kept → IsFoundAmong l.kept (take l.id-index l.ids) l.fn.numbers l.numbers
