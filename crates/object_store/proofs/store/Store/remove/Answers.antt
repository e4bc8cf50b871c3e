use Rattle.std.proofs.Common.{sym, ◌∙◌}
use Rattle.object_store.proofs.Kept.{unless_err}
use Rattle.object_store.proofs.Room.{room_without}
use Rattle.object_store.proofs.store.Store.remove.Goals as goal

pub invariant_of-self : goal.invariant_of-self
invariant_of-self c = (rw c.take-result.ensures.removed (room_without _ c.self.inside.limit c.args.key.now c.self.invariant.0), λ going. unless_err c.take-result.result (sym c.is_err-self-inside.ensures.value ∙ going) c.take-result.ensures.keys (c.self.invariant.1 c.if-self.false))
