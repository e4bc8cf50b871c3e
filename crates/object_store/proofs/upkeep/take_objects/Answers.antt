use Rattle.std.proofs.Common.{◌-◌, arith}
use Rattle.object_store.specs.KeyLists.{has_other, was_at}
use Rattle.object_store.specs.ServerKeys.{requires_value}
use Rattle.object_store.proofs.OneMore.{taken_before}
use Rattle.object_store.proofs.upkeep.take_objects.Goals as goal

pub loop-at-preserved : goal.loop-at-preserved
loop-at-preserved c = (
  λ m k.
      taken_before (was_at has_other m k) c.args.old.now (c.loop-at.at - 1) c.loop-at.at c.index-old-at.result _ _ _ (omega (arith, c.loop-at-test.true)) (omega (arith, c.loop-at-test.true, c.loop-at.auto.at)) c.index-old-at.is
      (c.in_ok-take_object.ensures.marked m k) (c.loop-at.invariant.0 m k),
  λ place k.
      taken_before (was_at requires_value place k) c.args.old.now (c.loop-at.at - 1) c.loop-at.at c.index-old-at.result _ _ _ (omega (arith, c.loop-at-test.true)) (omega (arith, c.loop-at-test.true, c.loop-at.auto.at)) c.index-old-at.is
      (c.in_ok-take_object.ensures.servers place k) (c.loop-at.invariant.1 place k),
)
