use Rattle.object_store.specs.KeyLists.{comes_at, has_other}
use Rattle.object_store.specs.ServerKeys.{requires_value}
use Rattle.object_store.proofs.OneMore.{put_more}
use Rattle.object_store.proofs.upkeep.put_objects.Goals as goal

pub loop-key-preserved : goal.loop-key-preserved
loop-key-preserved c = (
  λ m k. put_more (comes_at has_other c.args.objects.now m k) c.args.new.now c.loop-key.key-index c.key-item.result _ _ _ c.loop-key-test.true c.key-item.is (c.in_ok-put_object.ensures.marked m k) (c.loop-key.invariant.0 m k),
  λ place k. put_more (comes_at requires_value c.args.objects.now place k) c.args.new.now c.loop-key.key-index c.key-item.result _ _ _ c.loop-key-test.true c.key-item.is (c.in_ok-put_object.ensures.servers place k) (c.loop-key.invariant.1 place k),
)
