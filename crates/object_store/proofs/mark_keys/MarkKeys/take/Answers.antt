use Rattle.key_lists.specs.Keys.{is_key}
use Rattle.object_store.proofs.KeptAt.{take_mark}
use Rattle.object_store.proofs.mark_keys.MarkKeys.take.Goals as goal

pub loop-mark-preserved : goal.loop-mark-preserved
loop-mark-preserved c = λ m k. take_mark c.args.marks.now c.loop-mark.mark-index c.mark-item.result c.loop-mark-test.true c.mark-item.is m (is_key k c.args.key.now) _ _ _ (c.take_one.ensures m k) (c.loop-mark.invariant m k)
