use Rattle.serve_core.proofs.DueDrains.{found_on}
use Rattle.serve_core.proofs.turning.find_drains.Goals as goal

pub loop-id-preserved : goal.loop-id-preserved
loop-id-preserved c = λ settled.
    found_on c.args.kept.now c.args.ids.now c.loop-id.id-index _ c.to_drain.result c.args.numbers.now c.loop-id.numbers c.put_in.new.numbers c.loop-id-test.true settled c.to_drain.ensures c.in_ok-put_in.ensures c.loop-id.invariant
