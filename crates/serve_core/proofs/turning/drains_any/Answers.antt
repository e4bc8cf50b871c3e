use Rattle.std.proofs.Common.{sym, ◌∙◌}
use Rattle.serve_core.proofs.DueDrains.{none_more, some_there}
use Rattle.serve_core.proofs.turning.drains_any.Goals as goal

pub loop-id-preserved : goal.loop-id-preserved
loop-id-preserved c = λ settled.
    none_more c.args.kept.now c.args.ids.now c.loop-id.id-index _ c.to_drain.result c.loop-id-test.true settled (sym c.is_some.ensures ∙ c.if-is_some.false) c.to_drain.ensures c.loop-id.invariant

pub returns-then-is_some : goal.returns-then-is_some
returns-then-is_some c = λ settled.
    some_there c.args.kept.now c.args.ids.now c.loop-id.id-index _ c.to_drain.result c.loop-id-test.true settled (sym c.is_some.ensures ∙ c.if-is_some.true) c.to_drain.ensures
