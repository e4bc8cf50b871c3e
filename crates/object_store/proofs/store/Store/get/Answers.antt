use Rattle.std.proofs.Common.{◌+◌, ◌-◌, ◌^◌, min, cond, ap, ◌∙◌}
use Rattle.object_store.proofs.Counts.{found_counts}
use Rattle.object_store.proofs.store.Store.get.Goals as goal

pub returns-clause-counts : goal.returns-clause-counts
returns-clause-counts g c =
    let steps = c.tick_if.ensures ∙ ap (λ there. cond there (min (c.args.steps.now + 1) (2 ^ 64 - 1)) c.args.steps.now) c.is_some.ensures in
    rw (← c.self.view_is) (found_counts c.self.inside.objects c.stand_at_keys.ensures c.args.key.now c.get-found.result c.args.steps.now c.tick_if.new.steps c.get-found.ensures.value steps)
