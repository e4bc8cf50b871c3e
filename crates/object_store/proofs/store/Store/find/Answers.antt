use Rattle.std.proofs.Common.{◌+◌, ◌-◌, ◌^◌, min, cond, ap, ◌∙◌}
use Rattle.object_store.specs.Held.{key_with}
use Rattle.object_store.proofs.Counts.{found_counts}
use Rattle.object_store.proofs.store.Store.find.Goals as goal

pub returns-clause-counts : goal.returns-clause-counts
returns-clause-counts g c =
    let key = key_with c.args.kind c.args.ns.now c.args.name.now in
    let steps = c.tick_if.ensures ∙ ap (λ there. cond there (min (c.args.steps.now + 1) (2 ^ 64 - 1)) c.args.steps.now) c.is_some.ensures in
    rw (← c.self.view_is) (found_counts c.self.inside.objects c.stand_at_keys.ensures key c.find-found.result c.args.steps.now c.tick_if.new.steps c.find-found.ensures.value steps)
