use Rattle.object_store.proofs.AsideKeys.{around, none_old}
use Rattle.object_store.proofs.KeptAt.{on_ok}
use Rattle.object_store.proofs.upkeep.follow_kind.Goals as goal

pub returns-clause-marked : goal.returns-clause-marked
returns-clause-marked c = on_ok c.put_back.result (λ back m k.
    around _ _ _ _ _ _ _ (c.in_ok-asides.ensures.parted m k) (c.in_ok-follow.ensures.marked m k) (back m k)
    (λ aside. none_old c.args.kind c.args.change.now.old c.requires m k (c.in_ok-asides.ensures.after m k aside))) c.put_back.ensures
