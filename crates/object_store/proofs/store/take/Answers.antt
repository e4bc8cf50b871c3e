use Rattle.object_store.proofs.Kept.{all_taken}
use Rattle.object_store.proofs.Leading.{takes_by}
use Rattle.object_store.proofs.store.take.Goals as goal

pub returns-clause-ok : goal.returns-clause-ok
returns-clause-ok c =
    takes_by c.in_ok-change.change c.args.objects.now c.remove.new.self c.args.key.now c.remove.result c.remove.ensures.before c.remove.ensures.removed
    c.in_ok-change.ensures.old c.in_ok-change.ensures.new c.in_ok-change.ensures.marks

pub returns-clause-keys : goal.returns-clause-keys
returns-clause-keys c = λ kept. all_taken c.args.objects.now c.remove.new.self c.args.keys.now c.follow.new.keys c.in_ok-change.change c.in_ok-follow.ensures.marked c.in_ok-follow.ensures.servers kept c.args.key.now (returns-clause-ok c) c.stand_at_keys.ensures
