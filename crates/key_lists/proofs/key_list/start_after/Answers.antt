use Rattle.std.proofs.Common.{not, rules}
use Rattle.std.proofs.lemmas.Fn.{always_returns_same}
use Rattle.key_lists.specs.Keys.{is_after}
use Rattle.key_lists.proofs.Parted.{back_after, front, parted}
use Rattle.key_lists.proofs.key_list.start_after.Goals as goal

pub returns-clause-front : goal.returns-clause-front
returns-clause-front c =
    front (λ k. not (is_after c.args.kind k)) c.args.keys.now c.partition_point.result
    (c.partition_point.ensures.partitioned (λ k. not (is_after c.args.kind k)) (always_returns_same _ _ _ (λ a r g called. (search rules, search rules))) (parted c.args.keys.now c.requires c.args.kind))

pub returns-clause-back : goal.returns-clause-back
returns-clause-back c =
    back_after c.args.keys.now c.requires c.args.kind c.partition_point.result
    (c.partition_point.ensures.partitioned (λ k. not (is_after c.args.kind k)) (always_returns_same _ _ _ (λ a r g called. (search rules, search rules))) (parted c.args.keys.now c.requires c.args.kind))
