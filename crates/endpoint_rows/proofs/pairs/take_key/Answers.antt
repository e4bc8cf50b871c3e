use Rattle.std.proofs.Common.{◌≡◌, ◌&&◌, not}
use Rattle.std.specs.Ordering.{eq_by_cmp}
use Rattle.mesh_base.specs.declared.key.ObjKey.{ObjKey}
use Rattle.key_lists.specs.Keys.{is_key, key_at}
use Rattle.endpoint_rows.specs.Kept.{Pair}
use Rattle.view_rules.proofs.Pairs.{pairs_total}
use Rattle.endpoint_rows.proofs.KeysAt.{turned_take}
use Rattle.endpoint_rows.proofs.Orders.{by_pairs}
use Rattle.endpoint_rows.proofs.pairs.take_key.Goals as goal

pub returns : goal.returns
returns c =
    let pair : Pair = (c.args.ip, c.args.port) in
    turned_take pairs_total pair c.args.key.now c.args.by.now c.take_one.new.by
    (by_pairs (λ cmp. (p : Pair) (k : ObjKey) → key_at cmp c.take_one.new.by p k ≡ (not (eq_by_cmp cmp pair p && is_key k c.args.key.now) && key_at cmp c.args.by.now p k)) c.take_one.ensures.taken)
