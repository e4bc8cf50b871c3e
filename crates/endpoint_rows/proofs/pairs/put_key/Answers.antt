use Rattle.std.proofs.Common.{◌≡◌, ◌&&◌, ◌||◌, OnOk}
use Rattle.std.specs.Ordering.{eq_by_cmp}
use Rattle.mesh_base.specs.declared.key.ObjKey.{ObjKey}
use Rattle.key_lists.specs.Keys.{is_key, key_at}
use Rattle.endpoint_rows.specs.Kept.{Pair}
use Rattle.view_rules.proofs.Pairs.{pairs_total}
use Rattle.endpoint_rows.proofs.KeysAt.{turned_put}
use Rattle.endpoint_rows.proofs.Orders.{by_pairs, on_ok}
use Rattle.endpoint_rows.proofs.pairs.put_key.Goals as goal

pub returns : goal.returns
returns c =
    let pair : Pair = (c.args.ip, c.args.port) in
    on_ok c.put_one.result (turned_put pairs_total pair c.args.key.now c.args.by.now c.put_one.new.by)
    (by_pairs (λ cmp. OnOk c.put_one.result ((p : Pair) (k : ObjKey) → key_at cmp c.put_one.new.by p k ≡ ((eq_by_cmp cmp pair p && is_key k c.args.key.now) || key_at cmp c.args.by.now p k))) c.put_one.ensures.put)
