use Rattle.std.proofs.Common.{◌≡◌, ◌&&◌, ◌||◌, OnOk}
use Rattle.std.specs.Ordering.{eq_by_cmp}
use Rattle.mesh_base.specs.declared.key.ObjKey.{ObjKey}
use Rattle.key_lists.specs.Keys.{is_key, key_at}
use Rattle.view_types.specs.declared.mark.Mark.{Mark}
use Rattle.endpoint_rows.proofs.KeysAt.{turned_put}
use Rattle.endpoint_rows.proofs.Orders.{on_ok}
use Rattle.mark_rules.proofs.MarkOrder.{marks_total}
use Rattle.slice_marks.proofs.Orders.{by_marks}
use Rattle.slice_marks.proofs.keys.put_key.Goals as goal

pub returns : goal.returns
returns c =
    on_ok c.put_one.result (turned_put marks_total c.args.mark.now c.args.key.now c.args.by.now c.put_one.new.by)
    (by_marks (λ cmp. OnOk c.put_one.result ((m : Mark) (k : ObjKey) → key_at cmp c.put_one.new.by m k ≡ ((eq_by_cmp cmp c.args.mark.now m && is_key k c.args.key.now) || key_at cmp c.args.by.now m k))) c.put_one.ensures.put)
