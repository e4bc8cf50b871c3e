use Rattle.std.proofs.Common.{◌≡◌, ◌&&◌, not}
use Rattle.std.specs.Ordering.{eq_by_cmp}
use Rattle.mesh_base.specs.declared.key.ObjKey.{ObjKey}
use Rattle.key_lists.specs.Keys.{is_key, key_at}
use Rattle.view_types.specs.declared.mark.Mark.{Mark}
use Rattle.endpoint_rows.proofs.KeysAt.{turned_take}
use Rattle.mark_rules.proofs.MarkOrder.{marks_total}
use Rattle.slice_marks.proofs.Orders.{by_marks}
use Rattle.slice_marks.proofs.keys.take_key.Goals as goal

pub returns : goal.returns
returns c =
    turned_take marks_total c.args.mark.now c.args.key.now c.args.by.now c.take_one.new.by
    (by_marks (λ cmp. (m : Mark) (k : ObjKey) → key_at cmp c.take_one.new.by m k ≡ (not (eq_by_cmp cmp c.args.mark.now m && is_key k c.args.key.now) && key_at cmp c.args.by.now m k)) c.take_one.ensures.taken)
