use Rattle.std.proofs.Common.{◌≡◌, cond, Some}
use Rattle.std.specs.BTreeMap as tree
use Rattle.std.specs.Ordering.{is_eq}
use Rattle.mesh_base.specs.declared.key.ObjKey.{ObjKey}
use Rattle.slice_marks.specs.Marked.{marks_given}
use Rattle.endpoint_rows.proofs.KeysAt.{put_at}
use Rattle.endpoint_rows.proofs.Orders.{by_keys}
use Rattle.slice_marks.proofs.slices.put_marks.Goals as goal

pub returns : goal.returns
returns c =
    put_at marks_given c.args.by_slice.now c.insert.new.self c.args.key (Some c.args.marks)
    (by_keys (λ cmp. (q : ObjKey) → tree.get cmp c.insert.new.self q ≡ cond (is_eq (cmp c.args.key q)) (Some c.args.marks) (tree.get cmp c.args.by_slice.now q)) c.in_ok-insert.ensures.updates.0)
