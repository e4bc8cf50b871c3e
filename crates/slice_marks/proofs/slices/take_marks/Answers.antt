use Rattle.std.proofs.Common.{◌≡◌, cond, Some, None, ap, ◌∙◌}
use Rattle.std.specs.BTreeMap as tree
use Rattle.std.specs.Ordering.{is_eq}
use Rattle.mesh_base.specs.KeyOrder.{key_cmp}
use Rattle.mesh_base.specs.declared.key.ObjKey.{ObjKey}
use Rattle.slice_marks.specs.Marked.{marks_given}
use Rattle.endpoint_rows.proofs.KeysAt.{put_at}
use Rattle.endpoint_rows.proofs.Orders.{by_keys}
use Rattle.slice_marks.proofs.slices.take_marks.Goals as goal

pub returns-in-Some-clause-marks : goal.returns-in-Some-clause-marks
returns-in-Some-clause-marks c =
    let found : Some c.in-Some.marks ≡ tree.get key_cmp c.args.by_slice.now c.args.key.now = by_keys (λ cmp. Some c.in-Some.marks ≡ tree.get cmp c.args.by_slice.now c.args.key.now) c.in-Some.ensures.value in
    ap marks_given found

pub returns-in-Some-clause-taken : goal.returns-in-Some-clause-taken
returns-in-Some-clause-taken c =
    put_at marks_given c.args.by_slice.now c.remove.new.self c.args.key.now None
    (by_keys (λ cmp. (q : ObjKey) → tree.get cmp c.remove.new.self q ≡ cond (is_eq (cmp c.args.key.now q)) None (tree.get cmp c.args.by_slice.now q)) c.in-Some.ensures.updates.0)

pub returns-in-None-clause-marks : goal.returns-in-None-clause-marks
returns-in-None-clause-marks c =
    let none : None ≡ tree.get key_cmp c.args.by_slice.now c.args.key.now = by_keys (λ cmp. None ≡ tree.get cmp c.args.by_slice.now c.args.key.now) c.in-None.ensures.value in
    c.new.ensures ∙ ap marks_given none

pub returns-in-None-clause-taken : goal.returns-in-None-clause-taken
returns-in-None-clause-taken c =
    put_at marks_given c.args.by_slice.now c.remove.new.self c.args.key.now None
    (by_keys (λ cmp. (q : ObjKey) → tree.get cmp c.remove.new.self q ≡ cond (is_eq (cmp c.args.key.now q)) None (tree.get cmp c.args.by_slice.now q)) c.in-None.ensures.updates.0)
