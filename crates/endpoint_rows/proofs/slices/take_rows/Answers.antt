use Rattle.std.proofs.Common.{◌≡◌, cond, Some, None, ap, ◌∙◌}
use Rattle.std.specs.BTreeMap as tree
use Rattle.std.specs.BTreeMap.{IsOrdered}
use Rattle.std.specs.Ordering.{is_eq}
use Rattle.mesh_base.specs.KeyOrder.{key_cmp}
use Rattle.mesh_base.specs.declared.key.ObjKey.{ObjKey}
use Rattle.endpoint_rows.specs.Kept.{rows_given}
use Rattle.endpoint_rows.proofs.KeysAt.{put_at}
use Rattle.endpoint_rows.proofs.Orders.{by_keys}
use Rattle.endpoint_rows.proofs.slices.take_rows.Goals as goal

pub returns-in-Some-clause-ordered : goal.returns-in-Some-clause-ordered
returns-in-Some-clause-ordered c = by_keys (λ cmp. IsOrdered cmp c.remove.new.self) c.in-Some.ensures.ordered

pub returns-in-Some-clause-rows : goal.returns-in-Some-clause-rows
returns-in-Some-clause-rows c =
    let found : Some c.in-Some.rows ≡ tree.get key_cmp c.args.by_slice.now c.args.key.now = by_keys (λ cmp. Some c.in-Some.rows ≡ tree.get cmp c.args.by_slice.now c.args.key.now) c.in-Some.ensures.value in
    ap rows_given found

pub returns-in-Some-clause-taken : goal.returns-in-Some-clause-taken
returns-in-Some-clause-taken c =
    put_at rows_given c.args.by_slice.now c.remove.new.self c.args.key.now None
    (by_keys (λ cmp. (q : ObjKey) → tree.get cmp c.remove.new.self q ≡ cond (is_eq (cmp c.args.key.now q)) None (tree.get cmp c.args.by_slice.now q)) c.in-Some.ensures.updates.0)

pub returns-in-None-clause-ordered : goal.returns-in-None-clause-ordered
returns-in-None-clause-ordered c = by_keys (λ cmp. IsOrdered cmp c.remove.new.self) c.in-None.ensures.ordered

pub returns-in-None-clause-rows : goal.returns-in-None-clause-rows
returns-in-None-clause-rows c =
    let none : None ≡ tree.get key_cmp c.args.by_slice.now c.args.key.now = by_keys (λ cmp. None ≡ tree.get cmp c.args.by_slice.now c.args.key.now) c.in-None.ensures.value in
    c.new.ensures ∙ ap rows_given none

pub returns-in-None-clause-taken : goal.returns-in-None-clause-taken
returns-in-None-clause-taken c =
    put_at rows_given c.args.by_slice.now c.remove.new.self c.args.key.now None
    (by_keys (λ cmp. (q : ObjKey) → tree.get cmp c.remove.new.self q ≡ cond (is_eq (cmp c.args.key.now q)) None (tree.get cmp c.args.by_slice.now q)) c.in-None.ensures.updates.0)
