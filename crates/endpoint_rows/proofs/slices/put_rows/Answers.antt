use Rattle.std.proofs.Common.{◌≡◌, cond, Some}
use Rattle.std.specs.BTreeMap as tree
use Rattle.std.specs.BTreeMap.{IsOrdered}
use Rattle.std.specs.Ordering.{is_eq}
use Rattle.mesh_base.specs.declared.key.ObjKey.{ObjKey}
use Rattle.endpoint_rows.specs.Kept.{rows_given}
use Rattle.endpoint_rows.proofs.KeysAt.{put_at}
use Rattle.endpoint_rows.proofs.Orders.{by_keys}
use Rattle.endpoint_rows.proofs.slices.put_rows.Goals as goal

pub returns-clause-ordered : goal.returns-clause-ordered
returns-clause-ordered c = by_keys (λ cmp. IsOrdered cmp c.insert.new.self) c.in_ok-insert.ensures.ordered

pub returns-clause-put : goal.returns-clause-put
returns-clause-put c =
    put_at rows_given c.args.by_slice.now c.insert.new.self c.args.key (Some c.args.rows)
    (by_keys (λ cmp. (q : ObjKey) → tree.get cmp c.insert.new.self q ≡ cond (is_eq (cmp c.args.key q)) (Some c.args.rows) (tree.get cmp c.args.by_slice.now q)) c.in_ok-insert.ensures.updates.0)
