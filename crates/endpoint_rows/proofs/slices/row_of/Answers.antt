use Rattle.std.proofs.Common.{◌≡◌, Some, None, ap, ◌∙◌}
use Rattle.std.specs.BTreeMap as tree
use Rattle.mesh_base.specs.KeyOrder.{key_cmp}
use Rattle.row_places.specs.Rows.{row_at}
use Rattle.endpoint_rows.specs.Kept.{rows_given}
use Rattle.endpoint_rows.proofs.Found.{own_found}
use Rattle.endpoint_rows.proofs.Orders.{by_keys}
use Rattle.endpoint_rows.proofs.slices.row_of.Goals as goal

pub returns-in-Some-clause-value : goal.returns-in-Some-clause-value
returns-in-Some-clause-value c =
    let found : Some c.in-Some.rows.now ≡ tree.get key_cmp c.args.by_slice.now c.args.key.now = by_keys (λ cmp. Some c.in-Some.rows.now ≡ tree.get cmp c.args.by_slice.now c.args.key.now) c.in-Some.ensures.value in
    c.at.ensures ∙ ap (λ given. row_at (rows_given given) c.args.pair.now) found

pub returns-in-None-clause-value : goal.returns-in-None-clause-value
returns-in-None-clause-value c =
    let none : None ≡ tree.get key_cmp c.args.by_slice.now c.args.key.now = by_keys (λ cmp. None ≡ tree.get cmp c.args.by_slice.now c.args.key.now) c.in-None.ensures.value in
    ap (λ given. row_at (rows_given given) c.args.pair.now) none

pub returns-in-Some-clause-own : goal.returns-in-Some-clause-own
returns-in-Some-clause-own c = own_found c.in-Some.rows.now c.args.pair.now _ c.at.ensures
