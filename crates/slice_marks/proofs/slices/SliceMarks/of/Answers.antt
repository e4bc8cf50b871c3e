use Rattle.std.proofs.Common.{◌≡◌, Some, None, ap, ◌∙◌}
use Rattle.std.specs.BTreeMap as tree
use Rattle.mesh_base.specs.KeyOrder.{key_cmp}
use Rattle.slice_marks.specs.Marked.{marks_given}
use Rattle.endpoint_rows.proofs.Orders.{by_keys}
use Rattle.slice_marks.proofs.slices.SliceMarks.of.Goals as goal

pub returns-in-Some : goal.returns-in-Some
returns-in-Some c =
    let found : Some c.in-Some.marks.now ≡ tree.get key_cmp c.args.self.now.by_slice c.args.key.now = by_keys (λ cmp. Some c.in-Some.marks.now ≡ tree.get cmp c.args.self.now.by_slice c.args.key.now) c.in-Some.ensures.value in
    c.as_slice.ensures ∙ ap marks_given found

pub returns-in-None : goal.returns-in-None
returns-in-None c =
    let none : None ≡ tree.get key_cmp c.args.self.now.by_slice c.args.key.now = by_keys (λ cmp. None ≡ tree.get cmp c.args.self.now.by_slice c.args.key.now) c.in-None.ensures.value in
    ap marks_given none
