use Rattle.std.proofs.Common.{◌<◌, List, None, btree_map_len}
use Rattle.std.specs.BTreeMap.{BTreeMap}
use Rattle.mesh_base.specs.declared.key.ObjKey.{ObjKey}
use Rattle.key_lists.specs.Keys.{AllHaveKeys}
use Rattle.key_lists.proofs.Parts.{all_hold}
use Rattle.key_lists.proofs.nested.let_go.Goals as goal

pub returns-clause-kept : goal.returns-clause-kept
returns-clause-kept g c = λ others.
    let held : BTreeMap g.row.B.Denot (List ObjKey) → Type 0 = λ by. (0 < btree_map_len by) × AllHaveKeys g.B.Ord.cmp by in
    all_hold g.A.Ord.cmp held c.args.by.now c.remove.new.self c.args.a.now None c.remove.ensures.updates.0 (λ x is. absurd (cc is)) others
