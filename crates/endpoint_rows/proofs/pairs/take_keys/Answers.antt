use Rattle.std.proofs.Common.{◌≡◌, ◌&&◌, not, ◌++◌, [], ◌∷◌, take, sym, ap, subst, ◌∙◌}
use Rattle.std.proofs.lemmas.List.{take_more}
use Rattle.mesh_base.specs.declared.key.ObjKey.{ObjKey}
use Rattle.key_lists.specs.Keys.{is_key, key_at}
use Rattle.view_rules.specs.Batch.{has_pair}
use Rattle.view_rules.specs.Endpoints.{pair_cmp, pair_of}
use Rattle.endpoint_rows.specs.Kept.{Pair}
use Rattle.endpoint_rows.proofs.KeysAt.{one_taken}
use Rattle.endpoint_rows.proofs.pairs.take_keys.Goals as goal

pub loop-row-preserved : goal.loop-row-preserved
loop-row-preserved c =
    let done = take c.loop-row.row-index c.args.rows.now in
    let more = take_more c.args.rows.now c.loop-row.row-index c.row-item.result c.loop-row-test.true ∙ ap (λ row. done ++ row ∷ []) (sym c.row-item.is) in
    subst (λ rows. (p : Pair) (k : ObjKey) → key_at pair_cmp c.take_key.new.by p k ≡ (not (has_pair rows p && is_key k c.args.key.now) && key_at pair_cmp c.args.by.now p k)) (sym more)
    (one_taken pair_cmp pair_of done c.row-item.result c.args.key.now c.args.by.now c.loop-row.by c.take_key.new.by c.loop-row.invariant c.take_key.ensures)
