use Rattle.std.proofs.Common.{◌≡◌, ◌&&◌, ◌||◌, ◌++◌, [], ◌∷◌, take, sym, ap, subst, ◌∙◌}
use Rattle.std.proofs.lemmas.List.{take_more}
use Rattle.mesh_base.specs.declared.key.ObjKey.{ObjKey}
use Rattle.key_lists.specs.Keys.{is_key, key_at}
use Rattle.mark_rules.specs.Marks.{has_mark, mark_cmp}
use Rattle.view_types.specs.declared.mark.Mark.{Mark}
use Rattle.endpoint_rows.proofs.KeysAt.{one_put}
use Rattle.slice_marks.proofs.keys.put_keys.Goals as goal

pub loop-mark-preserved : goal.loop-mark-preserved
loop-mark-preserved c =
    let done = take c.loop-mark.mark-index c.args.marks.now in
    let more = take_more c.args.marks.now c.loop-mark.mark-index c.mark-item.result c.loop-mark-test.true ∙ ap (λ mark. done ++ mark ∷ []) (sym c.mark-item.is) in
    record {
      put = subst (λ marks. (m : Mark) (k : ObjKey) → key_at mark_cmp c.put_if_new.new.by m k ≡ ((has_mark marks m && is_key k c.args.key.now) || key_at mark_cmp c.args.by.now m k)) (sym more)
          (one_put mark_cmp (λ mark. mark) done c.mark-item.result c.args.key.now c.args.by.now c.loop-mark.by c.put_if_new.new.by c.loop-mark.invariant.put c.in_ok-put_if_new.ensures.put);
      moved = λ before stay. c.in_ok-put_if_new.ensures.moved before (c.loop-mark.invariant.moved before stay);
    }
