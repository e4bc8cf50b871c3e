use Rattle.std.proofs.Common.{◌≡◌, ◌&&◌, ◌||◌, not, List, subst}
use Rattle.key_lists.specs.Keys.{is_key, key_at}
use Rattle.mark_rules.specs.Marks.{has_mark, mark_cmp}
use Rattle.mesh_base.specs.declared.key.ObjKey.{ObjKey}
use Rattle.view_types.specs.declared.mark.Mark.{Mark}
use Rattle.slice_marks.specs.Marked.{Leaves}
use Rattle.slice_marks.proofs.Agreeing.{moved_agree}
use Rattle.slice_marks.proofs.Reading.{others_taken}
use Rattle.slice_marks.proofs.slices.SliceMarks.replace.Goals as goal

pub returns-clause-agree : goal.returns-clause-agree
returns-clause-agree c = λ agree.
    moved_agree c.args.self.now _ agree c.args.key c.args.marks c.in_ok-moved.moved c.take_keys.new.by
    (subst (λ (before : List Mark). Leaves before c.args.marks c.in_ok-moved.moved) c.of.ensures (subst (λ (marks : List Mark). Leaves c.of.result.now marks c.in_ok-moved.moved) c.as_slice.ensures c.in_ok-moved.ensures))
    c.in_ok-put_marks.ensures
    (subst (λ marks. (m : Mark) (k : ObjKey) → key_at mark_cmp c.take_keys.new.by m k ≡ (not (has_mark marks m && is_key k c.args.key) && key_at mark_cmp c.args.self.now.by_mark m k)) c.as_slice-2.ensures c.take_keys.ensures)
    (subst (λ marks. (m : Mark) (k : ObjKey) → key_at mark_cmp c.put_keys.new.by m k ≡ ((has_mark marks m && is_key k c.args.key) || key_at mark_cmp c.take_keys.new.by m k)) c.as_slice-3.ensures c.in_ok-put_keys.ensures.put)

pub returns-clause-moved : goal.returns-clause-moved
returns-clause-moved c =
    c.in_ok-put_keys.ensures.moved c.args.self.now.by_mark
    (others_taken c.args.self.now.by_mark c.take_keys.new.by c.args.key c.in_ok-moved.moved
    (subst (λ marks. (m : Mark) (k : ObjKey) → key_at mark_cmp c.take_keys.new.by m k ≡ (not (has_mark marks m && is_key k c.args.key) && key_at mark_cmp c.args.self.now.by_mark m k)) c.as_slice-2.ensures c.take_keys.ensures))
