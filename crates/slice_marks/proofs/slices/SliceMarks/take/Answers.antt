use Rattle.std.proofs.Common.{◌≡◌, ◌&&◌, not, subst, ◌∙◌}
use Rattle.key_lists.specs.Keys.{is_key, key_at}
use Rattle.mark_rules.specs.Marks.{has_mark, mark_cmp}
use Rattle.mesh_base.specs.declared.key.ObjKey.{ObjKey}
use Rattle.view_types.specs.declared.mark.Mark.{Mark}
use Rattle.slice_marks.proofs.Agreeing.{taken_agree}
use Rattle.slice_marks.proofs.Reading.{others_taken}
use Rattle.slice_marks.proofs.slices.SliceMarks.take.Goals as goal

pub returns-clause-agree : goal.returns-clause-agree
returns-clause-agree c = λ agree.
    taken_agree c.args.self.now _ agree c.args.key.now c.take_marks-marks.ensures.taken
    (subst (λ marks. (m : Mark) (k : ObjKey) → key_at mark_cmp c.take_keys.new.by m k ≡ (not (has_mark marks m && is_key k c.args.key.now) && key_at mark_cmp c.args.self.now.by_mark m k))
    (c.as_slice.ensures ∙ c.take_marks-marks.ensures.marks) c.take_keys.ensures)

pub returns-clause-moved : goal.returns-clause-moved
returns-clause-moved c =
    others_taken c.args.self.now.by_mark c.take_keys.new.by c.args.key.now c.take_marks-marks.result
    (subst (λ marks. (m : Mark) (k : ObjKey) → key_at mark_cmp c.take_keys.new.by m k ≡ (not (has_mark marks m && is_key k c.args.key.now) && key_at mark_cmp c.args.self.now.by_mark m k))
    c.as_slice.ensures c.take_keys.ensures)
