use Rattle.std.proofs.Common.{◌≡◌, ◌&&◌, ◌||◌, take}
use Rattle.mesh_base.specs.declared.key.ObjKey.{ObjKey}
use Rattle.key_lists.specs.Keys.{is_key, key_at}
use Rattle.mark_rules.specs.Marks.{has_mark, mark_cmp}
use Rattle.view_types.specs.declared.mark.Mark.{Mark}
use Rattle.slice_marks.specs.Marked.{KeysByMark, OthersStay}
use Rattle.slice_marks.proofs.keys.put_keys.Given as goal

-- the key stands at the marks so far, and all but those that moved are read as before
abbrev pub invariant-loop-mark : goal.invariant-loop-mark
invariant-loop-mark l = record {
  put : (m : Mark) (k : ObjKey) → key_at mark_cmp l.by m k ≡ ((has_mark (take l.mark-index l.marks) m && is_key k l.key) || key_at mark_cmp l.initial.by m k);
  moved : (before : KeysByMark) → OthersStay l.initial.moved before l.initial.by → OthersStay l.moved before l.by;
}
