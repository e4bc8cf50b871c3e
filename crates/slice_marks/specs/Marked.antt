-- Slices by the marks that their rows read.
use Rattle.std.specs.Prelude.{◌≡◌, Bool, true, false, List, [], Option, Some, None, filter}
use Rattle.std.specs.BTreeMap as tree
use Rattle.std.specs.BTreeMap.{BTreeMap}
use Rattle.std.specs.List.{list_any}
use Rattle.key_lists.specs.Keys.{key_at, keys_at}
use Rattle.mark_rules.specs.Marks.{has_mark, mark_cmp}
use Rattle.mesh_base.specs.KeyOrder.{key_cmp}
use Rattle.mesh_base.specs.declared.key.ObjKey.{ObjKey}
use Rattle.view_types.specs.declared.mark.Mark.{Mark}
use Rattle.slice_marks.specs.declared.slices.SliceMarks.{SliceMarks}

abbrev pub MarksBySlice : Type 0
MarksBySlice = BTreeMap ObjKey (List Mark)

abbrev pub KeysByMark : Type 0
KeysByMark = BTreeMap Mark (List ObjKey)

abbrev pub marks_given : Option (List Mark) → List Mark
marks_given None = []
marks_given (Some marks) = marks

-- the marks that the slice at a key reads
abbrev pub marks_at : MarksBySlice → ObjKey → List Mark
marks_at by key = marks_given (tree.get key_cmp by key)

-- each mark has the keys of the slices that read it
pub record Agree (s : SliceMarks) : Type 0 where
  pub keys : (mark : Mark) (key : ObjKey) → key_at mark_cmp s.by_mark mark key ≡ has_mark (marks_at s.by_slice key) mark

-- each of the earlier marks is among the current ones or the removed ones
abbrev pub Leaves : List Mark → List Mark → List Mark → Type 0
Leaves before marks left = (mark : Mark) → has_mark left mark ≡ false → has_mark before mark ≡ true → has_mark marks mark ≡ true

-- ---- the marks that are read

-- a slice reads the mark
abbrev pub is_read : KeysByMark → Mark → Bool
is_read by mark = list_any (λ key. true) (keys_at mark_cmp by mark)

-- the marks that slices read
abbrev pub marks_read : KeysByMark → List Mark
marks_read by = filter (is_read by) (tree.keys by)

-- for each mark except these, whether a slice reads it is as before
abbrev pub OthersStay : List Mark → KeysByMark → KeysByMark → Type 0
OthersStay marks old new = (mark : Mark) → has_mark marks mark ≡ false → is_read new mark ≡ is_read old mark
