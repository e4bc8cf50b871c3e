-- What a change of the objects leaves unchanged.
use Rattle.std.specs.Prelude.{◌≡◌, true, false, if◌then◌else◌, List, ◌∷◌, Option, Some, None, flat_map}
use Rattle.std.specs.FinMap.{get, insert, remove}
use Rattle.std.specs.Option.{option_to_list}
use Rattle.mesh_base.specs.declared.key.ObjKey.{ObjKey}
use Rattle.view_types.specs.Objects.{AtKeys, ObjectMap, key_of}
use Rattle.view_types.specs.declared.mark.Mark.{Mark}
use Rattle.view_types.specs.declared.object.Object.{Object}
use Rattle.mark_rules.specs.Marks.{has_mark, marks_of, marks_of_all}

-- the object under a key, if it has the mark
abbrev pub if_marked : Mark → Option Object → Option Object
if_marked mark None = None
if_marked mark (Some o) = if has_mark (marks_of o) mark then Some o else None

-- A change with these marks leads from one map to another: for any other mark, the same objects
-- have it before and after. In both maps each object is stored under its own key.
pub record Leads (changed : List Mark) (before after : ObjectMap) : Type 0 where
  pub at_keys : AtKeys before
  pub keys_kept : AtKeys after
  pub same : (mark : Mark) (key : ObjKey) → has_mark changed mark ≡ false → if_marked mark (get before key) ≡ if_marked mark (get after key)

-- each mark of these objects is among the marks of the change
abbrev pub Covers : List Mark → List Object → Type 0
Covers changed objects = (mark : Mark) → has_mark (flat_map marks_of objects) mark ≡ true → has_mark changed mark ≡ true

-- The marks of a list of objects cover it.
abbrev pub AllAreCovered : Type 0
AllAreCovered = (objects : List Object) → Covers (marks_of_all objects) objects

-- Putting an object changes the map by its marks and those of the object that it replaces.
abbrev pub PutLeads : Type 0
PutLeads = (changed : List Mark) (held : ObjectMap) → AtKeys held → (o : Object) → Covers changed (o ∷ option_to_list (get held (key_of o))) → Leads changed held (insert held (key_of o) o)

-- Removing a key changes the map by the marks of the object that was held.
abbrev pub TakenLeads : Type 0
TakenLeads = (changed : List Mark) (held : ObjectMap) → AtKeys held → (key : ObjKey) → Covers changed (option_to_list (get held key)) → Leads changed held (remove held key)
