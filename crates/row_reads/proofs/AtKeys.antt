-- References of the objects at keys.
use Rattle.std.proofs.Common.{◌≡◌, ◌++◌, List, [], ◌∷◌, Option, Some, None, refl, ap, ◌∙◌}
use Rattle.std.specs.FinMap.{get}
use Rattle.std.specs.List.{filter_map, flat_map}
use Rattle.mesh_base.specs.declared.key.ObjKey.{ObjKey}
use Rattle.view_types.specs.Objects.{AtKeys, ObjectMap}
use Rattle.view_types.specs.declared.mark.Mark.{Mark}
use Rattle.view_types.specs.declared.object.Object.{Object}
use Rattle.mark_rules.specs.MarkLookups.{FoundAtKeys, keys_at}
use Rattle.mark_rules.specs.Marks.{objects_with}
use Rattle.row_reads.specs.References.{references, references_at, references_of}
use Rattle.row_reads.specs.declared.references.Reference.{Reference}

module _ (held : ObjectMap) (sort : Reference) where
  of_found : (key : ObjKey) (found : Option Object) → get held key ≡ found → (keys : List ObjKey)
      → flat_map (references_at held sort) keys ≡ flat_map (references sort) (filter_map (get held) keys)
      → references_of sort found ++ flat_map (references_at held sort) keys ≡ flat_map (references sort) (filter_map (get held) (key ∷ keys))
  of_found key None is keys rest = rw is rest
  of_found key (Some o) is keys rest = rw is (ap (λ marks. references sort o ++ marks) rest)

  found_references : (keys : List ObjKey) → flat_map (references_at held sort) keys ≡ flat_map (references sort) (filter_map (get held) keys)
  found_references [] = refl
  found_references (key ∷ keys) = of_found key (get held key) refl keys (found_references keys)

  -- those of the objects with a mark are those at its keys
  pub at_mark : FoundAtKeys → AtKeys held → (mark : Mark) (keys : List ObjKey) → keys ≡ keys_at held mark
      → flat_map (references_at held sort) keys ≡ flat_map (references sort) (objects_with held (mark ∷ []))
  at_mark found at_keys mark keys is =
      ap (flat_map (references_at held sort)) is ∙ found_references (keys_at held mark) ∙ ap (flat_map (references sort)) (found held at_keys mark)
