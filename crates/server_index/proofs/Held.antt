-- An object that stands among those held is found at its own key, and counts there.
use Rattle.std.proofs.Common.{◌≡◌, ◌≤◌, ℕ, List, slice_get, Option, Some, sym, ap, subst, ◌∙◌, arith}
use Rattle.std.specs.FinMap.{get, values}
use Rattle.std.specs.Option.{is_some}
use Rattle.std.proofs.lemmas.Option.{get_or_from_slice_get, slice_get_within}
use Rattle.mesh_base.proofs.KeyOrder.{keys_total}
use Rattle.mesh_base.specs.declared.key.Kind.{Kind}
use Rattle.mesh_base.specs.declared.key.ObjKey.{ObjKey}
use Rattle.object_store.specs.Relisted.{is_of, of_kind}
use Rattle.view_types.specs.Objects.{AtKeys, ObjectMap, key_of}
use Rattle.view_types.specs.declared.mark.Mark.TheVariants.{Obj}
use Rattle.view_types.specs.declared.object.Object.{Object}
use Rattle.view_rules.proofs.Among.{Among, among_from, from_kept}
use Rattle.view_rules.proofs.Entries.{held_somewhere}
use Rattle.mark_rules.proofs.Counts.{key_counts, one_if}
use Rattle.mark_rules.specs.Reads.{count_at}

pub found_at : (held : ObjectMap) → AtKeys held → (kind : Kind) (listed : List Object) → listed ≡ of_kind kind held → (place : ℕ) (key : ObjKey) (o : Object) → Some o ≡ slice_get listed place → key_of o ≡ key
    → get held key ≡ Some o
found_at held own kind listed is place key o shown same =
    let within = slice_get_within listed place o (sym shown) in
    let at = get_or_from_slice_get listed place o o (sym shown) in
    let among = from_kept (λ o. is_of kind (key_of o)) (values held) o (subst (λ (os : List Object). Among o os) is (among_from listed o (place, omega (arith, within), at))) in
    let somewhere = held_somewhere keys_total held o among.0 in
    ap (get held) (sym same ∙ own somewhere.0 o somewhere.1) ∙ somewhere.1

-- and it counts among the objects with the mark of the key
pub counts_one : (held : ObjectMap) → AtKeys held → (key : ObjKey) (o : Object) → get held key ≡ Some o → 1 ≤ count_at held (Obj key)
counts_one held own key o is = subst (λ (found : Option Object). one_if (is_some found) ≤ count_at held (Obj key)) is (key_counts held own key)
