-- The Servers of a namespace are at the keys of its mark, so where those are put in, all that match are in.
use Rattle.std.proofs.Common.{◌≡◌, true, false, List, ℕ, Option, Some, None, refl, sym, ap, ◌∙◌}
use Rattle.std.proofs.lemmas.List.Folds.{list_any_at}
use Rattle.std.specs.FinMap.{get}
use Rattle.key_lists.specs.Keys.{has_key, is_key}
use Rattle.mesh_base.specs.declared.key.ObjKey.{ObjKey}
use Rattle.view_types.specs.Objects.{AtKeys, ObjectMap}
use Rattle.view_types.specs.declared.mark.Mark.TheVariants.{ServersIn}
use Rattle.view_types.specs.declared.object.Object.{Object}
use Rattle.view_types.specs.declared.pod.Pod.{Pod}
use Rattle.view_rules.specs.PolicyLaws.{server_key}
use Rattle.mark_rules.specs.MarkLookups.{KeysByMark, is_marked, keys_at}
use Rattle.mark_rules.specs.Marks.{has_mark, marks_of}
use Rattle.mark_rules.specs.declared.keys.ServerKey.{ServerKey}
use Rattle.server_index.specs.Matches.{AreUp, BringsUp, at_name, terms_at}
use Rattle.server_index.specs.Still.{none_without, terms}
use Rattle.server_index.specs.declared.matching.Matching.{Matching}
use Rattle.server_index.proofs.Names.{own_key}

module _ (held : ObjectMap) (key : ServerKey) (pod : Pod) (by_mark : KeysByMark) (own : AtKeys held) where
  -- an object without the mark has no terms
  unmarked : (found : Option Object) → (is_marked (ServersIn key.ns) found ≡ true → ⊥) → terms key pod found ≡ None
  unmarked None apart = refl
  unmarked (Some o) apart =
      elim (has_mark (marks_of o) (ServersIn key.ns)) as (λ b. has_mark (marks_of o) (ServersIn key.ns) ≡ b → terms key pod (Some o) ≡ None) [
        | true ↦ λ t. absurd (apart t)
        | false ↦ λ t. none_without key pod o t
      ] refl

  none_outside : (name : List ℕ) → has_key (server_key key.ns name) (keys_at held (ServersIn key.ns)) ≡ false → terms_at held key pod name ≡ None
  none_outside name misses =
      let k : ObjKey = server_key key.ns name in
      unmarked (get held k) (λ t.
      let has = ((by_mark held own (ServersIn key.ns)).each k).1 t in
      let no : true ≡ false = sym (list_any_at (is_key k) (keys_at held (ServersIn key.ns)) has.0 k has.1 (ap (is_key k) has.2 ∙ own_key k)) ∙ misses in
      cc no)

  -- from none, those at the keys of the namespace are all
  pub all_found : (keys : List ObjKey) → keys ≡ keys_at held (ServersIn key.ns) → (old new : Matching) → ((name : List ℕ) → at_name old name ≡ None)
      → BringsUp held key pod (λ k. has_key k keys) old new → AreUp held key pod new
  all_found keys are old new empty up name =
      up name (λ lacks. empty name ∙ sym (none_outside name (ap (has_key (server_key key.ns name)) (sym are) ∙ lacks)))
