-- What is noted of Servers is what is held, also with one key more.
use Rattle.std.proofs.Common.{◌≡◌, Bool, true, false, cond, [], Option, Some, None, refl, sym, ap, ◌∙◌}
use Rattle.std.specs.BTreeMap as tree
use Rattle.std.specs.BTreeMap.{BTreeMap, is_at}
use Rattle.std.specs.FinMap.{get}
use Rattle.std.specs.Map.{lookup}
use Rattle.std.specs.Option.{is_some}
use Rattle.std.specs.Ordering.{is_eq}
use Rattle.mesh_base.specs.contracts.key.ObjKeyOrd as key_order
use Rattle.mesh_base.specs.declared.key.ObjKey.{ObjKey}
use Rattle.view_types.specs.Objects.{ObjectMap}
use Rattle.view_types.specs.declared.mark.Mark.TheVariants.{Obj}
use Rattle.view_types.specs.declared.server.ServerSpec.{ServerSpec}
use Rattle.view_rules.specs.Servers.{server_found}
use Rattle.mark_rules.proofs.MarkCmp.{mark_cmp_is}
use Rattle.server_index.proofs.Names.{one_key, own_key}

-- a key's Server, if it is noted
abbrev pub Found : Type 0
Found = Option (Option ServerSpec)

-- the keys are equal in the order of the program
abbrev pub at_key : ObjKey → ObjKey → Bool
at_key at k = is_eq (key_order.TheImpl.cmp-value.it at k)

pub none_noted : (by : BTreeMap ObjKey (Option ServerSpec)) → by.entries ≡ [] → (k : ObjKey) → tree.get key_order.TheImpl.cmp-value.it by k ≡ None
none_noted by empty k = ap (lookup (is_at (key_order.TheImpl.cmp-value.it k))) empty

module _ (held : ObjectMap) where
  abbrev pub AreTrue : (ObjKey → Found) → Type 0
  AreTrue noted = (k : ObjKey) (found : Option ServerSpec) → noted k ≡ Some found → found ≡ server_found (get held k)

  -- none is noted
  pub none_true : (noted : ObjKey → Found) → ((k : ObjKey) → noted k ≡ None) → AreTrue noted
  none_true noted none k found is = absurd (let no : None ≡ Some found = sym (none k) ∙ is in cc no)

  -- what is noted already
  pub noted_before : (noted : Found) (k : ObjKey) → is_some noted ≡ true → ((found : Option ServerSpec) → noted ≡ Some found → found ≡ server_found (get held k))
      → noted ≡ Some (server_found (get held k))
  noted_before None k has right = absurd (cc has)
  noted_before (Some found) k has right = ap Some (right found refl)

  module _ (old new : ObjKey → Found) (at : ObjKey) (found : Option ServerSpec) (is : found ≡ server_found (get held at)) (put : (k : ObjKey) → new k ≡ cond (at_key at k) (Some found) (old k)) where
    -- one key more
    pub more_true : AreTrue old → AreTrue new
    more_true right k other now =
        elim (at_key at k) as (λ b. at_key at k ≡ b → cond b (Some found) (old k) ≡ Some other → other ≡ server_found (get held k)) [
          | true ↦ λ t e.
              let one : at ≡ k = one_key at k (ap is_eq (sym (mark_cmp_is (Obj at) (Obj k))) ∙ t) in
              let same : found ≡ other = cc e in
              sym same ∙ is ∙ ap (λ key. server_found (get held key)) one
          | false ↦ λ t e. right k other e
        ] refl (sym (put k) ∙ now)

    pub more_there : new at ≡ Some (server_found (get held at))
    more_there = put at ∙ ap (λ b. cond b (Some found) (old at)) (ap is_eq (mark_cmp_is (Obj at) (Obj at)) ∙ own_key at) ∙ ap Some is
