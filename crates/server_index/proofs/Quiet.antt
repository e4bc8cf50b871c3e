-- What is stored of a port stands after a change that concerns neither the names of its Servers nor the values of its Pod's labels.
use Rattle.std.proofs.Common.{◌≡◌, ℕ, Bool, true, false, ◌||◌, List, [], ◌∷◌, Option, Some, None, refl, sym, ap, ◌∙◌, arith}
use Rattle.std.proofs.lemmas.Bool.{and_parts, or_parts}
use Rattle.std.proofs.lemmas.List.Elements.{All-contains, recursion_from_All}
use Rattle.std.proofs.lemmas.Nat.{and_le_r}
use Rattle.std.specs.Cmp.Lexicographic.{nat_list_cmp_total}
use Rattle.std.specs.FinMap.{entries, get}
use Rattle.std.specs.List.{AllByRecursion, list_any}
use Rattle.std.specs.Option.{is_some}
use Rattle.std.specs.Prelude.{slice_get}
use Rattle.label_select.specs.Selects.{LabelMap, label_of}
use Rattle.label_select.specs.declared.selector.Selector.{Selector}
use Rattle.mesh_base.specs.declared.key.ObjKey.{ObjKey}
use Rattle.view_types.specs.Objects.{ObjectMap}
use Rattle.view_types.specs.declared.config.Config.{Config}
use Rattle.view_types.specs.declared.mark.Mark.{Mark}
use Rattle.view_types.specs.declared.mark.Mark.TheVariants.{Obj}
use Rattle.view_types.specs.declared.object.Object.{Object}
use Rattle.view_types.specs.declared.object.Object.TheVariants as object
use Rattle.view_types.specs.declared.pod.Pod.{Pod}
use Rattle.view_types.specs.declared.server.ServerSpec.{ServerSpec}
use Rattle.view_rules.proofs.Among.{contained}
use Rattle.view_rules.proofs.Entries.{entry_at}
use Rattle.view_rules.proofs.Selected.{selects_decides}
use Rattle.view_rules.specs.PodRows.{pod_key}
use Rattle.view_rules.specs.PolicyLaws.{server_key}
use Rattle.view_rules.specs.Servers.{is_for_port, selects_pod, server_found}
use Rattle.mark_rules.specs.Changes.{Leads}
use Rattle.mark_rules.specs.Marks.{has_mark, same_mark}
use Rattle.mark_rules.specs.declared.keys.ServerKey.{ServerKey}
use Rattle.server_index.specs.Concerned.{HaveValues, first_probe, may_want, stirs, wanted, wanted_by}
use Rattle.server_index.specs.Matches.{IsUp, at_name}
use Rattle.server_index.specs.Probes.{may_have, probe_of}
use Rattle.server_index.specs.Requiring.{Label}
use Rattle.server_index.specs.Standing.{Stands, its_pod}
use Rattle.server_index.specs.Still.{pod_stays, stands_after, terms, terms_stay}
use Rattle.server_index.specs.declared.kept.KeptServer.{KeptServer}
use Rattle.server_index.specs.declared.matching.Matching.{Matching}
use Rattle.server_index.specs.declared.name_filter.NameFilter.{NameFilter}
use Rattle.server_index.proofs.Names.{one_key}
use Rattle.server_index.proofs.Selecting.{hidden}

-- ---- a Server that selects the Pod is wanted

has_zero : (values : NameFilter) → may_have values 0 ≡ true
has_zero values = let least = and_le_r values.bits 0 in grind (arith, least)

abbrev HasLabel : LabelMap → Label → Type 0
HasLabel labels pair = label_of labels pair.0 ≡ Some pair.1

module _ (values : NameFilter) (pod : Pod) (have : HaveValues values (entries pod.meta.labels)) where
  first_found : (pairs : List Label) → AllByRecursion (HasLabel pod.meta.labels) pairs → may_have values (first_probe (slice_get pairs 0)) ≡ true
  first_found [] each = has_zero values
  first_found (p ∷ ps) each =
      let e = entry_at nat_list_cmp_total pod.meta.labels p.0 p.1 each.0 in
      ap (λ value. may_have values (probe_of value)) (sym e.2)
      ∙ All-contains (λ (label : Label). may_have values (probe_of label.1) ≡ true) (entries pod.meta.labels) e.0 have (contained (entries pod.meta.labels) e.0 e.1)

  by_pods : (pods : Option Selector) → selects_pod pods pod ≡ true → may_want values (wanted_by pods) ≡ true
  by_pods None e = absurd (cc e)
  by_pods (Some selector) e =
      first_found (entries selector.exact) (recursion_from_All (HasLabel pod.meta.labels) (entries selector.exact) ((selects_decides selector pod.meta.labels).0 e).exact)

  is_wanted : (ns : List ℕ) (port : ℕ) (s : ServerSpec) → is_for_port ns pod port s ≡ true → may_want values (wanted (Some s)) ≡ true
  is_wanted ns port s e = by_pods s.pods (and_parts _ _ (and_parts _ _ e).0).1

  -- so one that isn't has no terms
  none_wanted : (key : ServerKey) (found : Option Object) → may_want values (wanted (server_found found)) ≡ false → terms key pod found ≡ None
  none_wanted key None lacks = refl
  none_wanted key (Some (object.Server s)) lacks = hidden (is_for_port key.ns pod key.port s) _ (λ t. sym (is_wanted key.ns key.port s t) ∙ lacks)
  none_wanted key (Some _) lacks = refl

-- ---- a name that the filter lacks

no_value : {A : Type 0} (found : Option A) → (is_some found ≡ true → true ≡ false) → found ≡ None
no_value None apart = refl
no_value (Some a) apart = absurd (let no : true ≡ false = apart refl in cc no)

none_named : (servers : Matching) (name : List ℕ) → may_have servers.names (probe_of name) ≡ false → at_name servers name ≡ None
none_named servers name lacks = no_value (at_name servers name) (λ t. sym (servers.named name t) ∙ lacks)

-- ---- a mark of a change that concerns nothing

mark_is : (k : ObjKey) (mark : Mark) → same_mark (Obj k) mark ≡ true → mark ≡ Obj k
mark_is k (Obj key) t = ap Obj (sym (one_key k key t))
mark_is k _ t = absurd (cc t)

module _ (stirred : Mark → Bool) (k : ObjKey) where
  none_stirred : (changed : List Mark) → list_any stirred changed ≡ false → has_mark changed (Obj k) ≡ true → stirred (Obj k) ≡ false
  none_stirred [] lacks has = absurd (cc has)
  none_stirred (mark ∷ marks) lacks has =
      elim (same_mark (Obj k) mark) as (λ b. same_mark (Obj k) mark ≡ b → (b || has_mark marks (Obj k)) ≡ true → stirred (Obj k) ≡ false) [
        | true ↦ λ t h. ap stirred (sym (mark_is k mark t)) ∙ (or_parts _ _ lacks).0
        | false ↦ λ t h. none_stirred marks (or_parts _ _ lacks).1 h
      ] refl has

module _ (config : Config) (key : ServerKey) (kept : KeptServer) {changed : List Mark} {before after : ObjectMap} (leads : Leads changed before after) (well : Stands config before key kept)
    (quiet : list_any (stirs after kept.servers.names kept.values) changed ≡ false) where
  no_pod : has_mark changed (Obj (pod_key key.ns key.pod)) ≡ false
  no_pod =
      elim (has_mark changed (Obj (pod_key key.ns key.pod))) as (λ b. has_mark changed (Obj (pod_key key.ns key.pod)) ≡ b → b ≡ false) [
        | true ↦ λ t. none_stirred (stirs after kept.servers.names kept.values) (pod_key key.ns key.pod) changed quiet t
        | false ↦ λ t. refl
      ] refl

  -- the Server of a name is the one that was up, or neither was nor is one
  still_up : (pod : Pod) → its_pod before key ≡ Some pod → (name : List ℕ) → IsUp after key pod kept.servers name
  still_up pod is name =
      let k : ObjKey = server_key key.ns name in
      elim (has_mark changed (Obj k)) as (λ b. has_mark changed (Obj k) ≡ b → IsUp after key pod kept.servers name) [
        | true ↦ λ t.
            let parts = or_parts _ _ (none_stirred (stirs after kept.servers.names kept.values) k changed quiet t) in
            none_named kept.servers name parts.0 ∙ sym (none_wanted kept.values pod (well.values pod is) key (get after k) parts.1)
        | false ↦ λ t. well.servers pod is name ∙ terms_stay leads key pod name t
      ] refl

  pub left_alone : Stands config after key kept
  left_alone = stands_after config key kept before after leads.keys_kept (pod_stays leads key no_pod) still_up well.values well.row well.marks
