-- What is stored for a port determines its row, and is unchanged if the port reads no mark of a
-- change.
use Rattle.std.proofs.Common.{◌≡◌, ℕ, Bool, true, false, cond, List, [], ◌∷◌, Option, Some, None, refl, sym, ap, ◌∙◌}
use Rattle.std.specs.BTreeMap as tree
use Rattle.std.specs.Cmp.{tied_itself}
use Rattle.std.specs.Cmp.Lexicographic.{nat_list_cmp_total, slice_cmp}
use Rattle.std.specs.FinMap.{entries, get}
use Rattle.std.specs.Map.{keys_of, lookup}
use Rattle.std.specs.Option.{is_some}
use Rattle.std.specs.Ordering.{is_eq, nat_cmp}
use Rattle.std.specs.Prelude.{option_map, slice_get}
use Rattle.std.proofs.Math.Bool.{or-false}
use Rattle.std.proofs.lemmas.Map.Lookups.{exact_bytes}
use Rattle.std.proofs.lemmas.Map.Views.{btree_map_contains_key_iff}
use Rattle.view_types.specs.Objects.{AtKeys, ObjectMap}
use Rattle.view_types.specs.declared.config.Config.{Config}
use Rattle.view_types.specs.declared.mark.Mark.{Mark}
use Rattle.view_types.specs.declared.mark.Mark.TheVariants.{Obj, ServersIn}
use Rattle.view_types.specs.declared.object.Object.{Object}
use Rattle.view_types.specs.declared.object.Object.TheVariants as object
use Rattle.view_types.specs.declared.pod.Pod.{Pod}
use Rattle.view_types.specs.declared.server.ServerSpec.{ServerSpec}
use Rattle.view_rules.proofs.ServersOfPorts.{server_told, servers_are_the_least}
use Rattle.view_rules.specs.Inbound.{probe_paths}
use Rattle.view_rules.specs.PodRows.{pod_found, pod_key}
use Rattle.view_rules.specs.PolicyLaws.{server_key}
use Rattle.view_rules.specs.Servers.{chosen_server, is_for_port, server_found}
use Rattle.mark_rules.proofs.MarkTests.{neither_first, neither_second}
use Rattle.mark_rules.proofs.MarkedObjects.{held_stays}
use Rattle.mark_rules.proofs.ServerMatches.{first_is_chosen}
use Rattle.mark_rules.proofs.SortsOfMarks.{server_has}
use Rattle.mark_rules.specs.Changes.{Leads, if_marked}
use Rattle.mark_rules.specs.Marks.{has_mark, marks_of}
use Rattle.mark_rules.specs.Reads.{server_reads}
use Rattle.mark_rules.specs.Rows.{ServerPart, part_of, server_part}
use Rattle.mark_rules.specs.ServerMatches.{AreMatches, is_match}
use Rattle.mark_rules.specs.declared.keys.ServerKey.{ServerKey}
use Rattle.row_table.specs.IndexRows.{KeptShows, KeptStays}
use Rattle.server_index.specs.Concerned.{HaveValues}
use Rattle.server_index.specs.Matches.{AreUp, Terms, at_name, part_from, terms_at, terms_of}
use Rattle.server_index.specs.Standing.{Stands, its_pod, row_from}
use Rattle.server_index.specs.declared.kept.KeptServer.{KeptServer}
use Rattle.server_index.specs.declared.matching.Matching.{Matching}

-- ---- the first of the Servers that match is the chosen one

abbrev terms_in : ServerSpec → Option Terms
terms_in s = Some (s.protocol, s.policy)

module _ (ns : List ℕ) (pod : Pod) (port : ℕ) where
  told : (s : ServerSpec) (b : Bool) → b ≡ is_some {T = Terms} (cond b (terms_in s) None)
  told s true = refl
  told s false = refl

  -- a Server matches exactly if it has terms
  matches : (found : Option Object) → is_match ns pod port found ≡ is_some (terms_of ns pod port (server_found found))
  matches None = refl
  matches (Some (object.Server s)) = told s (is_for_port ns pod port s)
  matches (Some _) = refl

module _ (held : ObjectMap) (own : AtKeys held) (key : ServerKey) (pod : Pod) (servers : Matching) (up : AreUp held key pod servers) where
  abbrev names : List (List ℕ)
  names = tree.keys servers.by_name

  names_match : AreMatches held key.ns pod key.port names
  names_match = record {
    rise = servers.ordered;
    each = λ name.
        let among = btree_map_contains_key_iff nat_list_cmp_total exact_bytes servers.by_name name in
        let same : is_match key.ns pod key.port (get held (server_key key.ns name)) ≡ is_some (at_name servers name) =
        matches key.ns pod key.port (get held (server_key key.ns name)) ∙ ap is_some (sym (up name)) in
        (λ at. same ∙ among.1 at, λ is. among.0 (sym same ∙ is));
  }

  -- the terms of the Server that is chosen
  chosen_terms : (s : ServerSpec) → chosen_server held key.ns pod key.port ≡ Some s → terms_at held key pod s.meta.name ≡ Some (s.protocol, s.policy)
  chosen_terms s is =
      let least = (servers_are_the_least held own key.ns pod key.port).some s is in
      let passes : is_for_port key.ns pod key.port s ≡ true = (server_told held own key.ns pod key.port s least.is).0 in
      ap (λ found. terms_of key.ns pod key.port (server_found found)) least.is.at_key ∙ ap (λ b. cond b (terms_in s) None) passes

  first_at : (name : List ℕ) (terms : Terms) (rest : List (List ℕ × Terms)) → lookup (λ k. is_eq (slice_cmp nat_cmp name k)) ((name, terms) ∷ rest) ≡ Some terms
  first_at name terms rest = ap (λ b. cond b (Some terms) (lookup (λ k. is_eq (slice_cmp nat_cmp name k)) rest)) (ap is_eq (tied_itself nat_list_cmp_total name))

  module _ (config : Config) where
    by : (entries : List (List ℕ × Terms)) (chosen : Option ServerSpec) → servers.by_name.entries ≡ entries → chosen_server held key.ns pod key.port ≡ chosen
        → option_map (λ (s : ServerSpec). s.meta.name) chosen ≡ slice_get (keys_of entries) 0 → part_from config pod key.port (slice_get entries 0) ≡ part_of config pod key.port chosen
    by [] None are is first = refl
    by [] (Some s) are is first = absurd (cc first)
    by (e ∷ es) None are is first = absurd (cc first)
    by (e ∷ es) (Some s) are is first =
        let named : s.meta.name ≡ e.0 = cc first in
        let at : at_name servers e.0 ≡ Some e.1 = ap (lookup (λ k. is_eq (slice_cmp nat_cmp e.0 k))) are ∙ first_at e.0 e.1 es in
        let both : Some e.1 ≡ Some (s.protocol, s.policy) = sym at ∙ up e.0 ∙ ap (terms_at held key pod) (sym named) ∙ chosen_terms s is in
        let terms : e.1 ≡ (s.protocol, s.policy) = cc both in
        λ i. ((terms i).0, (terms i).1, Some (sym named i), probe_paths pod key.port)

    pub first_part : part_from config pod key.port (slice_get servers.by_name.entries 0) ≡ part_of config pod key.port (chosen_server held key.ns pod key.port)
    first_part = by servers.by_name.entries (chosen_server held key.ns pod key.port) refl refl (first_is_chosen held own key.ns pod key.port names names_match)

shown : (config : Config) (held : ObjectMap) → AtKeys held → (key : ServerKey) (servers : Matching) (found : Option Pod) → ((pod : Pod) → found ≡ Some pod → AreUp held key pod servers)
    → row_from config key.port servers found ≡ option_map (λ pod. part_of config pod key.port (chosen_server held key.ns pod key.port)) found
shown config held own key servers None up = refl
shown config held own key servers (Some pod) up = ap Some (first_part held own key pod servers (up pod refl) config)

abbrev pub row_in : KeptServer → Option ServerPart
row_in kept = kept.row

abbrev pub marks_in : KeptServer → List Mark
marks_in kept = kept.marks

-- what is stored determines the row and its marks
pub stands_show : (config : Config) → KeptShows (record { row_of = server_part config; reads = λ held. server_reads }) (Stands config) row_in marks_in
stands_show config held key kept well = record {
  is_filter = well.row ∙ shown config held well.own key kept.servers (its_pod held key) well.servers;
  are_read = λ mark. ap (λ marks. has_mark marks mark) well.marks;
}

-- ---- a change of which the port reads no mark

module _ {changed : List Mark} {before after : ObjectMap} (leads : Leads changed before after) (key : ServerKey) where
  pub pod_stays : has_mark changed (Obj (pod_key key.ns key.pod)) ≡ false → its_pod before key ≡ its_pod after key
  pod_stays misses = ap pod_found (held_stays leads (pod_key key.ns key.pod) misses)

  -- the terms of a name whose key is not of the change
  pub terms_stay : (pod : Pod) (name : List ℕ) → has_mark changed (Obj (server_key key.ns name)) ≡ false → terms_at before key pod name ≡ terms_at after key pod name
  terms_stay pod name misses = ap (λ found. terms_of key.ns pod key.port (server_found found)) (held_stays leads (server_key key.ns name) misses)

module _ (key : ServerKey) (pod : Pod) where
  abbrev pub terms : Option Object → Option Terms
  terms found = terms_of key.ns pod key.port (server_found found)

  hidden : (s : ServerSpec) (b : Bool) → (b ≡ true → true ≡ false) → cond {A = Option Terms} b (terms_in s) None ≡ None
  hidden s true lacks = absurd (let no : true ≡ false = lacks refl in cc no)
  hidden s false lacks = refl

  -- an object that lacks the mark of the namespace's Servers has no terms
  pub none_without : (o : Object) → has_mark (marks_of o) (ServersIn key.ns) ≡ false → terms (Some o) ≡ None
  none_without (object.Server s) lacks = hidden s (is_for_port key.ns pod key.port s) (λ t.
      sym (sym (or-false (has_mark (marks_of (object.Server s)) (ServersIn key.ns))) ∙ server_has key.ns pod key.port (object.Server s) t) ∙ lacks)
  none_without _ lacks = refl

  -- the terms depend only on the object with the mark
  through_mark : (found : Option Object) → terms found ≡ terms (if_marked (ServersIn key.ns) found)
  through_mark None = refl
  through_mark (Some o) =
      elim (has_mark (marks_of o) (ServersIn key.ns)) as (λ b. has_mark (marks_of o) (ServersIn key.ns) ≡ b → terms (Some o) ≡ terms (cond b (Some o) None)) [
        | true ↦ λ t. refl
        | false ↦ λ t. none_without o t
      ] refl

  all_terms_stay : {changed : List Mark} {before after : ObjectMap} → Leads changed before after → has_mark changed (ServersIn key.ns) ≡ false → (name : List ℕ)
      → terms_at before key pod name ≡ terms_at after key pod name
  all_terms_stay {changed} {before} {after} leads misses name =
      through_mark (get before (server_key key.ns name)) ∙ ap terms (leads.same (ServersIn key.ns) (server_key key.ns name) misses) ∙ sym (through_mark (get after (server_key key.ns name)))

-- if the stored Servers are up after a change that leaves the Pod unchanged, the filter has the
-- values of the Pod's labels, and the row is from the Servers, what is stored stands
pub stands_after : (config : Config) (key : ServerKey) (kept : KeptServer) (before after : ObjectMap) → AtKeys after → its_pod before key ≡ its_pod after key
    → ((pod : Pod) → its_pod before key ≡ Some pod → AreUp after key pod kept.servers)
    → ((pod : Pod) → its_pod before key ≡ Some pod → HaveValues kept.values (entries pod.meta.labels))
    → kept.row ≡ row_from config key.port kept.servers (its_pod before key) → kept.marks ≡ server_reads key → Stands config after key kept
stands_after config key kept before after own same up values row marks = record {
  own = own;
  servers = λ pod is. up pod (same ∙ is);
  values = λ pod is. values pod (same ∙ is);
  row = row ∙ ap (row_from config key.port kept.servers) same;
  marks = marks;
}

pub stands_still : (config : Config) → KeptStays (record { row_of = server_part config; reads = λ held. server_reads }) (Stands config)
stands_still config key kept changed before after leads misses well =
    let pod = pod_stays leads key (neither_first _ _ misses) in
    let others = neither_first _ _ (neither_second _ _ misses) in
    stands_after config key kept before after leads.keys_kept pod
    (λ pod is name. well.servers pod is name ∙ all_terms_stay key pod leads others name) well.values well.row well.marks
