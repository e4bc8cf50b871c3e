-- What is kept of a port stands when it is found, and after it has followed a change.
use Rattle.std.proofs.Common.{◌≡◌, ℕ, ◌+◌, false, List, [], ◌∷◌, length, Option, Some, None, refl, sym, ap, subst, ◌∙◌, arith}
use Rattle.std.specs.FinMap.{entries}
use Rattle.std.specs.Prelude.{slice_get}
use Rattle.view_types.specs.Objects.{AtKeys, ObjectMap}
use Rattle.view_types.specs.declared.config.Config.{Config}
use Rattle.view_types.specs.declared.mark.Mark.{Mark}
use Rattle.view_types.specs.declared.mark.Mark.TheVariants.{Obj, ServersIn}
use Rattle.view_types.specs.declared.pod.Pod.{Pod}
use Rattle.view_rules.specs.PodRows.{pod_key}
use Rattle.mark_rules.proofs.Counts.{cost_cons, keys_count}
use Rattle.mark_rules.specs.Changes.{Leads}
use Rattle.mark_rules.specs.MarkLookups.{keys_at}
use Rattle.mark_rules.specs.Marks.{has_mark}
use Rattle.mark_rules.specs.Reads.{cost, count_at, server_reads}
use Rattle.mark_rules.specs.declared.keys.ServerKey.{ServerKey}
use Rattle.mesh_base.specs.declared.key.ObjKey.{ObjKey}
use Rattle.server_index.specs.Concerned.{HaveValues}
use Rattle.server_index.specs.Matches.{AreUp, BringsUp, part_from}
use Rattle.server_index.specs.Standing.{Stands, its_pod, row_from}
use Rattle.server_index.specs.Still.{pod_stays, terms_stay}
use Rattle.server_index.specs.declared.kept.KeptServer.{KeptServer}
use Rattle.server_index.specs.declared.name_filter.NameFilter.{NameFilter}

-- the row of the Pod, from these Servers
abbrev pub IsFrom : Config → ServerKey → Pod → KeptServer → Type 0
IsFrom config key pod kept = kept.row ≡ Some (part_from config pod key.port (slice_get kept.servers.by_name.entries 0))

some_is : {A : Type 0} (found : Option A) (a b : A) → found ≡ Some a → found ≡ Some b → a ≡ b
some_is found a b e f = let both : Some a ≡ Some b = sym e ∙ f in cc both

module _ (config : Config) (held : ObjectMap) (key : ServerKey) (kept : KeptServer) (own : AtKeys held) (marks : kept.marks ≡ server_reads key) where
  -- with the Pod
  pub filled : (pod : Pod) → its_pod held key ≡ Some pod → AreUp held key pod kept.servers → HaveValues kept.values (entries pod.meta.labels) → IsFrom config key pod kept → Stands config held key kept
  filled pod found up values from = record {
    own = own;
    values = λ other is. subst (λ (p : Pod). HaveValues kept.values (entries p.meta.labels)) (some_is (its_pod held key) pod other found is) values;
    servers = λ other is. subst (λ (p : Pod). AreUp held key p kept.servers) (some_is (its_pod held key) pod other found is) up;
    row = from ∙ ap (row_from config key.port kept.servers) (sym found);
    marks = marks;
  }

  -- and without it
  pub unfilled : its_pod held key ≡ None → kept.row ≡ None → Stands config held key kept
  unfilled found none = record {
    own = own;
    values = λ other is. absurd (let no : None ≡ Some other = sym found ∙ is in cc no);
    servers = λ other is. absurd (let no : None ≡ Some other = sym found ∙ is in cc no);
    row = none ∙ ap (row_from config key.port kept.servers) (sym found);
    marks = marks;
  }

module _ (config : Config) (key : ServerKey) (old : KeptServer) {changed : List Mark} {before after : ObjectMap} (leads : Leads changed before after) (well : Stands config before key old)
    (misses : has_mark changed (Obj (pod_key key.ns key.pod)) ≡ false) where
  -- the Servers are brought up to a change that leaves the Pod
  pub followed : (pod : Pod) (new : KeptServer) → its_pod after key ≡ Some pod → BringsUp after key pod (λ k. has_mark changed (Obj k)) old.servers new.servers
      → (IsFrom config key pod old → IsFrom config key pod new) → new.values ≡ old.values → new.marks ≡ old.marks → Stands config after key new
  followed pod new found up row values marks =
      let there : its_pod before key ≡ Some pod = pod_stays leads key misses ∙ found in
      filled config after key new leads.keys_kept (marks ∙ well.marks) pod found
      (λ name. up name (λ lacks. well.servers pod there name ∙ terms_stay leads key pod name lacks))
      (subst (λ (filter : NameFilter). HaveValues filter (entries pod.meta.labels)) (sym values) (well.values pod there))
      (row (well.row ∙ ap (row_from config key.port old.servers) there))

  -- without a Pod nothing is shown
  pub unfollowed : (new : KeptServer) → its_pod after key ≡ None → new.row ≡ old.row → new.marks ≡ old.marks → Stands config after key new
  unfollowed new found row marks =
      let there : its_pod before key ≡ None = pod_stays leads key misses ∙ found in
      unfilled config after key new leads.keys_kept (marks ∙ well.marks) found (row ∙ well.row ∙ ap (row_from config key.port old.servers) there)

-- ---- steps

pub port_cost : (held : ObjectMap) (key : ServerKey) → cost held (server_reads key) ≡ count_at held (Obj (pod_key key.ns key.pod)) + count_at held (ServersIn key.ns)
port_cost held key =
    let all = cost_cons held (Obj (pod_key key.ns key.pod)) (ServersIn key.ns ∷ []) in
    let rest = cost_cons held (ServersIn key.ns) [] in
    let none : cost held [] ≡ 0 = refl in
    omega (arith, all, rest, none)

-- as many Servers as keys
pub servers_count : (held : ObjectMap) (ns : List ℕ) (keys : List ObjKey) → keys ≡ keys_at held (ServersIn ns) → length keys ≡ count_at held (ServersIn ns)
servers_count held ns keys are = ap length are ∙ keys_count (ServersIn ns) held
