-- The Servers that match a port of a Pod, by their names, each with its part of the port's row.
use Rattle.std.specs.Prelude.{◌≡◌, ℕ, Bool, false, if◌then◌else◌, List, Option, Some, None}
use Rattle.std.specs.BTreeMap as tree
use Rattle.std.specs.Cmp.Lexicographic.{slice_cmp}
use Rattle.std.specs.FinMap.{get}
use Rattle.std.specs.Ordering.{nat_cmp}
use Rattle.key_lists.specs.Keys.{is_key}
use Rattle.mesh_base.specs.contracts.key.ObjKeyOrd as key_order
use Rattle.mesh_base.specs.declared.key.ObjKey.{ObjKey}
use Rattle.view_types.specs.Objects.{ObjectMap}
use Rattle.view_types.specs.declared.config.Config.{Config}
use Rattle.view_types.specs.declared.mark.Mark.{Mark}
use Rattle.view_types.specs.declared.mark.Mark.TheVariants.{Obj}
use Rattle.view_types.specs.declared.pod.Pod.{Pod}
use Rattle.view_types.specs.declared.policy.Policy.{Policy}
use Rattle.view_types.specs.declared.policy.Protocol.{Protocol}
use Rattle.view_types.specs.declared.server.ServerSpec.{ServerSpec}
use Rattle.view_rules.specs.Inbound.{default_policy, default_protocol, probe_paths}
use Rattle.view_rules.specs.PolicyLaws.{server_key}
use Rattle.view_rules.specs.Servers.{is_for_port, server_found}
use Rattle.mark_rules.specs.Rows.{ServerPart}
use Rattle.mark_rules.specs.declared.keys.ServerKey.{ServerKey}
use Rattle.server_index.specs.declared.matching.Matching.{Matching}
use Rattle.server_index.specs.declared.notes.ServerNotes.{ServerNotes}

-- the part of a row from a Server, except its name
abbrev pub Terms : Type 0
Terms = Protocol × Policy

-- that of a Server which selects the Pod and the port; none for any other
abbrev pub terms_of : List ℕ → Pod → ℕ → Option ServerSpec → Option Terms
terms_of ns pod port None = None
terms_of ns pod port (Some server) = if is_for_port ns pod port server then Some (server.protocol, server.policy) else None

-- that of the Server with the name
abbrev pub terms_at : ObjectMap → ServerKey → Pod → List ℕ → Option Terms
terms_at held key pod name = terms_of key.ns pod key.port (server_found (get held (server_key key.ns name)))

abbrev pub at_name : Matching → List ℕ → Option Terms
at_name servers name = tree.get (slice_cmp nat_cmp) servers.by_name name

module _ (held : ObjectMap) (key : ServerKey) (pod : Pod) where
  -- the name is among the Servers exactly if the Server matches the port, with its part of the row
  abbrev pub IsUp : Matching → List ℕ → Type 0
  IsUp servers name = at_name servers name ≡ terms_at held key pod name

  abbrev pub AreUp : Matching → Type 0
  AreUp servers = (name : List ℕ) → IsUp servers name

  -- each name whose key passes is up, and so is each that was up before
  abbrev pub BringsUp : (ObjKey → Bool) → Matching → Matching → Type 0
  BringsUp passes old new = (name : List ℕ) → (passes (server_key key.ns name) ≡ false → IsUp old name) → IsUp new name

-- the row of a port, if this is the matching Server with the least name
abbrev pub part_from : Config → Pod → ℕ → Option (List ℕ × Terms) → ServerPart
part_from config pod port None = (default_protocol pod port, default_policy config pod, None, probe_paths pod port)
part_from config pod port (Some first) = (first.1.0, first.1.1, Some first.0, probe_paths pod port)

-- ---- the marks of a change

-- the mark is the key of a Server of the namespace
abbrev pub names_server : List ℕ → Mark → Bool
names_server ns (Obj key) = is_key (server_key ns key.name) key
names_server ns _ = false

-- ---- notes of a change

-- what is noted under a key: whether there is a Server, and which
abbrev pub noted_at : ServerNotes → ObjKey → Option (Option ServerSpec)
noted_at notes k = tree.get key_order.TheImpl.cmp-value.it notes.by_key k

abbrev pub server_in : Option (Option ServerSpec) → Option ServerSpec
server_in None = None
server_in (Some found) = found

-- what is noted under a key is what is held there
abbrev pub AreRight : ObjectMap → ServerNotes → Type 0
AreRight held notes = (k : ObjKey) (found : Option ServerSpec) → noted_at notes k ≡ Some found → found ≡ server_found (get held k)
