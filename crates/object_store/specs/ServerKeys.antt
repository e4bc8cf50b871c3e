-- The keys of Servers that a store keeps by the labels that the Servers require of a Pod.
use Rattle.std.specs.Prelude.{◌≡◌, ◌&&◌, ℕ, Bool, false, List, Option, Some, None, slice_get}
use Rattle.std.specs.FinMap.{entries, get}
use Rattle.std.specs.Ordering.{eq_by_cmp}
use Rattle.key_lists.specs.Keys.{has_key, nested_keys}
use Rattle.label_select.specs.declared.selector.Selector.{Selector}
use Rattle.mesh_base.specs.declared.key.ObjKey.{ObjKey}
use Rattle.object_store.specs.declared.change.Change.{Change}
use Rattle.object_store.specs.declared.server_keys.ServerKeys.{ServerKeys}
use Rattle.object_store.specs.declared.store_keys.StoreKeys.{StoreKeys}
use Rattle.object_store.specs.Held.{Held}
use Rattle.object_store.specs.KeyLists.{AreKeysOf, FollowAt, StandAt, text_cmp}
use Rattle.view_rules.specs.Servers.{server_found}
use Rattle.view_types.specs.Objects.{ObjectMap}
use Rattle.view_types.specs.declared.object.Object.{Object}
use Rattle.view_types.specs.declared.server.ServerSpec.{ServerSpec}

-- ---- the label that a Server requires

-- the value of the label, or else this default
abbrev pub value_or : List ℕ → Option (List ℕ × List ℕ) → List ℕ
value_or other None = other
value_or other (Some label) = label.1

-- the value of the first label that the selector requires, or the namespace if it requires none
abbrev pub value_in : List ℕ → Option Selector → List ℕ
value_in ns None = ns
value_in ns (Some selector) = value_or ns (slice_get (entries selector.exact) 0)

abbrev pub required_value : ServerSpec → List ℕ
required_value server = value_in server.meta.ns server.pods

-- a namespace, and a value that its Servers may require
abbrev pub Place : Type 0
Place = List ℕ × List ℕ

abbrev pub is_placed : Place → Option ServerSpec → Bool
is_placed place None = false
is_placed place (Some server) = eq_by_cmp text_cmp server.meta.ns place.0 && eq_by_cmp text_cmp (required_value server) place.1

-- the object is a Server of the namespace that requires the value
abbrev pub requires_value : Place → Option Object → Bool
requires_value place found = is_placed place (server_found found)

-- ---- the keys that are kept

abbrev pub kept_for : ServerKeys → Place → List ObjKey
kept_for keys place = nested_keys text_cmp text_cmp keys.by_value place.0 place.1

abbrev pub is_kept_for : ServerKeys → Place → ObjKey → Bool
is_kept_for keys place key = has_key key (kept_for keys place)

-- a key is kept at a place exactly if the object held at the key is a Server that requires it
abbrev pub AreServersOf : ObjectMap → ServerKeys → Type 0
AreServersOf objects keys = StandAt requires_value objects (is_kept_for keys)

-- all keys that a store keeps are those of the objects
abbrev pub AreKept : ObjectMap → StoreKeys → Type 0
AreKept objects keys = AreKeysOf objects keys.marked × AreServersOf objects keys.servers

-- the keys follow a change of the objects
abbrev pub ServersFollow : ObjectMap → ServerKeys → ServerKeys → Change → Type 0
ServersFollow objects before after change = FollowAt requires_value objects (is_kept_for before) (is_kept_for after) change

-- unless the store is spent, a look-up returns the keys of the Servers that require the value
abbrev pub FindsServers : Held → Place → List ObjKey → Type 0
FindsServers held place keys = held.spent ≡ false → (key : ObjKey) → has_key key keys ≡ requires_value place (get held.objects key)
