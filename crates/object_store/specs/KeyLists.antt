-- The keys that a store keeps by mark. None are kept for the mark of a key.
use Rattle.std.specs.Prelude.{◌≡◌, ◌&&◌, ◌||◌, not, ℕ, Bool, true, false, List, [], Option, Some, None, slice_get}
use Rattle.std.specs.Cmp.Lexicographic.{slice_cmp}
use Rattle.std.specs.FinMap.{get}
use Rattle.std.specs.List.{list_any}
use Rattle.std.specs.Ordering.{nat_cmp}
use Rattle.std.specs.declared.cmp.Ordering.{Ordering}
use Rattle.key_lists.specs.Keys.{has_key, is_key, keys_at, keys_by_kind, nested_keys}
use Rattle.mark_rules.specs.MarkLookups.{keys_at as keys_of}
use Rattle.mark_rules.specs.Marks.{has_mark, other_marks, parent_place, ref_place, same_mark}
use Rattle.mesh_base.specs.declared.key.ObjKey.{ObjKey}
use Rattle.net_cidr.specs.Address.{ip_cmp}
use Rattle.object_store.specs.declared.aside.Aside.{Aside}
use Rattle.object_store.specs.declared.aside.Parent.{Parent}
use Rattle.object_store.specs.declared.change.Change.{Change}
use Rattle.object_store.specs.declared.change.StoreFault.{StoreFault}
use Rattle.object_store.specs.declared.change.StoreFault.TheVariants.{Memory, Full}
use Rattle.object_store.specs.declared.mark_keys.MarkKeys.{MarkKeys}
use Rattle.object_store.specs.Held.{Held}
use Rattle.view_types.specs.Objects.{ObjectMap, key_of}
use Rattle.view_types.specs.declared.authn.RefKind.{RefKind}
use Rattle.view_types.specs.declared.mark.Mark.{Mark}
use Rattle.view_types.specs.declared.mark.Mark.TheVariants.{Obj, SlicesOf, ServersIn, ServerAuthzIn, PolicyOn, RouteOn, IpService, IpPod}
use Rattle.view_types.specs.declared.object.Object.{Object}
use Rattle.view_types.specs.declared.route.ParentKind.{ParentKind}

-- ---- the orders of the parts of marks

abbrev pub text_cmp : List ℕ → List ℕ → Ordering
text_cmp = slice_cmp nat_cmp

abbrev pub ref_cmp : RefKind → RefKind → Ordering
ref_cmp kind other = nat_cmp (ref_place kind) (ref_place other)

abbrev pub parent_cmp : ParentKind → ParentKind → Ordering
parent_cmp kind other = nat_cmp (parent_place kind) (parent_place other)

-- ---- the keys of marks

-- the keys that are kept for the mark, in order
abbrev pub kept_at : MarkKeys → Mark → List ObjKey
kept_at keys (Obj key) = []
kept_at keys (SlicesOf ns service) = nested_keys text_cmp text_cmp keys.slices ns service
kept_at keys (ServersIn ns) = keys_at text_cmp keys.servers ns
kept_at keys (ServerAuthzIn ns) = keys_at text_cmp keys.server_authz ns
kept_at keys (PolicyOn ns kind name) = keys_by_kind ref_cmp text_cmp text_cmp keys.policies kind ns name
kept_at keys (RouteOn ns kind name) = keys_by_kind parent_cmp text_cmp text_cmp keys.routes kind ns name
kept_at keys (IpService ip) = keys_at ip_cmp keys.services ip
kept_at keys (IpPod ip) = keys_at ip_cmp keys.pods ip

-- the key is kept for the mark
abbrev pub is_kept : MarkKeys → Mark → ObjKey → Bool
is_kept keys mark key = has_key key (kept_at keys mark)

-- there is an object, and the mark is one of its marks other than that of its key
abbrev pub has_other : Mark → Option Object → Bool
has_other mark None = false
has_other mark (Some o) = has_mark (other_marks o) mark

-- it is the mark of a key, which at most one object has
abbrev pub is_of_key : Mark → Bool
is_of_key (Obj key) = true
is_of_key mark = false

-- the marks are the same, and none is that of a key
abbrev pub is_for : Mark → Mark → Bool
is_for asked mark = not (is_of_key mark) && same_mark mark asked

-- it is the mark of the routes with this parent
abbrev pub is_at : Parent → Mark → Bool
is_at parent mark = is_for (RouteOn parent.ns parent.kind parent.name) mark

-- the key is among those set aside, and the mark is that of their list
abbrev pub is_aside : Mark → ObjKey → Aside → Bool
is_aside mark key aside = is_at aside.parent mark && has_key key aside.keys

-- the mark is one of these, and is not that of a key
abbrev pub is_among : List Mark → Mark → Bool
is_among marks mark = not (is_of_key mark) && has_mark marks mark

-- ---- keys at the places to which their objects belong

module _ {X : Type 0} (belongs : X → Option Object → Bool) where
  -- a key is at a place exactly if the object held at the key belongs to the place
  abbrev pub StandAt : ObjectMap → (X → ObjKey → Bool) → Type 0
  StandAt objects stands = (place : X) (key : ObjKey) → stands place key ≡ belongs place (get objects key)

  -- the object belonged to the place, and its key is this one
  abbrev pub was_at : X → ObjKey → Object → Bool
  was_at place key o = belongs place (Some o) && is_key key (key_of o)

  -- the new key is the key, and the object at it belongs to the place
  abbrev pub comes_at : ObjectMap → X → ObjKey → ObjKey → Bool
  comes_at objects place key new = is_key key new && belongs place (get objects new)

  -- the keys of the old objects are removed from the places to which they belonged
  abbrev pub AreTaken : List Object → (X → ObjKey → Bool) → (X → ObjKey → Bool) → Type 0
  AreTaken old before after = (place : X) (key : ObjKey) → after place key ≡ (not (list_any (was_at place key) old) && before place key)

  -- the new keys are added at the places to which their objects belong
  abbrev pub ArePut : ObjectMap → List ObjKey → (X → ObjKey → Bool) → (X → ObjKey → Bool) → Type 0
  ArePut objects new before after = (place : X) (key : ObjKey) → after place key ≡ (list_any (comes_at objects place key) new || before place key)

  -- The keys follow a change: the keys of its old objects are removed from their places, and its
  -- new keys are added at the places to which the objects belong. Every other key stays.
  abbrev pub FollowAt : ObjectMap → (X → ObjKey → Bool) → (X → ObjKey → Bool) → Change → Type 0
  FollowAt objects before after change = (place : X) (key : ObjKey)
      → after place key ≡ (list_any (comes_at objects place key) change.new || (not (list_any (was_at place key) change.old) && before place key))

-- a key is kept for a mark exactly if the object held at the key has the mark
abbrev pub AreKeysOf : ObjectMap → MarkKeys → Type 0
AreKeysOf objects keys = StandAt has_other objects (is_kept keys)

-- the object had the mark, and its key is this one
abbrev pub is_old : Mark → ObjKey → Object → Bool
is_old mark key o = was_at has_other mark key o

-- the new key is the key, and the object at it has the mark
abbrev pub is_new : ObjectMap → Mark → ObjKey → ObjKey → Bool
is_new objects mark key new = comes_at has_other objects mark key new

-- the keys that are kept for marks follow a change
abbrev pub Follows : ObjectMap → MarkKeys → MarkKeys → Change → Type 0
Follows objects before after change = FollowAt has_other objects (is_kept before) (is_kept after) change

-- an error leaves the keys unchanged, unless it spends the store
abbrev pub StayUnlessSpent : {K : Type 0} → K → K → StoreFault → Type 0
StayUnlessSpent before after Memory = Unit {0}
StayUnlessSpent before after (Full held) = after ≡ before

-- unless the store is spent, a look-up by mark returns the keys of the objects with it, in order
abbrev pub FindsKeys : Held → Mark → List ObjKey → Type 0
FindsKeys held mark keys = held.spent ≡ false → keys ≡ keys_of held.objects mark

-- the first of these keys, if there is one
abbrev pub FindsFirst : Held → Mark → Option ObjKey → Type 0
FindsFirst held mark key = held.spent ≡ false → key ≡ slice_get (keys_of held.objects mark) 0
