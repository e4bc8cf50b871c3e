-- Tables of kinds: the kinds of objects in a feed, and how their objects are read.
use Rattle.std.specs.Prelude.{ℕ, Bool, List, Option, Result}
use Rattle.std.specs.Option.{ok_or}
use Rattle.std.specs.Ordering.{eq_by_cmp}
use Rattle.mesh_base.specs.KeyOrder.{key_cmp}
use Rattle.mesh_base.specs.declared.key.Kind.{Kind}
use Rattle.mesh_base.specs.declared.key.ObjKey.{ObjKey}
use Rattle.k8s_meta.specs.Spots.{Reading, Spot}
use Rattle.view_types.specs.Objects.{key_of}
use Rattle.view_types.specs.declared.object.Object.{Object}
use Rattle.watch_events.specs.Keys.{key_at}
use Rattle.watch_events.specs.Kinds.{group_of, kind_named}
use Rattle.watch_events.specs.Objects.{object_at}
use Rattle.watch_events.specs.declared.line.LineFault.{LineFault}
use Rattle.watch_events.specs.declared.line.LineFault.TheVariants as faults

-- a table of the kinds C, whose objects are read as M, and their keys as K
pub record Table (C M K : Type 0) : Type 0 where
  -- the kind with this name in this API group
  pub named : List ℕ → List ℕ → Option C
  -- an object that is put, or an item of a list
  pub object : C → Reading M
  -- the key of an object that is removed
  pub removed : C → Reading K
  -- the key of an object that was read
  pub key : M → K
  -- two keys are the same
  pub same : K → K → Bool

-- the kind with this name in the group of the value
unfoldable pub kind_of : {C M K : Type 0} → Table C M K → List ℕ → Spot → Result C LineFault
kind_of table name s = ok_or (table.named name (group_of s)) faults.UnknownKind

-- the kinds of objects that are held
abbrev pub plain : Table Kind Object ObjKey
plain = record { named = kind_named; object = object_at; removed = key_at; key = key_of; same = eq_by_cmp key_cmp }
