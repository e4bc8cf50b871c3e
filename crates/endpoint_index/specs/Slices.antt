-- What is stored for the slices of a Service, over the objects held.
use Rattle.std.specs.Prelude.{◌≡◌, ℕ, Bool, false, List, [], Option}
use Rattle.key_lists.specs.Keys.{has_key}
use Rattle.mesh_base.specs.declared.key.ObjKey.{ObjKey}
use Rattle.view_types.specs.Objects.{ObjectMap}
use Rattle.view_types.specs.declared.config.Config.{Config}
use Rattle.view_rules.specs.Endpoints.{first_rows, rows_from, slices_held}
use Rattle.view_rules.specs.PodRows.{row_for}
use Rattle.mark_rules.specs.declared.keys.EndpointKey.{EndpointKey}
use Rattle.endpoint_rows.specs.Kept.{Keeps, rows_of}
use Rattle.slice_marks.specs.Marked.{Agree, marks_at}
use Rattle.endpoint_index.specs.Given.{given_at, pods_at}
use Rattle.endpoint_index.specs.declared.slices.KeptSlices.{KeptSlices}

-- no slice is stored
pub record AreEmpty (s : KeptSlices) : Type 0 where
  pub keeps : Keeps s.rows
  pub rows : (k : ObjKey) → rows_of s.rows.slices.by_slice k ≡ []
  pub agree : Agree s.read
  pub pods : (k : ObjKey) → marks_at s.read.by_slice k ≡ []

module _ (config : Config) (held : ObjectMap) (key : EndpointKey) where
  -- the rows and the Pods of the slice under a key
  pub record IsUp (name : Option (List ℕ)) (s : KeptSlices) (k : ObjKey) : Type 0 where
    pub rows : rows_of s.rows.slices.by_slice k ≡ first_rows (given_at config held key name k)
    pub pods : marks_at s.read.by_slice k ≡ pods_at held key k

  -- those under each key, and the view has the rows of the Service at ports with the name
  pub record SlicesStand (exists : Bool) (name : Option (List ℕ)) (s : KeptSlices) : Type 0 where
    pub keeps : Keeps s.rows
    pub view : s.rows.view ≡ record { exists = exists; rows = rows_from (row_for config held) (slices_held held key.ns key.name) name }
    pub agree : Agree s.read
    pub each : (k : ObjKey) → IsUp name s k

-- those under each key but these
abbrev pub AreUpBut : List ObjKey → Config → ObjectMap → EndpointKey → Option (List ℕ) → KeptSlices → Type 0
AreUpBut touched config held key name s = (k : ObjKey) → has_key k touched ≡ false → IsUp config held key name s k
