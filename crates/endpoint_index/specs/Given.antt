-- What the slices of a Service contribute to one of its ports.
use Rattle.std.specs.Prelude.{◌≡◌, ◌+◌, if◌then◌else◌, is_some, ℕ, Bool, false, not, ◌||◌, List, [], ◌∷◌, Option, Some, None, flat_map, option_and_then}
use Rattle.std.specs.FinMap.{get}
use Rattle.std.specs.Option.{option_to_list}
use Rattle.mesh_base.specs.declared.key.ObjKey.{ObjKey}
use Rattle.view_types.specs.Objects.{ObjectMap}
use Rattle.view_types.specs.declared.config.Config.{Config}
use Rattle.view_types.specs.declared.endpoint.EndpointRow.{EndpointRow}
use Rattle.view_types.specs.declared.mark.Mark.{Mark}
use Rattle.view_types.specs.declared.mark.Mark.TheVariants.{Obj, SlicesOf}
use Rattle.view_types.specs.declared.service.Service.{Service}
use Rattle.view_types.specs.declared.slice.Slice.{Slice}
use Rattle.view_rules.specs.Endpoints.{RowFor, service_held, service_key, slice_in, slice_rows}
use Rattle.view_rules.specs.Laws.{name_of_port}
use Rattle.view_rules.specs.PodRows.{row_for}
use Rattle.mark_rules.specs.Marks.{mark_cmp, same_mark}
use Rattle.mark_rules.specs.MarkLookups.{keys_at}
use Rattle.mark_rules.specs.Reads.{cost, pods_of}
use Rattle.mark_rules.specs.declared.keys.EndpointKey.{EndpointKey}
use Rattle.endpoint_rows.specs.Laws.{rows_in}
use Rattle.key_lists.specs.Keys.{has_key, key_at}
use Rattle.slice_marks.specs.Marked.{KeysByMark}

-- the Service is held, and is not external
abbrev pub has_endpoints : Option Service → Bool
has_endpoints None = false
has_endpoints (Some s) = not s.external

-- whether the endpoints of a port exist, and its name
pub record IsPort (held : ObjectMap) (key : EndpointKey) (exists : Bool) (name : Option (List ℕ)) : Type 0 where
  pub exists_is : exists ≡ has_endpoints (service_held held key.ns key.name)
  pub name_is : name ≡ name_of_port key.port (service_held held key.ns key.name)

-- the marks of a Service and of its slices
abbrev pub own_reads : EndpointKey → List Mark
own_reads key = Obj (service_key key.ns key.name) ∷ SlicesOf key.ns key.name ∷ []

-- the object under a key, if it is a slice of the Service
abbrev pub slice_at : ObjectMap → EndpointKey → ObjKey → Option Slice
slice_at held key k = option_and_then (slice_in key.ns key.name) (get held k)

-- the Pods that it names
abbrev pub pods_at : ObjectMap → EndpointKey → ObjKey → List Mark
pods_at held key k = flat_map pods_of (option_to_list (slice_at held key k))

-- the rows of a slice at ports with the name
abbrev pub rows_named : RowFor → Option (List ℕ) → Option Slice → List EndpointRow
rows_named row None slice = []
rows_named row (Some name) slice = rows_in (slice_rows row name) slice

-- those of the slice under a key
abbrev pub given_at : Config → ObjectMap → EndpointKey → Option (List ℕ) → ObjKey → List EndpointRow
given_at config held key name k = rows_named (row_for config held) name (slice_at held key k)

-- the steps to update the slice under a key
abbrev pub steps_of : ObjectMap → EndpointKey → ObjKey → ℕ
steps_of held key k =
    if has_key k (keys_at held (SlicesOf key.ns key.name)) then (if is_some (get held k) then 1 else 0) + cost held (pods_at held key k)
    else 0

-- a change with the mark affects the slice under the key: the mark is the slice's own, or of a Pod
-- that it names
abbrev pub touches : KeysByMark → ObjKey → Mark → Bool
touches by k mark = same_mark (Obj k) mark || key_at mark_cmp by mark k
