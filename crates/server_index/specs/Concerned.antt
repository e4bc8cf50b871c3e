-- The ports that a change may concern, by the probes of names and of values of labels.
use Rattle.std.specs.Prelude.{◌≡◌, ◌||◌, ℕ, Bool, true, false, List, Option, Some, None, All, slice_get}
use Rattle.std.specs.FinMap.{entries, get}
use Rattle.std.specs.List.{list_any}
use Rattle.label_select.specs.declared.selector.Selector.{Selector}
use Rattle.mesh_base.specs.declared.key.Kind.{Kind}
use Rattle.mesh_base.specs.declared.key.Kind.TheVariants as kind
use Rattle.mesh_base.specs.declared.key.ObjKey.{ObjKey}
use Rattle.view_types.specs.Objects.{ObjectMap}
use Rattle.view_types.specs.declared.mark.Mark.{Mark}
use Rattle.view_types.specs.declared.mark.Mark.TheVariants.{Obj}
use Rattle.view_types.specs.declared.server.ServerSpec.{ServerSpec}
use Rattle.view_rules.specs.Servers.{server_found}
use Rattle.server_index.specs.Probes.{may_have, probe_of}
use Rattle.server_index.specs.Requiring.{Label}
use Rattle.server_index.specs.declared.concerns.Concern.{Concern}
use Rattle.server_index.specs.declared.name_filter.NameFilter.{NameFilter}

-- the filter has the values of the labels
abbrev pub HaveValues : NameFilter → List Label → Type 0
HaveValues values labels = All (λ label. may_have values (probe_of label.1) ≡ true) labels

-- ---- a Server

-- the probe of the value of a required label; 0, which each filter has, if none is required
abbrev pub first_probe : Option Label → ℕ
first_probe None = 0
first_probe (Some label) = probe_of label.1

-- a Server without a podSelector selects no Pod
abbrev pub wanted_by : Option Selector → Option ℕ
wanted_by None = None
wanted_by (Some selector) = Some (first_probe (slice_get (entries selector.exact) 0))

abbrev pub wanted : Option ServerSpec → Option ℕ
wanted None = None
wanted (Some server) = wanted_by server.pods

abbrev pub concern_of : ObjKey → Option ServerSpec → Concern
concern_of key server = record { name = probe_of key.name; value = wanted server }

-- ---- a port

abbrev pub may_want : NameFilter → Option ℕ → Bool
may_want values None = false
may_want values (Some probe) = may_have values probe

module _ (names values : NameFilter) where
  -- the Server may be among those of the port by its name, or may select the Pod
  abbrev pub is_concerned : Concern → Bool
  is_concerned concern = may_have names concern.name || may_want values concern.value

  -- each Pod concerns the port
  abbrev pub by_kind : Kind → Concern → Bool
  by_kind kind.Pod concern = true
  by_kind kind.Server concern = is_concerned concern
  by_kind _ concern = false

module _ (held : ObjectMap) where
  -- the mark of the change may concern the port
  abbrev pub stirs : NameFilter → NameFilter → Mark → Bool
  stirs names values (Obj key) = by_kind names values key.kind (concern_of key (server_found (get held key)))
  stirs names values _ = false

  -- the list concerns the same ports as the marks of the change
  abbrev pub AreListed : List Mark → List Concern → Type 0
  AreListed changed listed = (names values : NameFilter) → list_any (is_concerned names values) listed ≡ list_any (stirs names values) changed
