-- What is stored for the endpoints of a port, over the objects held.
use Rattle.std.specs.Prelude.{◌≡◌, ◌++◌, List}
use Rattle.view_types.specs.Objects.{ObjectMap}
use Rattle.view_types.specs.declared.config.Config.{Config}
use Rattle.view_types.specs.declared.mark.Mark.{Mark}
use Rattle.view_rules.specs.Endpoints.{service_held}
use Rattle.view_rules.specs.Laws.{name_of_port}
use Rattle.mark_rules.specs.declared.keys.EndpointKey.{EndpointKey}
use Rattle.endpoint_rows.specs.Before.{TellsBefore}
use Rattle.slice_marks.specs.Marked.{marks_read}
use Rattle.endpoint_index.specs.Given.{has_endpoints, own_reads}
use Rattle.endpoint_index.specs.Slices.{SlicesStand}
use Rattle.endpoint_index.specs.declared.kept.KeptEndpoints.{KeptEndpoints}

-- the slices stand with the name of the port, and the own marks are those of the Service
pub record Stands (config : Config) (held : ObjectMap) (key : EndpointKey) (kept : KeptEndpoints) : Type 0 where
  pub slices : SlicesStand config held key (has_endpoints (service_held held key.ns key.name)) kept.name kept.slices
  pub name : kept.name ≡ name_of_port key.port (service_held held key.ns key.name)
  pub own : kept.own ≡ own_reads key

-- the new notes are at the addresses where the two differ
abbrev pub Tells : KeptEndpoints → KeptEndpoints → Type 0
Tells old new = TellsBefore old.slices.rows.view.rows new.slices.rows.view.rows new.slices.rows.notes

-- the marks that are read: those of the Service, and of the Pods that slices name
abbrev pub marks_in : KeptEndpoints → List Mark
marks_in kept = kept.own ++ marks_read kept.slices.read.by_mark
