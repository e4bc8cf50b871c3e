-- The law of dependencies: a row that reads no mark of a change is the same after it. Views are
-- joined from rows.
use Rattle.std.specs.Prelude.{◌≡◌, false, List, flat_map}
use Rattle.std.specs.Cmp.{IsTotalOrder}
use Rattle.std.specs.FinMap.{IsAntisymmetric}
use Rattle.std.specs.List.{list_any}
use Rattle.std.specs.List.Sorted.{IsStrictlySortedBy}
use Rattle.view_types.specs.Objects.{AtKeys, ObjectMap}
use Rattle.view_types.specs.declared.config.Config.{Config}
use Rattle.view_types.specs.declared.mark.Mark.{Mark}
use Rattle.view_types.specs.declared.object.Object.{Object}
use Rattle.view_types.specs.declared.query.Query.{Query}
use Rattle.view_rules.specs.PolicyLaws.{AreLawful}
use Rattle.view_rules.specs.Views.{view_of}
use Rattle.mark_rules.specs.Changes.{Leads}
use Rattle.mark_rules.specs.Marks.{has_mark, mark_cmp, marks_of, marks_of_all, meets}
use Rattle.mark_rules.specs.Reads.{authz_reads, endpoint_reads, outbound_reads, profile_reads, query_reads, reads, route_reads, server_reads}
use Rattle.mark_rules.specs.Rows.{authz_row, endpoint_row, view_of_rows, outbound_row, profile_row, rows, server_part, server_routes}

-- The order of marks is total, and equal marks are the same mark.
abbrev pub MarksAreOrdered : Type 0
MarksAreOrdered = IsTotalOrder mark_cmp × IsAntisymmetric mark_cmp

-- The marks of a list of objects ascend strictly, and are exactly those of its objects.
abbrev pub MarksStandOnce : Type 0
MarksStandOnce = (objects : List Object) → IsStrictlySortedBy mark_cmp (marks_of_all objects) × ((mark : Mark) → has_mark (marks_of_all objects) mark ≡ has_mark (flat_map marks_of objects) mark)

-- A row that reads no mark of a change is the same after it, and reads the same.
abbrev pub Stays : {Key Row : Type 0} → (ObjectMap → Key → Row) → (ObjectMap → Key → List Mark) → Type 0
Stays {Key} row reads = (key : Key) (changed : List Mark) (before after : ObjectMap) → Leads changed before after → meets (reads before key) changed ≡ false
    → (row after key ≡ row before key) × (reads after key ≡ reads before key)

abbrev pub EndpointsStay : Type 0
EndpointsStay = (config : Config) → Stays (endpoint_row config) endpoint_reads

abbrev pub ProfilesStay : Type 0
ProfilesStay = (config : Config) → Stays (profile_row config) (profile_reads config)

abbrev pub ServersStay : Type 0
ServersStay = (config : Config) → Stays (server_part config) (λ held. server_reads)

abbrev pub RoutesStay : Type 0
RoutesStay = Stays server_routes (λ held. route_reads)

abbrev pub AuthzStays : Type 0
AuthzStays = (config : Config) → Stays (authz_row config) authz_reads

abbrev pub OutboundStays : Type 0
OutboundStays = (config : Config) → Stays (outbound_row config) outbound_reads

-- The view of a query is joined from its rows.
abbrev pub ViewsAreJoined : Type 0
ViewsAreJoined = (config : Config) (held : ObjectMap) → AtKeys held → AreLawful held → (query : Query) → view_of config held query ≡ view_of_rows config held query

-- A query that reads no mark of a change has the same rows after it, and reads the same.
abbrev pub QueriesStay : Type 0
QueriesStay = (config : Config) → Stays (rows config) (query_reads config)

-- Its view is the same, too.
abbrev pub ViewsStay : Type 0
ViewsStay = (config : Config) (query : Query) (changed : List Mark) (before after : ObjectMap) → AreLawful before → AreLawful after → Leads changed before after
    → meets (query_reads config before query) changed ≡ false → view_of config after query ≡ view_of config before query

-- A query reads a mark of a change exactly if one of its rows does.
abbrev pub QueriesAskByRows : Type 0
QueriesAskByRows = (config : Config) (held : ObjectMap) (query : Query) (changed : List Mark)
    → meets (query_reads config held query) changed ≡ list_any (λ key. meets (reads config held key) changed) (rows config held query)
