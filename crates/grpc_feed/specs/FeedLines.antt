-- The contents of a line of a feed with GRPCRoutes, over the objects held before it.
use Rattle.std.specs.Prelude.{◌&&◌, ◌++◌, Bool, false, List, map, not, Result, Ok, Err, ℕ, if◌then◌else◌}
use Rattle.std.specs.FinMap.{retain_keys, values}
use Rattle.std.specs.List.{list_any}
use Rattle.k8s_meta.specs.Spots.{Spot}
use Rattle.line_run.specs.Rows.{Row, row_of}
use Rattle.mesh_base.specs.declared.key.ObjKey.{ObjKey}
use Rattle.mesh_base.specs.declared.limits.Limits.{Limits}
use Rattle.view_types.specs.Objects.{ObjectMap}
use Rattle.view_types.specs.declared.config.Config.{Config}
use Rattle.view_types.specs.declared.object.Object.{Object}
use Rattle.watch_events.specs.Controls.{control_of}
use Rattle.watch_events.specs.Forms.{form_of}
use Rattle.watch_events.specs.Lines.{row_says, text_by}
use Rattle.watch_events.specs.Reading.{◌>>=◌}
use Rattle.watch_events.specs.declared.event.Event.{Event}
use Rattle.watch_events.specs.declared.event.Event.TheVariants as events
use Rattle.watch_events.specs.declared.form.Form.{Form}
use Rattle.watch_events.specs.declared.form.Form.TheVariants as forms
use Rattle.watch_events.specs.declared.line.Line.{Line}
use Rattle.watch_events.specs.declared.line.Line.TheVariants as lines
use Rattle.watch_events.specs.declared.line.LineFault.{LineFault}
use Rattle.grpc_feed.specs.FeedKinds.{feed_kinds, held_as, is_gateway_route, is_lowered}
use Rattle.grpc_feed.specs.declared.fault.GrpcFault.{GrpcFault}
use Rattle.grpc_feed.specs.declared.fault.GrpcFault.TheVariants as faults
use Rattle.grpc_feed.specs.declared.feed_line.FeedLine.{FeedLine}
use Rattle.grpc_feed.specs.declared.feed_line.FeedLine.TheVariants as feed
use Rattle.grpc_feed.specs.declared.kinds.FeedKind.{FeedKind}
use Rattle.grpc_feed.specs.declared.kinds.FeedKind.TheVariants as kinds
use Rattle.grpc_feed.specs.declared.kinds.FeedObject.{FeedObject}

-- ---- lists

-- A list of GRPCRoutes leaves the HTTPRoutes as they are, and a list of HTTPRoutes the lowered ones.
abbrev pub stays : FeedKind → ObjKey → Bool
stays kinds.GrpcRoute key = is_gateway_route key.kind && not (is_lowered key)
stays (kinds.Held kind) key = is_gateway_route kind && is_lowered key

-- the held objects that a list of the kind leaves as they are
abbrev pub kept : FeedKind → ObjectMap → List Object
kept kind held = values (retain_keys held (stays kind))

-- the items, and those that stay
abbrev pub relist_of : FeedKind → ObjectMap → List FeedObject → Event
relist_of kind held items = events.Relist (held_as kind) (map (λ item. item.object) items ++ kept kind held)

-- ---- reserved names

-- an HTTPRoute is removed that has a name of a lowered route
abbrev pub is_reserved_key : FeedKind → ObjKey → Bool
is_reserved_key kinds.GrpcRoute key = false
is_reserved_key (kinds.Held kind) key = is_lowered key

abbrev pub unless_reserved : Bool → Event → FeedLine
unless_reserved reserved event = if reserved then feed.Reserved else feed.Line (lines.Event event)

-- ---- lines

-- what a line of this form says
abbrev pub line_as : Config → ObjectMap → Spot → Form FeedKind FeedObject ObjKey → Result FeedLine LineFault
line_as config held s (forms.Set kind made) = Ok (unless_reserved made.reserved (events.Set made.object))
line_as config held s (forms.Delete kind key) = Ok (unless_reserved (is_reserved_key kind key) (events.Delete key))
line_as config held s (forms.Relist kind items) = Ok (unless_reserved (list_any (λ item. item.reserved) items) (relist_of kind held items))
line_as config held s forms.Bookmark = Ok (feed.Line (lines.Event events.Bookmark))
line_as config held s forms.Control = control_of config s >>= λ line. Ok (feed.Line line)

unfoldable pub line_at : Config → ObjectMap → Spot → Result FeedLine LineFault
line_at config held s = do
  form ← form_of feed_kinds s
  line_as config held s form

-- A line is refused as reserved only if it has no other fault.
abbrev pub unless_refused : Result FeedLine LineFault → Result Line GrpcFault
unless_refused (Ok (feed.Line line)) = Ok line
unless_refused (Ok feed.Reserved) = Err faults.Reserved
unless_refused (Err fault) = Err (faults.Line fault)

-- the contents of a row
abbrev pub grpc_row : Config → ObjectMap → Row → Result Line GrpcFault
grpc_row config held row = unless_refused (row_says (text_by (feed.Line lines.Blank) (line_at config held)) row)

abbrev pub grpc_line : Config → Limits → ObjectMap → List ℕ → Result Line GrpcFault
grpc_line config limits held bytes = grpc_row config held (row_of limits.line bytes)
