-- A line says the same over the routes that are held as over all objects.
use Rattle.std.proofs.Common.{◌≡◌, ◌++◌, ℕ, List, map, Option, Some, None, Result, Ok, Err, refl, ap, if◌then◌else◌}
use Rattle.std.specs.List.{list_any}
use Rattle.k8s_meta.specs.Spots.{Spot}
use Rattle.line_run.specs.Rows.{Row}
use Rattle.mesh_base.specs.declared.key.ObjKey.{ObjKey}
use Rattle.mesh_text.specs.Json.{json_of}
use Rattle.serde_json.specs.Data.{Data}
use Rattle.view_types.specs.Objects.{ObjectMap}
use Rattle.view_types.specs.declared.config.Config.{Config}
use Rattle.view_types.specs.declared.object.Object.{Object}
use Rattle.watch_events.specs.Forms.{form_of}
use Rattle.watch_events.specs.Lines.{is_blank, json_by, line_spot, row_says, text_by}
use Rattle.watch_events.specs.Reading.{then, ◌>>=◌}
use Rattle.watch_events.specs.declared.event.Event.TheVariants as events
use Rattle.watch_events.specs.declared.form.Form.{Form}
use Rattle.watch_events.specs.declared.form.Form.TheVariants as forms
use Rattle.watch_events.specs.declared.line.Line.TheVariants as lines
use Rattle.watch_events.specs.declared.line.LineFault.{LineFault}
use Rattle.grpc_feed.specs.FeedKinds.{feed_kinds, held_as}
use Rattle.grpc_feed.specs.FeedLines.{grpc_row, line_as, line_at, unless_refused, unless_reserved}
use Rattle.grpc_feed.specs.Routes.{routes_of}
use Rattle.grpc_feed.specs.declared.feed_line.FeedLine.{FeedLine}
use Rattle.grpc_feed.specs.declared.feed_line.FeedLine.TheVariants as feed
use Rattle.grpc_feed.specs.declared.kinds.FeedKind.{FeedKind}
use Rattle.grpc_feed.specs.declared.kinds.FeedObject.{FeedObject}
use Rattle.grpc_feed.proofs.RouteMaps.{kept_same}

abbrev Reads : Type 0
Reads = Spot → Result FeedLine LineFault

json_same : (f g : Reads) → ((s : Spot) → f s ≡ g s) → (value : Option Data) → json_by f value ≡ json_by g value
json_same f g same None = refl
json_same f g same (Some value) = same (line_spot value)

text_same : (f g : Reads) → ((s : Spot) → f s ≡ g s) → (bytes : List ℕ) → text_by (feed.Line lines.Blank) f bytes ≡ text_by (feed.Line lines.Blank) g bytes
text_same f g same bytes = ap (λ (r : Result FeedLine LineFault). if is_blank bytes then Ok (feed.Line lines.Blank) else r) (json_same f g same (json_of bytes))

row_same : (f g : Reads) → ((s : Spot) → f s ≡ g s) → (row : Row) → row_says (text_by (feed.Line lines.Blank) f) row ≡ row_says (text_by (feed.Line lines.Blank) g) row
row_same f g same None = refl
row_same f g same (Some bytes) = text_same f g same bytes

module _ (config : Config) (held : ObjectMap) where
  form_same : (s : Spot) (form : Form FeedKind FeedObject ObjKey) → line_as config (routes_of held) s form ≡ line_as config held s form
  form_same s (forms.Set kind made) = refl
  form_same s (forms.Delete kind key) = refl
  form_same s (forms.Relist kind items) = ap (λ (stay : List Object).
      Ok (unless_reserved (list_any (λ (item : FeedObject). item.reserved) items) (events.Relist (held_as kind) (map (λ (item : FeedObject). item.object) items ++ stay)))) (kept_same kind held)
  form_same s forms.Bookmark = refl
  form_same s forms.Control = refl

  read_same : (s : Spot) (r : Result (Form FeedKind FeedObject ObjKey) LineFault) → (r >>= line_as config (routes_of held) s) ≡ (r >>= line_as config held s)
  unfolding then
  read_same s (Ok form) = form_same s form
  read_same s (Err fault) = refl

  line_same : (s : Spot) → line_at config (routes_of held) s ≡ line_at config held s
  unfolding line_at
  line_same s = read_same s (form_of feed_kinds s)

  pub rows_same : (row : Row) → grpc_row config (routes_of held) row ≡ grpc_row config held row
  rows_same row = ap unless_refused (row_same (line_at config (routes_of held)) (line_at config held) line_same row)
