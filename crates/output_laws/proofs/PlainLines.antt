-- The faults of lines have no LF.
use Rattle.std.proofs.Common.{ℕ, Bool, true, false, List, Option, Some, None, Result, Ok, Err, if◌then◌else◌, option_and_then}
use Rattle.std.specs.Option.{ok_or}
use Rattle.line_run.specs.Rows.{NoBreak, Row}
use Rattle.mesh_base.specs.declared.key.Kind.{Kind}
use Rattle.mesh_base.specs.declared.key.ObjKey.{ObjKey}
use Rattle.mesh_text.specs.Json.{json_of}
use Rattle.serde_json.specs.Data.{Data, Members}
use Rattle.serde_json.specs.Find.{as_object}
use Rattle.k8s_meta.specs.Scalars.{number}
use Rattle.k8s_meta.specs.Spots.{Spot, ◌·◌, is_absent, then as read_then}
use Rattle.k8s_meta.specs.Words.{object, required, string_in, typed}
use Rattle.k8s_meta.specs.declared.fault.ReadFault.{ReadFault}
use Rattle.k8s_meta.specs.declared.fault.ReadFault.TheVariants as reads
use Rattle.k8s_meta.specs.declared.key.Key.TheVariants as keys
use Rattle.view_types.specs.declared.config.Config.{Config}
use Rattle.view_types.specs.declared.object.Object.{Object}
use Rattle.view_types.specs.declared.query.Method.{Method}
use Rattle.view_types.specs.Ports.{query_by_rows, query_whole}
use Rattle.view_types.specs.declared.query.Method.TheVariants as methods
use Rattle.watch_events.specs.Controls.{cancellation_of, control_as, drain_of, query_of, simulation_of, subscription_of}
use Rattle.watch_events.specs.Events.{delete_of, event_as, event_of, set_of}
use Rattle.watch_events.specs.Forms.{form_of, list_as}
use Rattle.watch_events.specs.Kinds.{group_of, kind_named}
use Rattle.watch_events.specs.Lines.{is_blank, json_by, line_as, line_at, line_spot, row_says, text_line}
use Rattle.watch_events.specs.ListLines.{item_kind, list_of, repeated, unless_repeated}
use Rattle.watch_events.specs.Queries.{method_of}
use Rattle.watch_events.specs.Reading.{of_object, of_query, ◌>>=◌, then}
use Rattle.watch_events.specs.Tables.{kind_of, plain}
use Rattle.watch_events.specs.declared.control.ControlWord.{ControlWord}
use Rattle.watch_events.specs.declared.control.ControlWord.TheVariants as words
use Rattle.watch_events.specs.declared.event_type.EventType.{EventType}
use Rattle.watch_events.specs.declared.event_type.EventType.TheVariants.{Added, Modified, Deleted, Bookmark, Error}
use Rattle.watch_events.specs.declared.form.Form.{Form}
use Rattle.watch_events.specs.declared.form.Form.TheVariants as forms
use Rattle.watch_events.specs.declared.line.Line.{Line}
use Rattle.watch_events.specs.declared.line.Line.TheVariants as lines
use Rattle.watch_events.specs.declared.line.LineFault.{LineFault}
use Rattle.watch_events.specs.declared.line.LineFault.TheVariants as faults
use Rattle.output_laws.proofs.PlainControls.{get_at_plain, policy_at_plain, profile_at_plain, request_at_plain, traffic_at_plain}
use Rattle.feed_history.specs.Program.{refused_unread}
use Rattle.output_laws.proofs.PlainFaults.{IsPlainLine, IsPlainReading, unread_plainly}
use Rattle.output_laws.proofs.PlainObjects.{key_at_plain, object_at_plain}
use Rattle.output_laws.proofs.PlainReads.{IsPlainRead, at_member, choice_plain, each_plain, number_reads, required_plain}

line_then : {A B : Type 0} (r : Result A LineFault) (f : A → Result B LineFault) → IsPlainLine r → ((x : A) → IsPlainLine (f x)) → IsPlainLine (r >>= f)
unfolding then
line_then (Ok x) f here more = more x
line_then (Err fault) f here more = here

query_plain : {A : Type 0} (r : Result A ReadFault) → IsPlainRead r → IsPlainLine (of_query r)
query_plain (Ok x) plain = tt
query_plain (Err reads.Memory) plain = tt
query_plain (Err (reads.Missing path)) plain = plain
query_plain (Err (reads.WrongType path)) plain = plain
query_plain (Err (reads.BadName path)) plain = plain
query_plain (Err (reads.BadValue path what)) plain = plain

object_plain : {A : Type 0} (r : Result A ReadFault) → IsPlainRead r → IsPlainLine (of_object r)
object_plain (Ok x) plain = tt
object_plain (Err reads.Memory) plain = tt
object_plain (Err (reads.Missing path)) plain = plain
object_plain (Err (reads.WrongType path)) plain = plain
object_plain (Err (reads.BadName path)) plain = plain
object_plain (Err (reads.BadValue path what)) plain = plain

-- an object that has to be there is read at its own spot
query_there : {B : Type 0} (s : Spot) (f : Spot → Result B LineFault) → NoBreak s.at → IsPlainLine (f s) → IsPlainLine (of_query (required object s) >>= f)
unfolding required object read_then then
query_there s f here more = by_value (is_absent s) (as_object s.value)
  where
    by_value : (b : Bool) (o : Option Members) → IsPlainLine (of_query (if b then Err (reads.Missing s.at) else read_then (typed s.at o) (λ _. Ok s)) >>= f)
    by_value true o = here
    by_value false None = here
    by_value false (Some _) = more

object_there : {B : Type 0} (s : Spot) (f : Spot → Result B LineFault) → NoBreak s.at → IsPlainLine (f s) → IsPlainLine (of_object (required object s) >>= f)
unfolding required object read_then then
object_there s f here more = by_value (is_absent s) (as_object s.value)
  where
    by_value : (b : Bool) (o : Option Members) → IsPlainLine (of_object (if b then Err (reads.Missing s.at) else read_then (typed s.at o) (λ _. Ok s)) >>= f)
    by_value true o = here
    by_value false None = here
    by_value false (Some _) = more

-- ---- control lines

query_of_plain : (config : Config) (method : Method) (q : Spot) → NoBreak q.at → IsPlainLine (query_of config method q)
query_of_plain config methods.Get q here = query_plain _ (get_at_plain config q here)
query_of_plain config methods.GetProfile q here = query_plain _ (profile_at_plain config q here)
query_of_plain config methods.WatchPort q here = query_plain _ (policy_at_plain query_whole q here)
query_of_plain config methods.Watch q here = query_plain _ (traffic_at_plain config q here)
query_of_plain config methods.WatchPort2 q here = query_plain _ (policy_at_plain query_by_rows q here)

id_plain : (s : Spot) → NoBreak s.at → IsPlainLine (of_query (required (number 0 4294967295) (s · keys.Id)))
id_plain s here = query_plain _ (required_plain _ (number_reads 0 4294967295) (s · keys.Id) (at_member s keys.Id here))

subscription_plain : (config : Config) (s : Spot) → NoBreak s.at → IsPlainLine (subscription_of config s)
unfolding subscription_of
subscription_plain config s here =
    let at = at_member s keys.Query here in
    line_then _ _ (id_plain s here) (λ id. query_there (s · keys.Query) _ at (
    line_then _ _ (query_plain _ (required_plain _ (choice_plain method_of) ((s · keys.Query) · keys.Method) (at_member (s · keys.Query) keys.Method at))) (λ method.
    line_then _ _ (query_of_plain config method (s · keys.Query) at) (λ query. tt))))

cancellation_plain : (s : Spot) → NoBreak s.at → IsPlainLine (cancellation_of s)
unfolding cancellation_of
cancellation_plain s here = line_then _ _ (id_plain s here) (λ id. tt)

drain_plain : (s : Spot) → NoBreak s.at → IsPlainLine (drain_of s)
unfolding drain_of
drain_plain s here = line_then _ _ (id_plain s here) (λ id. tt)

simulation_plain : (s : Spot) → NoBreak s.at → IsPlainLine (simulation_of s)
unfolding simulation_of
simulation_plain s here = line_then _ _ (query_plain _ (request_at_plain s here)) (λ request. tt)

control_plain : (config : Config) (word : Option ControlWord) (s : Spot) → NoBreak s.at → IsPlainLine (control_as config word s)
control_plain config None s here = at_member s keys.Control here
control_plain config (Some words.Subscribe) s here = subscription_plain config s here
control_plain config (Some words.Cancel) s here = cancellation_plain s here
control_plain config (Some words.Drain) s here = drain_plain s here
control_plain config (Some words.Simulate) s here = simulation_plain s here
control_plain config (Some words.Stop) s here = tt

-- ---- events and lists

kind_plain : (name : List ℕ) (s : Spot) → IsPlainLine (kind_of plain name s)
unfolding kind_of
kind_plain name s = by_kind (kind_named name (group_of s))
  where
    by_kind : (kind : Option Kind) → IsPlainLine (ok_or kind faults.UnknownKind)
    by_kind None = tt
    by_kind (Some kind) = tt

set_plain : (s : Spot) → NoBreak s.at → IsPlainLine (set_of plain s)
unfolding set_of
set_plain s here =
    let at = at_member s keys.Object here in
    object_there (s · keys.Object) _ at (line_then _ _ (kind_plain _ (s · keys.Object)) (λ kind. line_then _ _ (object_plain _ (object_at_plain kind (s · keys.Object) at)) (λ x. tt)))

delete_plain : (s : Spot) → NoBreak s.at → IsPlainLine (delete_of plain s)
unfolding delete_of
delete_plain s here =
    let at = at_member s keys.Object here in
    object_there (s · keys.Object) _ at (line_then _ _ (kind_plain _ (s · keys.Object)) (λ kind. line_then _ _ (object_plain _ (key_at_plain kind (s · keys.Object) at)) (λ x. tt)))

event_plain : (kind : Option EventType) (s : Spot) → NoBreak s.at → IsPlainLine (event_as plain kind s)
event_plain None s here = tt
event_plain (Some Added) s here = set_plain s here
event_plain (Some Modified) s here = set_plain s here
event_plain (Some Deleted) s here = delete_plain s here
event_plain (Some Bookmark) s here = tt
event_plain (Some Error) s here = tt

repeated_plain : (kind : Kind) (items : List Object) (place : Option ℕ) → IsPlainLine (unless_repeated {K = ObjKey} kind items place)
repeated_plain kind items None = tt
repeated_plain kind items (Some n) = tt

list_plain : (name : List ℕ) (s : Spot) → NoBreak s.at → IsPlainLine (list_of plain name s)
unfolding list_of
list_plain name s here =
    line_then _ _ (kind_plain name s) (λ kind. line_then _ _ (object_plain _ (each_plain _ (object_at_plain kind) (s · keys.Items) (at_member s keys.Items here))) (λ items. repeated_plain kind items (repeated plain items)))

list_as_plain : (name : Option (List ℕ)) (s : Spot) → NoBreak s.at → IsPlainLine (list_as plain name s)
list_as_plain None s here = tt
list_as_plain (Some name) s here = list_plain name s here

form_plain : (s : Spot) → NoBreak s.at → IsPlainLine (form_of plain s)
unfolding form_of
form_plain s here = cases (is_absent (s · keys.Control)) (is_absent (s · keys.Type))
  where
    list : Result (Form Kind Object ObjKey) LineFault
    list = list_as plain (option_and_then item_kind (string_in (s · keys.Kind).value)) s

    cases : (a b : Bool) → IsPlainLine (if a then (if b then list else event_of plain s) else Ok forms.Control)
    cases true true = list_as_plain _ s here
    cases true false = event_plain _ s here
    cases false b = tt

made_plain : (config : Config) (s : Spot) → NoBreak s.at → (form : Form Kind Object ObjKey) → IsPlainLine (line_as config s form)
made_plain config s here (forms.Set kind object) = tt
made_plain config s here (forms.Delete kind key) = tt
made_plain config s here (forms.Relist kind items) = tt
made_plain config s here forms.Bookmark = tt
made_plain config s here forms.Control = control_plain config _ s here

line_plain : (config : Config) (s : Spot) → NoBreak s.at → IsPlainLine (line_at config s)
unfolding line_at
line_plain config s here = line_then _ _ (form_plain s here) (made_plain config s here)

json_plain : (config : Config) (value : Option Data) → IsPlainLine (json_by (line_at config) value)
json_plain config None = tt
json_plain config (Some value) = line_plain config (line_spot value) tt

text_plain : (config : Config) (bytes : List ℕ) → IsPlainLine (text_line config bytes)
unfolding text_line
text_plain config bytes = cases (is_blank bytes)
  where
    cases : (b : Bool) → IsPlainLine (if b then Ok lines.Blank else json_by (line_at config) (json_of bytes))
    cases true = tt
    cases false = json_plain config (json_of bytes)

pub row_plain : (config : Config) (row : Row) → IsPlainReading (refused_unread (row_says (text_line config) row))
row_plain config None = tt
row_plain config (Some bytes) = unread_plainly (text_line config bytes) (text_plain config bytes)
