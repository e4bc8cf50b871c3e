-- The phase of a link by its bytes: a path line, and then lines or a request frame. It is defined by all bytes so far, and so does not
-- depend on how they were cut.
use Rattle.std.specs.Prelude.{ℕ, Bool, true, false, List, [], ◌∷◌, length, nat_lt, Option, Some, None, Result, Ok, Err, if◌then◌else◌}
use Rattle.line_run.specs.Rows.{Row}
use Rattle.mesh_base.specs.declared.limits.Limits.{Limits}
use Rattle.proto_wire.specs.Frames.{head_of}
use Rattle.proto_wire.specs.declared.fault.WireFault.{WireFault}
use Rattle.proxy_proto.specs.RequestReading.{request_of}
use Rattle.proxy_proto.specs.declared.fault.ProtoFault.{ProtoFault}
use Rattle.proxy_proto.specs.declared.fault.ProtoFault.TheVariants as protos
use Rattle.view_types.specs.declared.config.Config.{Config}
use Rattle.view_types.specs.declared.query.Method.{Method}
use Rattle.view_types.specs.declared.query.Query.{Query}
use Rattle.session_core.specs.Lines.{rows_so_far}
use Rattle.session_core.specs.Paths.{first_line, path_of}
use Rattle.session_core.specs.declared.session.Path.{Path}
use Rattle.session_core.specs.declared.session.Path.TheVariants.{Feed, Asks}
use Rattle.session_core.specs.declared.session.SessionFault.{SessionFault}
use Rattle.session_core.specs.declared.session.SessionFault.TheVariants as faults

-- Opening: the path line is not complete. Feeding: a feed, with the bytes after its path line. Asking: the request frame is not complete.
-- Asked: it is complete and valid.
pub data Phase : Type 0 where
  Opening : Phase
  Feeding : (text : List ℕ) → Phase
  Asking : Phase
  Asked : (query : Query) → Phase

-- A path line is shorter than this: if this number of bytes have no LF, they are no path.
abbrev pub path_bound : ℕ
path_bound = 128

-- by the result of reading the request, and the bytes after its frame: none may follow a valid request
abbrev pub asked_before : Result Query ProtoFault → List ℕ → Result Phase SessionFault
asked_before (Err fault) after = Err (faults.Proto fault)
asked_before (Ok query) [] = Ok (Asked query)
asked_before (Ok query) (byte ∷ after) = Err faults.Extra

-- by the frame at the head of the bytes after the path line, once it is complete
abbrev pub asked_in : Config → Method → Result (Option (List ℕ × List ℕ)) WireFault → Result Phase SessionFault
asked_in config method (Err fault) = Err (faults.Proto (protos.Wire fault))
asked_in config method (Ok None) = Ok Asking
asked_in config method (Ok (Some (message, after))) = asked_before (request_of config method message) after

abbrev pub phase_behind : Config → Limits → Option Path → List ℕ → Result Phase SessionFault
phase_behind config limits None rest = Err faults.BadPath
phase_behind config limits (Some Feed) rest = Ok (Feeding rest)
phase_behind config limits (Some (Asks method)) rest = asked_in config method (head_of limits.request rest)

abbrev pub phase_at : Config → Limits → List ℕ → Option (List ℕ × List ℕ) → Result Phase SessionFault
phase_at config limits bytes None = if nat_lt (length bytes) path_bound then Ok Opening else Err faults.BadPath
phase_at config limits bytes (Some (line, rest)) = phase_behind config limits (path_of line) rest

-- the phase of a link by all its bytes so far, or their fault
unfoldable pub phase_of : Config → Limits → List ℕ → Result Phase SessionFault
phase_of config limits bytes = phase_at config limits bytes (first_line bytes)

-- ---- contents of a phase

abbrev pub is_feeding : Result Phase SessionFault → Bool
is_feeding (Ok Opening) = false
is_feeding (Ok (Feeding text)) = true
is_feeding (Ok Asking) = false
is_feeding (Ok (Asked query)) = false
is_feeding (Err fault) = false

abbrev pub query_in : Result Phase SessionFault → Option Query
query_in (Ok Opening) = None
query_in (Ok (Feeding text)) = None
query_in (Ok Asking) = None
query_in (Ok (Asked query)) = Some query
query_in (Err fault) = None

-- the rows of a feed so far, given the limit of a line and whether the input has ended
abbrev pub rows_in : ℕ → Bool → Result Phase SessionFault → List Row
rows_in limit ended (Ok Opening) = []
rows_in limit ended (Ok (Feeding text)) = rows_so_far limit ended text
rows_in limit ended (Ok Asking) = []
rows_in limit ended (Ok (Asked query)) = []
rows_in limit ended (Err fault) = []
