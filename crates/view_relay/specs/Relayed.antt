-- The output of a relay for the rows of an input: of each row its refusal or what a drained client is sent, and at the end what each live
-- client is sent.
use Rattle.std.specs.Prelude.{ℕ, ◌+◌, Bool, true, false, ◌||◌, List, [], ◌∷◌, ◌++◌, length, flat_map, codes, Option, Some, None, Result, Ok, Err}
use Rattle.std.specs.Fmt.{decimal}
use Rattle.line_run.specs.Rows.{Row, past_of}
use Rattle.mesh_base.specs.declared.limits.Limits.{Limits}
use Rattle.proto_wire.specs.declared.fault.WireFault.TheVariants as wires
use Rattle.proxy_proto.specs.declared.fault.ProtoFault.{ProtoFault}
use Rattle.proxy_proto.specs.declared.fault.ProtoFault.TheVariants as protos
use Rattle.session_core.specs.declared.session.SessionFault.{SessionFault}
use Rattle.session_core.specs.declared.session.SessionFault.TheVariants as sessions
use Rattle.view_types.specs.declared.config.Config.{Config}
use Rattle.feed_history.specs.Output.{message_lines}
use Rattle.feed_history.specs.Text.{fault_line}
use Rattle.output_fold.specs.FaultText.{proto_fault_text}
use Rattle.view_relay.specs.ById.{value_at}
use Rattle.view_relay.specs.Accepted.{carry_call, client_call, drain_call, leave_call, origin_call}
use Rattle.view_relay.specs.RelayLines.{row_says}
use Rattle.view_relay.specs.Relays.{Call, Drains, RelayState, Served, after_call, idle, messages_due}
use Rattle.view_relay.specs.declared.fault.RelayFault.{RelayFault}
use Rattle.view_relay.specs.declared.fault.RelayFault.TheVariants as faults
use Rattle.view_relay.specs.declared.fault.RowFault.{RowFault}
use Rattle.view_relay.specs.declared.fault.RowFault.TheVariants as rows
use Rattle.view_relay.specs.declared.line.RelayLine.{RelayLine}
use Rattle.view_relay.specs.declared.line.RelayLine.TheVariants as lines

-- ---- refusals

-- A frame that is marked as compressed has one text, in an opening and from the origin.
abbrev pub frame_fault_text : ProtoFault → List ℕ
frame_fault_text (protos.Wire wires.Compressed) = codes "Compressed"
frame_fault_text fault = proto_fault_text fault

abbrev pub session_fault_text : SessionFault → List ℕ
session_fault_text sessions.Memory = []
session_fault_text sessions.BadPath = codes "BadPath"
session_fault_text (sessions.Proto fault) = frame_fault_text fault
session_fault_text sessions.Extra = codes "Extra"

-- Out of memory and a message that is too long have no text.
abbrev pub relay_fault_text : RelayFault → List ℕ
relay_fault_text faults.Memory = []
relay_fault_text (faults.IdOrder last) = codes "IdOrder " ++ decimal last
relay_fault_text (faults.TooManySubs live) = codes "TooManySubs " ++ decimal live
relay_fault_text (faults.Session fault) = session_fault_text fault
relay_fault_text faults.NotOpen = codes "NotOpen"
relay_fault_text faults.NoStream = codes "NoStream"
relay_fault_text faults.NotLine = codes "NotLine"
relay_fault_text (faults.Wire fault) = frame_fault_text (protos.Wire fault)
relay_fault_text (faults.NoSuchId id) = codes "NoSuchId " ++ decimal id
relay_fault_text (faults.Proto fault) = proto_fault_text fault
relay_fault_text (faults.Oversize bytes) = []

abbrev pub row_fault_text : RowFault → List ℕ
row_fault_text rows.TooLong = codes "TooLong"
row_fault_text (rows.Refused fault) = relay_fault_text fault

-- ---- rows

-- the call of a row, or why it is refused; a blank line makes none
abbrev pub Made : Type 0
Made = Result (Option Call) RowFault

abbrev pub made_by : Result Call RelayFault → Made
made_by (Ok call) = Ok (Some call)
made_by (Err fault) = Err (rows.Refused fault)

abbrev pub line_call : RelayState → RelayLine → Made
line_call now lines.Blank = Ok None
line_call now (lines.Carry id opening) = made_by (carry_call now id.0 opening)
line_call now (lines.Client id opening) = made_by (client_call now id.0 opening)
line_call now (lines.Frame id frame) = made_by (origin_call now id.0 frame)
line_call now (lines.Drain id) = made_by (drain_call now id.0)
line_call now (lines.Leave id) = made_by (leave_call now id.0)

abbrev pub call_in : RelayState → Result RelayLine RowFault → Made
call_in now (Ok line) = line_call now line
call_in now (Err fault) = Err fault

abbrev pub call_by : RelayState → Row → Made
call_by now row = call_in now (row_says row)

abbrev pub after_made : RelayState → Made → RelayState
after_made now (Ok (Some call)) = after_call now call
after_made now (Ok None) = now
after_made now (Err fault) = now

-- the state after these rows, the newest first
abbrev pub relayed_after : Config → Limits → List Row → RelayState
relayed_after config limits [] = idle config limits
relayed_after config limits (row ∷ past) = let now = relayed_after config limits past in after_made now (call_by now row)

-- ---- the output

-- what the client with this id is sent: each frame on a line of its own, or the length of the first message that is too long
abbrev pub client_lines : RelayState → ℕ → Served → List ℕ
client_lines now id client = message_lines now.limits.message id (messages_due now client)

abbrev pub lines_if_live : RelayState → ℕ → Option Served → List ℕ
lines_if_live now id None = []
lines_if_live now id (Some client) = client_lines now id client

abbrev pub call_text : RelayState → Call → List ℕ
call_text now (Drains id) = lines_if_live now id (value_at id now.clients)
call_text now call = []

-- the piece of the row with this number
abbrev pub piece_of : ℕ → RelayState → Made → List ℕ
piece_of number now (Ok (Some call)) = call_text now call
piece_of number now (Ok None) = []
piece_of number now (Err fault) = fault_line number (row_fault_text fault)

abbrev pub written_after : Config → Limits → List Row → List ℕ
written_after config limits [] = []
written_after config limits (row ∷ past) =
    let now = relayed_after config limits past in written_after config limits past ++ piece_of (length past + 1) now (call_by now row)

abbrev pub is_refused : Made → Bool
is_refused (Ok call) = false
is_refused (Err fault) = true

abbrev pub refused_after : Config → Limits → List Row → Bool
refused_after config limits [] = false
refused_after config limits (row ∷ past) = refused_after config limits past || is_refused (call_by (relayed_after config limits past) row)

-- what the clients are sent at the end, in the order of their ids
abbrev pub end_lines : RelayState → List ℕ
end_lines now = flat_map (λ client. client_lines now client.0 client.1) now.clients

-- the output for all rows of an input
abbrev pub output_after : Config → Limits → List Row → List ℕ
output_after config limits past = written_after config limits past ++ end_lines (relayed_after config limits past)

-- the output for an input
abbrev pub relayed_of : Config → Limits → List ℕ → List ℕ
relayed_of config limits bytes = output_after config limits (past_of limits.line bytes)
