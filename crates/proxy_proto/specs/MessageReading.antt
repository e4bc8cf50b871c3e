-- The contents of a message that answers a method, or its first fault.
use Rattle.std.specs.Prelude.{List, ℕ, Option, Some, None, Result, Ok, Err, if◌then◌else◌}
use Rattle.view_types.specs.declared.message.Message.{Message}
use Rattle.view_types.specs.declared.message.Message.TheVariants.{Add, Remove, NoEndpoints, Profile, Server, Outbound, Whole, AuthzPut, AuthzGone}
use Rattle.view_types.specs.declared.query.Method.{Method}
use Rattle.view_types.specs.declared.query.Method.TheVariants.{Get, GetProfile, WatchPort, Watch, WatchPort2}
use Rattle.proto_wire.specs.declared.record.Rec.{Rec}
use Rattle.proxy_proto.specs.declared.fault.ProtoFault.{ProtoFault}
use Rattle.proxy_proto.specs.declared.table.Schema.{Schema}
use Rattle.proxy_proto.specs.declared.table.Schema.TheVariants as schema
use Rattle.proxy_proto.specs.AuthorizationReading.{authz_in, authz_key_in}
use Rattle.proxy_proto.specs.EndpointReading.{pair_in, row_in}
use Rattle.proxy_proto.specs.Faults.{fault_of}
use Rattle.proxy_proto.specs.LookUps.{records_in, has, flag_in, inside, each_message}
use Rattle.proxy_proto.specs.PolicyReading.{outbound_in, server_in}
use Rattle.proxy_proto.specs.ProfileReading.{profile_in}

-- the message type with which a method is answered
abbrev pub answer_schema : Method → Schema
answer_schema Get = schema.Update
answer_schema GetProfile = schema.DestinationProfile
answer_schema WatchPort = schema.Server
answer_schema Watch = schema.OutboundPolicy
answer_schema WatchPort2 = schema.ServerUpdate

unfoldable pub update_in : List Rec → Message
update_in rs =
    if has 1 rs then Add (each_message 1 row_in (inside 1 rs))
    else (if has 2 rs then Remove (each_message 1 pair_in (inside 2 rs))
    else NoEndpoints (flag_in 1 (inside 3 rs)))

unfoldable pub server_update_in : List Rec → Message
server_update_in rs =
    if has 1 rs then Whole (server_in (inside 1 rs))
    else (if has 2 rs then AuthzPut (each_message 1 authz_in (inside 2 rs))
    else AuthzGone (each_message 1 authz_key_in (inside 3 rs)))

abbrev pub answer_in : Method → List Rec → Message
answer_in Get rs = update_in rs
answer_in GetProfile rs = Profile (profile_in rs)
answer_in WatchPort rs = Server (server_in rs)
answer_in Watch rs = Outbound (outbound_in rs)
answer_in WatchPort2 rs = server_update_in rs

-- the fault if there is one, and otherwise what was read
abbrev pub or_first : {A : Type 0} → Option ProtoFault → Result A ProtoFault → Result A ProtoFault
or_first None read = read
or_first (Some fault) read = Err fault

abbrev pub message_of : Method → List ℕ → Result Message ProtoFault
message_of method bytes = or_first (fault_of (answer_schema method) bytes) (Ok (answer_in method (records_in bytes)))
