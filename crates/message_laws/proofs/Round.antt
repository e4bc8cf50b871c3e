-- What is written of a message is read back.
use Rattle.std.proofs.Common.{◌≡◌, ◌+◌, ◌<◌, ◌^◌, Bool, List, [], length, Result, Ok, Err, refl, sym, ap, ◌∙◌, arith, lit<, lit≤}
use Rattle.view_types.specs.declared.message.Message.{Message}
use Rattle.view_types.specs.declared.message.Message.TheVariants.{Add, Remove, NoEndpoints, Profile, Server, Outbound, Whole, AuthzPut, AuthzGone}
use Rattle.proto_wire.specs.declared.record.Rec.{Rec}
use Rattle.proto_wire.specs.Wire.{spelling}
use Rattle.proxy_proto.specs.declared.fault.ProtoFault.{ProtoFault}
use Rattle.proxy_proto.specs.declared.table.Schema.{Schema}
use Rattle.proxy_proto.specs.declared.table.Schema.TheVariants as schemas
use Rattle.proxy_proto.specs.AuthorizationReading.{authz_in, authz_key_in}
use Rattle.proxy_proto.specs.Authorizations.{authz_key_records, authz_records}
use Rattle.proxy_proto.specs.EndpointReading.{pair_in, row_in}
use Rattle.proxy_proto.specs.Endpoints.{row_records}
use Rattle.proxy_proto.specs.Faults.{fault_at, fault_of}
use Rattle.proxy_proto.specs.FieldRecords.{bool_field, each_field}
use Rattle.proxy_proto.specs.LookUps.{records_in, flag_in}
use Rattle.proxy_proto.specs.MessageReading.{answer_in, answer_schema, message_of, or_first, server_update_in, update_in}
use Rattle.proxy_proto.specs.Messages.{canonical, message_records, pair_records}
use Rattle.proxy_proto.specs.Policies.{server_records}
use Rattle.proxy_proto.specs.Sendable.{IsSendable, IsSendableAuthz, IsSendableAuthzKey, IsSendablePair, IsSendableRow, method_of}
use Rattle.proxy_proto.specs.Tables.{fields_of}
use Rattle.message_laws.proofs.AuthorizationRound.{authz_comes, key_comes}
use Rattle.message_laws.proofs.Coming.{Comes, comes, each_comes, first_inside, first_short, set_comes}
use Rattle.message_laws.proofs.EndpointRound.{pair_comes, row_comes}
use Rattle.message_laws.proofs.Found.{only_bool, sound_bool, sound_chunk}
use Rattle.message_laws.proofs.Passing.{chosen, pass_bool}
use Rattle.message_laws.proofs.PolicyRound.{outbound_comes, server_comes}
use Rattle.message_laws.proofs.ProfileRound.{profile_comes}
use Rattle.message_laws.proofs.WrittenFields.{member_comes}

none_comes : (exists : Bool) → length (spelling (bool_field 1 exists)) < 2 ^ 64 → Comes schemas.NoEndpoints (flag_in 1) (bool_field 1 exists) exists
none_comes exists short =
    comes schemas.NoEndpoints (flag_in 1) (bool_field 1 exists) exists (sound_bool 1 exists (lit< tt) (lit< tt)) short
    (λ d le. (pass_bool (fault_at d) (fields_of schemas.NoEndpoints) 0 1 exists refl (lit≤ tt)).pass [] tt) refl (only_bool 1 exists)

message_comes : (message : Message) → IsSendable message → Comes (answer_schema (method_of message)) (answer_in (method_of message)) (message_records message) message
unfolding message_records update_in server_update_in
message_comes (Add rows) fits =
    let short = fits.short in
    let inner = spelling (each_field 1 row_records rows) in
    let less = first_short 1 inner [] in
    let inside_less = first_inside 1 inner [] in
    let all = each_comes 1 schemas.WeightedAddr row_in row_records IsSendableRow rows row_comes fits.parts (omega arith) in
    let set = set_comes schemas.WeightedAddrSet schemas.WeightedAddr row_in row_records rows refl refl all (omega arith) in
    comes schemas.Update update_in (message_records (Add rows)) (Add rows) (sound_chunk 1 inner (lit< tt) (lit< tt), tt) short
    (λ d le. chosen (fault_at d) (fields_of schemas.Update) 1 schemas.WeightedAddrSet inner refl refl (set.clean d (omega arith))) refl (ap Add set.back)
message_comes (Remove pairs) fits =
    let short = fits.short in
    let inner = spelling (each_field 1 pair_records pairs) in
    let less = first_short 2 inner [] in
    let inside_less = first_inside 2 inner [] in
    let all = each_comes 1 schemas.TcpAddress pair_in pair_records IsSendablePair pairs pair_comes fits.parts (omega arith) in
    let set = set_comes schemas.AddrSet schemas.TcpAddress pair_in pair_records pairs refl refl all (omega arith) in
    comes schemas.Update update_in (message_records (Remove pairs)) (Remove pairs) (sound_chunk 2 inner (lit< tt) (lit< tt), tt) short
    (λ d le. chosen (fault_at d) (fields_of schemas.Update) 2 schemas.AddrSet inner refl refl (set.clean d (omega arith))) refl (ap Remove set.back)
message_comes (NoEndpoints exists) fits =
    let short = fits.short in
    let inner = spelling (bool_field 1 exists) in
    let less = first_short 3 inner [] in
    let inside_less = first_inside 3 inner [] in
    let none = none_comes exists (omega arith) in
    comes schemas.Update update_in (message_records (NoEndpoints exists)) (NoEndpoints exists) (sound_chunk 3 inner (lit< tt) (lit< tt), tt) short
    (λ d le. chosen (fault_at d) (fields_of schemas.Update) 3 schemas.NoEndpoints inner refl refl (none.clean d (omega arith))) refl (ap NoEndpoints none.back)
message_comes (Profile view) fits =
    let there = profile_comes view fits.parts fits.short in
    record { clean = there.clean; back = ap Profile there.back }
message_comes (Server view) fits =
    let there = server_comes view fits.parts fits.short in
    record { clean = there.clean; back = ap Server there.back }
message_comes (Outbound view) fits =
    let there = outbound_comes view fits.parts fits.short in
    record { clean = there.clean; back = ap Outbound there.back }
message_comes (Whole view) fits =
    let short = fits.short in
    let rs = server_records view in
    let less = first_inside 1 (spelling rs) [] in
    let there = server_comes view fits.parts (omega arith) in
    member_comes schemas.ServerUpdate server_update_in 1 schemas.Server rs (Whole view) (lit< tt, lit< tt) refl refl refl there.clean (ap Whole there.back) short
message_comes (AuthzPut rows) fits =
    let short = fits.short in
    let inner = spelling (each_field 1 authz_records rows) in
    let less = first_short 2 inner [] in
    let inside_less = first_inside 2 inner [] in
    let all = each_comes 1 schemas.Authz authz_in authz_records IsSendableAuthz rows authz_comes fits.parts (omega arith) in
    let set = set_comes schemas.AuthzSet schemas.Authz authz_in authz_records rows refl refl all (omega arith) in
    comes schemas.ServerUpdate server_update_in (message_records (AuthzPut rows)) (AuthzPut rows) (sound_chunk 2 inner (lit< tt) (lit< tt), tt) short
    (λ d le. chosen (fault_at d) (fields_of schemas.ServerUpdate) 2 schemas.AuthzSet inner refl refl (set.clean d (omega arith))) refl (ap AuthzPut set.back)
message_comes (AuthzGone keys) fits =
    let short = fits.short in
    let inner = spelling (each_field 1 authz_key_records keys) in
    let less = first_short 3 inner [] in
    let inside_less = first_inside 3 inner [] in
    let all = each_comes 1 schemas.AuthzKey authz_key_in authz_key_records IsSendableAuthzKey keys key_comes fits.parts (omega arith) in
    let set = set_comes schemas.AuthzKeys schemas.AuthzKey authz_key_in authz_key_records keys refl refl all (omega arith) in
    comes schemas.ServerUpdate server_update_in (message_records (AuthzGone keys)) (AuthzGone keys) (sound_chunk 3 inner (lit< tt) (lit< tt), tt) short
    (λ d le. chosen (fault_at d) (fields_of schemas.ServerUpdate) 3 schemas.AuthzKeys inner refl refl (set.clean d (omega arith))) refl (ap AuthzGone set.back)

read_whole : {X : Type 0} (schema : Schema) (said : List Rec → X) (rs : List Rec) (x : X) → Comes schema said rs x → or_first (fault_of schema (spelling rs)) (Ok (said (records_in (spelling rs)))) ≡ Ok x
read_whole schema said rs x there = rw (there.clean (length (spelling rs) + 1) (omega arith), there.back) refl

pub message_back : (message : Message) → IsSendable message → message_of (method_of message) (canonical message) ≡ Ok message
message_back message fits = read_whole (answer_schema (method_of message)) (answer_in (method_of message)) (message_records message) message (message_comes message fits)

abbrev ok_or : Message → Result Message ProtoFault → Message
ok_or other (Ok message) = message
ok_or other (Err fault) = other

same_ok : (one other : Message) → (◌≡◌ {A = Result Message ProtoFault} (Ok one) (Ok other)) → one ≡ other
same_ok one other same = ap (ok_or one) same

pub told_apart : (one other : Message) → IsSendable one → IsSendable other → method_of one ≡ method_of other → canonical one ≡ canonical other → one ≡ other
told_apart one other fits other_fits method same =
    same_ok one other (sym (message_back one fits) ∙ ap (λ m. message_of m (canonical one)) method ∙ ap (message_of (method_of other)) same ∙ message_back other other_fits)
