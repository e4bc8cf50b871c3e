-- What is written of a request is read back as what it means.
use Rattle.std.proofs.Common.{◌≡◌, ℕ, zero, suc, ◌+◌, ◌^◌, ◌<◌, ◌≤◌, ◌==◌, Bool, true, false, if◌then◌else◌, List, [], ◌∷◌, length, Option, Some, None, Result, Ok, Err, refl, ap, ◌∙◌, arith, lit<, lit≤}
use Rattle.std.specs.List.{AllByRecursion}
use Rattle.std.specs.Str.{IsUtf8}
use Rattle.std.proofs.lemmas.Str.{is_utf8-from_IsUtf8}
use Rattle.mesh_text.specs.Contexts.{context_of}
use Rattle.mesh_text.specs.Targets.{target_of}
use Rattle.mesh_text.specs.Workloads.{workload_of}
use Rattle.net_cidr.specs.Texts.{FitsIp}
use Rattle.net_cidr.specs.declared.ip.Ip.{Ip}
use Rattle.view_types.specs.Ports.{query_by_rows, query_whole}
use Rattle.view_types.specs.declared.config.Config.{Config}
use Rattle.view_types.specs.declared.query.Method.TheVariants as method
use Rattle.view_types.specs.declared.query.PodPort.{PodPort}
use Rattle.view_types.specs.declared.query.Query.{Query}
use Rattle.view_types.specs.declared.query.Query.TheVariants.{Traffic}
use Rattle.view_types.specs.declared.query.Target.TheVariants.{Address}
use Rattle.proto_wire.specs.declared.record.Rec.{Rec}
use Rattle.proto_wire.specs.Wire.{scan_of, spelling}
use Rattle.proxy_proto.specs.declared.fault.ProtoFault.{ProtoFault}
use Rattle.proxy_proto.specs.declared.fault.ProtoFault.TheVariants.{Range}
use Rattle.proxy_proto.specs.declared.table.Field.{Field}
use Rattle.proxy_proto.specs.declared.table.FieldKind.TheVariants.{Text}
use Rattle.proxy_proto.specs.declared.table.Label.TheVariants.{Choice}
use Rattle.proxy_proto.specs.declared.table.Schema.{Schema}
use Rattle.proxy_proto.specs.declared.table.Schema.TheVariants as schemas
use Rattle.proxy_proto.specs.Endpoints.{address_records}
use Rattle.proxy_proto.specs.Faults.{end_fault, fault_at, fault_if, fault_of, field_at, has_choice, or_fault, records_fault}
use Rattle.proxy_proto.specs.FieldRecords.{chunk, number_field, text_field}
use Rattle.proxy_proto.specs.LookUps.{chunk_from, chunk_in, number_from, records_in, value_at}
use Rattle.proxy_proto.specs.MessageReading.{or_first}
use Rattle.proxy_proto.specs.RequestReading.{address_target, asked_of, endpoints_query, port_of, profile_query, query_in, request_of, traffic_query, traffic_target}
use Rattle.proxy_proto.specs.Tables.{field, fields_of}
use Rattle.proxy_proto.proofs.Checking.{known}
use Rattle.message_laws.proofs.Coming.{first_inside, first_short}
use Rattle.message_laws.proofs.EndpointRound.{address_comes}
use Rattle.message_laws.proofs.Found.{IsSound, found_text, kept, not_number, not_text, only_number, only_text, recorded, scanned, skip, sound_append, sound_chunk, sound_number, sound_text}
use Rattle.message_laws.proofs.Passing.{Inner, chosen, pass_number, pass_text, pass_then}
use Rattle.request_writing.specs.declared.request.ClientRequest.{ClientRequest}
use Rattle.request_writing.specs.declared.request.ClientRequest.TheVariants.{Get, GetProfile, WatchPort, Watch, WatchPort2}
use Rattle.request_writing.specs.declared.request.GetDestination.{GetDestination}
use Rattle.request_writing.specs.declared.request.PortSpec.{PortSpec}
use Rattle.request_writing.specs.declared.request.TrafficSpec.TheVariants.{Addr, Authority}
use Rattle.request_writing.specs.Requests.{canonical_request, destination_records, method_of_request, port_records, traffic_records}
use Rattle.request_writing.specs.Meanings.{meaning, port_meaning}
use Rattle.request_writing.specs.Sendable.{IsSendableRequest, IsSendableDestination, IsSendablePort}

-- ---- records that are read to their end

-- no record has a fault
abbrev AllPass : Schema → List Rec → Type 0
AllPass schema rs = (d : ℕ) → length (spelling rs) ≤ d → records_fault (fault_at d) (fields_of schema) [] rs ≡ None

-- what is wrong with them together
abbrev fault_together : Schema → List Rec → Option ProtoFault
fault_together schema rs = end_fault schema (fields_of schema) (record { records = rs; fault = None })

at_end : (schema : Schema) (rs : List Rec) (depth : ℕ) → scan_of (spelling rs) ≡ record { records = rs; fault = None } → AllPass schema rs → length (spelling rs) < depth → fault_at depth schema (spelling rs) ≡ fault_together schema rs
unfolding fault_at
at_end schema rs zero read pass lt = absurd (omega arith)
at_end schema rs (suc d) read pass lt = rw (read, pass d (omega arith)) refl

to_end : (schema : Schema) (said : List Rec → Result Query ProtoFault) (rs : List Rec) (x : Result Query ProtoFault) → AllByRecursion IsSound rs → length (spelling rs) < 2 ^ 64 → AllPass schema rs → said rs ≡ x
    → or_first (fault_of schema (spelling rs)) (said (records_in (spelling rs))) ≡ or_first (fault_together schema rs) x
to_end schema said rs x sound short pass is =
    let faults = at_end schema rs (length (spelling rs) + 1) (scanned rs sound short) pass (omega arith) in
    rw (faults, recorded rs sound short, is) refl

-- ---- Get and GetProfile

module _ (destination : GetDestination) where
  destination_sound : AllByRecursion IsSound (destination_records destination)
  unfolding destination_records
  destination_sound =
      sound_append (text_field 2 destination.path) (text_field 3 destination.token) (sound_text 2 destination.path (lit< tt) (lit< tt)) (sound_text 3 destination.token (lit< tt) (lit< tt))

  destination_passes : IsSendableDestination destination → AllPass schemas.GetDestination (destination_records destination)
  unfolding destination_records
  destination_passes fits d le =
      let inner = fault_at d in
      let fs = fields_of schemas.GetDestination in
      (pass_then inner fs 0 3 4 (text_field 2 destination.path) (text_field 3 destination.token) (lit≤ tt) (lit≤ tt)
      (pass_text inner fs 0 2 destination.path refl (lit≤ tt) fits.path)
      (pass_text inner fs 3 3 destination.token refl (lit≤ tt) fits.token)).pass [] tt

  path_found : chunk_in 2 (destination_records destination) ≡ destination.path
  unfolding destination_records
  path_found = found_text 2 destination.path (text_field 3 destination.token) (not_text 2 3 destination.token (λ e. cc))

  token_found : chunk_in 3 (destination_records destination) ≡ destination.token
  unfolding destination_records
  token_found = ap chunk_from (skip 3 (text_field 2 destination.path) (text_field 3 destination.token) (not_text 3 2 destination.path (λ e. cc))) ∙ only_text 3 destination.token

  module _ (config : Config) (fits : IsSendableDestination destination) (short : length (spelling (destination_records destination)) < 2 ^ 64) where
    get_back : request_of config method.Get (spelling (destination_records destination)) ≡ endpoints_query (target_of config destination.path) (context_of destination.token)
    get_back =
        to_end schemas.GetDestination (λ rs. query_in config method.Get rs) (destination_records destination) (endpoints_query (target_of config destination.path) (context_of destination.token)) destination_sound short (destination_passes fits)
        (rw (path_found, token_found) refl)

    profile_back : request_of config method.GetProfile (spelling (destination_records destination)) ≡ profile_query (target_of config destination.path) (context_of destination.token)
    profile_back =
        to_end schemas.GetDestination (λ rs. query_in config method.GetProfile rs) (destination_records destination) (profile_query (target_of config destination.path) (context_of destination.token)) destination_sound short (destination_passes fits)
        (rw (path_found, token_found) refl)

-- ---- WatchPort and WatchPort2

then_none : (fault : Option ProtoFault) → or_fault fault None ≡ fault
then_none None = refl
then_none (Some fault) = refl

zero_first : (b : Bool) (read : Result Query ProtoFault) → or_first (fault_if b (Range 2)) read ≡ (if b then Err (Range 2) else read)
zero_first true read = refl
zero_first false read = refl

module _ (spec : PortSpec) (fits : IsSendablePort spec) where
  port_sound : AllByRecursion IsSound (port_records spec)
  unfolding port_records
  port_sound =
      let lt = fits.port in
      sound_append (text_field 1 spec.workload) (number_field 2 spec.port) (sound_text 1 spec.workload (lit< tt) (lit< tt)) (sound_number 2 spec.port (lit< tt) (lit< tt) (omega arith))

  port_passes : AllPass schemas.PortSpec (port_records spec)
  unfolding port_records
  port_passes d le =
      let lt = fits.port in
      let inner = fault_at d in
      let fs = fields_of schemas.PortSpec in
      (pass_then inner fs 0 2 3 (text_field 1 spec.workload) (number_field 2 spec.port) (lit≤ tt) (lit≤ tt)
      (pass_text inner fs 0 1 spec.workload refl (lit≤ tt) fits.workload)
      (pass_number inner fs 2 2 65535 spec.port refl (lit≤ tt) (omega arith))).pass [] tt

  workload_found : chunk_in 1 (port_records spec) ≡ spec.workload
  unfolding port_records
  workload_found = found_text 1 spec.workload (number_field 2 spec.port) (not_number 1 2 spec.port (λ e. cc))

  number_found : number_from (value_at 2 (port_records spec)) ≡ spec.port
  unfolding port_records
  number_found = ap number_from (skip 2 (text_field 1 spec.workload) (number_field 2 spec.port) (not_text 2 1 spec.workload (λ e. cc))) ∙ only_number 2 spec.port

  port_fault : fault_together schemas.PortSpec (port_records spec) ≡ fault_if (spec.port == 0) (Range 2)
  port_fault = rw number_found (then_none (fault_if (spec.port == 0) (Range 2)))

  abbrev asked : (PodPort → Query) → Result Query ProtoFault
  asked ask = asked_of ask (port_of (workload_of spec.workload) spec.port)

  module _ (config : Config) (short : length (spelling (port_records spec)) < 2 ^ 64) where
    whole_back : request_of config method.WatchPort (spelling (port_records spec)) ≡ port_meaning query_whole spec
    whole_back =
        to_end schemas.PortSpec (λ rs. query_in config method.WatchPort rs) (port_records spec) (asked query_whole) port_sound short port_passes
        (rw (workload_found, number_found, kept 65536 spec.port fits.port) refl)
        ∙ ap (λ fault. or_first fault (asked query_whole)) port_fault
        ∙ zero_first (spec.port == 0) (asked query_whole)

    rows_back : request_of config method.WatchPort2 (spelling (port_records spec)) ≡ port_meaning query_by_rows spec
    rows_back =
        to_end schemas.PortSpec (λ rs. query_in config method.WatchPort2 rs) (port_records spec) (asked query_by_rows) port_sound short port_passes
        (rw (workload_found, number_found, kept 65536 spec.port fits.port) refl)
        ∙ ap (λ fault. or_first fault (asked query_by_rows)) port_fault
        ∙ zero_first (spec.port == 0) (asked query_by_rows)

-- ---- Watch

addr_back : (config : Config) (ip : Ip) (port : ℕ) → FitsIp ip → port < 65536 → length (spelling (traffic_records (Addr ip port))) < 2 ^ 64 → request_of config method.Watch (spelling (traffic_records (Addr ip port))) ≡ Ok (Traffic (Address ip port))
unfolding traffic_records traffic_target
addr_back config ip port fits lt short =
    let bytes = spelling (address_records ip port) in
    let less = first_short 2 bytes [] in
    let inside_less = first_inside 2 bytes [] in
    let there = address_comes ip port fits lt (omega arith) in
    to_end schemas.TrafficSpec (λ rs. query_in config method.Watch rs) (chunk 2 bytes ∷ []) (Ok (Traffic (Address ip port))) (sound_chunk 2 bytes (lit< tt) (lit< tt), tt) short
    (λ d le. chosen (fault_at d) (fields_of schemas.TrafficSpec) 2 schemas.TcpAddress bytes refl refl (there.clean d (omega arith)))
    (ap (λ pair. traffic_query (Some (address_target pair))) there.back)

-- a string that is a member of a choice
text_chosen : (inner : Inner) (fs : List Field) (n : ℕ) (text : List ℕ) → field_at n fs ≡ Some (field n Choice Text) → has_choice fs [] ≡ false → IsUtf8 text → records_fault inner fs [] (chunk n text ∷ []) ≡ None
text_chosen inner fs n text found none utf8 = rw (known inner fs [] (chunk n text) (field n Choice Text) found, none, is_utf8-from_IsUtf8 text utf8) refl

authority_back : (config : Config) (authority : List ℕ) → IsUtf8 authority → length (spelling (traffic_records (Authority authority))) < 2 ^ 64 → request_of config method.Watch (spelling (traffic_records (Authority authority))) ≡ traffic_query (target_of config authority)
unfolding traffic_records traffic_target
authority_back config authority utf8 short =
    to_end schemas.TrafficSpec (λ rs. query_in config method.Watch rs) (chunk 3 authority ∷ []) (traffic_query (target_of config authority)) (sound_chunk 3 authority (lit< tt) (lit< tt), tt) short
    (λ d le. text_chosen (fault_at d) (fields_of schemas.TrafficSpec) 3 authority refl refl utf8) refl

-- ---- all requests

pub request_back : (config : Config) (request : ClientRequest) → IsSendableRequest request → request_of config (method_of_request request) (canonical_request request) ≡ meaning config request
request_back config (Get destination) fits = get_back destination config fits.contents fits.short
request_back config (GetProfile destination) fits = profile_back destination config fits.contents fits.short
request_back config (WatchPort spec) fits = whole_back spec fits.contents config fits.short
request_back config (Watch (Addr ip port)) fits = addr_back config ip port fits.contents.0 fits.contents.1 fits.short
request_back config (Watch (Authority authority)) fits = authority_back config authority fits.contents fits.short
request_back config (WatchPort2 spec) fits = rows_back spec fits.contents config fits.short
