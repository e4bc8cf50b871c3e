-- The records of profiles are in bytes.
use Rattle.std.proofs.Common.{◌≡◌, ◌&&◌, Bool, true, false, List, [], ◌∷◌, ◌++◌, map, Option, Some, None, refl, sym, ◌∙◌, subst, lit<}
use Rattle.std.specs.Prelude.{IsUtf8, codes, nat_lt}
use Rattle.std.specs.Str.{chars, is_utf8}
use lib.Utf8.{encode}
use Rattle.std.specs.List.{AllByRecursion}
use Rattle.std.proofs.lemmas.Bool.{ltb-true}
use Rattle.std.proofs.lemmas.Str.{IsUtf8-from_is_utf8}
use Rattle.proto_wire.specs.declared.record.Rec.{Rec}
use Rattle.proto_wire.specs.Wire.{spelling}
use Rattle.message_laws.proofs.MatchRound.{each_true}
use Rattle.proxy_proto.specs.Endpoints.{label_records, row_records}
use Rattle.proxy_proto.specs.FieldRecords.{bool_field, chunk, each_field, number_field, optional_field, text_field}
use Rattle.proxy_proto.specs.Profiles.{class_records, duration_records, metrics_label, override_records, profile_records, range_records, request_match_by, request_match_records, response_match_by, response_match_records, route_records, seq_records}
use Rattle.proxy_proto.specs.Sendable.{IsSendableEndpoint, IsSendableProfile}
use Rattle.view_types.specs.Lawful.{IsLawfulOverride, IsLawfulProfileRoute, has_statuses, has_statuses_by, has_strings, has_strings_by}
use Rattle.view_types.specs.declared.endpoint.EndpointRow.{EndpointRow}
use Rattle.view_types.specs.declared.outbound.ProfileView.{ProfileView}
use Rattle.view_types.specs.declared.profile.Override.{Override}
use Rattle.view_types.specs.declared.profile.ProfileRoute.{ProfileRoute}
use Rattle.view_types.specs.declared.profile.ReqMatch.{ReqMatch, fold-roll-ReqMatch, ind-ReqMatch, map-ReqMatch, roll-ReqMatch}
use Rattle.view_types.specs.declared.profile.ReqMatch.TheOpen.{ReqMatch-F}
use Rattle.view_types.specs.declared.profile.RespClass.{RespClass}
use Rattle.view_types.specs.declared.profile.RespMatch.{RespMatch, fold-roll-RespMatch, ind-RespMatch, map-RespMatch, roll-RespMatch}
use Rattle.view_types.specs.declared.profile.RespMatch.TheOpen.{RespMatch-F}
use Rattle.output_laws.proofs.Bytes.{AreSound, sound_bool, sound_both, sound_each, sound_inside, sound_number, sound_text}
use Rattle.output_laws.proofs.BytesOfEndpoints.{label_sound, port_small, row_sound, weight_small}
use Rattle.output_laws.proofs.BytesOfRoutes.{timeout_sound}

-- ---- matches of requests

abbrev SoundRequest : ReqMatch → Type 0
SoundRequest m = has_strings m ≡ true → AreSound (request_match_records m)

by_layer : (layer : ReqMatch-F ReqMatch) → AreSound (request_match_by (map-ReqMatch ReqMatch (List Rec) request_match_records layer)) → AreSound (request_match_records (roll-ReqMatch layer))
by_layer layer good = subst AreSound (sym (fold-roll-ReqMatch (List Rec) request_match_by layer)) good

strings_in : (layer : ReqMatch-F ReqMatch) → has_strings (roll-ReqMatch layer) ≡ true → has_strings_by (map-ReqMatch ReqMatch Bool has_strings layer) ≡ true
strings_in layer strings = sym (fold-roll-ReqMatch Bool has_strings_by layer) ∙ strings

sound_parts : (parts : List ReqMatch) → AllByRecursion SoundRequest parts → AllByRecursion (λ (m : ReqMatch). has_strings m ≡ true) parts → AreSound (seq_records (map request_match_records parts))
sound_parts [] there strings = tt
sound_parts (m ∷ ms) there strings = (sound_inside 1 (request_match_records m) (lit< tt) (there.0 strings.0), sound_parts ms there.1 strings.1)

abbrev Proved : Type 0
Proved = (m : ReqMatch) × SoundRequest m

each_proved : (ps : List Proved) → AllByRecursion SoundRequest (map (λ p. p.0) ps)
each_proved [] = tt
each_proved (p ∷ ps) = (p.1, each_proved ps)

layer_sound : (y : ReqMatch-F Proved) → SoundRequest (roll-ReqMatch (map-ReqMatch Proved ReqMatch (λ p. p.0) y))
layer_sound (ReqMatch-F.Method name) strings =
    let text = IsUtf8-from_is_utf8 name (strings_in (ReqMatch-F.Method name) strings) in
    by_layer (ReqMatch-F.Method name) (sound_inside 5 (text_field 1 name) (lit< tt) (sound_text 1 name (lit< tt) text), tt)
layer_sound (ReqMatch-F.Path regex) strings =
    let text = IsUtf8-from_is_utf8 regex (strings_in (ReqMatch-F.Path regex) strings) in
    by_layer (ReqMatch-F.Path regex) (sound_inside 4 (text_field 1 regex) (lit< tt) (sound_text 1 regex (lit< tt) text), tt)
layer_sound (ReqMatch-F.All ps) strings =
    let parts = map (λ (p : Proved). p.0) ps in
    let each = each_true has_strings parts (strings_in (ReqMatch-F.All parts) strings) in
    by_layer (ReqMatch-F.All parts) (sound_inside 1 (seq_records (map request_match_records parts)) (lit< tt) (sound_parts parts (each_proved ps) each), tt)
layer_sound (ReqMatch-F.Any ps) strings =
    let parts = map (λ (p : Proved). p.0) ps in
    let each = each_true has_strings parts (strings_in (ReqMatch-F.Any parts) strings) in
    by_layer (ReqMatch-F.Any parts) (sound_inside 2 (seq_records (map request_match_records parts)) (lit< tt) (sound_parts parts (each_proved ps) each), tt)
layer_sound (ReqMatch-F.Not p) strings =
    by_layer (ReqMatch-F.Not p.0) (sound_inside 3 (request_match_records p.0) (lit< tt) (p.1 (strings_in (ReqMatch-F.Not p.0) strings)), tt)

request_sound : (m : ReqMatch) → SoundRequest m
request_sound = ind-ReqMatch SoundRequest (λ x y is. subst (λ z. SoundRequest (roll-ReqMatch z)) is (layer_sound y))

-- ---- matches of responses

abbrev SoundResponse : RespMatch → Type 0
SoundResponse m = has_statuses m ≡ true → AreSound (response_match_records m)

by_class : (layer : RespMatch-F RespMatch) → AreSound (response_match_by (map-RespMatch RespMatch (List Rec) response_match_records layer)) → AreSound (response_match_records (roll-RespMatch layer))
by_class layer good = subst AreSound (sym (fold-roll-RespMatch (List Rec) response_match_by layer)) good

statuses_in : (layer : RespMatch-F RespMatch) → has_statuses (roll-RespMatch layer) ≡ true → has_statuses_by (map-RespMatch RespMatch Bool has_statuses layer) ≡ true
statuses_in layer statuses = sym (fold-roll-RespMatch Bool has_statuses_by layer) ∙ statuses

response_parts : (parts : List RespMatch) → AllByRecursion SoundResponse parts → AllByRecursion (λ (m : RespMatch). has_statuses m ≡ true) parts → AreSound (seq_records (map response_match_records parts))
response_parts [] there statuses = tt
response_parts (m ∷ ms) there statuses = (sound_inside 1 (response_match_records m) (lit< tt) (there.0 statuses.0), response_parts ms there.1 statuses.1)

abbrev ProvedResponse : Type 0
ProvedResponse = (m : RespMatch) × SoundResponse m

each_response : (ps : List ProvedResponse) → AllByRecursion SoundResponse (map (λ p. p.0) ps)
each_response [] = tt
each_response (p ∷ ps) = (p.1, each_response ps)

both_true : (a b : Bool) → (a && b) ≡ true → (a ≡ true) × (b ≡ true)
both_true true b e = (refl, e)
both_true false b e = absurd cc

class_layer : (y : RespMatch-F ProvedResponse) → SoundResponse (roll-RespMatch (map-RespMatch ProvedResponse RespMatch (λ p. p.0) y))
class_layer (RespMatch-F.Status low high) statuses =
    let small = both_true (nat_lt low 65536) (nat_lt high 65536) (statuses_in (RespMatch-F.Status low high) statuses) in
    by_class (RespMatch-F.Status low high) (
      sound_inside 4 (range_records low high) (lit< tt)
          (sound_both (number_field 1 low) (number_field 2 high) (sound_number 1 low (lit< tt) (port_small low (ltb-true low 65536 small.0))) (sound_number 2 high (lit< tt) (port_small high (ltb-true high 65536 small.1)))),
      tt,
    )
class_layer (RespMatch-F.All ps) statuses =
    let parts = map (λ (p : ProvedResponse). p.0) ps in
    let each = each_true has_statuses parts (statuses_in (RespMatch-F.All parts) statuses) in
    by_class (RespMatch-F.All parts) (sound_inside 1 (seq_records (map response_match_records parts)) (lit< tt) (response_parts parts (each_response ps) each), tt)
class_layer (RespMatch-F.Any ps) statuses =
    let parts = map (λ (p : ProvedResponse). p.0) ps in
    let each = each_true has_statuses parts (statuses_in (RespMatch-F.Any parts) statuses) in
    by_class (RespMatch-F.Any parts) (sound_inside 2 (seq_records (map response_match_records parts)) (lit< tt) (response_parts parts (each_response ps) each), tt)
class_layer (RespMatch-F.Not p) statuses =
    by_class (RespMatch-F.Not p.0) (sound_inside 3 (response_match_records p.0) (lit< tt) (p.1 (statuses_in (RespMatch-F.Not p.0) statuses)), tt)

response_sound : (m : RespMatch) → SoundResponse m
response_sound = ind-RespMatch SoundResponse (λ x y is. subst (λ z. SoundResponse (roll-RespMatch z)) is (class_layer y))

-- ---- profiles

abbrev HasStatuses : RespClass → Type 0
HasStatuses c = has_statuses c.condition ≡ true

class_sound : (c : RespClass) → HasStatuses c → AreSound (class_records c)
unfolding class_records
class_sound c good = (sound_inside 1 (response_match_records c.condition) (lit< tt) (response_sound c.condition good), sound_bool 2 c.failure (lit< tt))

label_name : IsUtf8 (codes "route")
unfolding is_utf8 chars encode
label_name = IsUtf8-from_is_utf8 (codes "route") refl

route_sound : (route : ProfileRoute) → IsLawfulProfileRoute route → AreSound (route_records route)
unfolding route_records
route_sound route good =
    let last = bool_field 4 route.retryable ++ optional_field 5 duration_records route.timeout in (
      sound_inside 1 (request_match_records route.condition) (lit< tt) (request_sound route.condition good.condition),
      sound_both (each_field 2 class_records route.classes) (chunk 3 (spelling (label_records (metrics_label route))) ∷ last) (sound_each 2 HasStatuses class_records (lit< tt) class_sound route.classes good.classes) (
        sound_inside 3 (label_records (metrics_label route)) (lit< tt) (label_sound (metrics_label route) (label_name, good.name)),
        sound_both (bool_field 4 route.retryable) (optional_field 5 duration_records route.timeout) (sound_bool 4 route.retryable (lit< tt)) (timeout_sound 5 route.timeout (lit< tt) good.timeout),
      ),
    )

override_sound : (override : Override) → IsLawfulOverride override → AreSound (override_records override)
unfolding override_records
override_sound override good = sound_both (text_field 1 override.authority) (number_field 2 override.weight) (sound_text 1 override.authority (lit< tt) good.authority)
    (sound_number 2 override.weight (lit< tt) (weight_small override.weight good.weight))

endpoint_sound : (endpoint : Option EndpointRow) → IsSendableEndpoint endpoint → AreSound (optional_field 6 row_records endpoint)
endpoint_sound None good = tt
endpoint_sound (Some row) good = (sound_inside 6 (row_records row) (lit< tt) (row_sound row good), tt)

pub profile_sound : (view : ProfileView) → IsSendableProfile view → AreSound (profile_records view)
unfolding profile_records
profile_sound view good =
    let last = text_field 5 view.fqn ++ optional_field 6 row_records view.endpoint in
    sound_both (each_field 1 route_records view.routes) (each_field 3 override_records view.overrides ++ (bool_field 4 view.opaque ++ last)) (sound_each 1 IsLawfulProfileRoute route_records (lit< tt) route_sound view.routes good.routes)
    (sound_both (each_field 3 override_records view.overrides) (bool_field 4 view.opaque ++ last) (sound_each 3 IsLawfulOverride override_records (lit< tt) override_sound view.overrides good.overrides)
    (sound_both (bool_field 4 view.opaque) last (sound_bool 4 view.opaque (lit< tt))
    (sound_both (text_field 5 view.fqn) (optional_field 6 row_records view.endpoint) (sound_text 5 view.fqn (lit< tt) good.fqn) (endpoint_sound view.endpoint good.endpoint))))
