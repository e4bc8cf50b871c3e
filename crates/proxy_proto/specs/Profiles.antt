-- The records of a profile's message, `DestinationProfile`, and of the messages nested in it.
use Rattle.std.specs.Prelude.{ℕ, ◌/◌, ◌%◌, List, [], ◌∷◌, ◌++◌, codes}
use Rattle.view_types.specs.declared.outbound.ProfileView.{ProfileView}
use Rattle.view_types.specs.declared.profile.Override.{Override}
use Rattle.view_types.specs.declared.profile.ProfileRoute.{ProfileRoute}
use Rattle.view_types.specs.declared.profile.ReqMatch.{ReqMatch, fold-ReqMatch}
use Rattle.view_types.specs.declared.profile.ReqMatch.TheOpen.{ReqMatch-F}
use Rattle.view_types.specs.declared.profile.RespClass.{RespClass}
use Rattle.view_types.specs.declared.profile.RespMatch.{RespMatch, fold-RespMatch}
use Rattle.view_types.specs.declared.profile.RespMatch.TheOpen.{RespMatch-F}
use Rattle.proto_wire.specs.declared.record.Rec.{Rec}
use Rattle.proto_wire.specs.Wire.{spelling}
use Rattle.proxy_proto.specs.FieldRecords.{chunk, number_field, bool_field, text_field, optional_field, each_field}
use Rattle.proxy_proto.specs.Endpoints.{label_records, row_records}

-- ---- RequestMatch: a choice

-- a list of matches, all or any of which must match
abbrev pub seq_records : List (List Rec) → List Rec
seq_records parts = each_field 1 (λ part. part) parts

-- a match, given the records of the matches nested in it
abbrev pub request_match_by : ReqMatch-F (List Rec) → List Rec
request_match_by (ReqMatch-F.All parts) = chunk 1 (spelling (seq_records parts)) ∷ []
request_match_by (ReqMatch-F.Any parts) = chunk 2 (spelling (seq_records parts)) ∷ []
request_match_by (ReqMatch-F.Not part) = chunk 3 (spelling part) ∷ []
request_match_by (ReqMatch-F.Path regex) = chunk 4 (spelling (text_field 1 regex)) ∷ []
request_match_by (ReqMatch-F.Method name) = chunk 5 (spelling (text_field 1 name)) ∷ []

abbrev pub request_match_records : ReqMatch → List Rec
request_match_records = fold-ReqMatch (List Rec) request_match_by

-- ---- ResponseMatch: a choice, and ResponseClass

-- `StatusRange`: the least and the greatest status code
abbrev pub range_records : ℕ → ℕ → List Rec
range_records low high = number_field 1 low ++ number_field 2 high

abbrev pub response_match_by : RespMatch-F (List Rec) → List Rec
response_match_by (RespMatch-F.All parts) = chunk 1 (spelling (seq_records parts)) ∷ []
response_match_by (RespMatch-F.Any parts) = chunk 2 (spelling (seq_records parts)) ∷ []
response_match_by (RespMatch-F.Not part) = chunk 3 (spelling part) ∷ []
response_match_by (RespMatch-F.Status low high) = chunk 4 (spelling (range_records low high)) ∷ []

abbrev pub response_match_records : RespMatch → List Rec
response_match_records = fold-RespMatch (List Rec) response_match_by

unfoldable pub class_records : RespClass → List Rec
class_records c = chunk 1 (spelling (response_match_records c.condition)) ∷ bool_field 2 c.failure

-- ---- ProfileRoute, with Duration

-- whole seconds, and the remaining nanoseconds
unfoldable pub duration_records : ℕ → List Rec
duration_records nanoseconds = number_field 1 (nanoseconds / 1000000000) ++ number_field 2 (nanoseconds % 1000000000)

-- the name of a route is the only label of its metrics
abbrev pub metrics_label : ProfileRoute → List ℕ × List ℕ
metrics_label route = (codes "route", route.name)

unfoldable pub route_records : ProfileRoute → List Rec
route_records route =
    chunk 1 (spelling (request_match_records route.condition))
    ∷ (each_field 2 class_records route.classes
    ++ (chunk 3 (spelling (label_records (metrics_label route)))
    ∷ (bool_field 4 route.retryable
    ++ optional_field 5 duration_records route.timeout)))

-- ---- WeightedDst and DestinationProfile

unfoldable pub override_records : Override → List Rec
override_records override = text_field 1 override.authority ++ number_field 2 override.weight

unfoldable pub profile_records : ProfileView → List Rec
profile_records view =
    each_field 1 route_records view.routes
    ++ (each_field 3 override_records view.overrides
    ++ (bool_field 4 view.opaque
    ++ (text_field 5 view.fqn
    ++ optional_field 6 row_records view.endpoint)))
