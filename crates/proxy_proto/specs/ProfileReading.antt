-- The contents of a profile's message, `DestinationProfile`, and of the messages nested in it.
use Rattle.std.specs.Prelude.{ℕ, zero, suc, ◌+◌, ◌^◌, List, [], ◌∷◌, codes, length, if◌then◌else◌}
use Rattle.std.specs.Str.{bytes_eq}
use Rattle.view_types.specs.declared.outbound.ProfileView.{ProfileView}
use Rattle.view_types.specs.declared.profile.Override.{Override}
use Rattle.view_types.specs.declared.profile.ProfileRoute.{ProfileRoute}
use Rattle.view_types.specs.declared.profile.ReqMatch.{ReqMatch}
use Rattle.view_types.specs.declared.profile.ReqMatch.TheVariants as request
use Rattle.view_types.specs.declared.profile.RespClass.{RespClass}
use Rattle.view_types.specs.declared.profile.RespMatch.{RespMatch}
use Rattle.view_types.specs.declared.profile.RespMatch.TheVariants as response
use Rattle.proto_wire.specs.declared.record.Rec.{Rec}
use Rattle.proxy_proto.specs.EndpointReading.{label_in, row_in}
use Rattle.proxy_proto.specs.LookUps.{records_in, has, nanoseconds_in, below, number_below, flag_in, chunk_in, string_in, inside, each_in, each_message, optional_in}

-- ---- matches; `part` reads a nested match

abbrev pub request_match_from : (List ℕ → ReqMatch) → List Rec → ReqMatch
request_match_from part rs =
    if has 1 rs then request.All (each_in 1 part (inside 1 rs))
    else (if has 2 rs then request.Any (each_in 1 part (inside 2 rs))
    else (if has 3 rs then request.Not (part (chunk_in 3 rs))
    else (if has 4 rs then request.Path (string_in 1 (inside 4 rs))
    else request.Method (string_in 1 (inside 5 rs)))))

-- a match in which matches nest at most this deep
unfoldable pub request_match_in : ℕ → List ℕ → ReqMatch
request_match_in zero bytes = request.Method []
request_match_in (suc depth) bytes = request_match_from (request_match_in depth) (records_in bytes)

-- Nested matches are shorter, so the length bounds the depth.
abbrev pub request_match_of : List ℕ → ReqMatch
request_match_of bytes = request_match_in (length bytes + 1) bytes

abbrev pub response_match_from : (List ℕ → RespMatch) → List Rec → RespMatch
response_match_from part rs =
    if has 1 rs then response.All (each_in 1 part (inside 1 rs))
    else (if has 2 rs then response.Any (each_in 1 part (inside 2 rs))
    else (if has 3 rs then response.Not (part (chunk_in 3 rs))
    else response.Status (number_below 65536 1 (inside 4 rs)) (number_below 65536 2 (inside 4 rs))))

unfoldable pub response_match_in : ℕ → List ℕ → RespMatch
response_match_in zero bytes = response.Status 0 0
response_match_in (suc depth) bytes = response_match_from (response_match_in depth) (records_in bytes)

abbrev pub response_match_of : List ℕ → RespMatch
response_match_of bytes = response_match_in (length bytes + 1) bytes

-- ---- a route

unfoldable pub class_in : List Rec → RespClass
class_in rs = record { condition = response_match_of (chunk_in 1 rs); failure = flag_in 2 rs }

-- a duration in nanoseconds, or 0 if it is 2 ^ 63 nanoseconds or longer
unfoldable pub duration_in : List Rec → ℕ
duration_in rs = below (2 ^ 63) (nanoseconds_in rs)

-- the value of the label with this key
abbrev pub label_named : List ℕ → List (List ℕ × List ℕ) → List ℕ
label_named key [] = []
label_named key (label ∷ labels) = if bytes_eq label.0 key then label.1 else label_named key labels

-- The name of a route is the value of the label `route`. Other labels are ignored.
unfoldable pub route_in : List Rec → ProfileRoute
route_in rs = record {
  name = label_named (codes "route") (each_message 3 label_in rs);
  condition = request_match_of (chunk_in 1 rs);
  classes = each_message 2 class_in rs;
  retryable = flag_in 4 rs;
  timeout = optional_in 5 duration_in rs;
}

-- ---- a profile

unfoldable pub override_in : List Rec → Override
override_in rs = record { authority = string_in 1 rs; weight = number_below 4294967296 2 rs }

unfoldable pub profile_in : List Rec → ProfileView
profile_in rs = record {
  fqn = string_in 5 rs;
  opaque = flag_in 4 rs;
  routes = each_message 1 route_in rs;
  overrides = each_message 3 override_in rs;
  endpoint = optional_in 6 row_in rs;
}
