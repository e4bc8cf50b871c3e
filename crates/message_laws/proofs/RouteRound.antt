-- What is written of a profile's route is read back.
use Rattle.std.proofs.Common.{◌≡◌, ℕ, ◌+◌, ◌-◌, ◌*◌, ◌/◌, ◌%◌, ◌^◌, ◌<◌, ◌≤◌, true, List, [], ◌∷◌, length, Option, Some, None, refl, ap, ◌∙◌, arith, lit<, lit≤, codes}
use lib.Utf8.{encode}
use Rattle.std.proofs.lemmas.Bool.{lt-ltb}
use Rattle.std.proofs.Math.Nat.{mod-add-div}
use Rattle.std.proofs.lemmas.Str.{IsUtf8-from_is_utf8}
use Rattle.std.specs.List.{AllByRecursion}
use Rattle.std.specs.Str.{IsUtf8, is_utf8, chars}
use Rattle.k8s_meta.specs.Lawful.{IsShort}
use Rattle.view_types.specs.Lawful.{IsLawfulProfileRoute, has_statuses}
use Rattle.view_types.specs.declared.profile.ProfileRoute.{ProfileRoute}
use Rattle.view_types.specs.declared.profile.RespClass.{RespClass}
use Rattle.proto_wire.specs.Wire.{spelling}
use Rattle.proxy_proto.specs.declared.table.Schema.TheVariants as schemas
use Rattle.proxy_proto.specs.EndpointReading.{label_in}
use Rattle.proxy_proto.specs.Endpoints.{label_records}
use Rattle.proxy_proto.specs.Faults.{end_fault, fault_at, records_fault}
use Rattle.proxy_proto.specs.FieldRecords.{chunk, number_field, bool_field, optional_field, each_field}
use Rattle.proxy_proto.specs.LookUps.{chunk_in, number_from, value_at}
use Rattle.proxy_proto.specs.ProfileReading.{class_in, duration_in, label_named, request_match_of, route_in}
use Rattle.proxy_proto.specs.Profiles.{class_records, duration_records, metrics_label, request_match_records, response_match_records, route_records}
use Rattle.proxy_proto.specs.Sendable.{IsSendableLabel}
use Rattle.proxy_proto.specs.Tables.{fields_of}
use Rattle.message_laws.proofs.Coming.{Comes, comes, each_comes, first_inside, first_short}
use Rattle.message_laws.proofs.EndpointRound.{label_comes, label_key}
use Rattle.message_laws.proofs.FieldBlocks.{AllWritten, FieldBlock, block, laid, laid_comes}
use Rattle.message_laws.proofs.Found.{IsSound, found_number, kept, not_number, only_bool, only_number, skip, sound_append, sound_bool, sound_chunk, sound_number}
use Rattle.message_laws.proofs.MapPassing.{HasKey}
use Rattle.message_laws.proofs.Passing.{pass_bool, pass_number, pass_required, pass_then}
use Rattle.message_laws.proofs.RequestRound.{request_comes}
use Rattle.message_laws.proofs.ResponseRound.{response_comes}
use Rattle.message_laws.proofs.WrittenFields.{ComesIfShort, EachComes, OptionalComes, chunk_read, each_read, each_written, flag_read, flag_written, has_read, inside_short, map_written, optional_read, optional_written, required_written}

-- ---- a class of responses

abbrev HasStatuses : RespClass → Type 0
HasStatuses c = has_statuses c.condition ≡ true

class_sound : (c : RespClass) → AllByRecursion IsSound (class_records c)
unfolding class_records
class_sound c = (sound_chunk 1 (spelling (response_match_records c.condition)) (lit< tt) (lit< tt), sound_bool 2 c.failure (lit< tt) (lit< tt))

pub class_comes : (c : RespClass) → HasStatuses c → length (spelling (class_records c)) < 2 ^ 64 → Comes schemas.ResponseClass class_in (class_records c) c
unfolding class_records class_in
class_comes c fits short =
    let inner = spelling (response_match_records c.condition) in
    let less = first_short 1 inner (bool_field 2 c.failure) in
    let inside_less = first_inside 1 inner (bool_field 2 c.failure) in
    let there = response_comes c.condition fits (omega arith) in
    let fs = fields_of schemas.ResponseClass in
    comes schemas.ResponseClass class_in (class_records c) c (class_sound c) short
    (λ d le. (pass_then (fault_at d) fs 0 2 3 (chunk 1 inner ∷ []) (bool_field 2 c.failure) (lit≤ tt) (lit≤ tt)
    (pass_required (fault_at d) fs 0 1 schemas.ResponseMatch inner refl (lit≤ tt) (there.clean d (omega arith))) (pass_bool (fault_at d) fs 2 2 c.failure refl (lit≤ tt))).pass [] tt)
    refl
    (rw (there.back (length inner + 1) (omega arith), only_bool 2 c.failure) refl)

-- ---- a duration

seconds_in : (n : ℕ) → number_from (value_at 1 (duration_records n)) * 1000000000 + number_from (value_at 2 (duration_records n)) ≡ n
unfolding duration_records
seconds_in n =
    let s = n / 1000000000 in
    let r = n % 1000000000 in
    let first = found_number 1 s (number_field 2 r) (not_number 1 2 r (λ e. cc)) in
    let second = ap number_from (skip 2 (number_field 1 s) (number_field 2 r) (not_number 2 1 s (λ e. cc))) ∙ only_number 2 r in
    let whole : n / 1000000000 * 1000000000 + n % 1000000000 ≡ n = omega (arith, mod-add-div n 1000000000) in
    rw (first, second) whole

duration_sound : (n : ℕ) → n < 2 ^ 63 → AllByRecursion IsSound (duration_records n)
unfolding duration_records
duration_sound n lt = sound_append (number_field 1 (n / 1000000000)) (number_field 2 (n % 1000000000)) (sound_number 1 (n / 1000000000) (lit< tt) (lit< tt) (omega arith)) (sound_number 2 (n % 1000000000) (lit< tt) (lit< tt) (omega arith))

duration_passes : (d n : ℕ) → n < 2 ^ 63 → records_fault (fault_at d) (fields_of schemas.Duration) [] (duration_records n) ≡ None
unfolding duration_records
duration_passes d n lt =
    let fs = fields_of schemas.Duration in
    (pass_then (fault_at d) fs 0 2 3 (number_field 1 (n / 1000000000)) (number_field 2 (n % 1000000000)) (lit≤ tt) (lit≤ tt)
    (pass_number (fault_at d) fs 0 1 18446744073709551615 (n / 1000000000) refl (lit≤ tt) (omega arith))
    (pass_number (fault_at d) fs 2 2 999999999 (n % 1000000000) refl (lit≤ tt) (omega arith))).pass [] tt

duration_ends : (n : ℕ) → n < 2 ^ 63 → end_fault schemas.Duration (fields_of schemas.Duration) (record { records = duration_records n; fault = None }) ≡ None
duration_ends n lt = rw (seconds_in n, lt-ltb n (2 ^ 63) lt) refl

duration_back : (n : ℕ) → n < 2 ^ 63 → duration_in (duration_records n) ≡ n
unfolding duration_in
duration_back n lt = rw (seconds_in n) (kept (2 ^ 63) n lt)

pub duration_comes : (n : ℕ) → n < 2 ^ 63 → length (spelling (duration_records n)) < 2 ^ 64 → Comes schemas.Duration duration_in (duration_records n) n
duration_comes n lt short = comes schemas.Duration duration_in (duration_records n) n (duration_sound n lt) short (λ d le. duration_passes d n lt) (duration_ends n lt) (duration_back n lt)

pub timeout_comes : (n : ℕ) (timeout : Option ℕ) → IsShort timeout → OptionalComes n schemas.Duration duration_in duration_records timeout
timeout_comes n None fits short = tt
timeout_comes n (Some t) fits short = let less = first_inside n (spelling (duration_records t)) [] in duration_comes t fits (omega arith)

-- ---- a route

label_text : IsUtf8 (codes "route")
unfolding is_utf8 chars encode
label_text = IsUtf8-from_is_utf8 (codes "route") refl

named_first : (value : List ℕ) → label_named (codes "route") ((codes "route", value) ∷ []) ≡ value
named_first value = refl

abbrev labels_of : ProfileRoute → List (List ℕ × List ℕ)
labels_of route = metrics_label route ∷ []

abbrev route_blocks : ProfileRoute → List FieldBlock
route_blocks route =
    block 1 (chunk 1 (spelling (request_match_records route.condition)) ∷ [])
    ∷ block 2 (each_field 2 class_records route.classes)
    ∷ block 3 (each_field 3 label_records (labels_of route))
    ∷ block 4 (bool_field 4 route.retryable)
    ∷ block 5 (optional_field 5 duration_records route.timeout)
    ∷ []

route_laid : (route : ProfileRoute) → route_records route ≡ laid (route_blocks route)
unfolding route_records laid
route_laid route = refl

module _ (route : ProfileRoute) (fits : IsLawfulProfileRoute route) where
  -- what the records of the condition are is read from their bytes
  condition_comes : ComesIfShort schemas.RequestMatch (λ rs. route.condition) (request_match_records route.condition) route.condition
  condition_comes short = record { clean = (request_comes route.condition fits.condition short).clean; back = refl }

  classes_come : EachComes 2 schemas.ResponseClass class_in class_records route.classes
  classes_come = each_comes 2 schemas.ResponseClass class_in class_records HasStatuses route.classes class_comes fits.classes

  labels_come : EachComes 3 schemas.MetricLabel label_in label_records (labels_of route)
  labels_come = each_comes 3 schemas.MetricLabel label_in label_records IsSendableLabel (labels_of route) label_comes ((label_text, fits.name), tt)

  key_is : length (spelling (each_field 3 label_records (labels_of route))) < 2 ^ 64 → AllByRecursion (HasKey label_records) (labels_of route)
  key_is short = let less = first_inside 3 (spelling (label_records (metrics_label route))) [] in (label_key (metrics_label route) (omega arith), tt)

  route_written : AllWritten schemas.ProfileRoute (route_blocks route)
  route_written = (
    required_written schemas.ProfileRoute 1 schemas.RequestMatch (λ rs. route.condition) (request_match_records route.condition) route.condition (lit< tt, lit< tt) refl condition_comes,
    (
      each_written schemas.ProfileRoute 2 schemas.ResponseClass class_in class_records route.classes (lit< tt, lit< tt) refl classes_come,
      (
        map_written schemas.ProfileRoute 3 schemas.MetricLabel label_in label_records (labels_of route) (lit< tt, lit< tt) refl labels_come key_is (refl, tt),
        (
          flag_written schemas.ProfileRoute 4 route.retryable (lit< tt, lit< tt) refl,
          (optional_written schemas.ProfileRoute 5 schemas.Duration duration_in duration_records route.timeout (lit< tt, lit< tt) refl (timeout_comes 5 route.timeout fits.timeout), tt),
        ),
      ),
    ),
  )

  route_ends : end_fault schemas.ProfileRoute (fields_of schemas.ProfileRoute) (record { records = laid (route_blocks route); fault = None }) ≡ None
  route_ends = rw (has_read schemas.ProfileRoute (route_blocks route) route_written 1 (spelling (request_match_records route.condition)) refl) refl

  condition_back : length (spelling (laid (route_blocks route))) < 2 ^ 64 → request_match_of (chunk_in 1 (laid (route_blocks route))) ≡ route.condition
  condition_back short =
      let s = schemas.ProfileRoute in
      let bs = route_blocks route in
      let rs = request_match_records route.condition in
      let there = request_comes route.condition fits.condition (inside_short s bs route_written 1 rs refl short) in
      ap request_match_of (chunk_read s bs route_written 1 (spelling rs) refl) ∙ there.back (length (spelling rs) + 1) (omega arith)

  route_back : length (spelling (laid (route_blocks route))) < 2 ^ 64 → route_in (laid (route_blocks route)) ≡ route
  unfolding route_in
  route_back short =
      let s = schemas.ProfileRoute in
      let bs = route_blocks route in
      let labels = each_read s bs route_written 3 schemas.MetricLabel label_in label_records (labels_of route) refl labels_come short in
      let classes = each_read s bs route_written 2 schemas.ResponseClass class_in class_records route.classes refl classes_come short in
      let timeout = optional_read s bs route_written 5 schemas.Duration duration_in duration_records route.timeout refl (timeout_comes 5 route.timeout fits.timeout) short in
      rw (labels, named_first route.name, condition_back short, classes, flag_read s bs route_written 4 route.retryable refl, timeout) refl

pub route_comes : (route : ProfileRoute) → IsLawfulProfileRoute route → ComesIfShort schemas.ProfileRoute route_in (route_records route) route
route_comes route fits =
    rw (route_laid route) (λ short. laid_comes schemas.ProfileRoute route_in (route_blocks route) route (route_written route fits) refl (route_ends route fits) (route_back route fits short) short)
