-- What is written of a profile is read back.
use Rattle.std.proofs.Common.{◌≡◌, ◌^◌, ◌<◌, ◌≤◌, List, [], ◌∷◌, length, Option, Some, None, refl, ap, ◌∙◌, arith, lit<, lit≤}
use Rattle.std.specs.List.{AllByRecursion}
use Rattle.std.specs.Str.{IsUtf8}
use Rattle.view_types.specs.Lawful.{IsLawfulOverride, IsLawfulProfileRoute}
use Rattle.view_types.specs.declared.endpoint.EndpointRow.{EndpointRow}
use Rattle.view_types.specs.declared.outbound.ProfileView.{ProfileView}
use Rattle.view_types.specs.declared.profile.Override.{Override}
use Rattle.proto_wire.specs.Wire.{spelling}
use Rattle.proxy_proto.specs.declared.table.Schema.TheVariants as schemas
use Rattle.proxy_proto.specs.EndpointReading.{row_in}
use Rattle.proxy_proto.specs.Endpoints.{row_records}
use Rattle.proxy_proto.specs.Faults.{fault_at}
use Rattle.proxy_proto.specs.FieldRecords.{bool_field, each_field, number_field, optional_field, text_field}
use Rattle.proxy_proto.specs.LookUps.{number_from}
use Rattle.proxy_proto.specs.ProfileReading.{override_in, profile_in, route_in}
use Rattle.proxy_proto.specs.Profiles.{override_records, profile_records, route_records}
use Rattle.proxy_proto.specs.Sendable.{IsSendableEndpoint, IsSendableProfile}
use Rattle.proxy_proto.specs.Tables.{fields_of}
use Rattle.message_laws.proofs.Coming.{Comes, comes, each_comes, first_inside}
use Rattle.message_laws.proofs.EndpointRound.{row_comes}
use Rattle.message_laws.proofs.FieldBlocks.{AllWritten, FieldBlock, block, laid, laid_comes}
use Rattle.message_laws.proofs.Found.{IsSound, found_text, kept, not_number, not_text, only_number, skip, sound_append, sound_number, sound_text, text_kept}
use Rattle.message_laws.proofs.Passing.{pass_number, pass_text, pass_then}
use Rattle.message_laws.proofs.RouteRound.{route_comes}
use Rattle.message_laws.proofs.WrittenFields.{ComesIfShort, EachComes, OptionalComes, each_read, each_written, flag_read, flag_written, optional_read, optional_written, text_read, text_written}

-- ---- an override

override_sound : (o : Override) → IsLawfulOverride o → AllByRecursion IsSound (override_records o)
unfolding override_records
override_sound o fits =
    let weight = fits.weight in
    sound_append (text_field 1 o.authority) (number_field 2 o.weight) (sound_text 1 o.authority (lit< tt) (lit< tt)) (sound_number 2 o.weight (lit< tt) (lit< tt) (omega arith))

override_comes : (o : Override) → IsLawfulOverride o → length (spelling (override_records o)) < 2 ^ 64 → Comes schemas.WeightedDst override_in (override_records o) o
unfolding override_records override_in
override_comes o fits short =
    let weight = fits.weight in
    let fs = fields_of schemas.WeightedDst in
    let authority = found_text 1 o.authority (number_field 2 o.weight) (not_number 1 2 o.weight (λ e. cc)) in
    let number = ap number_from (skip 2 (text_field 1 o.authority) (number_field 2 o.weight) (not_text 2 1 o.authority (λ e. cc))) ∙ only_number 2 o.weight in
    comes schemas.WeightedDst override_in (override_records o) o (override_sound o fits) short
    (λ d le. (pass_then (fault_at d) fs 0 2 3 (text_field 1 o.authority) (number_field 2 o.weight) (lit≤ tt) (lit≤ tt) (pass_text (fault_at d) fs 0 1 o.authority refl (lit≤ tt) fits.authority) (pass_number (fault_at d) fs 2 2 4294967295 o.weight refl (lit≤ tt) (omega arith))).pass [] tt)
    refl
    (rw (authority, text_kept o.authority fits.authority, number, kept 4294967296 o.weight fits.weight) refl)

-- ---- a profile

endpoint_comes : (endpoint : Option EndpointRow) → IsSendableEndpoint endpoint → OptionalComes 6 schemas.WeightedAddr row_in row_records endpoint
endpoint_comes None fits short = tt
endpoint_comes (Some row) fits short = let less = first_inside 6 (spelling (row_records row)) [] in row_comes row fits (omega arith)

abbrev profile_blocks : ProfileView → List FieldBlock
profile_blocks view =
    block 1 (each_field 1 route_records view.routes)
    ∷ block 3 (each_field 3 override_records view.overrides)
    ∷ block 4 (bool_field 4 view.opaque)
    ∷ block 5 (text_field 5 view.fqn)
    ∷ block 6 (optional_field 6 row_records view.endpoint)
    ∷ []

profile_laid : (view : ProfileView) → profile_records view ≡ laid (profile_blocks view)
unfolding profile_records laid
profile_laid view = refl

record ProfileParts (view : ProfileView) : Type 0 where
  routes : EachComes 1 schemas.ProfileRoute route_in route_records view.routes
  overrides : EachComes 3 schemas.WeightedDst override_in override_records view.overrides
  endpoint : OptionalComes 6 schemas.WeightedAddr row_in row_records view.endpoint
  fqn : IsUtf8 view.fqn

profile_parts : (view : ProfileView) → IsSendableProfile view → ProfileParts view
profile_parts view fits = record {
  routes = each_comes 1 schemas.ProfileRoute route_in route_records IsLawfulProfileRoute view.routes route_comes fits.routes;
  overrides = each_comes 3 schemas.WeightedDst override_in override_records IsLawfulOverride view.overrides override_comes fits.overrides;
  endpoint = endpoint_comes view.endpoint fits.endpoint;
  fqn = fits.fqn;
}

profile_written : (view : ProfileView) → ProfileParts view → AllWritten schemas.DestinationProfile (profile_blocks view)
profile_written view parts = (
  each_written schemas.DestinationProfile 1 schemas.ProfileRoute route_in route_records view.routes (lit< tt, lit< tt) refl parts.routes,
  (
    each_written schemas.DestinationProfile 3 schemas.WeightedDst override_in override_records view.overrides (lit< tt, lit< tt) refl parts.overrides,
    (
      flag_written schemas.DestinationProfile 4 view.opaque (lit< tt, lit< tt) refl,
      (
        text_written schemas.DestinationProfile 5 view.fqn (lit< tt, lit< tt) refl parts.fqn,
        (optional_written schemas.DestinationProfile 6 schemas.WeightedAddr row_in row_records view.endpoint (lit< tt, lit< tt) refl parts.endpoint, tt),
      ),
    ),
  ),
)

profile_back : (view : ProfileView) → ProfileParts view → length (spelling (laid (profile_blocks view))) < 2 ^ 64 → profile_in (laid (profile_blocks view)) ≡ view
unfolding profile_in
profile_back view parts short =
    let s = schemas.DestinationProfile in
    let bs = profile_blocks view in
    let w = profile_written view parts in
    let routes = each_read s bs w 1 schemas.ProfileRoute route_in route_records view.routes refl parts.routes short in
    let overrides = each_read s bs w 3 schemas.WeightedDst override_in override_records view.overrides refl parts.overrides short in
    let endpoint = optional_read s bs w 6 schemas.WeightedAddr row_in row_records view.endpoint refl parts.endpoint short in
    rw (text_read s bs w 5 view.fqn refl parts.fqn, flag_read s bs w 4 view.opaque refl, routes, overrides, endpoint) refl

pub profile_comes : (view : ProfileView) → IsSendableProfile view → ComesIfShort schemas.DestinationProfile profile_in (profile_records view) view
profile_comes view fits =
    let parts = profile_parts view fits in
    rw (profile_laid view) (λ short. laid_comes schemas.DestinationProfile profile_in (profile_blocks view) view (profile_written view parts) refl refl (profile_back view parts short) short)
