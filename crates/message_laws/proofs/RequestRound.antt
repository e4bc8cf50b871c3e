-- What is written of a match of requests is read back.
use Rattle.std.proofs.Common.{None, Some, ◌≡◌, ℕ, suc, ◌<◌, Bool, true, List, [], ◌∷◌, map, refl, sym, ap, subst, ◌∙◌, lit<}
use Rattle.std.specs.List.{AllByRecursion}
use Rattle.std.specs.Str.{is_utf8}
use Rattle.std.proofs.lemmas.Str.{IsUtf8-from_is_utf8}
use Rattle.view_types.specs.Lawful.{has_strings, has_strings_by}
use Rattle.view_types.specs.declared.profile.ReqMatch.{ReqMatch, fold-roll-ReqMatch, ind-ReqMatch, map-ReqMatch, roll-ReqMatch}
use Rattle.view_types.specs.declared.profile.ReqMatch.TheOpen.{ReqMatch-F}
use Rattle.view_types.specs.declared.profile.ReqMatch.TheVariants.{rolls-Method, rolls-Path, rolls-All, rolls-Any, rolls-Not}
use Rattle.proto_wire.specs.declared.record.Rec.{Rec}
use Rattle.proto_wire.specs.Wire.{spelling}
use Rattle.proxy_proto.specs.declared.table.FieldKind.TheVariants.{Message, Text}
use Rattle.proxy_proto.specs.declared.table.Label.TheVariants.{Choice, Single}
use Rattle.proxy_proto.specs.declared.table.Schema.{Schema}
use Rattle.proxy_proto.specs.declared.table.Schema.TheVariants as schemas
use Rattle.proxy_proto.specs.Faults.{end_fault, field_at}
use Rattle.proxy_proto.specs.FieldRecords.{chunk, text_field}
use Rattle.proxy_proto.specs.LookUps.{each_in, records_in, string_in}
use Rattle.proxy_proto.specs.Tables.{field, fields_of}
use Rattle.proxy_proto.specs.ProfileReading.{request_match_from, request_match_in}
use Rattle.proxy_proto.specs.Profiles.{request_match_by, request_match_records}
use Rattle.message_laws.proofs.Coming.{text_comes}
use Rattle.message_laws.proofs.MatchRound.{ComesIfFit, IsMember, list_is, member_is, one_is}

pub opens : (d : ℕ) (bytes : List ℕ) → request_match_in (suc d) bytes ≡ request_match_from (request_match_in d) (records_in bytes)
unfolding request_match_in
opens d bytes = refl

abbrev ComesIfSendable : ReqMatch → Type 0
ComesIfSendable m = ComesIfFit schemas.RequestMatch request_match_in request_match_from opens request_match_records has_strings m

-- ---- each kind of match

is_member : (n : ℕ) (member : Schema) → 0 < n → n < 536870912 → field_at n (fields_of schemas.RequestMatch) ≡ Some (field n Choice (Message member))
    → ((inner : List ℕ) → end_fault schemas.RequestMatch (fields_of schemas.RequestMatch) (record { records = chunk n inner ∷ []; fault = None }) ≡ None) → IsMember schemas.RequestMatch n member
is_member n member some small found ends = record { some = some; small = small; found = found; none = refl; ends = ends }

text_is : (n : ℕ) (member : Schema) (of : List ℕ → ReqMatch) (text : List ℕ) → IsMember schemas.RequestMatch n member → fields_of member ≡ field 1 Single Text ∷ []
    → end_fault member (fields_of member) (record { records = text_field 1 text; fault = None }) ≡ None → request_match_records (of text) ≡ chunk n (spelling (text_field 1 text)) ∷ [] → has_strings (of text) ≡ is_utf8 text
    → ((d : ℕ) (inner : List ℕ) → request_match_from (request_match_in d) (chunk n inner ∷ []) ≡ of (string_in 1 (records_in inner))) → ComesIfSendable (of text)
text_is n member of text is table ends same fit made =
    let inner = spelling (text_field 1 text) in
    let there = λ (ok : has_strings (of text) ≡ true). text_comes member text table ends (IsUtf8-from_is_utf8 text (sym fit ∙ ok)) in
    member_is schemas.RequestMatch request_match_in request_match_from opens request_match_records has_strings n member inner (of text) is same (λ ok low. (there ok low).clean) (λ ok low d lt. made d inner ∙ ap of (there ok low).back)

method_is : (name : List ℕ) → ComesIfSendable (roll-ReqMatch (ReqMatch-F.Method name))
method_is name =
    text_is 5 schemas.HttpMethod (λ text. roll-ReqMatch (ReqMatch-F.Method text)) name (is_member 5 schemas.HttpMethod (lit< tt) (lit< tt) refl (λ inner. refl)) refl refl
    (fold-roll-ReqMatch (List Rec) request_match_by (ReqMatch-F.Method name)) (fold-roll-ReqMatch Bool has_strings_by (ReqMatch-F.Method name)) (λ d inner. sym (rolls-Method (string_in 1 (records_in inner))))

path_is : (regex : List ℕ) → ComesIfSendable (roll-ReqMatch (ReqMatch-F.Path regex))
path_is regex =
    text_is 4 schemas.PathRegex (λ text. roll-ReqMatch (ReqMatch-F.Path text)) regex (is_member 4 schemas.PathRegex (lit< tt) (lit< tt) refl (λ inner. refl)) refl refl
    (fold-roll-ReqMatch (List Rec) request_match_by (ReqMatch-F.Path regex)) (fold-roll-ReqMatch Bool has_strings_by (ReqMatch-F.Path regex)) (λ d inner. sym (rolls-Path (string_in 1 (records_in inner))))

not_is : (part : ReqMatch) → ComesIfSendable part → ComesIfSendable (roll-ReqMatch (ReqMatch-F.Not part))
not_is part =
    one_is schemas.RequestMatch request_match_in request_match_from opens request_match_records has_strings 3 (λ m. roll-ReqMatch (ReqMatch-F.Not m)) part (is_member 3 schemas.RequestMatch (lit< tt) (lit< tt) refl (λ inner. refl))
    (fold-roll-ReqMatch (List Rec) request_match_by (ReqMatch-F.Not part)) (fold-roll-ReqMatch Bool has_strings_by (ReqMatch-F.Not part)) (λ d inner. sym (rolls-Not (request_match_in d inner)))

all_is : (parts : List ReqMatch) → AllByRecursion ComesIfSendable parts → ComesIfSendable (roll-ReqMatch (ReqMatch-F.All parts))
all_is parts =
    list_is schemas.RequestMatch request_match_in request_match_from opens request_match_records has_strings 1 schemas.RequestSeq (λ ms. roll-ReqMatch (ReqMatch-F.All ms)) parts (is_member 1 schemas.RequestSeq (lit< tt) (lit< tt) refl (λ inner. refl)) refl refl
    (fold-roll-ReqMatch (List Rec) request_match_by (ReqMatch-F.All parts)) (fold-roll-ReqMatch Bool has_strings_by (ReqMatch-F.All parts)) (λ d inner. sym (rolls-All (each_in 1 (request_match_in d) (records_in inner))))

any_is : (parts : List ReqMatch) → AllByRecursion ComesIfSendable parts → ComesIfSendable (roll-ReqMatch (ReqMatch-F.Any parts))
any_is parts =
    list_is schemas.RequestMatch request_match_in request_match_from opens request_match_records has_strings 2 schemas.RequestSeq (λ ms. roll-ReqMatch (ReqMatch-F.Any ms)) parts (is_member 2 schemas.RequestSeq (lit< tt) (lit< tt) refl (λ inner. refl)) refl refl
    (fold-roll-ReqMatch (List Rec) request_match_by (ReqMatch-F.Any parts)) (fold-roll-ReqMatch Bool has_strings_by (ReqMatch-F.Any parts)) (λ d inner. sym (rolls-Any (each_in 1 (request_match_in d) (records_in inner))))

-- ---- any match

abbrev IsProved : Type 0
IsProved = (m : ReqMatch) × ComesIfSendable m

each_proved : (ps : List IsProved) → AllByRecursion ComesIfSendable (map (λ p. p.0) ps)
each_proved [] = tt
each_proved (p ∷ ps) = (p.1, each_proved ps)

layer_is : (y : ReqMatch-F IsProved) → ComesIfSendable (roll-ReqMatch (map-ReqMatch IsProved ReqMatch (λ p. p.0) y))
layer_is (ReqMatch-F.Method name) = method_is name
layer_is (ReqMatch-F.Path regex) = path_is regex
layer_is (ReqMatch-F.All ps) = all_is (map (λ p. p.0) ps) (each_proved ps)
layer_is (ReqMatch-F.Any ps) = any_is (map (λ p. p.0) ps) (each_proved ps)
layer_is (ReqMatch-F.Not p) = not_is p.0 p.1

pub request_comes : (m : ReqMatch) → ComesIfSendable m
request_comes = ind-ReqMatch ComesIfSendable (λ x y is. subst (λ z. ComesIfSendable (roll-ReqMatch z)) is (layer_is y))
