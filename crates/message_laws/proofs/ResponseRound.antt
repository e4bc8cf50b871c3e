-- What is written of a match of responses is read back.
use Rattle.std.proofs.Common.{None, Some, ◌≡◌, ℕ, suc, ◌^◌, ◌<◌, Bool, true, false, ◌&&◌, nat_lt, List, [], ◌∷◌, map, length, refl, sym, ap, subst, ◌∙◌, arith, inl, inr, lit<, lit≤}
use Rattle.std.specs.List.{AllByRecursion}
use Rattle.std.proofs.lemmas.Bool.{cases_lt, lt-ltb, le-ltb}
use Rattle.view_types.specs.Lawful.{has_statuses, has_statuses_by}
use Rattle.view_types.specs.declared.profile.RespMatch.{RespMatch, fold-roll-RespMatch, ind-RespMatch, map-RespMatch, roll-RespMatch}
use Rattle.view_types.specs.declared.profile.RespMatch.TheOpen.{RespMatch-F}
use Rattle.view_types.specs.declared.profile.RespMatch.TheVariants.{rolls-Status, rolls-All, rolls-Any, rolls-Not}
use Rattle.proto_wire.specs.declared.record.Rec.{Rec}
use Rattle.proto_wire.specs.Wire.{spelling}
use Rattle.proxy_proto.specs.declared.table.FieldKind.TheVariants.{Message}
use Rattle.proxy_proto.specs.declared.table.Label.TheVariants.{Choice}
use Rattle.proxy_proto.specs.declared.table.Schema.{Schema}
use Rattle.proxy_proto.specs.declared.table.Schema.TheVariants as schemas
use Rattle.proxy_proto.specs.FieldRecords.{chunk, number_field}
use Rattle.proxy_proto.specs.Faults.{end_fault, fault_at, field_at}
use Rattle.proxy_proto.specs.LookUps.{each_in, records_in, number_from, number_below}
use Rattle.proxy_proto.specs.ProfileReading.{response_match_from, response_match_in}
use Rattle.proxy_proto.specs.Profiles.{response_match_by, response_match_records, range_records}
use Rattle.proxy_proto.specs.Tables.{field, fields_of}
use Rattle.message_laws.proofs.Coming.{Comes, comes}
use Rattle.message_laws.proofs.Found.{IsSound, found_number, kept, not_number, only_number, skip, sound_append, sound_number}
use Rattle.message_laws.proofs.MatchRound.{ComesIfFit, IsMember, list_is, member_is, one_is}
use Rattle.message_laws.proofs.Passing.{pass_number, pass_then}

pub opens : (d : ℕ) (bytes : List ℕ) → response_match_in (suc d) bytes ≡ response_match_from (response_match_in d) (records_in bytes)
unfolding response_match_in
opens d bytes = refl

abbrev ComesIfSendable : RespMatch → Type 0
ComesIfSendable m = ComesIfFit schemas.ResponseMatch response_match_in response_match_from opens response_match_records has_statuses m

-- ---- each kind of match

is_member : (n : ℕ) (member : Schema) → 0 < n → n < 536870912 → field_at n (fields_of schemas.ResponseMatch) ≡ Some (field n Choice (Message member))
    → ((inner : List ℕ) → end_fault schemas.ResponseMatch (fields_of schemas.ResponseMatch) (record { records = chunk n inner ∷ []; fault = None }) ≡ None) → IsMember schemas.ResponseMatch n member
is_member n member some small found ends = record { some = some; small = small; found = found; none = refl; ends = ends }

range_sound : (low high : ℕ) → low < 65536 → high < 65536 → AllByRecursion IsSound (range_records low high)
range_sound low high l h = sound_append (number_field 1 low) (number_field 2 high) (sound_number 1 low (lit< tt) (lit< tt) (omega arith)) (sound_number 2 high (lit< tt) (lit< tt) (omega arith))

abbrev range_in : List Rec → ℕ × ℕ
range_in rs = (number_below 65536 1 rs, number_below 65536 2 rs)

range_back : (low high : ℕ) → low < 65536 → high < 65536 → range_in (range_records low high) ≡ (low, high)
range_back low high l h =
    let low_is = found_number 1 low (number_field 2 high) (not_number 1 2 high (λ e. cc)) in
    let high_is = ap number_from (skip 2 (number_field 1 low) (number_field 2 high) (not_number 2 1 low (λ e. cc))) ∙ only_number 2 high in
    rw (low_is, high_is, kept 65536 low l, kept 65536 high h) refl

range_comes : (low high : ℕ) → low < 65536 → high < 65536 → length (spelling (range_records low high)) < 2 ^ 64 → Comes schemas.StatusRange range_in (range_records low high) (low, high)
range_comes low high l h short =
    let fs = fields_of schemas.StatusRange in
    comes schemas.StatusRange range_in (range_records low high) (low, high) (range_sound low high l h) short
    (λ d le. (pass_then (fault_at d) fs 0 2 3 (number_field 1 low) (number_field 2 high) (lit≤ tt) (lit≤ tt) (pass_number (fault_at d) fs 0 1 65535 low refl (lit≤ tt) (omega arith)) (pass_number (fault_at d) fs 2 2 65535 high refl (lit≤ tt) (omega arith))).pass [] tt)
    refl (range_back low high l h)

both_small : (low high : ℕ) → (nat_lt low 65536 && nat_lt high 65536) ≡ true → (low < 65536) × (high < 65536)
both_small low high h = elim (cases_lt low 65536) [
  | inl l ↦ elim (cases_lt high 65536) [ inl m ↦ (l, m) | inr m ↦ absurd (let e : false ≡ true = rw (lt-ltb low 65536 l, le-ltb high 65536 m) at h in cc) ]
  | inr l ↦ absurd (let e : false ≡ true = rw (le-ltb low 65536 l) at h in cc)
]

status_is : (low high : ℕ) → ComesIfSendable (roll-RespMatch (RespMatch-F.Status low high))
status_is low high =
    let inner = spelling (range_records low high) in
    let of = λ (p : ℕ × ℕ). roll-RespMatch (RespMatch-F.Status p.0 p.1) in
    let small = λ (ok : has_statuses (of (low, high)) ≡ true). both_small low high (sym (fold-roll-RespMatch Bool has_statuses_by (RespMatch-F.Status low high)) ∙ ok) in
    let there = λ (ok : has_statuses (of (low, high)) ≡ true). range_comes low high (small ok).0 (small ok).1 in
    member_is schemas.ResponseMatch response_match_in response_match_from opens response_match_records has_statuses 4 schemas.StatusRange inner (of (low, high)) (is_member 4 schemas.StatusRange (lit< tt) (lit< tt) refl (λ inner. refl))
    (fold-roll-RespMatch (List Rec) response_match_by (RespMatch-F.Status low high)) (λ ok below. (there ok below).clean)
    (λ ok below d lt. sym (rolls-Status (range_in (records_in inner)).0 (range_in (records_in inner)).1) ∙ ap of (there ok below).back)

not_is : (part : RespMatch) → ComesIfSendable part → ComesIfSendable (roll-RespMatch (RespMatch-F.Not part))
not_is part =
    one_is schemas.ResponseMatch response_match_in response_match_from opens response_match_records has_statuses 3 (λ m. roll-RespMatch (RespMatch-F.Not m)) part (is_member 3 schemas.ResponseMatch (lit< tt) (lit< tt) refl (λ inner. refl))
    (fold-roll-RespMatch (List Rec) response_match_by (RespMatch-F.Not part)) (fold-roll-RespMatch Bool has_statuses_by (RespMatch-F.Not part)) (λ d inner. sym (rolls-Not (response_match_in d inner)))

all_is : (parts : List RespMatch) → AllByRecursion ComesIfSendable parts → ComesIfSendable (roll-RespMatch (RespMatch-F.All parts))
all_is parts =
    list_is schemas.ResponseMatch response_match_in response_match_from opens response_match_records has_statuses 1 schemas.ResponseSeq (λ ms. roll-RespMatch (RespMatch-F.All ms)) parts (is_member 1 schemas.ResponseSeq (lit< tt) (lit< tt) refl (λ inner. refl)) refl refl
    (fold-roll-RespMatch (List Rec) response_match_by (RespMatch-F.All parts)) (fold-roll-RespMatch Bool has_statuses_by (RespMatch-F.All parts)) (λ d inner. sym (rolls-All (each_in 1 (response_match_in d) (records_in inner))))

any_is : (parts : List RespMatch) → AllByRecursion ComesIfSendable parts → ComesIfSendable (roll-RespMatch (RespMatch-F.Any parts))
any_is parts =
    list_is schemas.ResponseMatch response_match_in response_match_from opens response_match_records has_statuses 2 schemas.ResponseSeq (λ ms. roll-RespMatch (RespMatch-F.Any ms)) parts (is_member 2 schemas.ResponseSeq (lit< tt) (lit< tt) refl (λ inner. refl)) refl refl
    (fold-roll-RespMatch (List Rec) response_match_by (RespMatch-F.Any parts)) (fold-roll-RespMatch Bool has_statuses_by (RespMatch-F.Any parts)) (λ d inner. sym (rolls-Any (each_in 1 (response_match_in d) (records_in inner))))

-- ---- any match

abbrev IsProved : Type 0
IsProved = (m : RespMatch) × ComesIfSendable m

each_proved : (ps : List IsProved) → AllByRecursion ComesIfSendable (map (λ p. p.0) ps)
each_proved [] = tt
each_proved (p ∷ ps) = (p.1, each_proved ps)

layer_is : (y : RespMatch-F IsProved) → ComesIfSendable (roll-RespMatch (map-RespMatch IsProved RespMatch (λ p. p.0) y))
layer_is (RespMatch-F.Status low high) = status_is low high
layer_is (RespMatch-F.All ps) = all_is (map (λ p. p.0) ps) (each_proved ps)
layer_is (RespMatch-F.Any ps) = any_is (map (λ p. p.0) ps) (each_proved ps)
layer_is (RespMatch-F.Not p) = not_is p.0 p.1

pub response_comes : (m : RespMatch) → ComesIfSendable m
response_comes = ind-RespMatch ComesIfSendable (λ x y is. subst (λ z. ComesIfSendable (roll-RespMatch z)) is (layer_is y))
