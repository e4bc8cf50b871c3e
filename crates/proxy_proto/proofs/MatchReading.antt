-- A match is read by its records.
use Rattle.std.proofs.Common.{◌≡◌, ◌≢◌, ℕ, zero, suc, ◌-◌, List, refl, arith}
use Rattle.proxy_proto.specs.LookUps.{records_in}
use Rattle.proxy_proto.specs.ProfileReading.{request_match_from, request_match_in, response_match_from, response_match_in}

pub request_opened : (depth : ℕ) (bytes : List ℕ) → depth ≢ 0 → request_match_in depth bytes ≡ request_match_from (request_match_in (depth - 1)) (records_in bytes)
unfolding request_match_in
request_opened zero bytes some = absurd (some refl)
request_opened (suc depth) bytes some =
    let k : suc depth - 1 ≡ depth = omega arith in
    rw k refl

pub response_opened : (depth : ℕ) (bytes : List ℕ) → depth ≢ 0 → response_match_in depth bytes ≡ response_match_from (response_match_in (depth - 1)) (records_in bytes)
unfolding response_match_in
response_opened zero bytes some = absurd (some refl)
response_opened (suc depth) bytes some =
    let k : suc depth - 1 ≡ depth = omega arith in
    rw k refl
