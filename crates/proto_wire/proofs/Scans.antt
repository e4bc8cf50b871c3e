-- Reading records one after the other, as a loop does.
use Rattle.std.proofs.Common.{◌≡◌, ◌≢◌, ℕ, suc, ◌+◌, ◌-◌, ◌<◌, List, [], ◌∷◌, ◌++◌, length, Some, None, Ok, Err, refl, sym, ap, ◌∙◌, append_assoc, arith}
use Rattle.std.proofs.lemmas.List.{append-nil}
use Rattle.proto_wire.specs.declared.fault.WireFault.{WireFault}
use Rattle.proto_wire.specs.declared.record.Rec.{Rec}
use Rattle.proto_wire.specs.Wire.{Scan, record_in, scan_in, with_record}

-- what was read before, and what is still read
abbrev pub with_front : List Rec → Scan → Scan
with_front rs s = record { records = rs ++ s.records; fault = s.fault }

front_step : (rs : List Rec) (r : Rec) (s : Scan) → with_front rs (with_record r s) ≡ with_front (rs ++ r ∷ []) s
front_step rs r s = ap (λ (all : List Rec). record { records = all; fault = s.fault }) (sym (append_assoc rs (r ∷ []) s.records))

pub scan_more : (i n at : ℕ) (rs : List Rec) (bytes after : List ℕ) (r : Rec) (total : Scan) → i < n → length bytes ≢ 0 → at ≡ n - length bytes → record_in at bytes ≡ Ok (r, after)
    → with_front rs (scan_in (n - i) n bytes) ≡ total → with_front (rs ++ r ∷ []) (scan_in (n - (i + 1)) n after) ≡ total
unfolding scan_in
scan_more i n at rs [] after r total lt some is here h = absurd (some refl)
scan_more i n at rs (b ∷ bytes) after r total lt some is here h =
    let k : n - i ≡ suc (n - (i + 1)) = omega arith in
    let one : with_front rs (scan_in (n - i) n (b ∷ bytes)) ≡ with_front (rs ++ r ∷ []) (scan_in (n - (i + 1)) n after) = rw (k, ← is, here) (front_step rs r (scan_in (n - (i + 1)) n after)) in
    sym one ∙ h

pub scan_fails : (i n at : ℕ) (rs : List Rec) (bytes : List ℕ) (e : WireFault) (total : Scan) → i < n → length bytes ≢ 0 → at ≡ n - length bytes → record_in at bytes ≡ Err e
    → with_front rs (scan_in (n - i) n bytes) ≡ total → record { records = rs; fault = Some e } ≡ total
unfolding scan_in
scan_fails i n at rs [] e total lt some is here h = absurd (some refl)
scan_fails i n at rs (b ∷ bytes) e total lt some is here h =
    let k : n - i ≡ suc (n - (i + 1)) = omega arith in
    let one : with_front rs (scan_in (n - i) n (b ∷ bytes)) ≡ record { records = rs; fault = Some e } = rw (k, ← is, here) (ap (λ (all : List Rec). record { records = all; fault = Some e }) (append-nil rs)) in
    sym one ∙ h

pub scan_done : (k n : ℕ) (rs : List Rec) (bytes : List ℕ) (total : Scan) → length bytes ≡ 0 → with_front rs (scan_in k n bytes) ≡ total → record { records = rs; fault = None } ≡ total
unfolding scan_in
scan_done k n rs [] total none h = ap (λ (all : List Rec). record { records = all; fault = None }) (sym (append-nil rs)) ∙ h
scan_done k n rs (b ∷ bytes) total none h = absurd cc

pub scan_spent : (n : ℕ) (rs : List Rec) (bytes : List ℕ) (total : Scan) → with_front rs (scan_in 0 n bytes) ≡ total → record { records = rs; fault = None } ≡ total
unfolding scan_in
scan_spent n rs [] total h = ap (λ (all : List Rec). record { records = all; fault = None }) (sym (append-nil rs)) ∙ h
scan_spent n rs (b ∷ bytes) total h = ap (λ (all : List Rec). record { records = all; fault = None }) (sym (append-nil rs)) ∙ h
