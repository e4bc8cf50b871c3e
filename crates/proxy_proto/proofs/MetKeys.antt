-- The set of the keys that were met, beside the records.
use Rattle.std.proofs.Common.{◌≡◌, ℕ, ◌==◌, ◌&&◌, ◌||◌, Bool, true, false, cond, List, [], ◌∷◌, refl, ◌∙◌, sym, arith}
use Rattle.std.proofs.lemmas.Bool.Decides.{nat_tests}
use Rattle.std.proofs.lemmas.Grind.{common_steps}
use Rattle.std.proofs.lemmas.Map.Text.{is_eq-slice_cmp}
use Rattle.std.specs.Borrow.{Bor}
use Rattle.std.specs.BTreeSet.{Updates, contains}
use Rattle.std.specs.Cmp.Lexicographic.{slice_cmp}
use Rattle.std.specs.List.{list_any}
use Rattle.std.specs.Ordering.{is_eq, nat_cmp, ordering_then}
use Rattle.std.specs.Str.{bytes_eq}
use Rattle.std.specs.declared.cmp.Ordering.{Ordering}
use Rattle.std.specs.declared.cmp.Ordering.TheVariants.{Less, Equal, Greater}
use Rattle.proxy_proto.specs.MetKeys.{Keys, is_met}

abbrev pub key_cmp : ℕ × Bor (List ℕ) → ℕ × Bor (List ℕ) → Ordering
key_cmp x y = ordering_then (nat_cmp x.0 y.0) (slice_cmp nat_cmp x.1.now y.1.now)

same_numbers : (n m : ℕ) → is_eq (nat_cmp n m) ≡ (n == m)
same_numbers n m = grind (arith, nat_tests, common_steps)

then_equal : (o p : Ordering) → is_eq (ordering_then o p) ≡ (is_eq o && is_eq p)
then_equal Less p = refl
then_equal Equal p = refl
then_equal Greater p = refl

same_key : (n m : ℕ) (k key : List ℕ) → is_eq (ordering_then (nat_cmp n m) (slice_cmp nat_cmp k key)) ≡ (n == m && bytes_eq k key)
same_key n m k key = rw (then_equal (nat_cmp n m) (slice_cmp nat_cmp k key), same_numbers n m, is_eq-slice_cmp k key) refl

met_by : (q : ℕ × Bor (List ℕ)) (ks : List (ℕ × Bor (List ℕ))) → list_any (λ k. is_eq (key_cmp q k)) ks ≡ list_any (λ k. q.0 == k.0 && bytes_eq q.1.now k.1.now) ks
met_by q [] = refl
met_by q (k ∷ ks) = rw (same_key q.0 k.0 q.1.now k.1.now, met_by q ks) refl

pub is_new : (keys : Keys) (field : ℕ) (key : Bor (List ℕ)) → contains key_cmp keys (field, key) ≡ is_met keys field key.now
is_new keys field key = met_by (field, key) keys.keys

either : (b c : Bool) → cond b true c ≡ (b || c)
either true c = refl
either false c = refl

pub met_more : (old new : Keys) (field : ℕ) (key : Bor (List ℕ)) → Updates key_cmp old new (field, key) true → (n : ℕ) (other : List ℕ) → is_met new n other ≡ ((field == n && bytes_eq key.now other) || is_met old n other)
met_more old new field key updates n other =
    let q : ℕ × Bor (List ℕ) = (n, record key { now = other }) in
    sym (met_by q new.keys) ∙ updates.0 q ∙ rw (same_key field n key.now other, met_by q old.keys) (either (field == n && bytes_eq key.now other) (is_met old n other))
