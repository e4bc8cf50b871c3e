-- What is the same for others where a link is left out.
use Rattle.std.proofs.Common.{◌≡◌, ℕ, ◌==◌, Bool, true, false, if◌then◌else◌, List, [], ◌∷◌, ◌++◌, map, refl, sym, ap, ◌∙◌, arith}
use Rattle.std.proofs.lemmas.List.{append-nil}
use Rattle.std.proofs.lemmas.Bool.Decides.{nat_tests}
use Rattle.mesh_links.specs.declared.call.LinkCall.{LinkCall}
use Rattle.mesh_links.specs.declared.call.LinkCall.TheVariants as calls
use Rattle.mesh_links.specs.declared.call.WriteGot.{WriteGot}
use Rattle.serve_rules.specs.LinkStates.{LinkState}
use Rattle.serve_rules.specs.LinkErasure.{without, call_without, calls_without, round_without}
use Rattle.serve_rules.specs.Due.{written, written_by, find, answered, put, place_of, query_at, due_items, all_written, new_place, places}
use Rattle.serve_rules.specs.WrittenBytes.{SameForOthers}
use Rattle.serve_rules.proofs.ErasureSteps.{without-in, without-out}
use Rattle.serve_rules.proofs.LinksLeftOut.{by_test, same_number}
use Rattle.serve_rules.proofs.Steps.{calls-cons}
use Rattle.serve_rules.proofs.DueSteps.{written-append, written-cons, find-in, find-out}

other_number : (n j k : ℕ) → (j == k) ≡ false → (n == k) ≡ true → (n == j) ≡ false
other_number n j k e h = let same : n ≡ k = same_number n k h in grind (arith, nat_tests)

find_cons : (j : ℕ) (s : LinkState) (xs ys : List LinkState) → find j xs ≡ find j ys → find j (s ∷ xs) ≡ find j (s ∷ ys)
find_cons j s xs ys h =
    by_test (s.number == j) (find j (s ∷ xs) ≡ find j (s ∷ ys))
    (λ f. find-in j s xs f ∙ sym (find-in j s ys f))
    (λ f. find-out j s xs f ∙ h ∙ sym (find-out j s ys f))

find_without : (j k : ℕ) → (j == k) ≡ false → (ss : List LinkState) → find j (without k ss) ≡ find j ss
find_without j k e [] = refl
find_without j k e (s ∷ ss) =
    by_test (s.number == k) (find j (without k (s ∷ ss)) ≡ find j (s ∷ ss))
    (λ i. ap (find j) (without-in k s ss i) ∙ find_without j k e ss ∙ sym (find-out j s ss (other_number s.number j k e i)))
    (λ i. ap (find j) (without-out k s ss i) ∙ find_cons j s (without k ss) ss (find_without j k e ss))

kept_write : (n k : ℕ) (piece : List ℕ) (got : WriteGot) → (n == k) ≡ false → call_without k (calls.Write n piece got) ≡ calls.Write n piece got ∷ []
kept_write n k piece got e = rw e refl

-- a call of another link, or one that writes nothing, is written the same
one_call : (j k : ℕ) → (j == k) ≡ false → (call : LinkCall) → written j (call_without k call) ≡ written_by j call
one_call j k e (calls.Poll wait got) = refl
one_call j k e (calls.Read n space got) =
    let P : Bool → Type 0 = λ b. written j (if b then [] else calls.Read n space got ∷ []) ≡ [] in
    let at : (b : Bool) → P b = λ b. elim b as P [ true ↦ refl | false ↦ refl ] in
    at (n == k)
one_call j k e (calls.Write n piece got) =
    by_test (n == k) (written j (call_without k (calls.Write n piece got)) ≡ written_by j (calls.Write n piece got))
    (λ i. rw (i, other_number n j k e i) refl)
    (λ i. ap (written j) (kept_write n k piece got i) ∙ written-cons j (calls.Write n piece got) [] ∙ append-nil (written_by j (calls.Write n piece got)))
one_call j k e (calls.Close n) =
    let P : Bool → Type 0 = λ b. written j (if b then [] else calls.Close n ∷ []) ≡ [] in
    let at : (b : Bool) → P b = λ b. elim b as P [ true ↦ refl | false ↦ refl ] in
    at (n == k)

written_without : (j k : ℕ) → (j == k) ≡ false → (made : List LinkCall) → written j (calls_without k made) ≡ written j made
written_without j k e [] = refl
written_without j k e (call ∷ made) =
    ap (written j) (calls-cons k call made) ∙ written-append j (call_without k call) (calls_without k made)
    ∙ ap (λ z. z ++ written j (calls_without k made)) (one_call j k e call) ∙ ap (λ z. written_by j call ++ z) (written_without j k e made)
    ∙ sym (written-cons j call made)

pub same_for_others : SameForOthers
same_for_others serving j k e fed d [] = record { due = refl; places_are = refl; written = refl }
same_for_others serving j k e fed d (r ∷ rounds) =
    let same = find_without j k e r.links in
    let found = find j r.links in
    let rest = same_for_others serving j k e r.fed (place_of found) rounds in
    let gone = map (round_without k) rounds in
    record {
      due =
          ap (λ x. (answered serving j fed r.fed ++ put serving (query_at serving x) d (place_of x) r.fed) ++ due_items serving j r.fed (place_of x) gone) same
          ∙ ap (λ z. (answered serving j fed r.fed ++ put serving (query_at serving found) d (place_of found) r.fed) ++ z) rest.due;
      places_are = ap (λ x. new_place d (place_of x) ++ places j (place_of x) gone) same ∙ ap (λ z. new_place d (place_of found) ++ z) rest.places_are;
      written = ap (λ z. z ++ all_written j gone) (written_without j k e r.made) ∙ ap (λ z. written j r.made ++ z) rest.written;
    }
