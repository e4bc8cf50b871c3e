-- Lists of open links and of their numbers.
use Rattle.std.proofs.Common.{◌≡◌, ℕ, ◌+◌, ◌≤◌, ◌<◌, ◌==◌, Bool, true, false, cond, ◌||◌, not, List, [], ◌∷◌, length, filter, get_or, slice_set, is_some, Option, Some, suc, refl, ap, ◌∙◌, arith}
use Rattle.std.specs.List.{position_from}
use Rattle.std.proofs.Math.Seq.{map-set_same}
use Rattle.mem_links.specs.OpenNumbers.{is_among, numbers_of}
use Rattle.mem_links.specs.declared.play.OpenLink.{OpenLink}

found_at : (b : Bool) (i : ℕ) (rest : Option ℕ) (any : Bool) → is_some rest ≡ any → is_some (cond b (Some i) rest) ≡ (b || any)
found_at true i rest any e = refl
found_at false i rest any e = e

-- a link stands somewhere exactly where its number is among those of the links
pub found : (n i : ℕ) (links : List OpenLink) → is_some (position_from (λ link. link.number == n) i links) ≡ is_among n (numbers_of links)
found n i [] = refl
found n i (link ∷ links) = found_at (link.number == n) i (position_from (λ other. other.number == n) (i + 1) links) (is_among n (numbers_of links)) (found n (i + 1) links)

-- a link is replaced by one of the same number
pub numbers_set : (links : List OpenLink) (at : ℕ) (new old : OpenLink) → new.number ≡ old.number → old ≡ get_or links at old → numbers_of (slice_set links at new) ≡ numbers_of links
numbers_set links at new old e is = map-set_same (λ link. link.number) links at new old (e ∙ ap (λ link. link.number) is)

kept_or_not : (b : Bool) (link : OpenLink) (rest : List OpenLink) (others : List ℕ) → numbers_of rest ≡ others
    → numbers_of (cond b (link ∷ rest) rest) ≡ cond b (link.number ∷ others) others
kept_or_not true link rest others e = ap (λ ns. link.number ∷ ns) e
kept_or_not false link rest others e = e

pub numbers_filter : (n : ℕ) (links : List OpenLink) → numbers_of (filter (λ link. not (link.number == n)) links) ≡ filter (λ m. not (m == n)) (numbers_of links)
numbers_filter n [] = refl
numbers_filter n (link ∷ links) = kept_or_not (not (link.number == n)) link (filter (λ other. not (other.number == n)) links) (filter (λ m. not (m == n)) (numbers_of links)) (numbers_filter n links)

shorter_at : (b : Bool) (p : OpenLink → Bool) (link : OpenLink) (links : List OpenLink) → length (filter p links) ≤ length links → length (cond b (link ∷ filter p links) (filter p links)) ≤ suc (length links)
shorter_at true p link links h = omega arith
shorter_at false p link links h = omega arith

shorter : (p : OpenLink → Bool) (links : List OpenLink) → length (filter p links) ≤ length links
shorter p [] = omega arith
shorter p (link ∷ links) = shorter_at (p link) p link links (shorter p links)

fewer_at : (b : Bool) (p : OpenLink → Bool) (link : OpenLink) (links : List OpenLink) (any : Bool) → length (filter p links) ≤ length links
    → (any ≡ true → length (filter p links) < length links) → (b || any) ≡ true → length (cond (not b) (link ∷ filter p links) (filter p links)) < suc (length links)
fewer_at true p link links any most less e = omega arith
fewer_at false p link links any most less e = let h = less e in omega arith

-- without a number that was among them there are fewer
pub fewer : (n : ℕ) (links : List OpenLink) → is_among n (numbers_of links) ≡ true → length (filter (λ link. not (link.number == n)) links) < length links
fewer n [] e = cc
fewer n (link ∷ links) e = fewer_at (link.number == n) (λ other. not (other.number == n)) link links (is_among n (numbers_of links)) (shorter (λ other. not (other.number == n)) links) (fewer n links) e
