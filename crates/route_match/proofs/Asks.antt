-- Calls that ask patterns, one after another, and which regular expression they name.
use Rattle.std.proofs.Common.{◌≡◌, ℕ, zero, suc, ◌<◌, ◌≤◌, Bool, true, ◌&&◌, List, [], ◌∷◌, ◌++◌, Option, Some, Result, Ok, Err, get_or, length, map, take, IfOk, IfSome, option_map, refl, sym, ap, subst, ◌∙◌, arith}
use Rattle.std.specs.List.{list_all, slice_get}
use Rattle.std.proofs.lemmas.Bool.{and_from, and_parts}
use Rattle.std.proofs.lemmas.List.{take-map}
use Rattle.std.proofs.lemmas.List.Folds.{list_all-map}
use Rattle.std.proofs.lemmas.Option.{slice_get-map, slice_get_read}
use Rattle.mesh_outside.specs.Causes.{Rose}
use Rattle.mesh_outside.specs.declared.patterns.PatternFault.{PatternFault}
use Rattle.mesh_outside.specs.declared.patterns.PatternFault.TheVariants as pattern
use Rattle.mesh_outside.specs.declared.patterns.Patterns.{Ghosts}
use Rattle.view_types.specs.declared.request.HttpRequest.{HttpRequest}
use Rattle.view_types.specs.declared.route.HttpMatch.{HttpMatch}
use Rattle.view_types.specs.declared.route.NameMatch.{NameMatch}
use Rattle.route_match.specs.Asking.{AsksPatterns, HasRefused, Part, PatternFacts, RefusesAt, facts_of, of_header, of_path, of_query, part_holds, part_patterns, parts, path_pattern, value_pattern}
use Rattle.route_match.specs.Faults.{IsNamed}
use Rattle.route_match.specs.Matching.{Pat, Shape, header_holds, parts_of, path_holds, query_holds}
use Rattle.route_match.specs.declared.fault.MatchFault.{MatchFault}

-- ---- what is left of the patterns

-- the patterns tell what they told, and none was refused
pub record Untouched {S : Type 0} (P : Ghosts S) (old new : S) : Type 0 where
  pub tells_same : P.tells new ≡ P.tells old
  pub refuses_same : P.refuses new ≡ P.refuses old
  pub refusals_same : P.refusals new ≡ P.refusals old

not_less : (a b : ℕ) → b ≡ a → a ≤ b
not_less a b same = omega arith

not_less_than : (a b c : ℕ) → b ≡ a → b ≤ c → a ≤ c
not_less_than a b c same le = omega arith

pub no_fault : {T E : Type 0} {value : T} {fault : E} → Ok value ≡ Err fault → ⊥
no_fault e = cc

module _ {S : Type 0} {P : Ghosts S} where
  pub facts_same : {old new : S} → Untouched P old new → facts_of P new ≡ facts_of P old
  facts_same u = λ i. record { tells = u.tells_same i; refuses = u.refuses_same i }

  pub untouched : {old new : S} {Met : Type 0} → (Met → ⊥) → AsksPatterns P old new Met → Untouched P old new
  untouched never asks = record { tells_same = asks.tells_same; refuses_same = asks.refuses_same; refusals_same = asks.other never }

  pub further : {old mid new : S} → Untouched P old mid → Untouched P mid new → Untouched P old new
  further u v = record { tells_same = v.tells_same ∙ u.tells_same; refuses_same = v.refuses_same ∙ u.refuses_same; refusals_same = v.refusals_same ∙ u.refusals_same }

  -- an answer that is no refusal
  pub answered : {old new : S} {Met : Type 0} → (Met → ⊥) → Untouched P old new → AsksPatterns P old new Met
  answered {old} {new} never u = record {
    tells_same = u.tells_same;
    refuses_same = u.refuses_same;
    later = not_less (P.refusals old) (P.refusals new) u.refusals_same;
    cause = λ met. absurd (never met);
    other = λ unmet. u.refusals_same;
  }

  -- a call after others that met no refusal
  pub after : {old mid new : S} {Met : Type 0} → Untouched P old mid → AsksPatterns P mid new Met → AsksPatterns P old new Met
  after {old} {mid} {new} u asks = record {
    tells_same = asks.tells_same ∙ u.tells_same;
    refuses_same = asks.refuses_same ∙ u.refuses_same;
    later = not_less_than (P.refusals old) (P.refusals mid) (P.refusals new) u.refusals_same asks.later;
    cause = λ met. subst (λ (n : ℕ). Rose n (P.refusals new)) u.refusals_same (asks.cause met);
    other = λ unmet. asks.other unmet ∙ u.refusals_same;
  }

  pub answered_after : {old mid new : S} {Met Now : Type 0} → (Met → ⊥) → (Now → ⊥) → Untouched P old mid → AsksPatterns P mid new Met → AsksPatterns P old new Now
  answered_after never unmet u asks = answered unmet (further u (untouched never asks))

  -- a refusal under another name
  pub as_met : {old new : S} {Met Now : Type 0} → (Now → Met) → (Met → Now) → AsksPatterns P old new Met → AsksPatterns P old new Now
  as_met back on asks = record { tells_same = asks.tells_same; refuses_same = asks.refuses_same; later = asks.later; cause = λ now. asks.cause (back now); other = λ unmet. asks.other (λ met. unmet (on met)) }

  -- ---- which pattern is refused

  pub refused_still : {old mid : S} {patterns : List (List ℕ)} → Untouched P old mid → HasRefused (P.refuses mid) patterns → HasRefused (P.refuses old) patterns
  refused_still {patterns = patterns} u has = subst (λ (r : Option (List ℕ → Bool)). HasRefused r patterns) u.refuses_same has

  pub facts_still : {old mid : S} → Untouched P old mid → (Q : PatternFacts → Type 0) → Q (facts_of P mid) → Q (facts_of P old)
  facts_still u Q q = subst Q (facts_same u) q

  pub named_still : {old mid : S} {Stand Part : List Shape → Type 0} (request : HttpRequest) (fault : MatchFault) → Untouched P old mid → ((shapes : List Shape) → Stand shapes → Part shapes)
      → ((shapes : List Shape) → Part shapes → IsNamed (facts_of P mid) request shapes fault) → (shapes : List Shape) → Stand shapes → IsNamed (facts_of P old) request shapes fault
  named_still request fault u stands named = λ shapes all. subst (λ (facts : PatternFacts). IsNamed facts request shapes fault) (facts_same u) (named shapes (stands shapes all))

-- one pattern is asked
pub told_by : (tells : Option Pat) (pat : Pat) → tells ≡ Some pat → (given pattern string : List ℕ) → given ≡ pattern → (result : Result Bool PatternFault) → IfOk result (λ answer. IfSome tells (λ f. answer ≡ f given string))
    → IfOk result (λ answer. answer ≡ pat pattern string)
told_by tells pat told given pattern string same result is =
    subst (λ (p : List ℕ). IfOk result (λ answer. answer ≡ pat p string)) same (subst (λ (t : Option Pat). IfOk result (λ answer. IfSome t (λ f. answer ≡ f given string))) told is)

pub refused_one : (refuses : Option (List ℕ → Bool)) (given wanted : List ℕ) → given ≡ wanted → IfSome refuses (λ f. f given ≡ true) → HasRefused refuses (wanted ∷ [])
refused_one refuses given wanted same is =
    let one : 0 < length (wanted ∷ []) = omega arith in
    record { pattern = wanted; among = (0, one, refl); refused = subst (λ (p : List ℕ). IfSome refuses (λ f. f p ≡ true)) same is }

-- ---- an item of a list

module _ {X : Type 0} {xs items : List X} (same : items ≡ xs) (i : ℕ) (x : X) (lt : i < length items) (at : x ≡ get_or items i x) where
  pub item_stands : slice_get xs i ≡ Some x
  item_stands = ap (λ (ys : List X). slice_get ys i) (sym same) ∙ slice_get_read items (length items) i x refl lt at

  pub stands_through : {Y : Type 0} (f : X → Y) → slice_get (map f xs) i ≡ Some (f x)
  stands_through f = slice_get-map f xs i ∙ ap (option_map f) item_stands

-- in the front of a longer list
get_in_front : {Y : Type 0} (xs ys : List Y) (k : ℕ) (y : Y) → slice_get xs k ≡ Some y → slice_get (xs ++ ys) k ≡ Some y
get_in_front [] ys k y at = absurd (cc at)
get_in_front (x ∷ xs) ys zero y at = at
get_in_front (x ∷ xs) ys (suc k) y at = get_in_front xs ys k y at

take_in_front : {Y : Type 0} (xs ys : List Y) (k : ℕ) (y : Y) → slice_get xs k ≡ Some y → take k (xs ++ ys) ≡ take k xs
take_in_front [] ys k y at = absurd (cc at)
take_in_front (x ∷ xs) ys zero y at = refl
take_in_front (x ∷ xs) ys (suc k) y at = ap (λ zs. x ∷ zs) (take_in_front xs ys k y at)

-- ---- a pattern of an item among others

-- seen as items of another type
pub seen_as : {X Y : Type 0} {facts : PatternFacts} {patterns : Y → List (List ℕ)} {holds : Pat → Y → Bool} {xs : List X} (f : X → Y)
    → RefusesAt facts (λ x. patterns (f x)) (λ pat x. holds pat (f x)) xs → RefusesAt facts patterns holds (map f xs)
seen_as {holds = holds} {xs = xs} f at = record {
  place = at.place;
  item = f at.item;
  item_at = slice_get-map f xs at.place ∙ ap (option_map f) at.item_at;
  has_refused = at.has_refused;
  before = λ pat told. ap (list_all (holds pat)) (take-map f at.place xs) ∙ list_all-map (holds pat) f (take at.place xs) ∙ at.before pat told;
}

module _ {Y : Type 0} {facts : PatternFacts} {patterns : Y → List (List ℕ)} {holds : Pat → Y → Bool} where
  -- behind one that holds
  behind : (y : Y) {ys : List Y} → ((pat : Pat) → facts.tells ≡ Some pat → holds pat y ≡ true) → RefusesAt facts patterns holds ys → RefusesAt facts patterns holds (y ∷ ys)
  behind y {ys} here at = record {
    place = suc at.place;
    item = at.item;
    item_at = at.item_at;
    has_refused = at.has_refused;
    before = λ pat told. and_from (holds pat y) (list_all (holds pat) (take at.place ys)) (here pat told) (at.before pat told);
  }

  behind_all : (xs : List Y) {ys : List Y} → ((pat : Pat) → facts.tells ≡ Some pat → list_all (holds pat) xs ≡ true) → RefusesAt facts patterns holds ys → RefusesAt facts patterns holds (xs ++ ys)
  behind_all [] here at = at
  behind_all (x ∷ xs) here at =
      behind x (λ pat told. (and_parts (holds pat x) (list_all (holds pat) xs) (here pat told)).0)
      (behind_all xs (λ pat told. (and_parts (holds pat x) (list_all (holds pat) xs) (here pat told)).1) at)

  at_head : {y : Y} (ys : List Y) → HasRefused facts.refuses (patterns y) → RefusesAt facts patterns holds (y ∷ ys)
  at_head {y} ys has = record { place = 0; item = y; item_at = refl; has_refused = has; before = λ pat told. refl }

  in_front : {xs : List Y} (ys : List Y) → RefusesAt facts patterns holds xs → RefusesAt facts patterns holds (xs ++ ys)
  in_front {xs} ys at = record {
    place = at.place;
    item = at.item;
    item_at = get_in_front xs ys at.place at.item at.item_at;
    has_refused = at.has_refused;
    before = λ pat told. ap (list_all (holds pat)) (take_in_front xs ys at.place at.item at.item_at) ∙ at.before pat told;
  }

-- ---- a part of a match

module _ {facts : PatternFacts} (request : HttpRequest) (m : HttpMatch) where
  pub path_refused : HasRefused facts.refuses (path_pattern m.path) → RefusesAt facts part_patterns (part_holds request) (parts m)
  path_refused has = at_head (map of_header m.headers ++ map of_query m.query) has

  module _ (path : (pat : Pat) → facts.tells ≡ Some pat → path_holds pat request.path m.path ≡ true) where
    pub header_refused : RefusesAt facts value_pattern (λ pat. header_holds pat request.headers) m.headers → RefusesAt facts part_patterns (part_holds request) (parts m)
    header_refused at = behind (of_path m.path) path (in_front (map of_query m.query) (seen_as of_header at))

    pub query_refused : ((pat : Pat) → facts.tells ≡ Some pat → list_all (header_holds pat request.headers) m.headers ≡ true)
        → RefusesAt facts value_pattern (λ pat. query_holds pat (parts_of request.query)) m.query → RefusesAt facts part_patterns (part_holds request) (parts m)
    query_refused headers at =
        behind (of_path m.path) path
        (behind_all (map of_header m.headers) (λ pat told. list_all-map (part_holds request pat) of_header m.headers ∙ headers pat told) (seen_as of_query at))
