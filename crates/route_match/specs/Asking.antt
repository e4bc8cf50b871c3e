-- What is known of patterns, the effect of a call on them, and the regular expressions that a match
-- may request.
use Rattle.std.specs.Prelude.{◌≡◌, ◌≤◌, ◌++◌, ℕ, Bool, true, if◌then◌else◌, List, [], ◌∷◌, Option, Some, Contains, IfSome, map, take}
use Rattle.std.specs.List.{list_all, slice_get}
use Rattle.mesh_outside.specs.Causes.{Rose}
use Rattle.mesh_outside.specs.declared.patterns.Patterns.{Ghosts}
use Rattle.view_types.specs.declared.request.HttpRequest.{HttpRequest}
use Rattle.view_types.specs.declared.route.HttpMatch.{HttpMatch}
use Rattle.view_types.specs.declared.route.NameMatch.{NameMatch}
use Rattle.view_types.specs.declared.route.PathMatch.{PathMatch}
use Rattle.view_types.specs.declared.route.PathMatch.TheVariants.{Exact, Prefix, Regex}
use Rattle.route_match.specs.Matching.{Pat, header_holds, hosts_hold, is_method, parts_of, path_holds, query_holds}

-- ---- the patterns

-- which strings patterns match, and which are refused, if that is known
pub record PatternFacts : Type 0 where
  pub tells : Option Pat
  pub refuses : Option (List ℕ → Bool)

abbrev pub facts_of : {S : Type 0} → Ghosts S → S → PatternFacts
facts_of P patterns = record { tells = P.tells patterns; refuses = P.refuses patterns }

-- The effect of a call on the patterns that it requests. What is known of them is unchanged. The
-- count of refusals increases if the call meets a pattern that is refused, and is otherwise
-- unchanged.
pub record AsksPatterns {S : Type 0} (P : Ghosts S) (old new : S) (Met : Type 0) : Type 0 where
  pub tells_same : P.tells new ≡ P.tells old
  pub refuses_same : P.refuses new ≡ P.refuses old
  pub later : P.refusals old ≤ P.refusals new
  pub cause : Met → Rose (P.refusals old) (P.refusals new)
  pub other : (Met → ⊥) → P.refusals new ≡ P.refusals old

-- ---- the regular expressions of a match

abbrev pub path_pattern : PathMatch → List (List ℕ)
path_pattern (Regex string) = string ∷ []
path_pattern (Exact string) = []
path_pattern (Prefix string) = []

abbrev pub value_pattern : NameMatch → List (List ℕ)
value_pattern part = if part.regex then part.value ∷ [] else []

-- one of the patterns is refused, if it is known which are
pub record HasRefused (refuses : Option (List ℕ → Bool)) (patterns : List (List ℕ)) : Type 0 where
  pub pattern : List ℕ
  pub among : Contains patterns pattern
  pub refused : IfSome refuses (λ f. f pattern ≡ true)

-- One of the items has a pattern that is refused, and each item before it holds, if it is known
-- which strings match.
pub record RefusesAt {X : Type 0} (facts : PatternFacts) (patterns : X → List (List ℕ)) (holds : Pat → X → Bool) (items : List X) : Type 0 where
  pub place : ℕ
  pub item : X
  pub item_at : slice_get items place ≡ Some item
  pub has_refused : HasRefused facts.refuses (patterns item)
  pub before : (pat : Pat) → facts.tells ≡ Some pat → list_all (holds pat) (take place items) ≡ true

-- a part of a match other than its method
pub data Part : Type 0 where
  of_path : PathMatch → Part
  of_header : NameMatch → Part
  of_query : NameMatch → Part

-- in the order in which they are tested
abbrev pub parts : HttpMatch → List Part
parts m = of_path m.path ∷ (map of_header m.headers ++ map of_query m.query)

abbrev pub part_patterns : Part → List (List ℕ)
part_patterns (of_path path) = path_pattern path
part_patterns (of_header part) = value_pattern part
part_patterns (of_query part) = value_pattern part

abbrev pub part_holds : HttpRequest → Pat → Part → Bool
part_holds request pat (of_path path) = path_holds pat request.path path
part_holds request pat (of_header part) = header_holds pat request.headers part
part_holds request pat (of_query part) = query_holds pat (parts_of request.query) part

-- The match has a regular expression that is refused, and requests it: the hostnames of its route,
-- its method and each earlier part hold.
pub record AsksRefused (facts : PatternFacts) (request : HttpRequest) (hosts : List (List ℕ)) (m : HttpMatch) : Type 0 where
  pub hosts_are : hosts_hold request.host hosts ≡ true
  pub method_is : is_method request.method m.method ≡ true
  pub at_part : RefusesAt facts part_patterns (part_holds request) (parts m)
