-- The faults of a selection of the best match if a regular expression is refused.
use Rattle.std.specs.Prelude.{◌≡◌, ℕ, List, Some, Result, Ok, Err, IfErr}
use Rattle.std.specs.List.{slice_get}
use Rattle.view_types.specs.declared.request.HttpRequest.{HttpRequest}
use Rattle.view_types.specs.declared.route.HttpMatch.{HttpMatch}
use Rattle.route_match.specs.Asking.{AsksRefused, PatternFacts}
use Rattle.route_match.specs.Matching.{Shape}
use Rattle.route_match.specs.declared.fault.MatchFault.{MatchFault}
use Rattle.route_match.specs.declared.fault.MatchFault.TheVariants.{Memory, Refused}

-- a regular expression was refused
abbrev pub MetRefused : {T : Type 0} → Result T MatchFault → Type 0
MetRefused (Err (Refused route rule item)) = Unit {0}
MetRefused (Err Memory) = ⊥
MetRefused (Ok value) = ⊥

-- the match is at the indexes, in a route with these hostnames
pub record HasMatch (hosts : List (List ℕ)) (route rule item : ℕ) (m : HttpMatch) (shapes : List Shape) : Type 0 where
  pub shape : Shape
  pub route_at : slice_get shapes route ≡ Some shape
  pub hosts_same : shape.0 ≡ hosts
  pub matches : List HttpMatch
  pub rule_at : slice_get shape.1 rule ≡ Some matches
  pub item_at : slice_get matches item ≡ Some m

-- the match at the indexes requests a regular expression that is refused
pub record NamesMatch (facts : PatternFacts) (request : HttpRequest) (shapes : List Shape) (route rule item : ℕ) : Type 0 where
  pub hosts : List (List ℕ)
  pub found : HttpMatch
  pub has_match : HasMatch hosts route rule item found shapes
  pub asks_refused : AsksRefused facts request hosts found

-- the fault names such a match, or memory ran out
abbrev pub IsNamed : PatternFacts → HttpRequest → List Shape → MatchFault → Type 0
IsNamed facts request shapes (Refused route rule item) = NamesMatch facts request shapes route rule item
IsNamed facts request shapes Memory = Unit {0}

-- ---- a pass over some of the matches

-- a rule with these matches is at the indexes, in a route with these hostnames
pub record HasRule (hosts : List (List ℕ)) (route rule : ℕ) (matches : List HttpMatch) (shapes : List Shape) : Type 0 where
  pub shape : Shape
  pub route_at : slice_get shapes route ≡ Some shape
  pub hosts_same : shape.0 ≡ hosts
  pub rule_at : slice_get shape.1 rule ≡ Some matches

-- a fault names a match of any shapes that contain those of the pass
abbrev pub NamesIn : {T : Type 0} → PatternFacts → HttpRequest → (List Shape → Type 0) → Result T MatchFault → Type 0
NamesIn facts request Stand result = (shapes : List Shape) → Stand shapes → IfErr result (IsNamed facts request shapes)
