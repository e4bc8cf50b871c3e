-- Which matches of routes hold for a request, and the best of them (HTTPRoute of both groups). The
-- relation between patterns and strings is a parameter.
use Rattle.std.specs.Prelude.{◌≡◌, ◌⊎◌, ◌<◌, ◌&&◌, ◌==◌, ◌++◌, ◌+◌, ◌-◌, ℕ, Bool, true, false, if◌then◌else◌, List, [], ◌∷◌, Option, Some, None, All, MatchOption, codes, drop, filter, find, length, map, nat_eq, option_map, take}
use Rattle.std.specs.Cmp.Lexicographic.{slice_cmp}
use Rattle.std.specs.List.{ends_with, fold, list_all, list_any, slice_get, starts_with}
use Rattle.std.specs.Ordering.{is_gt, nat_cmp}
use Rattle.std.specs.Str.{bytes_eq, str_eq_ignore_ascii_case}
use Rattle.mesh_base.specs.Pieces.{pieces}
use Rattle.view_types.specs.declared.request.HttpRequest.{HttpRequest}
use Rattle.view_types.specs.declared.route.HttpMatch.{HttpMatch}
use Rattle.view_types.specs.declared.route.NameMatch.{NameMatch}
use Rattle.view_types.specs.declared.route.PathMatch.{PathMatch}
use Rattle.view_types.specs.declared.route.PathMatch.TheVariants.{Exact, Prefix, Regex}
use Rattle.view_types.specs.declared.server_view.RouteRow.{RouteRow}
use Rattle.route_match.specs.declared.best.Candidate.{Candidate}

-- the pattern matches the whole string
abbrev pub Pat : Type 0
Pat = List ℕ → List ℕ → Bool

-- ---- hostnames

-- the host ends in the suffix, ignoring case, after at least one byte
abbrev pub ends_in : List ℕ → List ℕ → Bool
ends_in host suffix = (length suffix + 1 - length host == 0) && str_eq_ignore_ascii_case (drop (length host - length suffix) host) suffix

-- the wildcard `*.s` matches what ends in `.s` after at least one byte; other names are compared
-- ignoring case
abbrev pub host_holds : List ℕ → List ℕ → Bool
host_holds host written = if starts_with nat_eq written (codes "*.") then ends_in host (drop 1 written) else str_eq_ignore_ascii_case host written

-- a route without hostnames applies to all
abbrev pub hosts_hold : List ℕ → List (List ℕ) → Bool
hosts_hold host [] = true
hosts_hold host (written ∷ more) = list_any (host_holds host) (written ∷ more)

-- ---- paths

-- a prefix without its last `/`
abbrev pub trimmed : List ℕ → List ℕ
trimmed string = if ends_with nat_eq string (codes "/") then take (length string - 1) string else string

-- nothing, or what begins with `/`
abbrev pub goes_on : List ℕ → Bool
goes_on [] = true
goes_on (byte ∷ bytes) = byte == 47

abbrev pub has_prefix : List ℕ → List ℕ → Bool
has_prefix path prefix = starts_with nat_eq path prefix && goes_on (drop (length prefix) path)

abbrev pub path_holds : Pat → List ℕ → PathMatch → Bool
path_holds pat path (Exact string) = bytes_eq string path
path_holds pat path (Prefix string) = has_prefix path (trimmed string)
path_holds pat path (Regex string) = pat string path

-- ---- headers, query parts and methods

abbrev pub value_holds : Pat → NameMatch → List ℕ → Bool
value_holds pat part value = if part.regex then pat part.value value else bytes_eq part.value value

-- the header has the name, ignoring case, and the value
abbrev pub is_wanted : Pat → NameMatch → List ℕ × List ℕ → Bool
is_wanted pat part header = str_eq_ignore_ascii_case header.0 part.name && value_holds pat part header.1

abbrev pub header_holds : Pat → List (List ℕ × List ℕ) → NameMatch → Bool
header_holds pat headers part = list_any (is_wanted pat part) headers

abbrev pub is_method : List ℕ → Option (List ℕ) → Bool
is_method method None = true
is_method method (Some wanted) = bytes_eq wanted method

-- a piece of a query: its name, and what follows the first `=`
abbrev pub part_of : List ℕ → List ℕ × List ℕ
part_of [] = ([], [])
part_of (byte ∷ bytes) = if byte == 61 then ([], bytes) else (byte ∷ (part_of bytes).0, (part_of bytes).1)

abbrev pub is_filled : List ℕ → Bool
is_filled [] = false
is_filled (byte ∷ bytes) = true

-- the pieces between the `&`, except empty ones
abbrev pub parts_of : List ℕ → List (List ℕ × List ℕ)
parts_of query = map part_of (filter is_filled (pieces 38 query))

abbrev pub value_in : List ℕ → List (List ℕ × List ℕ) → Option (List ℕ)
value_in name parts = option_map (λ part. part.1) (find (λ part. bytes_eq part.0 name) parts)

abbrev pub some_value_holds : Pat → NameMatch → Option (List ℕ) → Bool
some_value_holds pat part None = false
some_value_holds pat part (Some value) = value_holds pat part value

-- the first parameter with the name has the value
abbrev pub query_holds : Pat → List (List ℕ × List ℕ) → NameMatch → Bool
query_holds pat parts part = some_value_holds pat part (value_in part.name parts)

-- ---- a match

-- the hostnames of its route and all parts of the match hold
abbrev pub holds : Pat → HttpRequest → List (List ℕ) → HttpMatch → Bool
holds pat request hosts m =
    hosts_hold request.host hosts
    && is_method request.method m.method
    && path_holds pat request.path m.path
    && list_all (header_holds pat request.headers) m.headers
    && list_all (query_holds pat (parts_of request.query)) m.query

-- ---- the best

-- an exact path is better than a prefix, a longer prefix better than a shorter one, and any prefix
-- better than a regular expression
abbrev pub path_merit : PathMatch → ℕ × ℕ
path_merit (Exact string) = (2, 0)
path_merit (Prefix string) = (1, length (trimmed string))
path_merit (Regex string) = (0, 0)

abbrev pub method_merit : Option (List ℕ) → ℕ
method_merit None = 0
method_merit (Some method) = 1

-- the greater the better, the first number first
abbrev pub merit : HttpMatch → List ℕ
merit m = let path = path_merit m.path in path.0 ∷ path.1 ∷ method_merit m.method ∷ length m.headers ∷ length m.query ∷ []

-- The parts of a route that matter here: its hostnames, and the matches of its rules. A candidate
-- is identified by the indexes of its route, rule and match.
abbrev pub Shape : Type 0
Shape = List (List ℕ) × List (List HttpMatch)

abbrev pub flat_from : {X Y : Type 0} → (ℕ → X → List Y) → ℕ → List X → List Y
flat_from f place [] = []
flat_from f place (x ∷ xs) = f place x ++ flat_from f (place + 1) xs

abbrev pub in_match : Pat → HttpRequest → List (List ℕ) → ℕ → ℕ → ℕ → HttpMatch → List Candidate
in_match pat request hosts route rule place m =
    if holds pat request hosts m then record { merit = merit m; route = route; rule = rule; item = place } ∷ [] else []

abbrev pub in_route : Pat → HttpRequest → ℕ → Shape → List Candidate
in_route pat request route shape = flat_from (λ rule matches. flat_from (in_match pat request shape.0 route rule) 0 matches) 0 shape.1

-- all matches that hold, in the order of their indexes
abbrev pub candidates : Pat → HttpRequest → List Shape → List Candidate
candidates pat request shapes = flat_from (in_route pat request) 0 shapes

-- the better of two, or the first if they are equal
abbrev pub better : Option Candidate → Candidate → Option Candidate
better None c = Some c
better (Some b) c = Some (if is_gt (slice_cmp nat_cmp c.merit b.merit) then c else b)

abbrev pub best : Pat → HttpRequest → List Shape → Option Candidate
best pat request shapes = fold better None (candidates pat request shapes)

-- ---- rows of routes

-- the parts of a row that matter here
abbrev pub row_shape : RouteRow → Shape
row_shape row = (row.hosts, map (λ rule. rule.matches) row.rules)

-- ---- the matches that hold

-- there is a match at the indexes of the candidate, it holds, and its merit is the candidate's
pub record IsCandidate (pat : Pat) (request : HttpRequest) (shapes : List Shape) (c : Candidate) : Type 0 where
  pub shape : Shape
  pub route_at : slice_get shapes c.route ≡ Some shape
  pub matches : List HttpMatch
  pub rule_at : slice_get shape.1 c.rule ≡ Some matches
  pub found : HttpMatch
  pub item_at : slice_get matches c.item ≡ Some found
  pub holding : holds pat request shape.0 found ≡ true
  pub merit_is : c.merit ≡ merit found

-- by route, then by rule, then by match
abbrev pub ComesBefore : Candidate → Candidate → Type 0
ComesBefore c d = (c.route < d.route) ⊎ ((c.route ≡ d.route) × ((c.rule < d.rule) ⊎ ((c.rule ≡ d.rule) × (c.item < d.item))))

-- The list has the matches that hold and no others, in the order of their indexes.
pub record AreCandidates (pat : Pat) (request : HttpRequest) (shapes : List Shape) (cs : List Candidate) : Type 0 where
  pub only : (k : ℕ) (c : Candidate) → slice_get cs k ≡ Some c → IsCandidate pat request shapes c
  pub each : (c : Candidate) → IsCandidate pat request shapes c → (k : ℕ) × (slice_get cs k ≡ Some c)
  pub in_order : (k l : ℕ) (c d : Candidate) → k < l → slice_get cs k ≡ Some c → slice_get cs l ≡ Some d → ComesBefore c d

abbrev pub CandidatesAreThoseThatHold : Type 0
CandidatesAreThoseThatHold = (pat : Pat) (request : HttpRequest) (shapes : List Shape) → AreCandidates pat request shapes (candidates pat request shapes)

-- ---- the best of a list

-- it is better than the other
abbrev pub is_better : Candidate → Candidate → Bool
is_better c other = is_gt (slice_cmp nat_cmp c.merit other.merit)

-- It is in the list, none is better, and each before it is less good.
pub record IsFirstOfTheBest (candidates : List Candidate) (c : Candidate) : Type 0 where
  pub place : ℕ
  pub stands : slice_get candidates place ≡ Some c
  pub none_better : All (λ other. is_better other c ≡ false) candidates
  pub better_than_before : All (λ other. is_better c other ≡ true) (take place candidates)

-- the best match is the first of the best of those that hold, and there is none exactly if none
-- holds
abbrev pub BestIsFirst : Type 0
BestIsFirst = (pat : Pat) (request : HttpRequest) (shapes : List Shape)
    → MatchOption (best pat request shapes) (candidates pat request shapes ≡ []) (IsFirstOfTheBest (candidates pat request shapes))
