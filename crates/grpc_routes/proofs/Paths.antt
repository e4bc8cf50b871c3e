-- For a gRPC call, a lowered match holds exactly if the parts of the match hold.
use Rattle.std.proofs.Common.{◌≡◌, ◌-◌, ◌&&◌, ◌++◌, ℕ, suc, Bool, true, false, List, [], ◌∷◌, Option, Some, None, codes, drop, eqb, length, take, refl, sym, ap, ◌∙◌, arith, if◌then◌else◌}
use Rattle.std.proofs.Math.Bool.{and-true, and_assoc}
use Rattle.std.proofs.lemmas.Bool.{eqb-false, ne_eqb, or_parts}
use Rattle.std.specs.List.{list_all}
use Rattle.std.specs.Str.{bytes_eq}
use Rattle.grpc_routes.specs.Calls.{IsPart, has_slash, names_hold}
use Rattle.grpc_routes.specs.Lawful.{IsNamed}
use Rattle.grpc_routes.specs.Laws.{LoweredMatchesHold}
use Rattle.grpc_routes.specs.Lowered.{call_path, lowered_path, service_path}
use Rattle.route_match.specs.Matching.{Pat, goes_on, has_prefix, header_holds, hosts_hold, is_method, path_holds, trimmed}

-- ---- the parts of a path

-- the first byte is no slash
not_first : (a : ℕ) (s : List ℕ) → has_slash (a ∷ s) ≡ false → (eqb a 47 ≡ false) × (eqb 47 a ≡ false)
not_first a s none = let other = (or_parts (eqb a 47) (has_slash s) none).0 in (other, ne_eqb 47 a (λ same. eqb-false a 47 other (sym same)))

rest_of : (a : ℕ) (s : List ℕ) → has_slash (a ∷ s) ≡ false → has_slash s ≡ false
rest_of a s none = (or_parts (eqb a 47) (has_slash s) none).1

and_false : (a b : Bool) → a ≡ false → (a && b) ≡ false
and_false a b is = ap (λ (c : Bool). c && b) is

split : (s m x y : List ℕ) → has_slash s ≡ false → has_slash x ≡ false → bytes_eq (s ++ 47 ∷ m) (x ++ 47 ∷ y) ≡ (bytes_eq s x && bytes_eq m y)
split [] m [] y hs hx = refl
split [] m (b ∷ x) y hs hx = and_false _ _ (not_first b x hx).1
split (a ∷ s) m [] y hs hx = and_false _ _ (not_first a s hs).0
split (a ∷ s) m (b ∷ x) y hs hx = ap (λ (c : Bool). eqb a b && c) (split s m x y (rest_of a s hs) (rest_of b x hx)) ∙ sym (and_assoc (eqb a b) (bytes_eq s x) (bytes_eq m y))

-- ---- prefixes

begins : (s x y : List ℕ) → has_slash s ≡ false → has_slash x ≡ false
    → (bytes_eq s (take (length s) (x ++ 47 ∷ y)) && goes_on (drop (length s) (x ++ 47 ∷ y))) ≡ bytes_eq s x
begins [] [] y hs hx = refl
begins [] (b ∷ x) y hs hx = (not_first b x hx).0
begins (a ∷ s) [] y hs hx = and_false _ _ (and_false (eqb a 47) _ (not_first a s hs).0)
begins (a ∷ s) (b ∷ x) y hs hx =
    and_assoc (eqb a b) (bytes_eq s (take (length s) (x ++ 47 ∷ y))) (goes_on (drop (length s) (x ++ 47 ∷ y)))
    ∙ ap (λ (c : Bool). eqb a b && c) (begins s x y (rest_of a s hs) (rest_of b x hx))

-- a part does not end in a slash
last_byte : (a : ℕ) (s : List ℕ) → has_slash (a ∷ s) ≡ false → bytes_eq (codes "/") (drop (length s) (a ∷ s)) ≡ false
last_byte a [] none = and_false (eqb 47 a) true (not_first a [] none).1
last_byte a (b ∷ s) none = last_byte b s (rest_of a (b ∷ s) none)

-- so nothing is dropped from the path of a service
untrimmed : (s : List ℕ) → IsPart s → trimmed (service_path s) ≡ service_path s
untrimmed [] is = absurd (is.filled refl)
untrimmed (a ∷ s) is =
    let path = service_path (a ∷ s) in
    let last : length path - 1 ≡ suc (length s) = omega arith in
    ap (λ (c : Bool). if c then take (length path - 1) path else path) (ap (λ (n : ℕ). bytes_eq (codes "/") (drop n path)) last ∙ last_byte a s is.whole)

-- ---- the path of a lowered match

module _ (pat : Pat) (x y : List ℕ) (part : IsPart x) where
  names_path : (service method : Option (List ℕ)) (regex : Bool) → IsNamed regex service → IsNamed regex method
      → path_holds pat (call_path x y) (lowered_path service method regex) ≡ names_hold pat service method regex x y
  names_path None None regex is_service is_method = refl
  names_path (Some s) (Some m) false is_service is_method = split s m x y is_service.whole part.whole
  names_path (Some s) None false is_service is_method = ap (has_prefix (call_path x y)) (untrimmed s is_service) ∙ begins s x y is_service.whole part.whole
  names_path None (Some m) false is_service is_method = refl
  names_path None (Some m) true is_service is_method = refl
  names_path (Some s) None true is_service is_method = refl
  names_path (Some s) (Some m) true is_service is_method = refl

-- ---- the match

-- the method and the path, and no part of the query
joined : (hosts verb path names headers : Bool) → verb ≡ true → path ≡ names → (hosts && verb && path && headers && true) ≡ (hosts && (names && headers))
joined hosts verb path names headers post same =
    and-true (hosts && verb && path && headers)
    ∙ ap (λ (b : Bool). hosts && b && path && headers) post
    ∙ ap (λ (b : Bool). b && path && headers) (and-true hosts)
    ∙ ap (λ (b : Bool). hosts && b && headers) same
    ∙ and_assoc hosts names headers

posted : (method : List ℕ) → method ≡ codes "POST" → is_method method (Some (codes "POST")) ≡ true
posted method is = ap (λ (m : List ℕ). is_method m (Some (codes "POST"))) is

pub lowered_holds : LoweredMatchesHold
lowered_holds pat request service method call hosts m lawful =
    joined (hosts_hold request.host hosts) (is_method request.method (Some (codes "POST"))) (path_holds pat request.path (lowered_path m.service m.method m.regex))
    (names_hold pat m.service m.method m.regex service method) (list_all (header_holds pat request.headers) m.headers)
    (posted request.method call.post)
    (ap (λ (p : List ℕ). path_holds pat p (lowered_path m.service m.method m.regex)) call.path
    ∙ names_path pat service method call.service_part m.service m.method m.regex lawful.service_part lawful.method_part)
