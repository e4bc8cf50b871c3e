-- Each GRPCRoute that was read is lawful.
use Rattle.std.proofs.Common.{◌≡◌, ◌≢◌, ◌||◌, ◌==◌, ℕ, Bool, true, false, List, [], ◌∷◌, Option, Some, None, Ok, eqb, length, not, refl, sym, ap, ◌∙◌, subst, if◌then◌else◌}
use Rattle.std.proofs.lemmas.Bool.{ne_eqb, or_from, or_parts, true≢false}
use Rattle.std.specs.List.{AllByRecursion, list_any}
use Rattle.std.specs.Str.{IsUtf8}
use Rattle.k8s_meta.specs.Given.{GivesOnly}
use Rattle.k8s_meta.specs.Lawful.{IsString}
use Rattle.k8s_meta.specs.Lists.{each}
use Rattle.k8s_meta.specs.Spots.{Spot}
use Rattle.k8s_meta.specs.Words.{filled, some, text, unless, valid}
use Rattle.k8s_meta.specs.declared.fault.What.TheVariants as what
use Rattle.k8s_meta.proofs.Given.{after, default_gives, first_step, last, same_value}
use Rattle.k8s_meta.proofs.GivenLists.{IfThere, each_gives, each_some_gives}
use Rattle.k8s_meta.proofs.GivenMeta.{meta_gives}
use Rattle.k8s_meta.proofs.GivenTexts.{filled_text_gives, text_gives}
use Rattle.route_objects.specs.Backends.{backend_at}
use Rattle.route_objects.specs.NameMatches.{name_match_at}
use Rattle.route_objects.specs.Parents.{parent_at}
use Rattle.route_objects.proofs.Lawfully.{or_one_gives}
use Rattle.route_objects.proofs.Parts.{backend_gives, filter_gives, name_match_gives, parent_gives}
use Rattle.view_types.specs.Lawful.{IsLawfulBackend, IsLawfulFilter, IsLawfulName, IsLawfulParent}
use Rattle.view_types.specs.declared.route.Filter.{Filter}
use Rattle.view_types.specs.declared.route.Filter.TheVariants as filters
use Rattle.grpc_routes.specs.Calls.{IsPart, has_slash}
use Rattle.grpc_routes.specs.GrpcRoutes.{grpc_filter_at, grpc_route_at, grpc_rule_at, grpc_rules_at, of_headers, open_rule}
use Rattle.grpc_routes.specs.Lawful.{IsLawfulCallMatch, IsLawfulCallRule, IsLawfulGrpc, IsNamed}
use Rattle.grpc_routes.specs.Matches.{call_text, grpc_match_at, is_call_byte, is_call_name, is_word_byte, open_match}
use Rattle.grpc_routes.specs.declared.route.GrpcMatch.{GrpcMatch}

-- ---- names

-- `/` is no byte of a name
slash_is_none : (dots : Bool) → is_call_byte dots 47 ≡ false
unfolding is_call_byte is_word_byte
slash_is_none true = refl
slash_is_none false = refl

other : (dots : Bool) (b : ℕ) → b ≡ 47 → not (is_call_byte dots b) ≡ false → ⊥
other dots b same is =
    let at : not (is_call_byte dots 47) ≡ false = subst (λ (c : ℕ). not (is_call_byte dots c) ≡ false) same is in
    let no : not (is_call_byte dots 47) ≡ true = ap not (slash_is_none dots) in
    true≢false (sym no ∙ at)

no_slash : (dots : Bool) (t : List ℕ) → list_any (λ b. not (is_call_byte dots b)) t ≡ false → has_slash t ≡ false
no_slash dots [] none = refl
no_slash dots (b ∷ t) none =
    let parts = or_parts (not (is_call_byte dots b)) (list_any (λ (c : ℕ). not (is_call_byte dots c)) t) none in
    or_from (eqb b 47) (has_slash t) (ne_eqb b 47 (λ same. other dots b same parts.0)) (no_slash dots t parts.1)

-- a name that was read, unless it is a regular expression
named_if : (regex dots : Bool) (at t u : List ℕ) → t ≢ [] → valid at what.Shape (if regex || is_call_name dots t then Some t else None) ≡ Ok u → IsNamed regex (Some u)
named_if true dots at t u some e = tt
named_if false dots at t u some e = cases (list_any (λ (b : ℕ). not (is_call_byte dots b)) t) refl e
  where
    cases : (b : Bool) → list_any (λ (c : ℕ). not (is_call_byte dots c)) t ≡ b → valid at what.Shape (if not b then Some t else None) ≡ Ok u → IsPart u
    cases true is f = absurd cc
    cases false is f = subst IsPart (same_value t u f) (record { filled = some; whole = no_slash dots t is })

same_text : (regex dots : Bool) (at t u : List ℕ) → valid at what.Shape (if regex || is_call_name dots t then Some t else None) ≡ Ok u → t ≡ u
same_text regex dots at t u e = cases (regex || is_call_name dots t) e
  where
    cases : (b : Bool) → valid at what.Shape (if b then Some t else None) ≡ Ok u → t ≡ u
    cases true f = same_value t u f
    cases false f = absurd cc

call_utf8 : (regex dots : Bool) → GivesOnly IsUtf8 (call_text regex dots)
unfolding call_text
call_utf8 regex dots s = after IsUtf8 _ _ (λ t is u e. subst IsUtf8 (same_text regex dots s.at t u e) (text_gives s t is))

-- a string that is not empty
of_some : (regex dots : Bool) (s : Spot) (t u : List ℕ) → t ≢ [] → text s ≡ Ok t → call_text regex dots s ≡ Ok u → IsNamed regex (Some u)
unfolding call_text
of_some regex dots s t u filled is e =
    let a = first_step (text s) _ u e in
    let same : t ≡ a.0 = same_value t a.0 (sym is ∙ a.1) in
    named_if regex dots s.at a.0 u (subst (λ (l : List ℕ). l ≢ []) same filled) a.2

of_text : (regex dots : Bool) (s : Spot) (t : List ℕ) (o : Option (List ℕ)) → text s ≡ Ok t → (if length t == 0 then Ok None else some (call_text regex dots) s) ≡ Ok o → IsNamed regex o
of_text regex dots s [] o is e = subst (IsNamed regex) (same_value None o e) tt
of_text regex dots s (c ∷ cs) o is e = cases (length (c ∷ cs) == 0) e
  where
    cases : (b : Bool) → (if b then Ok None else some (call_text regex dots) s) ≡ Ok o → IsNamed regex o
    cases true f = subst (IsNamed regex) (same_value None o f) tt
    cases false f =
        let a = first_step (call_text regex dots s) _ o f in
        subst (IsNamed regex) (same_value (Some a.0) o a.2) (of_some regex dots s (c ∷ cs) a.0 (λ h. cc) is a.1)

named_gives : (regex dots : Bool) → GivesOnly (IsNamed regex) (filled (call_text regex dots))
unfolding filled unless
named_gives regex dots s o e = let a = first_step (text s) _ o e in of_text regex dots s a.0 o a.1 a.2

match_gives : GivesOnly IsLawfulCallMatch grpc_match_at
unfolding grpc_match_at
match_gives s =
    let P : GrpcMatch → Type 0 = IsLawfulCallMatch in
    after P _ _ (λ m _. after P _ _ (λ n _. after P _ _ (λ regex _. after P _ _ (λ service services. after P _ _ (λ method methods. after P _ _ (λ headers are.
    last P _ (record {
      service_text = default_gives IsString None (filled (call_text regex true)) tt (filled_text_gives (call_text regex true) (call_utf8 regex true)) _ service services;
      method_text = default_gives IsString None (filled (call_text regex false)) tt (filled_text_gives (call_text regex false) (call_utf8 regex false)) _ method methods;
      service_part = default_gives (IsNamed regex) None (filled (call_text regex true)) tt (named_gives regex true) _ service services;
      method_part = default_gives (IsNamed regex) None (filled (call_text regex false)) tt (named_gives regex false) _ method methods;
      headers = each_gives IsLawfulName name_match_at name_match_gives _ headers are;
    })))))))

open_match_is : IsLawfulCallMatch open_match
open_match_is = record { service_text = tt; method_text = tt; service_part = tt; method_part = tt; headers = tt }

-- ---- rules

of_headers_is : (o : Option Filter) → IfThere IsLawfulFilter o → IfThere IsLawfulFilter (of_headers o)
of_headers_is None is = tt
of_headers_is (Some (filters.Headers add set remove)) is = is
of_headers_is (Some (filters.Redirect scheme host port status)) is = tt

filter_is : GivesOnly (IfThere IsLawfulFilter) grpc_filter_at
unfolding grpc_filter_at
filter_is s = after (IfThere IsLawfulFilter) _ _ (λ o is. last (IfThere IsLawfulFilter) _ (of_headers_is o (filter_gives s o is)))

module _ (own : List ℕ) (is : IsUtf8 own) where
  rule_gives : GivesOnly IsLawfulCallRule (grpc_rule_at own)
  unfolding grpc_rule_at
  rule_gives s =
      after IsLawfulCallRule _ _ (λ r _. after IsLawfulCallRule _ _ (λ matches all. after IsLawfulCallRule _ _ (λ filters some. after IsLawfulCallRule _ _ (λ backends are.
      last IsLawfulCallRule _ (record {
        matches = or_one_gives IsLawfulCallMatch open_match matches open_match_is (each_gives IsLawfulCallMatch grpc_match_at match_gives _ matches all);
        filters = each_some_gives IsLawfulFilter grpc_filter_at filter_is _ filters some;
        backends = each_gives IsLawfulBackend (backend_at own) (backend_gives own is) _ backends are;
      })))))

  rules_give : GivesOnly (AllByRecursion IsLawfulCallRule) (grpc_rules_at own)
  rules_give =
      default_gives (AllByRecursion IsLawfulCallRule) (open_rule ∷ []) (each (grpc_rule_at own)) (record { matches = (open_match_is, tt); filters = tt; backends = tt }, tt)
      (each_gives IsLawfulCallRule (grpc_rule_at own) rule_gives)

pub grpc_gives : GivesOnly IsLawfulGrpc grpc_route_at
unfolding grpc_route_at
grpc_gives s =
    after IsLawfulGrpc _ _ (λ meta metas. after IsLawfulGrpc _ _ (λ spec _. after IsLawfulGrpc _ _ (λ parents some. after IsLawfulGrpc _ _ (λ hosts texts. after IsLawfulGrpc _ _ (λ rules are.
    let is = meta_gives 248 s meta metas in
    last IsLawfulGrpc _ (record {
      meta = is;
      parents = each_some_gives IsLawfulParent (parent_at meta.ns) (parent_gives meta.ns) _ parents some;
      hosts = each_gives IsUtf8 text text_gives _ hosts texts;
      rules = rules_give meta.ns is.ns_text _ rules are;
    }))))))
