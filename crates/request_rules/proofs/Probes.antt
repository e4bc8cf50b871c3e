-- The place of a probe is that of the request's path, where the request may be a probe's.
use Rattle.std.proofs.Common.{◌≡◌, ◌<◌, ◌≤◌, ◌&&◌, ℕ, Bool, true, false, cond, List, [], codes, get_or, length, nat_lt, Option, Some, None, if◌then◌else◌, refl, sym, ap, ◌∙◌, arith}
use Rattle.std.specs.Cmp.Lexicographic.{bytes_decides}
use Rattle.std.specs.List.{position, position_or_len, slice_get}
use Rattle.std.specs.Str.{bytes_eq}
use Rattle.std.proofs.lemmas.Bool.{and_from, and_parts}
use Rattle.std.proofs.lemmas.Bool.Decides.{nat_tests}
use Rattle.std.proofs.lemmas.List.Quantifiers.{position-Some}
use Rattle.std.proofs.lemmas.List.Sums.{fails_before_first}
use Rattle.std.proofs.lemmas.Option.{get_or_from_slice_get, slice_get-get_or, slice_get_within}
use Rattle.view_types.specs.declared.config.Config.{Config}
use Rattle.view_types.specs.declared.policy.Policy.{Policy}
use Rattle.view_types.specs.declared.policy.Protocol.{Protocol}
use Rattle.view_types.specs.declared.request.HttpRequest.{HttpRequest}
use Rattle.view_types.specs.declared.request.Request.{Request}
use Rattle.request_rules.specs.Laws.{InForce, IsProbe}
use Rattle.request_rules.specs.Verdicts.{asks_routes, by_policy, by_probe, is_in_cluster, may_be_probe, probe_place}

-- ---- the place of a path

module _ (path : List ℕ) (paths : List (List ℕ)) where
  stands : (place : ℕ) → position (bytes_eq path) paths ≡ Some place → slice_get paths place ≡ Some path
  stands place is =
      let at = position-Some (bytes_eq path) paths place [] is in
      slice_get-get_or paths place [] at.0 ∙ ap Some (sym ((bytes_decides path (get_or paths place [])).0 at.1))

  past : (n m : ℕ) → cond {A = Option ℕ} (nat_lt n m) (Some n) None ≡ None → m ≤ n
  past n m e = grind (arith, nat_tests)

  is_nowhere : position (bytes_eq path) paths ≡ None → (place : ℕ) → slice_get paths place ≡ Some path → ⊥
  is_nowhere none place at =
      let within : place < length paths = slice_get_within paths place path at in
      let all : length paths ≤ position_or_len (bytes_eq path) paths = past (position_or_len (bytes_eq path) paths) (length paths) none in
      let fails : bytes_eq path (get_or paths place []) ≡ false = fails_before_first (bytes_eq path) paths place [] (omega (arith, within, all)) in
      let passes : bytes_eq path (get_or paths place []) ≡ true = (bytes_decides path (get_or paths place [])).1 (sym (get_or_from_slice_get paths place path [] at)) in
      let no : true ≡ false = sym passes ∙ fails in
      cc no

-- ---- the probe of a request

module _ (config : Config) (request : Request) (force : InForce) where
  abbrev place_in : Option HttpRequest → Option ℕ
  place_in asked = probe_place config request force.protocol force.paths asked

  by_http : (http : HttpRequest) → request.http ≡ Some http → (place : ℕ) → place_in (Some http) ≡ Some place → IsProbe config request force place
  by_http http is place e =
      let get = bytes_eq http.method (codes "GET") in
      let asks = asks_routes force.protocol in
      let near = is_in_cluster config request.client in
      elim (may_be_probe config request force.protocol http) as
      (λ b. may_be_probe config request force.protocol http ≡ b → (if b then position (bytes_eq http.path) force.paths else None) ≡ Some place → IsProbe config request force place) [
        | true ↦ λ may found.
            let both = and_parts (get && asks) near may in
            let first = and_parts get asks both.0 in
            record {
              http = http;
              http_is = is;
              method = (bytes_decides http.method (codes "GET")).0 first.0;
              protocol_asks = first.1;
              near = both.1;
              path = stands http.path force.paths place found;
            }
        | false ↦ λ may found. absurd (cc found)
      ] refl e

  pub is_probe : (asked : Option HttpRequest) → request.http ≡ asked → (place : ℕ) → place_in asked ≡ Some place → IsProbe config request force place
  is_probe None is place e = absurd (cc e)
  is_probe (Some http) is place e = by_http http is place e

  pub is_no_probe : (asked : Option HttpRequest) → request.http ≡ asked → place_in asked ≡ None → (place : ℕ) → IsProbe config request force place → ⊥
  is_no_probe asked is none place probe =
      let get : bytes_eq probe.http.method (codes "GET") ≡ true = (bytes_decides probe.http.method (codes "GET")).1 probe.method in
      let may : may_be_probe config request force.protocol probe.http ≡ true =
      and_from (bytes_eq probe.http.method (codes "GET") && asks_routes force.protocol) (is_in_cluster config request.client)
      (and_from (bytes_eq probe.http.method (codes "GET")) (asks_routes force.protocol) get probe.protocol_asks) probe.near in
      let same : asked ≡ Some probe.http = sym is ∙ probe.http_is in
      let searched : place_in (Some probe.http) ≡ position (bytes_eq probe.http.path) force.paths =
      ap (λ (b : Bool). if b then position (bytes_eq probe.http.path) force.paths else None) may in
      is_nowhere probe.http.path force.paths (sym searched ∙ sym (ap place_in same) ∙ none) place probe.path

-- without paths the policy decides
pub without_paths : (config : Config) (request : Request) (protocol : Protocol) (policy : Policy) (asked : Option HttpRequest)
    → by_probe config request policy (probe_place config request protocol [] asked) ≡ by_policy config request policy
without_paths config request protocol policy None = refl
without_paths config request protocol policy (Some http) =
    elim (may_be_probe config request protocol http) as (λ b. by_probe config request policy (if b then position (bytes_eq http.path) [] else None) ≡ by_policy config request policy) [
      | true ↦ refl
      | false ↦ refl
    ]
