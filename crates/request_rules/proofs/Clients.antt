-- A row's clients are those of its object.
use Rattle.std.proofs.Common.{◌≡◌, ℕ, suc, ◌-◌, Bool, true, false, ◌&&◌, ◌||◌, if◌then◌else◌, List, [], ◌∷◌, length, drop, Option, Some, None, refl, sym, ap, subst, ◌∙◌, arith}
use Rattle.std.specs.Prelude.{Any, Contains, ◌↔◌, filter_map, nat_eq, nat_lt}
use Rattle.std.specs.Bool.{one_answer}
use Rattle.std.specs.Cmp.Lexicographic.{bytes_decides}
use Rattle.std.specs.List.{cons_option, ends_with, list_any}
use Rattle.std.specs.Str.{bytes_eq}
use Rattle.std.proofs.lemmas.Bool.{or_right}
use Rattle.std.proofs.lemmas.Bool.Decides.{Decides-ltb}
use Rattle.std.proofs.lemmas.List.Folds.{Any-from_list_any, list_any-from_Any}
use Rattle.mesh_text.specs.Mesh.{identity_of}
use Rattle.view_types.specs.declared.authn.AuthnSpec.{AuthnSpec}
use Rattle.view_types.specs.declared.authn.AuthnSpec.TheVariants as spec
use Rattle.view_types.specs.declared.authn.IdSpec.{IdSpec}
use Rattle.view_types.specs.declared.authn.IdSpec.TheVariants.{Written, Account, Namespace}
use Rattle.view_types.specs.declared.config.Config.{Config}
use Rattle.view_types.specs.declared.request.ClientTls.{ClientTls}
use Rattle.view_types.specs.declared.request.ClientTls.TheVariants.{Plain, Anonymous, Identity}
use Rattle.view_rules.specs.InOrder.{in_byte_order}
use Rattle.view_rules.specs.Policies.{authn_shown, clients_shown, identity_in, is_everyone, is_star, is_wild, policy_authn, suffix_in}
use Rattle.view_rules.proofs.Strings.{strings_are_in_order}
use Rattle.request_rules.specs.Admits.{authn_holds, ends_after, is_authenticated, is_by, is_client, means_client}

-- ---- a test of some string

any_alike : {X : Type 0} (p : X → Bool) (xs ys : List X) → ((x : X) → Contains xs x ↔ Contains ys x) → list_any p xs ≡ list_any p ys
any_alike {X} p xs ys same =
    one_answer {P = Any (λ x. p x ≡ true) ys} (list_any p xs) (list_any p ys) (
      λ e. let a = Any-from_list_any p xs e in let c = (same a.1).0 (a.0, a.2, a.3) in (c.0, a.1, c.1, c.2, a.4),
      λ a. let c = (same a.1).1 (a.0, a.2, a.3) in list_any-from_Any p xs (c.0, a.1, c.1, c.2, a.4),
    )
    (λ e. Any-from_list_any p ys e, λ a. list_any-from_Any p ys a)

in_order_alike : (p : List ℕ → Bool) (strings : List (List ℕ)) → list_any p (in_byte_order strings) ≡ list_any p strings
in_order_alike p strings = any_alike p (in_byte_order strings) strings (strings_are_in_order strings).same

-- ---- an entry of a list of clients

any_of : {X : Type 0} → (X → Bool) → Option X → Bool
any_of p None = false
any_of p (Some x) = p x

first_or_more : {X : Type 0} (p : X → Bool) (found : Option X) (xs : List X) → list_any p (cons_option found xs) ≡ (any_of p found || list_any p xs)
unfolding any_of
first_or_more p None xs = refl
first_or_more p (Some x) xs = refl

or_false : (b : Bool) → (b || false) ≡ b
or_false true = refl
or_false false = refl

one_longer : (n : ℕ) → suc n - n ≡ 1
one_longer n = omega arith

ends_itself : (c : ℕ) (cs : List ℕ) → ends_after (c ∷ cs) cs ≡ true
ends_itself c cs =
    let short : nat_lt (length cs) (suc (length cs)) ≡ true = (Decides-ltb (length cs) (suc (length cs))).1 (omega arith) in
    let ends : ends_with nat_eq (c ∷ cs) cs ≡ true = ap (λ n. bytes_eq cs (drop n (c ∷ cs))) (one_longer (length cs)) ∙ (bytes_decides cs cs).1 refl in
    rw short ends

-- the string `*.s` itself ends in `.s`
wild_ends : (string : List ℕ) → is_wild string ≡ true → ends_after string (drop 1 string) ≡ true
wild_ends [] e = absurd (cc e)
wild_ends (c ∷ cs) e = ends_itself c cs

written : (star wild : Bool) (string identity : List ℕ) → (wild ≡ true → string ≡ identity → ends_after identity (drop 1 string) ≡ true)
    → ((star || any_of (λ id. bytes_eq id identity) (if star || wild then None else Some string)) || any_of (ends_after identity) (if wild then Some (drop 1 string) else None))
    ≡ ((bytes_eq string identity || star) || (wild && ends_after identity (drop 1 string)))
unfolding any_of
written true wild string identity h = sym (ap (λ b. b || (wild && ends_after identity (drop 1 string))) (or_right (bytes_eq string identity) true refl))
written false true string identity h =
    elim (bytes_eq string identity) as (λ b. bytes_eq string identity ≡ b → ends_after identity (drop 1 string) ≡ ((b || false) || ends_after identity (drop 1 string))) [
      | true ↦ λ same. h refl ((bytes_decides string identity).0 same)
      | false ↦ λ other. refl
    ] refl
written false false string identity h = ap (λ b. b || false) (sym (or_false (bytes_eq string identity)))

entry_alike : (config : Config) (identity : List ℕ) (id : IdSpec)
    → ((is_everyone id || any_of (λ id. bytes_eq id identity) (identity_in config id)) || any_of (ends_after identity) (suffix_in config id)) ≡ means_client config identity id
unfolding any_of
entry_alike config identity (Written string) =
    written (is_star string) (is_wild string) string identity (λ wild same. subst (λ identity. ends_after identity (drop 1 string) ≡ true) same (wild_ends string wild))
entry_alike config identity (Account ns name) = or_false (bytes_eq (identity_of config ns name) identity)
entry_alike config identity (Namespace ns) = refl

-- ---- the list

regrouped : (a b c e f g : Bool) → (((a || e) || (b || f)) || (c || g)) ≡ (((a || b) || c) || ((e || f) || g))
regrouped true b c e f g = refl
regrouped false true c true f g = refl
regrouped false false true true f g = refl
regrouped false false false true f g = refl
regrouped false true c false f g = refl
regrouped false false true false true g = refl
regrouped false false false false true g = refl
regrouped false false c false false g = refl

module _ (config : Config) (identity : List ℕ) where
  is_identity : List ℕ → Bool
  is_identity id = bytes_eq id identity

  identities : List IdSpec → List (List ℕ)
  identities ids = filter_map (identity_in config) ids

  suffixes : List IdSpec → List (List ℕ)
  suffixes ids = filter_map (suffix_in config) ids

  list_alike : (ids : List IdSpec) → ((list_any is_everyone ids || list_any is_identity (identities ids)) || list_any (ends_after identity) (suffixes ids)) ≡ list_any (means_client config identity) ids
  unfolding is_identity identities suffixes
  list_alike [] = refl
  list_alike (id ∷ ids) =
      ap (λ b. (list_any is_everyone (id ∷ ids) || b) || list_any (ends_after identity) (suffixes (id ∷ ids))) (first_or_more is_identity (identity_in config id) (identities ids))
      ∙ ap (λ b. (list_any is_everyone (id ∷ ids) || (any_of is_identity (identity_in config id) || list_any is_identity (identities ids))) || b)
      (first_or_more (ends_after identity) (suffix_in config id) (suffixes ids))
      ∙ regrouped (is_everyone id) _ _ (list_any is_everyone ids) _ _
      ∙ ap (λ b. b || ((list_any is_everyone ids || list_any is_identity (identities ids)) || list_any (ends_after identity) (suffixes ids))) (entry_alike config identity id)
      ∙ ap (λ b. means_client config identity id || b) (list_alike ids)

  identity_alike : (ids : List IdSpec) → authn_holds (clients_shown config ids) (Identity identity) ≡ list_any (means_client config identity) ids
  unfolding is_identity identities suffixes
  identity_alike ids =
      ap (λ b. (list_any is_everyone ids || b) || list_any (ends_after identity) (in_byte_order (suffixes ids))) (in_order_alike is_identity (identities ids))
      ∙ ap (λ b. (list_any is_everyone ids || list_any is_identity (identities ids)) || b) (in_order_alike (ends_after identity) (suffixes ids))
      ∙ list_alike ids

clients_alike : (config : Config) (ids : List IdSpec) (tls : ClientTls) → authn_holds (clients_shown config ids) tls ≡ is_client config ids tls
clients_alike config ids Plain = refl
clients_alike config ids Anonymous = refl
clients_alike config ids (Identity identity) = identity_alike config identity ids

-- ---- a row's authentication

pub authn_alike : (config : Config) (authn : AuthnSpec) (tls : ClientTls) → authn_holds (authn_shown config authn) tls ≡ is_authenticated config authn tls
authn_alike config spec.Anyone tls = refl
authn_alike config spec.AnyTls tls = refl
authn_alike config (spec.Clients ids) tls = clients_alike config ids tls

pub policy_alike : (config : Config) (ids : Option (List IdSpec)) (tls : ClientTls) → authn_holds (policy_authn config ids) tls ≡ is_by config ids tls
policy_alike config None tls = refl
policy_alike config (Some ids) tls = clients_alike config ids tls
