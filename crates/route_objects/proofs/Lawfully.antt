-- Each route that was read is lawful.
use Rattle.std.proofs.Common.{◌≡◌, ℕ, List, [], ◌∷◌, codes, Some, refl}
use lib.Utf8.{encode}
use Rattle.std.specs.List.{AllByRecursion}
use Rattle.std.specs.Str.{IsUtf8, chars, is_utf8}
use Rattle.k8s_meta.specs.Given.{GivesOnly}
use Rattle.k8s_meta.specs.Lawful.{IsString}
use Rattle.k8s_meta.specs.Lists.{each}
use Rattle.k8s_meta.specs.Words.{text}
use Rattle.k8s_meta.proofs.Given.{after, default_gives, last, optional_gives, weaker}
use Rattle.k8s_meta.proofs.GivenLists.{each_gives, each_some_gives}
use Rattle.k8s_meta.proofs.GivenMeta.{meta_gives}
use Rattle.k8s_meta.proofs.GivenNumbers.{short_timeout}
use Rattle.k8s_meta.proofs.GivenTexts.{literal, text_gives, text_or_gives}
use Rattle.mesh_base.specs.declared.key.Kind.{Kind}
use Rattle.mesh_text.specs.Methods.{method}
use Rattle.mesh_text.proofs.MethodTexts.{IsSome, method_gives, method_utf8}
use Rattle.route_objects.specs.Backends.{backend_at}
use Rattle.route_objects.specs.Filters.{filter_at}
use Rattle.route_objects.specs.Matches.{default_match, match_at, or_one, path_at, path_match}
use Rattle.route_objects.specs.NameMatches.{name_match_at}
use Rattle.route_objects.specs.Parents.{parent_at}
use Rattle.route_objects.specs.Routes.{route_at}
use Rattle.route_objects.specs.Rules.{default_rule, rule_at, rules_at}
use Rattle.route_objects.specs.declared.matches.PathForm.{PathForm}
use Rattle.route_objects.specs.declared.matches.PathForm.TheVariants as forms
use Rattle.route_objects.proofs.Parts.{IsSomeText, backend_gives, filter_gives, name_match_gives, parent_gives}
use Rattle.view_types.specs.Lawful.{IsLawfulBackend, IsLawfulFilter, IsLawfulMatch, IsLawfulName, IsLawfulParent, IsLawfulPath, IsLawfulRoute, IsLawfulRule}

-- ---- matches

slash_utf8 : IsUtf8 (codes "/")
unfolding is_utf8 chars encode
slash_utf8 = literal (codes "/") refl

path_is : (form : PathForm) (value : List ℕ) → IsUtf8 value → IsLawfulPath (path_match form value)
path_is forms.Exact value is = is
path_is forms.Prefix value is = is
path_is forms.Regex value is = is

path_gives : GivesOnly IsLawfulPath path_at
unfolding path_at
path_gives s =
    after IsLawfulPath _ _ (λ p _. after IsLawfulPath _ _ (λ form _. after IsLawfulPath _ _ (λ value is. last IsLawfulPath _ (path_is form value (text_or_gives (codes "/") slash_utf8 _ value is)))))

some_method : GivesOnly (λ (t : List ℕ). IsSomeText (Some t)) method
some_method = weaker IsSome (λ (t : List ℕ). IsSomeText (Some t)) method (λ t is h. let same : t ≡ [] = cc in is same) method_gives

match_gives : GivesOnly IsLawfulMatch match_at
unfolding match_at
match_gives s =
    let names = each_gives IsLawfulName name_match_at name_match_gives in
    after IsLawfulMatch _ _ (λ m _. after IsLawfulMatch _ _ (λ path paths. after IsLawfulMatch _ _ (λ headers are. after IsLawfulMatch _ _ (λ query queries. after IsLawfulMatch _ _ (λ verb is.
    last IsLawfulMatch _ (record {
      path = path_gives _ path paths;
      headers = names _ headers are;
      query = names _ query queries;
      method = optional_gives IsString method tt method_utf8 _ verb is;
      filled = optional_gives IsSomeText method (λ h. cc) some_method _ verb is;
    }))))))

default_is : IsLawfulMatch default_match
default_is = record { path = slash_utf8; headers = tt; query = tt; method = tt; filled = λ h. cc }

pub or_one_gives : {A : Type 0} (P : A → Type 0) (one : A) (xs : List A) → P one → AllByRecursion P xs → AllByRecursion P (or_one one xs)
or_one_gives P one [] is all = (is, tt)
or_one_gives P one (x ∷ xs) is all = all

-- ---- rules

module _ (own : List ℕ) (is : IsUtf8 own) where
  rule_gives : GivesOnly IsLawfulRule (rule_at own)
  unfolding rule_at
  rule_gives s =
      after IsLawfulRule _ _ (λ r _. after IsLawfulRule _ _ (λ matches all. after IsLawfulRule _ _ (λ filters some. after IsLawfulRule _ _ (λ backends are. after IsLawfulRule _ _ (λ timeouts _.
      after IsLawfulRule _ _ (λ request short. after IsLawfulRule _ _ (λ backend brief. last IsLawfulRule _ (record {
        matches = or_one_gives IsLawfulMatch default_match matches default_is (each_gives IsLawfulMatch match_at match_gives _ matches all);
        filters = each_some_gives IsLawfulFilter filter_at filter_gives _ filters some;
        backends = each_gives IsLawfulBackend (backend_at own) (backend_gives own is) _ backends are;
        request = short_timeout _ request short;
        backend = short_timeout _ backend brief;
      }))))))))

  rules_give : GivesOnly (AllByRecursion IsLawfulRule) (rules_at own)
  rules_give =
      default_gives (AllByRecursion IsLawfulRule) (default_rule ∷ []) (each (rule_at own)) (record { matches = (default_is, tt); filters = tt; backends = tt; request = tt; backend = tt }, tt)
      (each_gives IsLawfulRule (rule_at own) rule_gives)

pub route_gives : (kind : Kind) → GivesOnly (IsLawfulRoute kind) (route_at kind)
unfolding route_at
route_gives kind s =
    let P = IsLawfulRoute kind in
    after P _ _ (λ meta metas. after P _ _ (λ spec _. after P _ _ (λ parents some. after P _ _ (λ hosts texts. after P _ _ (λ rules are.
    let is = meta_gives 253 s meta metas in
    last P _ (record {
      same_kind = refl;
      meta = is;
      parents = each_some_gives IsLawfulParent (parent_at meta.ns) (parent_gives meta.ns) _ parents some;
      hosts = each_gives IsUtf8 text text_gives _ hosts texts;
      rules = rules_give meta.ns is.ns_text _ rules are;
    }))))))
