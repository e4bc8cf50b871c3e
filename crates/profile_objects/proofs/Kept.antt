-- What holds of the matches that a kind makes of others holds of each match that is read.
use Rattle.std.proofs.Common.{◌≡◌, ℕ, zero, suc, Bool, true, List, [], ◌∷◌, map, Option, Some, None, Ok, option_map, option_to_list, refl, subst}
use Rattle.std.specs.List.{AllByRecursion, list_all}
use Rattle.serde_json.specs.Data.{depth}
use Rattle.k8s_meta.specs.Given.{GivesOnly}
use Rattle.k8s_meta.specs.Lists.{each}
use Rattle.k8s_meta.specs.Spots.{Reading}
use Rattle.k8s_meta.specs.Words.{optional, valid}
use Rattle.k8s_meta.specs.declared.fault.What.{What}
use Rattle.k8s_meta.specs.declared.fault.What.TheVariants as what
use Rattle.k8s_meta.proofs.Given.{after, optional_gives, same_value}
use Rattle.k8s_meta.proofs.GivenLists.{IfThere, all-append, each_gives}
use Rattle.profile_objects.specs.Matches.{MatchKind, joined, match_by, match_of, negation, only, parts}
use Rattle.profile_objects.specs.Nested.{levels, nested}

pub all_of_some : {A B : Type 0} (P : A → Type 0) (Q : B → Type 0) (make : A → B) → ((x : A) → P x → Q (make x)) → (o : Option A) → IfThere P o → AllByRecursion Q (option_to_list (option_map make o))
all_of_some P Q make holds None is = tt
all_of_some P Q make holds (Some x) is = (holds x is, tt)

pub each_is_true : {A : Type 0} (test : A → Bool) (parts : List A) → AllByRecursion (λ part. test part ≡ true) parts → list_all (λ b. b) (map test parts) ≡ true
each_is_true test [] all = refl
each_is_true test (part ∷ parts) all = rw (all.0, each_is_true test parts all.1) refl

valid_is : {A : Type 0} (P : A → Type 0) (at : List ℕ) (fault : What) (found : Option A) → IfThere P found → (given : A) → valid at fault found ≡ Ok given → P given
valid_is P at fault None is given e = absurd cc
valid_is P at fault (Some part) is given e = subst P (same_value part given e) is

-- what all, any and not of such matches are, and the matches of the kind's own members
pub record Keeps {M : Type 0} (kind : MatchKind M) (P : M → Type 0) : Type 0 where
  pub all : (parts : List M) → AllByRecursion P parts → P (kind.all parts)
  pub any : (parts : List M) → AllByRecursion P parts → P (kind.any parts)
  pub negated : (part : M) → P part → P (kind.negated part)
  pub own : GivesOnly (AllByRecursion P) kind.own

module _ {M : Type 0} (kind : MatchKind M) (P : M → Type 0) (keeps : Keeps kind P) where
  joined_is : (found : List M) → AllByRecursion P found → IfThere P (joined kind.all found)
  joined_is [] all = tt
  joined_is (part ∷ []) all = all.0
  joined_is (first ∷ second ∷ more) all = keeps.all (first ∷ second ∷ more) all

  parts_are : (own : List M) (all any : Option (List M)) (negated : Option M) → AllByRecursion P own → IfThere (AllByRecursion P) all → IfThere (AllByRecursion P) any → IfThere P negated → AllByRecursion P (parts kind own all any negated)
  parts_are own all any negated owns alls anys one =
      all-append P _ _ (all-append P _ _ (all-append P own _ owns (all_of_some (AllByRecursion P) P kind.all keeps.all all alls)) (all_of_some (AllByRecursion P) P kind.any keeps.any any anys)) (all_of_some P P kind.negated keeps.negated negated one)

  module _ (inner : Reading M) (gives : GivesOnly P inner) where
    negation_gives : GivesOnly P (negation inner)
    negation_gives s = after P (only s) inner (λ t _. gives t)

    lists_give : GivesOnly (IfThere (AllByRecursion P)) (optional (each inner))
    lists_give = optional_gives (IfThere (AllByRecursion P)) (each inner) tt (each_gives P inner gives)

    by_table : GivesOnly P (match_by kind inner)
    unfolding match_by
    by_table s =
        after P _ _ (λ o _. after P _ _ (λ own owns. after P _ _ (λ all alls. after P _ _ (λ any anys. after P _ _ (λ negated one.
        valid_is P o.at what.Shape (joined kind.all (parts kind own all any negated)) (joined_is (parts kind own all any negated) (parts_are own all any negated (keeps.own o own owns)
        (lists_give _ all alls) (lists_give _ any anys)
        (optional_gives (IfThere P) (negation inner) tt negation_gives _ negated one))))))))

  by_levels : (n : ℕ) → GivesOnly P (levels (match_by kind) n)
  by_levels zero s given e = absurd cc
  by_levels (suc n) s given e = by_table (levels (match_by kind) n) (by_levels n) s given e

  pub match_gives : GivesOnly P (match_of kind)
  unfolding nested
  match_gives s = by_levels (suc (depth s.value)) s
