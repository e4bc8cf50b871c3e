-- What holds of each item of a list that was read.
use Rattle.std.proofs.Common.{◌≡◌, ℕ, suc, List, [], ◌∷◌, ◌++◌, Option, Some, None, Ok, option_to_list}
use Rattle.std.specs.List.{AllByRecursion, flat_map}
use Rattle.serde_json.specs.Data.{Items, no_items, item}
use Rattle.k8s_meta.specs.Given.{GivesOnly}
use Rattle.k8s_meta.specs.Lists.{each, each_from, each_some, gathered}
use Rattle.k8s_meta.specs.Spots.{Reading, item_spot}
use Rattle.k8s_meta.proofs.Given.{after, default_gives, last}

pub all-append : {A : Type 0} (P : A → Type 0) (xs ys : List A) → AllByRecursion P xs → AllByRecursion P ys → AllByRecursion P (xs ++ ys)
all-append P [] ys all others = others
all-append P (x ∷ xs) ys (here, all) others = (here, all-append P xs ys all others)

module _ {A : Type 0} (P : A → Type 0) (read : Reading A) (gives : GivesOnly P read) where
  from_gives : (ds : Items) (at : List ℕ) (n : ℕ) (xs : List A) → each_from read at n ds ≡ Ok xs → AllByRecursion P xs
  unfolding each_from
  from_gives no_items at n = last (AllByRecursion P) [] tt
  from_gives (item d ds) at n =
      after (AllByRecursion P) _ _ (λ x is. after (AllByRecursion P) _ _ (λ xs are. last (AllByRecursion P) (x ∷ xs) (gives (item_spot at n d) x is, from_gives ds at (suc n) xs are)))

  pub each_gives : GivesOnly (AllByRecursion P) (each read)
  unfolding each
  each_gives = default_gives (AllByRecursion P) [] _ tt (λ l. after (AllByRecursion P) _ _ (λ ds _. from_gives ds l.at 0))

-- the values among the items, and the items of their lists
module _ {A B : Type 0} (P : A → Type 0) (Q : B → Type 0) (parts : A → List B) (each_part : (x : A) → P x → AllByRecursion Q (parts x)) where
  all_parts : (xs : List A) → AllByRecursion P xs → AllByRecursion Q (flat_map parts xs)
  all_parts [] all = tt
  all_parts (x ∷ xs) (here, all) = all-append Q (parts x) (flat_map parts xs) (each_part x here) (all_parts xs all)

  gathered_gives : (read : Reading A) → GivesOnly P read → GivesOnly (AllByRecursion Q) (λ s. gathered parts (each read s))
  gathered_gives read gives s = after (AllByRecursion Q) _ _ (λ xs are. last (AllByRecursion Q) (flat_map parts xs) (all_parts xs (each_gives P read gives s xs are)))

-- of a value that is there
abbrev pub IfThere : {A : Type 0} → (A → Type 0) → Option A → Type 0
IfThere P None = Unit {0}
IfThere P (Some x) = P x

module _ {A : Type 0} (P : A → Type 0) where
  pub one_part : (o : Option A) → IfThere P o → AllByRecursion P (option_to_list o)
  one_part None is = tt
  one_part (Some x) is = (is, tt)

  pub each_some_gives : (read : Reading (Option A)) → GivesOnly (IfThere P) read → GivesOnly (AllByRecursion P) (each_some read)
  each_some_gives = gathered_gives (IfThere P) P option_to_list one_part
