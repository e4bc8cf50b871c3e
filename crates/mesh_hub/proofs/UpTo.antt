-- No live id is above the greatest that was accepted.
use Rattle.std.proofs.Common.{◌≡◌, ◌<◌, ◌||◌, ℕ, Bool, true, false, cond, eqb, ltb, List, [], ◌∷◌, ◌++◌, Option, Some, None, IfSome, refl, ap, ◌∙◌, arith, ltb-true}
use Rattle.std.specs.List.{list_any}
use Rattle.std.proofs.lemmas.Bool.Decides.{nat_tests}
use Rattle.mark_rules.proofs.MarkTests.{neither_first, neither_second}
use Rattle.mesh_base.specs.declared.sub_id.SubId.{SubId}
use Rattle.view_types.specs.declared.query.Query.{Query}
use Rattle.view_types.specs.declared.view.View.{View}
use Rattle.feed_history.specs.Ids.{ended, in_place, subscribe_refusal}
use Rattle.feed_history.specs.declared.refusal.HubFault.{HubFault}
use Rattle.subscriptions.specs.Live.{AreBelow, LiveSubscription, id_of, shown_in_place}
use Rattle.subscriptions.specs.Standing.{new_sub}
use Rattle.mesh_hub.specs.Greatest.{AreUpTo, is_over}

neither : (a b : Bool) → a ≡ false → b ≡ false → (a || b) ≡ false
neither a b one two = ap (λ c. c || b) one ∙ two

module _ {X : Type 0} (test : X → Bool) where
  none_append : (xs ys : List X) → list_any test xs ≡ false → list_any test ys ≡ false → list_any test (xs ++ ys) ≡ false
  none_append [] ys none more = more
  none_append (x ∷ xs) ys none more = neither (test x) (list_any test (xs ++ ys)) (neither_first _ _ none) (none_append xs ys (neither_second _ _ none) more)

  module _ (id_x : X → ℕ) (id : ℕ) (f : X → List X) (keeps : (x : X) → test x ≡ false → list_any test (f x) ≡ false) where
    none_placed : (xs : List X) → list_any test xs ≡ false → list_any test (in_place id_x id f xs) ≡ false
    none_placed [] none = refl
    none_placed (x ∷ xs) none = elim (eqb (id_x x) id) as (λ b. list_any test (cond b (f x ++ xs) (x ∷ in_place id_x id f xs)) ≡ false) [
      | true ↦ none_append (f x) xs (keeps x (neither_first _ _ none)) (neither_second _ _ none)
      | false ↦ neither (test x) _ (neither_first _ _ none) (none_placed xs (neither_second _ _ none))
    ]

-- one that gives way to some with its id, or to none
pub placed_up_to : (last : Option ℕ) (id : ℕ) (f : LiveSubscription → List LiveSubscription) (subs : List LiveSubscription)
    → ((sub : LiveSubscription) → is_over last (id_of sub) ≡ false → list_any (λ one. is_over last (id_of one)) (f sub) ≡ false)
    → AreUpTo last subs → AreUpTo last (in_place id_of id f subs)
placed_up_to last id f subs keeps none = none_placed (λ sub. is_over last (id_of sub)) id_of id f keeps subs none

-- ---- one more

less : (n id : ℕ) (room : Option HubFault) (order : HubFault) → cond (ltb n id) room (Some order) ≡ None → n < id
less n id room order is = by_test (ltb n id) refl is
  where
    by_test : (b : Bool) → ltb n id ≡ b → cond b room (Some order) ≡ None → n < id
    by_test true tied is = ltb-true n id tied
    by_test false tied is = absurd (cc is)

above_all : (n id : ℕ) → n < id → (subs : List LiveSubscription) → AreUpTo (Some n) subs → AreBelow id subs
above_all n id lt [] none = tt
above_all n id lt (sub ∷ subs) none =
    let not_over : ltb n (id_of sub) ≡ false = neither_first _ _ none in
    (grind (arith, nat_tests), above_all n id lt subs (neither_second _ _ none))

-- an id above the greatest is above all
over_all : (last : Option ℕ) (id : ℕ) (subs : List LiveSubscription) → IfSome last (λ n. n < id) → AreUpTo last subs → AreBelow id subs
over_all None id [] over none = tt
over_all None id (sub ∷ subs) over none = absurd (cc none)
over_all (Some n) id subs over none = above_all n id over subs none

accepted_is_over : (limit live id : ℕ) (last : Option ℕ) → subscribe_refusal limit last live id ≡ None → IfSome last (λ n. n < id)
accepted_is_over limit live id None is = tt
accepted_is_over limit live id (Some n) is = less n id _ _ is

pub accepted_is_above : (limit live id : ℕ) (last : Option ℕ) (subs : List LiveSubscription) → subscribe_refusal limit last live id ≡ None → AreUpTo last subs → AreBelow id subs
accepted_is_above limit live id last subs is none = over_all last id subs (accepted_is_over limit live id last is) none

below_is_up_to : (id : ℕ) (subs : List LiveSubscription) → AreBelow id subs → AreUpTo (Some id) subs
below_is_up_to id [] below = refl
below_is_up_to id (sub ∷ subs) below =
    let lt = below.0 in
    let not_over : ltb id (id_of sub) ≡ false = grind (arith, nat_tests) in
    neither (ltb id (id_of sub)) _ not_over (below_is_up_to id subs below.1)

pub added_up_to : (id : SubId) (query : Query) (subs : List LiveSubscription) → AreBelow id.0 subs → AreUpTo (Some id.0) (subs ++ new_sub id query ∷ [])
added_up_to id query subs below =
    let not_over : ltb id.0 id.0 ≡ false = grind (arith, nat_tests) in
    none_append (λ sub. is_over (Some id.0) (id_of sub)) subs (new_sub id query ∷ []) (below_is_up_to id.0 subs below) (neither (ltb id.0 id.0) false not_over refl)

pub ended_up_to : (last : Option ℕ) (id : ℕ) (subs : List LiveSubscription) → AreUpTo last subs → AreUpTo last (in_place id_of id ended subs)
ended_up_to last id subs none = placed_up_to last id ended subs (λ sub kept. refl) none

pub shown_up_to : (last : Option ℕ) (id : ℕ) (view : View) (subs : List LiveSubscription) → AreUpTo last subs → AreUpTo last (in_place id_of id (shown_in_place view) subs)
shown_up_to last id view subs none = placed_up_to last id (shown_in_place view) subs (λ sub kept. neither _ false kept refl) none
