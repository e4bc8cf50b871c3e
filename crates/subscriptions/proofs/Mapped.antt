-- What stands under an id, and in its place, in a list whose items are mapped so that they keep their ids.
use Rattle.std.proofs.Common.{◌≡◌, ℕ, Bool, true, false, cond, eqb, List, [], ◌∷◌, ◌++◌, map, Some, refl, sym, ap, ◌∙◌}
use Rattle.std.specs.Prelude.{option_map}
use Rattle.std.proofs.lemmas.List.{map-append}
use Rattle.feed_history.specs.Ids.{at_id, in_place}

module _ {S T : Type 0} (f : S → T) (id_s : S → ℕ) (id_t : T → ℕ) (keeps : (s : S) → id_t (f s) ≡ id_s s) (id : ℕ) where
  same_test : (s : S) → eqb (id_t (f s)) id ≡ eqb (id_s s) id
  same_test s = ap (λ (n : ℕ). eqb n id) (keeps s)

  pub found_mapped : (subs : List S) → at_id id_t id (map f subs) ≡ option_map f (at_id id_s id subs)
  found_mapped [] = refl
  found_mapped (first ∷ subs) =
      ap (λ (b : Bool). cond b (Some (f first)) (at_id id_t id (map f subs))) (same_test first) ∙ by_test (found_mapped subs) (eqb (id_s first) id)
    where
      by_test : at_id id_t id (map f subs) ≡ option_map f (at_id id_s id subs) → (b : Bool) → cond b (Some (f first)) (at_id id_t id (map f subs)) ≡ option_map f (cond b (Some first) (at_id id_s id subs))
      by_test later true = refl
      by_test later false = later

  -- it is enough that the one which gives way is mapped so
  pub mapped_in_place : (g : S → List S) (h : T → List T) (subs : List S) → ((s : S) → at_id id_s id subs ≡ Some s → map f (g s) ≡ h (f s))
      → map f (in_place id_s id g subs) ≡ in_place id_t id h (map f subs)
  mapped_in_place g h [] same = refl
  mapped_in_place g h (first ∷ subs) same =
      by_test (mapped_in_place g h subs) (eqb (id_s first) id) same ∙ ap (λ (b : Bool). cond b (h (f first) ++ map f subs) (f first ∷ in_place id_t id h (map f subs))) (sym (same_test first))
    where
      by_test : (((s : S) → at_id id_s id subs ≡ Some s → map f (g s) ≡ h (f s)) → map f (in_place id_s id g subs) ≡ in_place id_t id h (map f subs))
          → (b : Bool) → ((s : S) → cond b (Some first) (at_id id_s id subs) ≡ Some s → map f (g s) ≡ h (f s))
          → map f (cond b (g first ++ subs) (first ∷ in_place id_s id g subs)) ≡ cond b (h (f first) ++ map f subs) (f first ∷ in_place id_t id h (map f subs))
      by_test later true same = map-append f (g first) subs ∙ ap (λ (xs : List T). xs ++ map f subs) (same first refl)
      by_test later false same = ap (λ (xs : List T). f first ∷ xs) (later same)
