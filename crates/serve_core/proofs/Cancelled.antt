-- The subscriptions of a hub after one of them ended.
use Rattle.std.proofs.Common.{◌≡◌, ℕ, suc, ◌≤◌, Bool, true, false, eqb, cond, List, [], ◌∷◌, length, Some, None, refl, sym, ap, ◌∙◌, arith, eqb-true}
use Rattle.feed_history.specs.Ids.{ended, in_place}
use Rattle.subscriptions.specs.Live.{LiveSubscription, id_of, sub_at}
use Rattle.serve_core.specs.Served.{AreUnder, AreUpTo}

module _ (id : ℕ) where
  -- what stands under another id
  pub others_live : (other : ℕ) → eqb id other ≡ false → (subs : List LiveSubscription) → sub_at other (in_place id_of id ended subs) ≡ sub_at other subs
  others_live other apart [] = refl
  others_live other apart (sub ∷ subs) = by_id (others_live other apart subs) (eqb (id_of sub) id) refl
    where
      by_id : sub_at other (in_place id_of id ended subs) ≡ sub_at other subs → (b : Bool) → eqb (id_of sub) id ≡ b
          → sub_at other (cond b subs (sub ∷ in_place id_of id ended subs)) ≡ cond (eqb (id_of sub) other) (Some sub) (sub_at other subs)
      by_id rest true e =
          let same : id_of sub ≡ id = eqb-true (id_of sub) id e in
          sym (ap (λ b. cond b (Some sub) (sub_at other subs)) (ap (λ n. eqb n other) same ∙ apart))
      by_id rest false e = ap (λ found. cond (eqb (id_of sub) other) (Some sub) found) rest

  -- there is one less
  pub one_fewer : (subs : List LiveSubscription) (found : LiveSubscription) → sub_at id subs ≡ Some found → length subs ≡ suc (length (in_place id_of id ended subs))
  one_fewer [] found at = let not_so : None ≡ Some found = at in absurd cc
  one_fewer (sub ∷ subs) found at = by_id (λ rest. one_fewer subs found rest) (eqb (id_of sub) id) at
    where
      by_id : (sub_at id subs ≡ Some found → length subs ≡ suc (length (in_place id_of id ended subs))) → (b : Bool) → cond b (Some sub) (sub_at id subs) ≡ Some found
          → suc (length subs) ≡ suc (length (cond b subs (sub ∷ in_place id_of id ended subs)))
      by_id rest true is = refl
      by_id rest false is = ap suc (rest is)

-- ---- ids of requests

module _ (requests : ℕ) where
  up_to_later : (id : ℕ) (subs : List LiveSubscription) → AreUpTo requests subs → AreUpTo requests (in_place id_of id ended subs)
  up_to_later id [] up = tt
  up_to_later id (sub ∷ subs) up = by_id (up_to_later id subs up.1) (eqb (id_of sub) id)
    where
      by_id : AreUpTo requests (in_place id_of id ended subs) → (b : Bool) → AreUpTo requests (cond b subs (sub ∷ in_place id_of id ended subs))
      by_id rest true = up.1
      by_id rest false = (up.0, rest)

  least : (a b limit : ℕ) → a ≤ b → b ≤ limit → a ≤ limit
  least a b limit less le = omega (arith, less, le)

  -- one subscription ends
  pub under_left : (limit id : ℕ) (subs : List LiveSubscription) → length (in_place id_of id ended subs) ≤ length subs → AreUnder requests limit subs → AreUnder requests limit (in_place id_of id ended subs)
  under_left limit id subs less under = record { few = least (length (in_place id_of id ended subs)) (length subs) limit less under.few; ids = up_to_later id subs under.ids }
