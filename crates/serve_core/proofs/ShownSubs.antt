-- The subscriptions of a hub after one of them was drained.
use Rattle.std.proofs.Common.{◌≡◌, ◌≤◌, ℕ, suc, Bool, true, false, eqb, cond, List, [], ◌∷◌, ◌++◌, length, Some, None, refl, sym, ap, ◌∙◌, subst, arith, eqb-true, eq-eqb}
use Rattle.feed_history.specs.Ids.{in_place}
use Rattle.subscriptions.specs.Live.{LiveSubscription, id_of, sub_at}
use Rattle.serve_core.specs.Served.{AreUnder, AreUpTo}

module _ (id : ℕ) where
  -- what takes the place of one is told by that one alone
  pub place_same : (f g : LiveSubscription → List LiveSubscription) (subs : List LiveSubscription) (found : LiveSubscription) → sub_at id subs ≡ Some found → f found ≡ g found → in_place id_of id f subs ≡ in_place id_of id g subs
  place_same f g [] found at same = refl
  place_same f g (sub ∷ subs) found at same = by_id (λ rest. place_same f g subs found rest same) (eqb (id_of sub) id) at
    where
      by_id : (sub_at id subs ≡ Some found → in_place id_of id f subs ≡ in_place id_of id g subs) → (b : Bool) → cond b (Some sub) (sub_at id subs) ≡ Some found
          → cond b (f sub ++ subs) (sub ∷ in_place id_of id f subs) ≡ cond b (g sub ++ subs) (sub ∷ in_place id_of id g subs)
      by_id rest true is = let one : sub ≡ found = cc in ap (λ x. f x ++ subs) one ∙ ap (λ items. items ++ subs) same ∙ sym (ap (λ x. g x ++ subs) one)
      by_id rest false is = ap (λ more. sub ∷ more) (rest is)

  module _ (now : LiveSubscription) (own : id_of now ≡ id) where
    abbrev put : LiveSubscription → List LiveSubscription
    put sub = now ∷ []

    pub put_here : (subs : List LiveSubscription) (found : LiveSubscription) → sub_at id subs ≡ Some found → sub_at id (in_place id_of id put subs) ≡ Some now
    put_here [] found at = let not_so : None ≡ Some found = at in absurd cc
    put_here (sub ∷ subs) found at = by_id (λ rest. put_here subs found rest) (eqb (id_of sub) id) refl at
      where
        by_id : (sub_at id subs ≡ Some found → sub_at id (in_place id_of id put subs) ≡ Some now) → (b : Bool) → eqb (id_of sub) id ≡ b → cond b (Some sub) (sub_at id subs) ≡ Some found
            → sub_at id (cond b (now ∷ subs) (sub ∷ in_place id_of id put subs)) ≡ Some now
        by_id rest true e is = ap (λ b. cond b (Some now) (sub_at id subs)) (eq-eqb (id_of now) id own)
        by_id rest false e is = ap (λ b. cond b (Some sub) (sub_at id (in_place id_of id put subs))) e ∙ rest is

    pub put_other : (other : ℕ) → eqb id other ≡ false → (subs : List LiveSubscription) → sub_at other (in_place id_of id put subs) ≡ sub_at other subs
    put_other other apart [] = refl
    put_other other apart (sub ∷ subs) = by_id (put_other other apart subs) (eqb (id_of sub) id) refl
      where
        by_id : sub_at other (in_place id_of id put subs) ≡ sub_at other subs → (b : Bool) → eqb (id_of sub) id ≡ b
            → sub_at other (cond b (now ∷ subs) (sub ∷ in_place id_of id put subs)) ≡ cond (eqb (id_of sub) other) (Some sub) (sub_at other subs)
        by_id rest true e =
            let same : id_of sub ≡ id = eqb-true (id_of sub) id e in
            ap (λ b. cond b (Some now) (sub_at other subs)) (ap (λ n. eqb n other) own ∙ apart) ∙ sym (ap (λ b. cond b (Some sub) (sub_at other subs)) (ap (λ n. eqb n other) same ∙ apart))
        by_id rest false e = ap (λ found. cond (eqb (id_of sub) other) (Some sub) found) rest

    pub put_length : (subs : List LiveSubscription) → length (in_place id_of id put subs) ≡ length subs
    put_length [] = refl
    put_length (sub ∷ subs) = by_id (put_length subs) (eqb (id_of sub) id)
      where
        by_id : length (in_place id_of id put subs) ≡ length subs → (b : Bool) → length (cond b (now ∷ subs) (sub ∷ in_place id_of id put subs)) ≡ suc (length subs)
        by_id rest true = refl
        by_id rest false = ap suc rest

    -- the one whose place it takes has its id
    up_to_put : (requests : ℕ) (subs : List LiveSubscription) → AreUpTo requests subs → AreUpTo requests (in_place id_of id put subs)
    up_to_put requests [] up = tt
    up_to_put requests (sub ∷ subs) up = by_id (up_to_put requests subs up.1) (eqb (id_of sub) id) refl
      where
        by_id : AreUpTo requests (in_place id_of id put subs) → (b : Bool) → eqb (id_of sub) id ≡ b → AreUpTo requests (cond b (now ∷ subs) (sub ∷ in_place id_of id put subs))
        by_id rest true e = (subst (λ n. n ≤ requests) (eqb-true (id_of sub) id e ∙ sym own) up.0, up.1)
        by_id rest false e = (up.0, rest)

    as_few : (a b limit : ℕ) → a ≡ b → b ≤ limit → a ≤ limit
    as_few a b limit same le = omega (arith, same, le)

    pub under_put : (requests limit : ℕ) (subs : List LiveSubscription) → AreUnder requests limit subs → AreUnder requests limit (in_place id_of id put subs)
    under_put requests limit subs under = record { few = as_few (length (in_place id_of id put subs)) (length subs) limit (put_length subs) under.few; ids = up_to_put requests subs under.ids }
