-- Ids that become due, one after another.
use Rattle.std.proofs.Common.{◌≡◌, ◌<◌, ◌+◌, ◌^◌, ◌||◌, ℕ, zero, suc, Bool, true, false, nat_eq, cond, eqb, List, [], ◌∷◌, get_or, length, take, Some, refl, sym, ap, subst, ◌∙◌, arith, eq-eqb, eqb-true}
use Rattle.std.specs.Option.{is_some}
use Rattle.std.proofs.Math.Bool.{or-false, or-true, or_assoc}
use Rattle.mark_graph.specs.RowMarks.{has_row}
use Rattle.subscriptions.specs.DueIds.{is_among}
use Rattle.subscriptions.specs.Live.{AreBelow, LiveSubscription, id_of, sub_at}
use Rattle.subscriptions.specs.Standing.{AreLive, MakesDue}
use Rattle.subscriptions.specs.declared.roster.Roster.{Roster}

either : (f g due : Bool) → (g || (f || due)) ≡ ((f || g) || due)
either true true due = refl
either true false due = refl
either false g due = refl

module _ (f g h : ℕ → Bool) (old mid new : Roster) (first : MakesDue f old mid) (second : MakesDue g mid new) (both : (n : ℕ) → (f n || g n) ≡ h n) where
  pub due_more : MakesDue h old new
  due_more = record {
    each = λ n. second.each n ∙ ap (λ due. g n || due) (first.each n) ∙ either (f n) (g n) (is_among n old.due) ∙ ap (λ b. b || is_among n old.due) (both n);
  }

-- ---- the ids of a list, up to one of them

is_in : (ids : List ℕ) (i : ℕ) → i < length ids → has_row (get_or ids i 0) ids ≡ true
is_in [] i within = absurd (omega (arith, within))
is_in (id ∷ ids) zero within = ap (λ b. b || has_row id ids) (eq-eqb id id refl)
is_in (id ∷ ids) (suc i) within = ap (λ b. nat_eq (get_or ids i 0) id || b) (is_in ids i (omega (arith, within))) ∙ or-true (nat_eq (get_or ids i 0) id)

one_more : (n : ℕ) (ids : List ℕ) (i : ℕ) → i < length ids → (has_row n (take i ids) || nat_eq n (get_or ids i 0)) ≡ has_row n (take (suc i) ids)
one_more n [] i within = absurd (omega (arith, within))
one_more n (id ∷ ids) zero within = sym (or-false (nat_eq n id))
one_more n (id ∷ ids) (suc i) within = or_assoc (nat_eq n id) (has_row n (take i ids)) (nat_eq n (get_or ids i 0)) ∙ ap (λ b. nat_eq n id || b) (one_more n ids i (omega (arith, within)))

-- a live id is below a number that all are below
below_found : (bound : ℕ) (subs : List LiveSubscription) → AreBelow bound subs → (id : ℕ) → is_some (sub_at id subs) ≡ true → id < bound
below_found bound [] below id live = absurd (cc live)
below_found bound (sub ∷ subs) below id live = elim (eqb (id_of sub) id) as (λ b. eqb (id_of sub) id ≡ b → is_some (cond b (Some sub) (sub_at id subs)) ≡ true → id < bound) [
  | true ↦ λ same there. subst (λ n. n < bound) (eqb-true (id_of sub) id same) below.0
  | false ↦ λ apart there. below_found bound subs below.1 id there
] refl live

module _ (ids : List ℕ) (i : ℕ) (within : i < length ids) (old mid new : Roster) (below : AreBelow (2 ^ 32) old.subs) (live : AreLive ids old) where
  pub due_next : MakesDue (λ n. has_row n (take i ids)) old mid → (get_or ids i 0 < 2 ^ 32 → MakesDue (λ n. nat_eq n (get_or ids i 0)) mid new) → MakesDue (λ n. has_row n (take (i + 1) ids)) old new
  due_next so_far next =
      let id = get_or ids i 0 in
      let after : suc i ≡ i + 1 = omega arith in
      due_more (λ n. has_row n (take i ids)) (λ n. nat_eq n id) (λ n. has_row n (take (i + 1) ids)) old mid new so_far
      (next (below_found (2 ^ 32) old.subs below id (live id (is_in ids i within)))) (λ n. one_more n ids i within ∙ ap (λ k. has_row n (take k ids)) after)
