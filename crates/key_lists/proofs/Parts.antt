-- A key put to the lists of one part, or taken from them, and the lists of all parts.
use Rattle.std.proofs.Common.{◌≡◌, Bool, true, false, cond, not, ◌&&◌, ◌||◌, Option, Some, None, Result, Ok, Err, OnOk, Ordering, refl, sym, ap, subst, ◌∙◌}
use Rattle.std.specs.BTreeMap.{BTreeMap, get, is_at}
use Rattle.std.specs.Cmp.{IsTotalOrder}
use Rattle.std.specs.Map.{lookup}
use Rattle.std.specs.Option.{ForSome}
use Rattle.std.specs.Ordering.{eq_by_cmp, is_eq}
use Rattle.std.specs.declared.cmp.Ordering.TheVariants.{Less, Equal, Greater}

equal : (r : Ordering) → is_eq r ≡ true → r ≡ Equal
equal Less e = cc
equal Equal e = refl
equal Greater e = cc

module _ {A X Y : Type 0} {cmp : A → A → Ordering} (order : IsTotalOrder cmp) (at : Option X → Y → Bool) (touched : Y → Bool) (before after : BTreeMap A X) (a : A) (w : Option X)
    (changed : (q : A) → get cmp after q ≡ cond (is_at (cmp a) q) w (get cmp before q)) where
  tied : (q : A) → is_at (cmp a) q ≡ true → get cmp before a ≡ get cmp before q
  tied q e = λ i. lookup (λ k. is_eq (order.congr a q k (equal _ e) i)) before.entries

  -- the key is put to what the part has
  pub put_part : ((y : Y) → at w y ≡ (touched y || at (get cmp before a) y)) → (q : A) (y : Y) → at (get cmp after q) y ≡ ((eq_by_cmp cmp a q && touched y) || at (get cmp before q) y)
  put_part there q y = ap (λ found. at found y) (changed q) ∙ by (is_at (cmp a) q) refl
    where
      by : (b : Bool) → is_at (cmp a) q ≡ b → at (cond b w (get cmp before q)) y ≡ ((b && touched y) || at (get cmp before q) y)
      by true e = there y ∙ ap (λ found. touched y || at found y) (tied q e)
      by false e = refl

  -- the key is taken from what the part has
  pub take_part : ((y : Y) → at w y ≡ (not (touched y) && at (get cmp before a) y)) → (q : A) (y : Y) → at (get cmp after q) y ≡ (not (eq_by_cmp cmp a q && touched y) && at (get cmp before q) y)
  take_part gone q y = ap (λ found. at found y) (changed q) ∙ by (is_at (cmp a) q) refl
    where
      by : (b : Bool) → is_at (cmp a) q ≡ b → at (cond b w (get cmp before q)) y ≡ (not (b && touched y) && at (get cmp before q) y)
      by true e = gone y ∙ ap (λ found. not (touched y) && at found y) (tied q e)
      by false e = refl

  -- what the part had is what is taken from it and what it has now
  pub given_part : ((y : Y) → at (get cmp before a) y ≡ (touched y || at w y)) → (q : A) (y : Y) → at (get cmp before q) y ≡ ((eq_by_cmp cmp a q && touched y) || at (get cmp after q) y)
  given_part had q y = by (is_at (cmp a) q) refl ∙ ap (λ found. (eq_by_cmp cmp a q && touched y) || at found y) (sym (changed q))
    where
      by : (b : Bool) → is_at (cmp a) q ≡ b → at (get cmp before q) y ≡ ((b && touched y) || at (cond b w (get cmp before q)) y)
      by true e = ap (λ found. at found y) (sym (tied q e)) ∙ had y
      by false e = refl

-- ---- what holds of all that is kept

module _ {A X : Type 0} (cmp : A → A → Ordering) (P : X → Type 0) (before after : BTreeMap A X) (a : A) (w : Option X) (changed : (q : A) → get cmp after q ≡ cond (is_at (cmp a) q) w (get cmp before q)) where
  -- it still holds of every other part
  pub others_hold : ((q : A) → ForSome (get cmp before q) P) → (q : A) → eq_by_cmp cmp a q ≡ false → ForSome (get cmp after q) P
  others_hold all q apart = subst (λ found. ForSome found P) (sym (changed q ∙ ap (λ b. cond b w (get cmp before q)) apart)) (all q)

  -- it holds of all, if it does of what the part has now
  pub all_hold : ForSome w P → ((q : A) → eq_by_cmp cmp a q ≡ false → ForSome (get cmp before q) P) → (q : A) → ForSome (get cmp after q) P
  all_hold own others q = subst (λ found. ForSome found P) (sym (changed q)) (by (is_at (cmp a) q) refl)
    where
      by : (b : Bool) → is_at (cmp a) q ≡ b → ForSome (cond b w (get cmp before q)) P
      by true e = own
      by false e = others q e

given : {X : Type 0} → Option X → X → X
given None x = x
given (Some y) x = y

pub of_one : {X : Type 0} (P : X → Type 0) (x : X) → P x → ForSome (Some x) P
unfolding given
of_one P x p y is = subst P (ap (λ found. given found x) is) p

-- what holds where there is no error
pub on_ok : {X E : Type 0} {P Q : Type 0} (r : Result X E) → (P → Q) → OnOk r P → OnOk r Q
on_ok (Ok x) more p = more p
on_ok (Err e) more p = tt
