-- A hash map that tells keys apart as their order does, and what is put into it.
use Rattle.std.proofs.Common.{◌≡◌, Bool, cond, Option, sym, ap, ◌∙◌}
use Rattle.std.specs.Cmp.{IsTotalOrder, eq_by_cmp_equiv}
use Rattle.std.specs.HashMap as map
use Rattle.std.specs.HashMap.{HashMap, UpdatesBy, get_by}
use Rattle.std.specs.Ordering.{eq_by_cmp}
use Rattle.std.specs.declared.cmp.Ordering.{Ordering}
use Rattle.mark_graph.specs.Puts.{PutsAt}

module _ {Key : Type 0} (eq : Key → Key → Bool) (cmp : Key → Key → Ordering) (same : (a b : Key) → eq a b ≡ eq_by_cmp cmp a b) where
  -- the same is found at a key
  pub found : {X S : Type 0} (m : HashMap Key X S) (key : Key) → map.get eq m key ≡ map.get (eq_by_cmp cmp) m key
  found m key = ap (λ (test : Key → Bool). get_by test m) (λ i k. same key k i)

  -- a map that is updated at a key
  pub put_by : {X S : Type 0} → IsTotalOrder cmp → (key : Key) (x : Option X) (old new : HashMap Key X S) → UpdatesBy eq (eq key) old new x → PutsAt cmp key x (map.get (eq_by_cmp cmp) old) (map.get (eq_by_cmp cmp) new)
  put_by total key x old new updates k =
      sym (found new k) ∙ updates.0 k ∙ ap (λ b. cond b x (map.get eq old k)) (same key k ∙ (eq_by_cmp_equiv total).symm key k) ∙ ap (cond (eq_by_cmp cmp k key) x) (found old k)
