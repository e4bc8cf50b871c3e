-- A member more among those that were told everything as it is now.
use Rattle.std.proofs.Common.{◌≡◌, ℕ, Bool, true, false, cond, nat_eq, List, None, Result, Ok, Err, IfOk, refl, sym, ap, subst, ◌∙◌, arith}
use Rattle.std.proofs.lemmas.Bool.Decides.{nat_tests}
use Rattle.endpoint_groups.specs.declared.group.Group.{Group}
use Rattle.endpoint_groups.specs.Members.{Enters, EntersIf, IsFree, Opens, SetsAt, group_at, is_current, one_more}

pub itself : (n : ℕ) → nat_eq n n ≡ true
itself n = grind (arith, nat_tests)

module _ {F : Type 0} where
  pub set_there : (n : ℕ) (becomes : Group F → Group F) (old new : List (Group F)) → SetsAt n becomes old new → group_at new n ≡ becomes (group_at old n)
  set_there n becomes old new sets = sets n ∙ ap (λ b. cond b (becomes (group_at old n)) (group_at old n)) (itself n)

  pub set_apart : (n : ℕ) (becomes : Group F → Group F) (old new : List (Group F)) → SetsAt n becomes old new → (m : ℕ) → nat_eq m n ≡ false → group_at new m ≡ group_at old m
  set_apart n becomes old new sets m apart = sets m ∙ ap (λ b. cond b (becomes (group_at old m)) (group_at old m)) apart

  pub joins : (exists : Bool) (current : ℕ) (old new : List (Group F)) → is_current exists (group_at old current) ≡ true → SetsAt current one_more old new → Enters exists current current old new
  joins exists current old new is sets = subst (λ (b : Bool). EntersIf b exists current current old new) (sym is) (refl, sets)

  opening : (exists : Bool) (to : ℕ) (old new : List (Group F)) (group : Group F) → is_current exists group ≡ true → group.members ≡ 1 → group.encoding ≡ None → IsFree old to → SetsAt to (λ _. group) old new → Opens exists to old new
  opening exists to old new group is one unencoded free sets =
      let there : group_at new to ≡ group = set_there to (λ _. group) old new sets in
      record {
        free = free;
        current = ap (is_current exists) there ∙ is;
        one = ap (λ (g : Group F). g.members) there ∙ one;
        unencoded = ap (λ (g : Group F). g.encoding) there ∙ unencoded;
        others = set_apart to (λ _. group) old new sets;
      }

  pub opening_enters : {E : Type 0} (exists : Bool) (current : ℕ) (old new : List (Group F)) (group : Group F) → is_current exists (group_at old current) ≡ false → is_current exists group ≡ true → group.members ≡ 1 → group.encoding ≡ None
      → (r : Result ℕ E) → IfOk r (λ to. IsFree old to) → IfOk r (λ to. SetsAt to (λ _. group) old new) → IfOk r (λ to. Enters exists current to old new)
  opening_enters exists current old new group none is one unencoded (Err e) free sets = tt
  opening_enters exists current old new group none is one unencoded (Ok to) free sets =
      subst (λ (b : Bool). EntersIf b exists current to old new) (sym none) (opening exists to old new group is one unencoded free sets)
