-- How many objects are looked up. What is found by a mark counts at most among the objects with the mark, and the cost of a
-- list of marks is the sum of its parts.
use Rattle.std.proofs.Common.{◌≡◌, ℕ, ◌+◌, ◌-◌, ◌^◌, ◌<◌, ◌≤◌, min, Bool, true, false, ◌||◌, cond, List, [], ◌∷◌, ◌++◌, length, map, get_or, take, Option, Some, None, option_to_list, refl, sym, ap, subst, ◌∙◌, arith}
use Rattle.std.specs.Prelude.{filter, filter_map, flat_map, is_some, slice_get}
use Rattle.std.specs.FinMap.{get, values}
use Rattle.std.specs.List.{cons_option, count_by, sum_by}
use Rattle.std.proofs.lemmas.List.{length-map, take_more}
use Rattle.std.proofs.lemmas.List.Concat.{flat_map-append}
use Rattle.std.proofs.lemmas.List.Sums.{length-filter, sum_by-append, sum_by-cons, sum_by-take-le, sum_by_push}
use Rattle.mesh_base.specs.declared.key.ObjKey.{ObjKey}
use Rattle.view_types.specs.Objects.{AtKeys, ObjectMap, key_of}
use Rattle.view_types.specs.declared.mark.Mark.{Mark}
use Rattle.view_types.specs.declared.mark.Mark.TheVariants.{Obj}
use Rattle.view_types.specs.declared.object.Object.{Object}
use Rattle.mark_rules.specs.MarkLookups.{is_marked, keys_at}
use Rattle.mark_rules.specs.Marks.{has_mark, marks_of, meets, objects_with, other_marks}
use Rattle.mark_rules.specs.Reads.{cost, count_at}
use Rattle.mark_rules.proofs.MarkLookups.{keys_by_mark}
use Rattle.mark_rules.proofs.MarkTests.{is_itself}

-- one where there is something, and none where there is nothing
abbrev pub one_if : Bool → ℕ
one_if there = cond there 1 0

-- ---- by one mark

module _ (mark : Mark) where
  or_false : (b : Bool) → (b || false) ≡ b
  or_false true = refl
  or_false false = refl

  -- as many objects are found by a mark as have it
  pub objects_count : (held : ObjectMap) → length (objects_with held (mark ∷ [])) ≡ count_at held mark
  objects_count held =
      length-filter (λ o. meets (mark ∷ []) (marks_of o)) (values held)
      ∙ (λ i. count_by (λ o. or_false (has_mark (marks_of o) mark) i) (values held))

  pub keys_count : (held : ObjectMap) → length (keys_at held mark) ≡ count_at held mark
  keys_count held = length-map (objects_with held (mark ∷ [])) key_of ∙ objects_count held

  -- the first key at a mark is that of an object with it
  pub first_counts : (held : ObjectMap) → one_if (is_some (slice_get (keys_at held mark) 0)) ≤ count_at held mark
  first_counts held = subst (λ (n : ℕ). one_if (is_some (slice_get (keys_at held mark) 0)) ≤ n) (keys_count held) (by (keys_at held mark))
    where
      by : (keys : List ObjKey) → one_if (is_some (slice_get keys 0)) ≤ length keys
      by [] = omega arith
      by (key ∷ keys) = omega arith

  -- a look-up at that key
  pub first_steps : (held : ObjectMap) (key : Option ObjKey) (start after : ℕ) → key ≡ slice_get (keys_at held mark) 0 → after ≤ start + one_if (is_some key) → after ≤ start + count_at held mark
  first_steps held key start after is steps =
      let first : one_if (is_some key) ≤ count_at held mark = subst (λ k. one_if (is_some k) ≤ count_at held mark) (sym is) (first_counts held) in
      omega (arith, steps, first)

-- the object at a key has the mark of the key
pub key_counts : (held : ObjectMap) → AtKeys held → (key : ObjKey) → one_if (is_some (get held key)) ≤ count_at held (Obj key)
key_counts held own key = by (get held key) refl
  where
    by : (found : Option Object) → get held key ≡ found → one_if (is_some found) ≤ count_at held (Obj key)
    by None is = omega arith
    by (Some o) is =
        let marked : is_marked (Obj key) (get held key) ≡ true = ap (is_marked (Obj key)) is ∙ ap (λ k. has_mark (Obj k ∷ other_marks o) (Obj key)) (own key o is) ∙ ap (λ b. b || has_mark (other_marks o) (Obj key)) (is_itself (Obj key)) in
        let among = (keys_by_mark held own (Obj key)).each key in
        let at = among.1 marked in
        let long = at.1 in
        let count = keys_count (Obj key) held in
        omega (arith, long, count)

-- what is found at the keys of a list
module _ {A B : Type 0} (found : A → Option B) where
  one_more : (o : Option B) (rest : List B) (n : ℕ) → n ≡ length rest → one_if (is_some o) + n ≡ length (cons_option o rest)
  one_more None rest n is = omega (arith, is)
  one_more (Some b) rest n is = omega (arith, is)

  pub found_count : (keys : List A) → sum_by (λ key. one_if (is_some (found key))) keys ≡ length (filter_map found keys)
  found_count [] = refl
  found_count (key ∷ keys) = sum_by-cons (λ k. one_if (is_some (found k))) key keys ∙ one_more (found key) (filter_map found keys) (sum_by (λ k. one_if (is_some (found k))) keys) (found_count keys)

-- ---- by a list of marks

pub cost_cons : (held : ObjectMap) (mark : Mark) (marks : List Mark) → cost held (mark ∷ marks) ≡ count_at held mark + cost held marks
cost_cons held = sum_by-cons (count_at held)

pub cost_append : (held : ObjectMap) (marks others : List Mark) → cost held (marks ++ others) ≡ cost held marks + cost held others
cost_append held = sum_by-append (count_at held)

-- the marks of the items of a list, item by item
pub cost_of_each : {A : Type 0} (held : ObjectMap) (marks : A → List Mark) (items : List A) → cost held (flat_map marks items) ≡ sum_by (λ item. cost held (marks item)) items
cost_of_each held marks [] = refl
cost_of_each held marks (item ∷ items) =
    cost_append held (marks item) (flat_map marks items)
    ∙ ap (λ n. cost held (marks item) + n) (cost_of_each held marks items)
    ∙ sym (sum_by-cons (λ x. cost held (marks x)) item items)

-- ---- loops whose steps are a sum over their items

module _ {A : Type 0} (f : A → ℕ) (items : List A) (i : ℕ) (item : A) (start before after : ℕ)
    (lt : i < length items) (at : item ≡ get_or items i item) (so_far : before ≤ start + sum_by f (take i items)) (more : after ≤ before + f item) where
  -- one item more
  pub sum_steps : after ≤ start + sum_by f (take (i + 1) items)
  sum_steps =
      let sums : sum_by f (take (i + 1) items) ≡ sum_by f (take i items) + f item =
      ap (sum_by f) (take_more items i item lt) ∙ sum_by_push f (take i items) (get_or items i item) ∙ ap (λ x. sum_by f (take i items) + f x) (sym at) in
      omega (arith, sums, so_far, more)

  -- the loop ends at the item
  pub sum_stops : after ≤ start + sum_by f items
  sum_stops =
      let part = sum_by-take-le f items (i + 1) in
      let steps = sum_steps in
      omega (arith, part, steps)

-- the same, where the items have marks
module _ {A : Type 0} (held : ObjectMap) (marks : A → List Mark) (items : List A) (i : ℕ) (item : A) (start before after : ℕ)
    (lt : i < length items) (at : item ≡ get_or items i item) (so_far : before ≤ start + cost held (flat_map marks (take i items))) (more : after ≤ before + cost held (marks item)) where
  abbrev cost_at : A → ℕ
  cost_at a = cost held (marks a)

  sums_so_far : before ≤ start + sum_by cost_at (take i items)
  sums_so_far = let here = cost_of_each held marks (take i items) in omega (arith, here, so_far)

  pub cost_steps : after ≤ start + cost held (flat_map marks (take (i + 1) items))
  cost_steps =
      let next = cost_of_each held marks (take (i + 1) items) in
      let steps = sum_steps cost_at items i item start before after lt at sums_so_far more in
      omega (arith, next, steps)

  pub cost_stops : after ≤ start + cost held (flat_map marks items)
  cost_stops =
      let all = cost_of_each held marks items in
      let steps = sum_stops cost_at items i item start before after lt at sums_so_far more in
      omega (arith, all, steps)
