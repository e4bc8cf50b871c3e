-- Edits of one chunk as edits of the whole, and the place of an item of a chunk in the whole.
use Rattle.std.proofs.Common.{◌≡◌, ◌==◌, ℕ, true, zero, suc, ◌+◌, ◌-◌, ◌<◌, ◌≤◌, List, [], ◌∷◌, ◌++◌, set, get_or, take, flat_map, length, Some, Result, Ok, Err, OnErr, refl, sym, ap, subst, ◌∙◌, arith}
use Rattle.std.specs.List.{insert, remove, slice_get}
use Rattle.std.proofs.lemmas.Bool.Decides.{nat_tests}
use Rattle.std.proofs.lemmas.List.{append_assoc, append-nil, length-append, set-append_left, set-append_right}
use Rattle.std.proofs.lemmas.List.Concat.{get_or-flat_map}
use Rattle.std.proofs.lemmas.List.Edits.{insert-append_left, insert-append_right, remove-append_left, remove-append_right}
use Rattle.std.proofs.lemmas.Option.{slice_get-get_or}
use Rattle.chunked_list.specs.Spots.{IsSpot, NoneEmpty, start_of}

same : (at i : ℕ) → 0 + at ≡ i → at ≡ i
same at i is = omega (arith, is)

nil : {A : Type 0} (xs : List A) → length xs ≡ 0 → xs ≡ []
nil [] none = refl
nil (x ∷ xs) none = absurd (omega (arith, none))

-- a length that the test calls 0 is 0
pub is_none : (n : ℕ) → (n == 0) ≡ true → n ≡ 0
is_none n is = grind (arith, nat_tests)

pub on_err : {A E P : Type 0} (r : Result A E) → P → OnErr r P
on_err (Ok x) p = tt
on_err (Err e) p = p

module _ {X A : Type 0} (items : X → List A) where
  -- ---- an edit of a chunk

  inserted_at : (chunks : List X) (c at i : ℕ) (o : A) (new d : X) → c < length chunks → at ≤ length (items (get_or chunks c d)) → start_of items chunks c + at ≡ i
      → items new ≡ insert (items (get_or chunks c d)) at o → flat_map items (set chunks c new) ≡ insert (flat_map items chunks) i o
  inserted_at [] c at i o new d lt le is made = absurd (omega (arith, lt))
  inserted_at (x ∷ chunks) zero at i o new d lt le is made =
      ap (λ us. us ++ flat_map items chunks) made
      ∙ sym (insert-append_left (items x) (flat_map items chunks) at o le)
      ∙ ap (λ k. insert (items x ++ flat_map items chunks) k o) (same at i is)
  inserted_at (x ∷ chunks) (suc c) at i o new d lt le is made =
      let long = length-append (items x) (flat_map items (take c chunks)) in
      let rest : length (flat_map items (take c chunks)) + at ≡ i - length (items x) = omega (arith, is, long) in
      let from : length (items x) ≤ i = omega (arith, is, long) in
      ap (λ us. items x ++ us) (inserted_at chunks c at (i - length (items x)) o new d (omega (arith, lt)) le rest made)
      ∙ sym (insert-append_right (items x) (flat_map items chunks) (length (items x)) i o refl from)

  removed_at : (chunks : List X) (c at i : ℕ) (new d : X) → c < length chunks → at < length (items (get_or chunks c d)) → start_of items chunks c + at ≡ i
      → items new ≡ remove (items (get_or chunks c d)) at → flat_map items (set chunks c new) ≡ remove (flat_map items chunks) i
  removed_at [] c at i new d lt le is made = absurd (omega (arith, lt))
  removed_at (x ∷ chunks) zero at i new d lt le is made =
      ap (λ us. us ++ flat_map items chunks) made
      ∙ sym (remove-append_left (items x) (flat_map items chunks) at le)
      ∙ ap (λ k. remove (items x ++ flat_map items chunks) k) (same at i is)
  removed_at (x ∷ chunks) (suc c) at i new d lt le is made =
      let long = length-append (items x) (flat_map items (take c chunks)) in
      let rest : length (flat_map items (take c chunks)) + at ≡ i - length (items x) = omega (arith, is, long) in
      let from : length (items x) ≤ i = omega (arith, is, long) in
      ap (λ us. items x ++ us) (removed_at chunks c at (i - length (items x)) new d (omega (arith, lt)) le rest made)
      ∙ sym (remove-append_right (items x) (flat_map items chunks) (length (items x)) i refl from)

  replaced_at : (chunks : List X) (c at i : ℕ) (o : A) (new d : X) → c < length chunks → at < length (items (get_or chunks c d)) → start_of items chunks c + at ≡ i
      → items new ≡ set (items (get_or chunks c d)) at o → flat_map items (set chunks c new) ≡ set (flat_map items chunks) i o
  replaced_at [] c at i o new d lt le is made = absurd (omega (arith, lt))
  replaced_at (x ∷ chunks) zero at i o new d lt le is made =
      ap (λ us. us ++ flat_map items chunks) made
      ∙ sym (set-append_left (items x) (flat_map items chunks) at o le)
      ∙ ap (λ k. set (items x ++ flat_map items chunks) k o) (same at i is)
  replaced_at (x ∷ chunks) (suc c) at i o new d lt le is made =
      let long = length-append (items x) (flat_map items (take c chunks)) in
      let rest : length (flat_map items (take c chunks)) + at ≡ i - length (items x) = omega (arith, is, long) in
      let from : length (items x) ≤ i = omega (arith, is, long) in
      ap (λ us. items x ++ us) (replaced_at chunks c at (i - length (items x)) o new d (omega (arith, lt)) le rest made)
      ∙ sym (set-append_right (items x) (flat_map items chunks) (length (items x)) i o refl from)

  -- ---- a chunk more, or less

  -- an empty chunk more changes nothing
  pub empty_added : (chunks : List X) (c : ℕ) (new : X) → items new ≡ [] → flat_map items (insert chunks c new) ≡ flat_map items chunks
  empty_added chunks zero new none = ap (λ us. us ++ flat_map items chunks) none
  empty_added [] (suc c) new none = ap (λ us. us ++ []) none
  empty_added (x ∷ chunks) (suc c) new none = ap (λ us. items x ++ us) (empty_added chunks c new none)

  -- a chunk that has become empty
  pub emptied : (chunks : List X) (c : ℕ) (new : X) → length (items new) ≡ 0 → flat_map items (remove (set chunks c new) c) ≡ flat_map items (set chunks c new)
  emptied [] zero new none = refl
  emptied [] (suc c) new none = refl
  emptied (x ∷ chunks) zero new none = sym (ap (λ us. us ++ flat_map items chunks) (nil (items new) none))
  emptied (x ∷ chunks) (suc c) new none = ap (λ us. items x ++ us) (emptied chunks c new none)

  -- an item more at the end of the last chunk
  pub appended : (chunks : List X) (c : ℕ) (o : A) (new d : X) → c + 1 ≡ length chunks → items new ≡ items (get_or chunks c d) ++ o ∷ [] → flat_map items (set chunks c new) ≡ flat_map items chunks ++ o ∷ []
  appended [] c o new d last made = absurd (omega (arith, last))
  appended (x ∷ []) zero o new d last made = append-nil (items new) ∙ made ∙ ap (λ us. us ++ o ∷ []) (sym (append-nil (items x)))
  appended (x ∷ []) (suc c) o new d last made = absurd (omega (arith, last))
  appended (x ∷ y ∷ chunks) zero o new d last made = absurd (omega (arith, last))
  appended (x ∷ y ∷ chunks) (suc c) o new d last made =
      ap (λ us. items x ++ us) (appended (y ∷ chunks) c o new d (omega (arith, last)) made)
      ∙ sym (append_assoc (items x) (flat_map items (y ∷ chunks)) (o ∷ []))

  -- a chunk with the same items
  pub items_stay : (chunks : List X) (c : ℕ) (new d : X) → items new ≡ items (get_or chunks c d) → flat_map items (set chunks c new) ≡ flat_map items chunks
  items_stay [] c new d is = refl
  items_stay (x ∷ chunks) zero new d is = ap (λ us. us ++ flat_map items chunks) is
  items_stay (x ∷ chunks) (suc c) new d is = ap (λ us. items x ++ us) (items_stay chunks c new d is)

  -- a chunk split in two, the second part put in the empty chunk behind it
  split_in_two : (chunks : List X) (c : ℕ) (new front back d : X) → c < length chunks → items front ++ items back ≡ items (get_or chunks c d)
      → flat_map items (set (set (insert chunks (suc c) new) c front) (suc c) back) ≡ flat_map items chunks
  split_in_two [] c new front back d lt parts = absurd (omega (arith, lt))
  split_in_two (x ∷ chunks) zero new front back d lt parts = sym (append_assoc (items front) (items back) (flat_map items chunks)) ∙ ap (λ us. us ++ flat_map items chunks) parts
  split_in_two (x ∷ chunks) (suc c) new front back d lt parts = ap (λ us. items x ++ us) (split_in_two chunks c new front back d (omega (arith, lt)) parts)

  kept_before : (chunks : List X) (c : ℕ) (new d : X) → c < length chunks → get_or (insert chunks (suc c) new) c d ≡ get_or chunks c d
  kept_before [] c new d lt = absurd (omega (arith, lt))
  kept_before (x ∷ chunks) zero new d lt = refl
  kept_before (x ∷ chunks) (suc c) new d lt = kept_before chunks c new d (omega (arith, lt))

  -- the chunk before the empty one is that which stood there
  pub own_is : (chunks : List X) (c n : ℕ) (all : List X) (new it : X) → n ≡ suc c → all ≡ insert chunks n new → c < length chunks → it ≡ get_or all c it → it ≡ get_or chunks c it
  own_is chunks c n all new it next made lt is = is ∙ ap (λ a. get_or a c it) made ∙ ap (λ k. get_or (insert chunks k new) c it) next ∙ kept_before chunks c new it lt

  put_back : (chunks : List X) (c : ℕ) (new it : X) → c < length chunks → it ≡ get_or chunks c it → remove (set (insert chunks (suc c) new) c it) (suc c) ≡ chunks
  put_back [] c new it lt is = absurd (omega (arith, lt))
  put_back (x ∷ chunks) zero new it lt is = ap (λ y. y ∷ chunks) is
  put_back (x ∷ chunks) (suc c) new it lt is = ap (λ ys. x ∷ ys) (put_back chunks c new it (omega (arith, lt)) is)

  -- the empty chunk taken out again
  pub unsplit : (chunks : List X) (c n : ℕ) (all : List X) (new it : X) → n ≡ suc c → all ≡ insert chunks n new → c < length chunks → it ≡ get_or all c it → remove (set all c it) n ≡ chunks
  unsplit chunks c n all new it next made lt is =
      ap (λ a. remove (set a c it) n) made
      ∙ ap (λ k. remove (set (insert chunks k new) c it) k) next
      ∙ put_back chunks c new it lt (own_is chunks c n all new it next made lt is)

  pub split_is : (chunks : List X) (c n : ℕ) (all : List X) (new front back it : X) → n ≡ suc c → all ≡ insert chunks n new → c < length chunks → it ≡ get_or all c it → items front ++ items back ≡ items it
      → flat_map items (set (set all c front) n back) ≡ flat_map items chunks
  split_is chunks c n all new front back it next made lt is parts =
      let own : it ≡ get_or chunks c it = own_is chunks c n all new it next made lt is in
      ap (λ a. flat_map items (set (set a c front) n back)) made
      ∙ ap (λ k. flat_map items (set (set (insert chunks k new) c front) k back)) next
      ∙ split_in_two chunks c new front back it lt (parts ∙ ap items own)

  -- ---- where a chunk starts

  pub next : (chunks : List X) (c : ℕ) (d : X) → c < length chunks → start_of items chunks (suc c) ≡ start_of items chunks c + length (items (get_or chunks c d))
  next [] c d lt = absurd (omega (arith, lt))
  next (x ∷ chunks) zero d lt = let long = length-append (items x) [] in omega (arith, long)
  next (x ∷ chunks) (suc c) d lt =
      let a = length-append (items x) (flat_map items (take (suc c) chunks)) in
      let b = length-append (items x) (flat_map items (take c chunks)) in
      let rest : length (flat_map items (take (suc c) chunks)) ≡ length (flat_map items (take c chunks)) + length (items (get_or chunks c d)) = next chunks c d (omega (arith, lt)) in
      omega (arith, a, b, rest)

  pub start_bound : (chunks : List X) (c : ℕ) → start_of items chunks c ≤ length (flat_map items chunks)
  start_bound chunks zero = omega arith
  start_bound [] (suc c) = omega arith
  start_bound (x ∷ chunks) (suc c) =
      let a = length-append (items x) (flat_map items chunks) in
      let b = length-append (items x) (flat_map items (take c chunks)) in
      let rest = start_bound chunks c in
      omega (arith, a, b, rest)

  pub start_of_all : (chunks : List X) → start_of items chunks (length chunks) ≡ length (flat_map items chunks)
  start_of_all [] = refl
  start_of_all (x ∷ chunks) =
      let a = length-append (items x) (flat_map items chunks) in
      let b = length-append (items x) (flat_map items (take (length chunks) chunks)) in
      let rest = start_of_all chunks in
      omega (arith, a, b, rest)

  -- the end of a chunk
  module _ (chunks : List X) (c start : ℕ) (e : X) (lt : c < length chunks) (starts : start ≡ start_of items chunks c) (is : e ≡ get_or chunks c e) where
    pub end_is : start_of items chunks (suc c) ≡ start + length (items e)
    end_is = next chunks c e lt ∙ ap (λ k. k + length (items (get_or chunks c e))) (sym starts) ∙ ap (λ k. start + length (items k)) (sym is)

    pub in_whole : start + length (items e) ≤ length (flat_map items chunks)
    in_whole = let bound = start_bound chunks (suc c) in omega (arith, bound, end_is)

  chunk_at : (chunks : List X) (c : ℕ) → c < length chunks → X
  chunk_at [] c lt = absurd (omega (arith, lt))
  chunk_at (x ∷ chunks) c lt = x

  -- ---- by a spot

  module _ (chunks : List X) (c at i : ℕ) (spot : IsSpot items chunks i c at) where
    pub within_all : i < length (flat_map items chunks)
    within_all =
        let d = chunk_at chunks c spot.chunk_within in
        let own = spot.within d in
        let is = spot.is in
        let after = next chunks c d spot.chunk_within in
        let bound = start_bound chunks (suc c) in
        omega (arith, own, is, after, bound)

    pub found : (e : X) (d : A) → get_or (flat_map items chunks) i d ≡ get_or (items (get_or chunks c e)) at d
    found e d = ap (λ k. get_or (flat_map items chunks) k d) (sym spot.is) ∙ get_or-flat_map items chunks c at e d spot.chunk_within (spot.within e)

    pub gives : (e : X) (x : A) → x ≡ get_or (items (get_or chunks c e)) at x → Some x ≡ slice_get (flat_map items chunks) i
    gives e x is = ap Some (is ∙ sym (found e x)) ∙ sym (slice_get-get_or (flat_map items chunks) i x within_all)

    pub inserted : (o : A) (new d : X) → items new ≡ insert (items (get_or chunks c d)) at o → flat_map items (set chunks c new) ≡ insert (flat_map items chunks) i o
    inserted o new d made = let own = spot.within d in inserted_at chunks c at i o new d spot.chunk_within (omega (arith, own)) spot.is made

    pub removed : (new d : X) → items new ≡ remove (items (get_or chunks c d)) at → flat_map items (set chunks c new) ≡ remove (flat_map items chunks) i
    removed new d made = removed_at chunks c at i new d spot.chunk_within (spot.within d) spot.is made

    pub replaced : (o : A) (new d : X) → items new ≡ set (items (get_or chunks c d)) at o → flat_map items (set chunks c new) ≡ set (flat_map items chunks) i o
    replaced o new d made = replaced_at chunks c at i o new d spot.chunk_within (spot.within d) spot.is made

  -- ---- no chunk is empty

  pub filled_at : (chunks : List X) (c : ℕ) (d : X) → c < length chunks → NoneEmpty items chunks → 0 < length (items (get_or chunks c d))
  filled_at [] c d lt all = absurd (omega (arith, lt))
  filled_at (x ∷ chunks) zero d lt all = all.0
  filled_at (x ∷ chunks) (suc c) d lt all = filled_at chunks c d (omega (arith, lt)) all.1

  pub filled_set : (chunks : List X) (c : ℕ) (new : X) → 0 < length (items new) → NoneEmpty items chunks → NoneEmpty items (set chunks c new)
  filled_set [] c new some all = all
  filled_set (x ∷ chunks) zero new some all = (some, all.1)
  filled_set (x ∷ chunks) (suc c) new some all = (all.0, filled_set chunks c new some all.1)

  halves_filled : (chunks : List X) (c : ℕ) (new front back : X) → c < length chunks → 0 < length (items front) → 0 < length (items back) → NoneEmpty items chunks
      → NoneEmpty items (set (set (insert chunks (suc c) new) c front) (suc c) back)
  halves_filled [] c new front back lt some more all = absurd (omega (arith, lt))
  halves_filled (x ∷ chunks) zero new front back lt some more all = (some, (more, all.1))
  halves_filled (x ∷ chunks) (suc c) new front back lt some more all = (all.0, halves_filled chunks c new front back (omega (arith, lt)) some more all.1)

  pub filled_split : (chunks : List X) (c n : ℕ) (all : List X) (new front back : X) → n ≡ suc c → all ≡ insert chunks n new → c < length chunks → 0 < length (items front) → 0 < length (items back) → NoneEmpty items chunks
      → NoneEmpty items (set (set all c front) n back)
  filled_split chunks c n all new front back next made lt some more filled =
      subst (λ (a : List X). NoneEmpty items (set (set a c front) n back)) (sym made)
      (subst (λ (k : ℕ). NoneEmpty items (set (set (insert chunks k new) c front) k back)) (sym next) (halves_filled chunks c new front back lt some more filled))
