-- What each id was last shown, once one has another group.
use Rattle.std.proofs.Common.{◌≡◌, inl, inr, ℕ, ◌+◌, ◌<◌, ◌&&◌, ◌||◌, true, false, cond, not, nat_eq, nat_lt, List, Option, Some, None, refl, sym, ap, subst, ◌∙◌, arith}
use Rattle.std.proofs.lemmas.Bool.{cases_Bool}
use Rattle.std.proofs.lemmas.Bool.Decides.{nat_tests}
use Rattle.std.specs.BTreeMap.{BTreeMap}
use Rattle.std.specs.Option.{is_some}
use Rattle.view_types.specs.declared.endpoint.EndpointView.{EndpointView}
use Rattle.endpoint_groups.specs.declared.group.Group.{Group}
use Rattle.endpoint_groups.specs.Members.{Moves, SetsAt, group_at, last_view_of, members_at, one_if, one_less, one_more, with_encoding}
use Rattle.endpoint_groups.proofs.Entering.{itself}
use Rattle.endpoint_groups.proofs.Moving.{fewer, same_number, still}
use Rattle.key_streams.specs.Members.{AreCounted, SetsMember, count_if, encoding_in, group_of, shown_in}
use Rattle.key_streams.proofs.Counts.{has_some}

-- ---- which ids have a group

pub none_there : (o : Option ℕ) → is_some o ≡ false → o ≡ None
none_there None is = refl
none_there (Some n) is = absurd cc

pub one_joins : (id number : ℕ) (members others : BTreeMap ℕ ℕ) → SetsMember id (Some number) members others → (n : ℕ) → is_some (group_of others n) ≡ (nat_eq n id || is_some (group_of members n))
one_joins id number members others sets n = ap is_some (sets.at n) ∙ elim (nat_eq n id) as (λ b. is_some (cond b (Some number) (group_of members n)) ≡ (b || is_some (group_of members n))) [ true ↦ refl | false ↦ refl ]

pub one_leaves : (id : ℕ) (members others : BTreeMap ℕ ℕ) → SetsMember id None members others → (n : ℕ) → is_some (group_of others n) ≡ (not (nat_eq n id) && is_some (group_of members n))
one_leaves id members others sets n = ap is_some (sets.at n) ∙ elim (nat_eq n id) as (λ b. is_some (cond b None (group_of members n)) ≡ (not b && is_some (group_of members n))) [ true ↦ refl | false ↦ refl ]

-- an id that had a group has one
pub one_moves : (id number : ℕ) (members others : BTreeMap ℕ ℕ) → is_some (group_of members id) ≡ true → SetsMember id (Some number) members others → (n : ℕ) → is_some (group_of others n) ≡ is_some (group_of members n)
one_moves id number members others has sets n = elim (cases_Bool (nat_eq n id)) [
  | inl t ↦
      ap is_some (sets.at n) ∙ ap (λ b. is_some (cond b (Some number) (group_of members n))) t
      ∙ sym (subst (λ (k : ℕ). is_some (group_of members k) ≡ true) (sym (same_number n id t)) has)
  | inr f ↦ ap is_some (sets.at n) ∙ ap (λ b. is_some (cond b (Some number) (group_of members n))) f
]

module _ {F : Type 0} where
  -- ---- how many members a group has

  more_counts : (number : ℕ) (old new : List (Group F)) → SetsAt number one_more old new → (n : ℕ) → members_at new n ≡ members_at old n + one_if (nat_eq n number)
  more_counts number old new sets n =
      ap (λ (g : Group F). g.members) (sets n)
      ∙ elim (nat_eq n number) as (λ b. (cond b (one_more (group_at old n)) (group_at old n)).members ≡ members_at old n + one_if b) [ true ↦ refl | false ↦ omega arith ]

  less_counts : (number : ℕ) (old new : List (Group F)) → 0 < members_at old number → SetsAt number one_less old new → (n : ℕ) → members_at new n + one_if (nat_eq n number) ≡ members_at old n
  less_counts number old new some sets n = elim (cases_Bool (nat_eq n number)) [
    | inl t ↦
        let there : 0 < members_at old n = subst (λ (k : ℕ). 0 < members_at old k) (sym (same_number n number t)) some in
        ap (λ (k : ℕ). k + one_if (nat_eq n number)) (ap (λ (g : Group F). g.members) (sets n) ∙ ap (λ b. (cond b (one_less (group_at old n)) (group_at old n)).members) t)
        ∙ ap (λ b. (one_less (group_at old n)).members + one_if b) t
        ∙ fewer (group_at old n) there
    | inr f ↦
        ap (λ (k : ℕ). k + one_if (nat_eq n number)) (ap (λ (g : Group F). g.members) (sets n) ∙ ap (λ b. (cond b (one_less (group_at old n)) (group_at old n)).members) f)
        ∙ ap (λ b. members_at old n + one_if b) f
        ∙ omega arith
  ]

  pub join_counts : (id number : ℕ) (old new : List (Group F)) (members others : BTreeMap ℕ ℕ) → AreCounted old members → is_some (group_of members id) ≡ false → SetsAt number one_more old new → SetsMember id (Some number) members others → AreCounted new others
  join_counts id number old new members others counted free more sets n =
      let a = more_counts number old new more n in
      let b = sets.counts n in
      let c : count_if n (group_of members id) ≡ 0 = ap (count_if n) (none_there _ free) in
      let d = counted n in
      omega (arith, a, b, c, d)

  pub leave_counts : (id number : ℕ) (old new : List (Group F)) (members others : BTreeMap ℕ ℕ) → AreCounted old members → group_of members id ≡ Some number → SetsAt number one_less old new → SetsMember id None members others → AreCounted new others
  leave_counts id number old new members others counted has less sets n =
      let some : 0 < members_at old number = subst (λ (k : ℕ). 0 < k) (sym (counted number)) (has_some members id number has) in
      let a = less_counts number old new some less n in
      let b = sets.counts n in
      let c : count_if n (group_of members id) ≡ one_if (nat_eq n number) = ap (count_if n) has in
      let d = counted n in
      omega (arith, a, b, c, d)

  pub move_counts : (id number to : ℕ) (old new : List (Group F)) (members others : BTreeMap ℕ ℕ) → AreCounted old members → group_of members id ≡ Some number → Moves number to old new → SetsMember id (Some to) members others → AreCounted new others
  move_counts id number to old new members others counted has moves sets n =
      let a = moves.members n in
      let b = sets.counts n in
      let c : count_if n (group_of members id) ≡ one_if (nat_eq n number) = ap (count_if n) has in
      let d = counted n in
      omega (arith, a, b, c, d)

  -- a member more and then one less
  pub back_counts : (number : ℕ) (old mid new : List (Group F)) (members : BTreeMap ℕ ℕ) → AreCounted old members → SetsAt number one_more old mid → SetsAt number one_less mid new → AreCounted new members
  back_counts number old mid new members counted more less n =
      let here = more_counts number old mid more number in
      let one : one_if (nat_eq number number) ≡ 1 = ap one_if (itself number) in
      let some : 0 < members_at mid number = omega (arith, here, one) in
      let a = less_counts number mid new some less n in
      let b = more_counts number old mid more n in
      let d = counted n in
      omega (arith, a, b, d)

  -- ---- what a group was told

  -- a group that has members before and after was told the same
  abbrev pub Stay : List (Group F) → List (Group F) → Type 0
  Stay old new = (n : ℕ) → 0 < members_at old n → 0 < members_at new n → (group_at new n).pending ≡ (group_at old n).pending

  sets_stay : (number : ℕ) (becomes : Group F → Group F) → ((g : Group F) → 0 < (becomes g).members → (becomes g).pending ≡ g.pending) → (old new : List (Group F)) → SetsAt number becomes old new → (n : ℕ) → 0 < members_at new n → (group_at new n).pending ≡ (group_at old n).pending
  sets_stay number becomes keeps old new sets n some =
      ap (λ (g : Group F). g.pending) (sets n)
      ∙ elim (nat_eq n number) as (λ b. 0 < (cond b (becomes (group_at old n)) (group_at old n)).members → (cond b (becomes (group_at old n)) (group_at old n)).pending ≡ (group_at old n).pending) [
        | true ↦ keeps (group_at old n)
        | false ↦ λ _. refl
      ] (subst (λ (g : Group F). 0 < g.members) (sets n) some)

  pub more_stay : (number : ℕ) (old new : List (Group F)) → SetsAt number one_more old new → Stay old new
  more_stay number old new sets n was is = sets_stay number one_more (λ g _. refl) old new sets n is

  pub less_stay : (number : ℕ) (old new : List (Group F)) → SetsAt number one_less old new → Stay old new
  less_stay number old new sets n was is = sets_stay number one_less (λ g some. (still g some).0) old new sets n is

  keeps_told : (encoding : F) (g : Group F) → (with_encoding encoding g).pending ≡ g.pending
  keeps_told encoding g = elim (nat_lt 0 g.members) as (λ b. (cond b (record g { encoding = Some encoding }) g).pending ≡ g.pending) [ true ↦ refl | false ↦ refl ]

  pub kept_stay : (number : ℕ) (encoding : F) (old new : List (Group F)) → SetsAt number (with_encoding encoding) old new → Stay old new
  kept_stay number encoding old new sets n was is = sets_stay number (with_encoding encoding) (λ g _. keeps_told encoding g) old new sets n is

  -- what is kept for a group is that of an id that has it
  pub keeps_for : (id number : ℕ) (encoding : F) (old new : List (Group F)) (members : BTreeMap ℕ ℕ) → AreCounted old members → group_of members id ≡ Some number → SetsAt number (with_encoding encoding) old new → encoding_in new (group_of members id) ≡ Some encoding
  keeps_for id number encoding old new members counted has sets =
      let g = group_at old number in
      let some : 0 < members_at old number = subst (λ (k : ℕ). 0 < k) (sym (counted number)) (has_some members id number has) in
      let test : nat_lt 0 (members_at old number) ≡ true = grind (arith, nat_tests, some) in
      ap (encoding_in new) has
      ∙ ap (λ (g : Group F). g.encoding) (sets number ∙ ap (λ b. cond b (with_encoding encoding g) g) (itself number))
      ∙ ap (λ b. (cond b (record g { encoding = Some encoding }) g).encoding) test

  pub back_stay : (number : ℕ) (old mid new : List (Group F)) → SetsAt number one_more old mid → SetsAt number one_less mid new → Stay old new
  back_stay number old mid new more less n was is =
      let mid_some : 0 < members_at mid n = (let a = more_counts number old mid more n in omega (arith, was, a)) in
      less_stay number mid new less n mid_some is ∙ more_stay number old mid more n was mid_some

  pub moves_stay : (number to : ℕ) (old new : List (Group F)) → Moves number to old new → Stay old new
  moves_stay number to old new moves n was is = (moves.stays n was is).0

  -- ---- what each id was shown

  module _ (old new : List (Group F)) (members others : BTreeMap ℕ ℕ) (counted : AreCounted old members) (recounted : AreCounted new others) (stay : Stay old new) (now : EndpointView) where
    by_group : (id : ℕ) (o : Option ℕ) → group_of members id ≡ o → group_of others id ≡ o → shown_in new now o ≡ shown_in old now o
    by_group id None was is = refl
    by_group id (Some n) was is =
        ap (λ p. last_view_of p now)
        (stay n (subst (λ (k : ℕ). 0 < k) (sym (counted n)) (has_some members id n was)) (subst (λ (k : ℕ). 0 < k) (sym (recounted n)) (has_some others id n is)))

    pub shows_same : (id : ℕ) → group_of others id ≡ group_of members id → shown_in new now (group_of others id) ≡ shown_in old now (group_of members id)
    shows_same id is = ap (shown_in new now) is ∙ by_group id (group_of members id) refl is

    pub sets_shown : (id : ℕ) (number : Option ℕ) (shown : Option EndpointView) → SetsMember id number members others → shown_in new now number ≡ shown
        → (n : ℕ) → shown_in new now (group_of others n) ≡ cond (nat_eq n id) shown (shown_in old now (group_of members n))
    sets_shown id number shown sets is n = elim (cases_Bool (nat_eq n id)) [
      | inl t ↦
          ap (shown_in new now) (sets.at n ∙ ap (λ b. cond b number (group_of members n)) t) ∙ is
          ∙ sym (ap (λ b. cond b shown (shown_in old now (group_of members n))) t)
      | inr f ↦
          shows_same n (sets.at n ∙ ap (λ b. cond b number (group_of members n)) f)
          ∙ sym (ap (λ b. cond b shown (shown_in old now (group_of members n))) f)
    ]
