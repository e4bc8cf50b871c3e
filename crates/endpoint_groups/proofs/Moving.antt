-- A member goes from one group to another.
use Rattle.std.proofs.Common.{◌≡◌, inl, inr, ℕ, ◌+◌, ◌-◌, ◌<◌, ◌≤◌, ◌==◌, ◌&&◌, ◌⊎◌, Bool, true, false, cond, not, nat_eq, nat_lt, List, [], ◌∷◌, length, Option, Some, None, IfSome, refl, sym, ap, subst, ◌∙◌, arith}
use Rattle.std.proofs.lemmas.Bool.{cases_Bool, cases_eq}
use Rattle.std.proofs.lemmas.Bool.Decides.{nat_tests}
use Rattle.std.specs.Bool.{beq}
use Rattle.view_rules.proofs.RowMaps.{keyed_rows, rows_shown}
use Rattle.view_rules.specs.Fold.{IsOrderly}
use Rattle.view_types.specs.declared.endpoint.EndpointView.{EndpointView}
use Rattle.view_diff.specs.Earlier.{Stood}
use Rattle.pending_rows.specs.declared.rows.PendingRows.{PendingRows}
use Rattle.pending_rows.specs.Pending.{last_view}
use Rattle.endpoint_groups.specs.declared.group.Group.{Group}
use Rattle.endpoint_groups.specs.Encoded.{AreEncoded}
use Rattle.endpoint_groups.specs.Members.{Enters, EntersIf, Moves, SetsAt, current_group, encoding_at, group_at, has_told_all, is_current, is_untold, last_view_of, members_at, no_members, one_if, one_less, one_more, shown_at, vacant}
use Rattle.endpoint_groups.proofs.Entering.{itself, set_apart, set_there}

-- ---- two tests at once

both : (a b : Bool) → (a && b) ≡ true → (a ≡ true) × (b ≡ true)
both true b h = (refl, h)
both false b h = absurd cc

same_existence : (pending now : Bool) → beq pending now ≡ true → pending ≡ now
same_existence true true h = refl
same_existence true false h = absurd cc
same_existence false true h = absurd cc
same_existence false false h = refl

no_items : {X : Type 0} (xs : List X) → (length xs == 0) ≡ true → xs ≡ []
no_items [] h = refl
no_items (x ∷ xs) h = absurd (grind (arith, nat_tests, h))

-- what was told as it is now is what is seen now
tells_all : (pending : Option PendingRows) (exists : Bool) (now : EndpointView) → has_told_all exists pending ≡ true → IsOrderly now → now.exists ≡ exists → last_view_of pending now ≡ Some now
tells_all None exists now is orderly same = absurd cc
tells_all (Some pending) exists now is orderly same =
    let parts = both _ _ is in
    let there : pending.exists ≡ now.exists = same_existence pending.exists exists parts.0 ∙ sym same in
    ap Some
    (ap (λ (stood : List Stood). last_view pending.exists stood now) (no_items pending.pending.items parts.1)
    ∙ ap (λ rows. record { exists = pending.exists; rows = rows }) (rows_shown now.rows (keyed_rows now orderly))
    ∙ ap (λ b. record { exists = b; rows = now.rows }) there)

pub same_number : (a b : ℕ) → nat_eq a b ≡ true → a ≡ b
same_number a b h = grind (arith, nat_tests, h)

module _ {F : Type 0} where
  -- ---- one group

  none_left : (g : Group F) → (no_members g).members ≡ 0
  none_left g = elim (is_untold g) as (λ b. (cond b (record g { members = 0 }) vacant).members ≡ 0) [
    | true ↦ refl
    | false ↦ refl
  ]

  pub fewer : (g : Group F) → 0 < g.members → (one_less g).members + 1 ≡ g.members
  fewer g some = elim (cases_Bool (nat_lt 1 g.members)) [
    | inl t ↦ ap (λ b. (cond b (record g { members = g.members - 1 }) (no_members g)).members + 1) t ∙ omega (arith, some)
    | inr f ↦ ap (λ b. (cond b (record g { members = g.members - 1 }) (no_members g)).members + 1) f ∙ ap (λ (k : ℕ). k + 1) (none_left g) ∙ grind (arith, nat_tests, some, f)
  ]

  pub still : (g : Group F) → 0 < (one_less g).members → ((one_less g).pending ≡ g.pending) × ((one_less g).encoding ≡ g.encoding)
  still g some = elim (nat_lt 1 g.members) as (λ b. 0 < (cond b (record g { members = g.members - 1 }) (no_members g)).members → ((cond b (record g { members = g.members - 1 }) (no_members g)).pending ≡ g.pending) × ((cond b (record g { members = g.members - 1 }) (no_members g)).encoding ≡ g.encoding)) [
    | true ↦ λ _. (refl, refl)
    | false ↦ λ none. absurd (omega (arith, none, none_left g))
  ] some

  -- nothing is kept that was made, or it is and so is what was told
  abbrev Keeps : Group F → Group F → Type 0
  Keeps old new = (new.encoding ≡ None) ⊎ ((new.pending ≡ old.pending) × (new.encoding ≡ old.encoding))

  none_keeps : (g : Group F) → Keeps g (no_members g)
  none_keeps g = elim (is_untold g) as (λ b. Keeps g (cond b (record g { members = 0 }) vacant)) [
    | true ↦ inr (refl, refl)
    | false ↦ inl refl
  ]

  less_keeps : (g : Group F) → Keeps g (one_less g)
  less_keeps g = elim (nat_lt 1 g.members) as (λ b. Keeps g (cond b (record g { members = g.members - 1 }) (no_members g))) [
    | true ↦ inr (refl, refl)
    | false ↦ none_keeps g
  ]

  if_keeps : (becomes : Group F → Group F) → ((g : Group F) → Keeps g (becomes g)) → (b : Bool) (g : Group F) → Keeps g (cond b (becomes g) g)
  if_keeps becomes all true g = all g
  if_keeps becomes all false g = inr (refl, refl)

  sets_keep : (n : ℕ) (becomes : Group F → Group F) (old new : List (Group F)) → ((g : Group F) → Keeps g (becomes g)) → SetsAt n becomes old new → (m : ℕ) → Keeps (group_at old m) (group_at new m)
  sets_keep n becomes old new all sets m = subst (λ g. Keeps (group_at old m) g) (sym (sets m)) (if_keeps becomes all (nat_eq m n) (group_at old m))

  -- ---- what was made stays right

  module _ (encode : Option EndpointView → Option F) (now : EndpointView) where
    abbrev Right : Group F → Type 0
    Right g = IfSome g.encoding (λ encoding. encode (last_view_of g.pending now) ≡ Some encoding)

    still_right : (old new : Group F) → Keeps old new → Right old → Right new
    still_right old new (inl none) right = subst (λ (o : Option F). IfSome o (λ encoding. encode (last_view_of new.pending now) ≡ Some encoding)) (sym none) tt
    still_right old new (inr same) right =
        subst (λ (o : Option F). IfSome o (λ encoding. encode (last_view_of new.pending now) ≡ Some encoding)) (sym same.1)
        (subst (λ (t : Option PendingRows). IfSome old.encoding (λ encoding. encode (last_view_of t now) ≡ Some encoding)) (sym same.0) right)

    all_right : (old new : List (Group F)) → ((m : ℕ) → Keeps (group_at old m) (group_at new m)) → AreEncoded encode now old → AreEncoded encode now new
    all_right old new keeps right n = still_right (group_at old n) (group_at new n) (keeps n) (right n)

    leave_encodes : (n : ℕ) (old new : List (Group F)) → SetsAt n one_less old new → AreEncoded encode now old → AreEncoded encode now new
    leave_encodes n old new sets = all_right old new (sets_keep n one_less old new less_keeps sets)

  -- ---- one member more

  record Entry (exists : Bool) (to : ℕ) (old mid : List (Group F)) : Type 0 where
    others : (n : ℕ) → nat_eq n to ≡ false → group_at mid n ≡ group_at old n
    more : members_at mid to ≡ members_at old to + 1
    same : 0 < members_at old to → ((group_at mid to).pending ≡ (group_at old to).pending) × (encoding_at mid to ≡ encoding_at old to)
    keeps : Keeps (group_at old to) (group_at mid to)
    current : is_current exists (group_at mid to) ≡ true

  more_current : (exists : Bool) (g : Group F) → is_current exists g ≡ true → is_current exists (one_more g) ≡ true
  more_current exists g is =
      let some : not (g.members + 1 == 0) ≡ true = grind (arith, nat_tests) in
      ap (λ b. b && has_told_all exists g.pending) some ∙ (both _ _ is).1

  entry : (exists : Bool) (current to : ℕ) (old mid : List (Group F)) → Enters exists current to old mid → Entry exists to old mid
  entry exists current to old mid enters =
      elim (is_current exists (group_at old current)) as (λ b. is_current exists (group_at old current) ≡ b → EntersIf b exists current to old mid → Entry exists to old mid) [
        | true ↦ λ is joins.
            let there : group_at mid to ≡ one_more (group_at old to) = set_there to one_more old mid joins.1 in
            record {
              others = set_apart to one_more old mid joins.1;
              more = ap (λ (g : Group F). g.members) there;
              same = λ some. (ap (λ (g : Group F). g.pending) there, ap (λ (g : Group F). g.encoding) there);
              keeps = inr (ap (λ (g : Group F). g.pending) there, ap (λ (g : Group F). g.encoding) there);
              current = ap (is_current exists) there ∙ more_current exists (group_at old to) (ap (λ (k : ℕ). is_current exists (group_at old k)) joins.0 ∙ is);
            }
        | false ↦ λ is opening. record {
          others = opening.others;
          more = opening.one ∙ sym (ap (λ (k : ℕ). k + 1) opening.free.members);
          same = λ some. absurd (omega (arith, some, opening.free.members));
          keeps = inl opening.unencoded;
          current = opening.current;
        }
      ] refl enters

  module _ (exists : Bool) (current to number : ℕ) (old mid new : List (Group F)) (enters : Enters exists current to old mid) (left : SetsAt number one_less mid new) where
    in_mid : Entry exists to old mid
    in_mid = entry exists current to old mid enters

    mid_keeps : (n : ℕ) → Keeps (group_at old n) (group_at mid n)
    mid_keeps n = elim (cases_Bool (nat_eq n to)) [
      | inl e ↦ subst (λ (k : ℕ). Keeps (group_at old k) (group_at mid k)) (sym (same_number n to e)) in_mid.keeps
      | inr f ↦ subst (λ g. Keeps (group_at old n) g) (sym (in_mid.others n f)) (inr (refl, refl))
    ]

    pub move_encodes : (encode : Option EndpointView → Option F) (now : EndpointView) → AreEncoded encode now old → AreEncoded encode now new
    move_encodes encode now right = leave_encodes encode now number mid new left (all_right encode now old mid mid_keeps right)

    mid_members : (n : ℕ) → members_at mid n ≡ members_at old n + one_if (nat_eq n to)
    mid_members n = elim (cases_Bool (nat_eq n to)) [
      | inl e ↦ subst (λ (k : ℕ). members_at mid k ≡ members_at old k + 1) (sym (same_number n to e)) in_mid.more ∙ sym (ap (λ b. members_at old n + one_if b) e)
      | inr f ↦ ap (λ (g : Group F). g.members) (in_mid.others n f) ∙ omega arith ∙ sym (ap (λ b. members_at old n + one_if b) f)
    ]

    no_less : (n : ℕ) → members_at old n ≤ members_at mid n
    no_less n = let e = mid_members n in omega (arith, e)

    after_leave : group_at new number ≡ one_less (group_at mid number)
    after_leave = set_there number one_less mid new left

    new_pending : (n : ℕ) → 0 < members_at new n → ((group_at new n).pending ≡ (group_at mid n).pending) × (encoding_at new n ≡ encoding_at mid n)
    new_pending n some = elim (cases_eq n number) [
      | inl e ↦ subst (λ (k : ℕ). ((group_at new k).pending ≡ (group_at mid k).pending) × (encoding_at new k ≡ encoding_at mid k)) (sym e)
          (subst (λ (g : Group F). (g.pending ≡ (group_at mid number).pending) × (g.encoding ≡ encoding_at mid number)) (sym after_leave)
          (still (group_at mid number) (subst (λ (k : ℕ). 0 < k) (ap (λ (k : ℕ). members_at new k) e ∙ ap (λ (g : Group F). g.members) after_leave) some)))
      | inr ne ↦
          let apart : nat_eq n number ≡ false = grind (arith, nat_tests, ne) in
          let same = set_apart number one_less mid new left n apart in
          (ap (λ (g : Group F). g.pending) same, ap (λ (g : Group F). g.encoding) same)
    ]

    mid_pending : (n : ℕ) → 0 < members_at old n → ((group_at mid n).pending ≡ (group_at old n).pending) × (encoding_at mid n ≡ encoding_at old n)
    mid_pending n some = elim (cases_Bool (nat_eq n to)) [
      | inl e ↦
          let is : n ≡ to = same_number n to e in
          subst (λ (k : ℕ). ((group_at mid k).pending ≡ (group_at old k).pending) × (encoding_at mid k ≡ encoding_at old k)) (sym is) (in_mid.same (subst (λ (k : ℕ). 0 < members_at old k) is some))
      | inr f ↦
          let same = in_mid.others n f in
          (ap (λ (g : Group F). g.pending) same, ap (λ (g : Group F). g.encoding) same)
    ]

    module _ (some : 0 < members_at old number) where
      new_members : (n : ℕ) → members_at new n + one_if (nat_eq n number) ≡ members_at mid n
      new_members n = elim (cases_eq n number) [
        | inl e ↦ subst (λ (k : ℕ). members_at new k + one_if (nat_eq k number) ≡ members_at mid k) (sym e)
            (ap (λ b. members_at new number + one_if b) (itself number) ∙ ap (λ (g : Group F). g.members + 1) after_leave
            ∙ fewer (group_at mid number) (let more = no_less number in omega (arith, some, more)))
        | inr ne ↦
            let apart : nat_eq n number ≡ false = grind (arith, nat_tests, ne) in
            ap (λ b. members_at new n + one_if b) apart ∙ omega arith ∙ ap (λ (g : Group F). g.members) (set_apart number one_less mid new left n apart)
      ]

      pub moves : Moves number to old new
      moves = record {
        members = λ n. new_members n ∙ mid_members n;
        stays = λ n was is.
            let first = mid_pending n was in
            let later = new_pending n is in
            (later.0 ∙ first.0, later.1 ∙ first.1);
      }

      has_some : 0 < members_at new to
      has_some =
          let here = new_members to in
          let was = mid_members to in
          let t : one_if (nat_eq to to) ≡ 1 = ap one_if (itself to) in
          elim (cases_eq to number) [
            | inl e ↦
                let more : 0 < members_at old to = subst (λ (k : ℕ). 0 < members_at old k) (sym e) some in
                let one : one_if (nat_eq to number) ≡ 1 = ap (λ (k : ℕ). one_if (nat_eq to k)) (sym e) ∙ t in
                omega (arith, here, was, t, one, more)
            | inr ne ↦
                let none : one_if (nat_eq to number) ≡ 0 = ap one_if (let apart : nat_eq to number ≡ false = grind (arith, nat_tests, ne) in apart) in
                omega (arith, here, was, t, none)
          ]

      pub target_is_current : is_current exists (group_at new to) ≡ true
      target_is_current =
          let filled : not (members_at new to == 0) ≡ true = (let h = has_some in grind (arith, nat_tests, h)) in
          ap (λ b. b && has_told_all exists (group_at new to).pending) filled ∙ ap (has_told_all exists) (new_pending to has_some).0 ∙ (both _ _ in_mid.current).1

      pub move_shows : (now : EndpointView) → IsOrderly now → now.exists ≡ exists → shown_at new to now ≡ Some now
      move_shows now orderly same = tells_all (group_at new to).pending exists now (both _ _ target_is_current).1 orderly same

      pub move_is_current : current_group exists to new ≡ Some to
      move_is_current = ap (λ b. cond b (Some to) None) target_is_current
