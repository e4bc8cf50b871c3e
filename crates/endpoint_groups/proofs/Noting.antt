-- Groups that note addresses, one after the other.
use Rattle.std.proofs.Common.{◌≡◌, inl, inr, ℕ, ◌+◌, ◌<◌, ◌≤◌, List, length, get_or, slice_set, Option, Some, None, is_none, refl, sym, ap, subst, ◌∙◌, arith}
use Rattle.std.proofs.lemmas.List.{get_or-set_same, get_or-set_other, get_or_past, get_or_read, length-set}
use Rattle.std.proofs.lemmas.Bool.{cases_eq, cases_lt}
use Rattle.view_diff.specs.Earlier.{IsByAddress, Stood, earlier_rows}
use Rattle.view_types.specs.declared.endpoint.EndpointView.{EndpointView}
use Rattle.pending_rows.proofs.Notes.{noting_keeps}
use Rattle.pending_rows.proofs.Own.{by_address}
use Rattle.pending_rows.specs.declared.rows.PendingRows.{PendingRows}
use Rattle.pending_rows.specs.Pending.{last_view}
use Rattle.endpoint_groups.specs.declared.group.Group.{Group}
use Rattle.endpoint_groups.specs.Members.{KeepsShown, Notes, encoding_at, group_at, is_untold, last_view_of, members_at, vacant}

-- ---- what was told

same_none : (before : List Stood) (old new : Option PendingRows) → Notes before old new → is_none new ≡ is_none old
same_none before None None is = refl
same_none before None (Some new) is = absurd is
same_none before (Some old) None is = absurd is
same_none before (Some old) (Some new) is = refl

note_keeps : (before : List Stood) → IsByAddress before → (old new : Option PendingRows) → Notes before old new → (now was : EndpointView) → earlier_rows before now.rows ≡ was.rows → last_view_of new now ≡ last_view_of old was
note_keeps before by None None is now was back = refl
note_keeps before by None (Some new) is now was back = absurd is
note_keeps before by (Some old) None is now was back = absurd is
note_keeps before by (Some old) (Some new) is now was back =
    ap Some
    (ap (λ exists. last_view exists new.pending.items now) is.0
    ∙ noting_keeps old.exists old.pending.items new.pending.items before was now (by_address old.pending.items old.keyed old.own) (by_address new.pending.items new.keyed new.own) by back is.1)

-- ---- groups

module _ {F : Type 0} (before : List Stood) where
  pub record NotesAll (old new : Group F) : Type 0 where
    pub members : new.members ≡ old.members
    pub encoding : new.encoding ≡ None
    pub pending : Notes before old.pending new.pending

  -- the first k groups have noted the addresses, and the others are as they were
  pub record NotesTo (old all : List (Group F)) (k : ℕ) : Type 0 where
    pub len : length all ≡ length old
    pub done : (n : ℕ) → n < k → NotesAll (group_at old n) (group_at all n)
    pub rest : (n : ℕ) → k ≤ n → group_at all n ≡ group_at old n

  pub start : (old : List (Group F)) → NotesTo old old 0
  start old = record { len = refl; done = λ n lt. absurd (omega (arith, lt)); rest = λ n le. refl }

  read : (all : List (Group F)) (k : ℕ) (x : Group F) → k < length all → x ≡ get_or all k x → x ≡ group_at all k
  read all k x lt is = get_or_read all k x lt is vacant

  pub more : (old all : List (Group F)) (k : ℕ) (x v : Group F) → NotesTo old all k → k < length all → x ≡ get_or all k x → NotesAll x v → NotesTo old (slice_set all k v) (k + 1)
  more old all k x v so_far lt is noted = record {
    len = length-set all k v ∙ so_far.len;
    done = λ n le. elim (cases_eq n k) as (λ _. NotesAll (group_at old n) (group_at (slice_set all k v) n)) [
      | inl e ↦ subst (λ (m : ℕ). NotesAll (group_at old m) (group_at (slice_set all k v) m)) (sym e) at_k
      | inr ne ↦ subst (λ (g : Group F). NotesAll (group_at old n) g) (sym (get_or-set_other all k n v vacant ne)) (so_far.done n (omega (arith, le, ne)))
    ];
    rest = λ n le. get_or-set_other all k n v vacant (λ e. omega (arith, le, e)) ∙ so_far.rest n (omega (arith, le));
  }
    where
      at_k : NotesAll (group_at old k) (group_at (slice_set all k v) k)
      at_k =
          subst (λ (g : Group F). NotesAll g (group_at (slice_set all k v) k)) (read all k x lt is ∙ so_far.rest k (omega arith))
          (subst (λ (g : Group F). NotesAll x g) (sym (get_or-set_same all k v vacant lt)) noted)

  module _ (old all : List (Group F)) (k : ℕ) (so_far : NotesTo old all k) where
    pub same_members : (n : ℕ) → members_at all n ≡ members_at old n
    same_members n = elim (cases_lt n k) [
      | inl lt ↦ (so_far.done n lt).members
      | inr le ↦ ap (λ (g : Group F). g.members) (so_far.rest n le)
    ]

    pub same_untold : (n : ℕ) → is_untold (group_at all n) ≡ is_untold (group_at old n)
    same_untold n = elim (cases_lt n k) [
      | inl lt ↦ same_none before _ _ (so_far.done n lt).pending
      | inr le ↦ ap is_untold (so_far.rest n le)
    ]

    pub none_encoded : length all ≤ k → (n : ℕ) → encoding_at all n ≡ None
    none_encoded end n = elim (cases_lt n k) [
      | inl lt ↦ (so_far.done n lt).encoding
      | inr le ↦ ap (λ (g : Group F). g.encoding) (get_or_past all n vacant (omega (arith, end, le)))
    ]

    pub keeps_shown : IsByAddress before → length all ≤ k → KeepsShown before old all
    keeps_shown by end now was back n = elim (cases_lt n k) [
      | inl lt ↦ note_keeps before by _ _ (so_far.done n lt).pending now was back
      | inr le ↦
          let past : group_at all n ≡ vacant = get_or_past all n vacant (omega (arith, end, le)) in
          let was_past : group_at old n ≡ vacant = get_or_past old n vacant (omega (arith, end, le, so_far.len)) in
          ap (λ (g : Group F). last_view_of g.pending now) past ∙ sym (ap (λ (g : Group F). last_view_of g.pending was) was_past)
    ]

    -- where memory runs out at the next group
    module _ (x v : Group F) (lt : k < length all) (is : x ≡ get_or all k x) where
      pub stop_members : v.members ≡ x.members → (n : ℕ) → members_at (slice_set all k v) n ≡ members_at old n
      stop_members same n = elim (cases_eq n k) [
        | inl e ↦ subst (λ (m : ℕ). members_at (slice_set all k v) m ≡ members_at old m) (sym e)
            (ap (λ (g : Group F). g.members) (get_or-set_same all k v vacant lt) ∙ same ∙ ap (λ (g : Group F). g.members) (read all k x lt is) ∙ same_members k)
        | inr ne ↦ ap (λ (g : Group F). g.members) (get_or-set_other all k n v vacant ne) ∙ same_members n
      ]

      pub stop_untold : is_untold v ≡ is_untold x → (n : ℕ) → is_untold (group_at (slice_set all k v) n) ≡ is_untold (group_at old n)
      stop_untold same n = elim (cases_eq n k) [
        | inl e ↦ subst (λ (m : ℕ). is_untold (group_at (slice_set all k v) m) ≡ is_untold (group_at old m)) (sym e)
            (ap is_untold (get_or-set_same all k v vacant lt) ∙ same ∙ ap is_untold (read all k x lt is) ∙ same_untold k)
        | inr ne ↦ ap is_untold (get_or-set_other all k n v vacant ne) ∙ same_untold n
      ]
