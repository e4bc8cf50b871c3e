-- The ids of rows that have numbers: what becomes of them as an id is opened or closed.
use Rattle.std.proofs.Common.{◌≡◌, ◌⊎◌, inl, inr, ℕ, ◌&&◌, ◌||◌, not, Bool, true, false, cond, nat_eq, List, [], ◌∷◌, Option, Some, None, refl, sym, ap, subst, ◌∙◌}
use Rattle.std.proofs.lemmas.Bool.{and_parts, false≢true, lt-ltb, ltb-true}
use Rattle.std.proofs.lemmas.Bool.Decides.{eqb_tells}
use Rattle.std.proofs.lemmas.Cmp.{nat_cmp_total}
use Rattle.std.specs.BTreeMap.{BTreeMap}
use Rattle.std.specs.BTreeSet.{btree_set_len}
use Rattle.std.specs.Cmp.{IsTotalOrder}
use Rattle.std.specs.FinMap.{IsAntisymmetric, nat_cmp-IsAntisymmetric}
use Rattle.std.specs.List.{cons_option, filter_map, list_any}
use Rattle.std.specs.Ordering.{eq_by_cmp, nat_cmp}
use Rattle.std.specs.declared.cmp.Ordering.{Ordering}
use Rattle.mark_graph.specs.RowMarks.{has_row}
use Rattle.row_table.specs.IndexRows.{KeepNumbers, has_key}
use Rattle.row_table.proofs.Keys.{is_itself, is_other, is_same, is_same_back, tells, turned}
use Rattle.row_table.proofs.MarkLists.{same_any}
use Rattle.row_views.specs.Ids.{AddsId, AreTied, RemovesId, SetsAt, has_ids_at, has_ids_in, id_at, id_in, ids_of, is_key, is_number, is_one_of, is_open, key_at, number_of}
use Rattle.row_views.specs.declared.numbered_ids.NumberedIds.{NumberedIds}
use Rattle.row_views.proofs.Ids.{at_id, first_of, or_plain, or_rest, put_ids, some_of, take_ids}

itself : (n : ℕ) → eq_by_cmp nat_cmp n n ≡ true
itself = is_itself nat_cmp nat_cmp_total nat_cmp-IsAntisymmetric

-- ---- ids at a number

pub open_one : (by_number : NumberedIds) (number : Option ℕ) → has_ids_at by_number number ≡ true → (id : ℕ) × (id_at by_number number id ≡ true)
open_one by_number None has = absurd (false≢true has)
open_one by_number (Some n) has = first_of (ids_of by_number n) (ltb-true 0 (btree_set_len (ids_of by_number n)) has)

pub open_where : (by_number : NumberedIds) (number : Option ℕ) (id : ℕ) → id_at by_number number id ≡ true → has_ids_at by_number number ≡ true
open_where by_number None id is = absurd (false≢true is)
open_where by_number (Some n) id is = lt-ltb 0 (btree_set_len (ids_of by_number n)) (some_of (ids_of by_number n) id is)

open_alike : (old new : NumberedIds) (was now : Option ℕ) → ((id : ℕ) → id_at new now id ≡ id_at old was id) → has_ids_at new now ≡ has_ids_at old was
open_alike old new was now same = by (has_ids_at new now) (has_ids_at old was) refl refl
  where
    by : (n o : Bool) → has_ids_at new now ≡ n → has_ids_at old was ≡ o → n ≡ o
    by true true e f = refl
    by false false e f = refl
    by true false e f = let one = open_one new now e in absurd (false≢true (sym f ∙ open_where old was one.0 (sym (same one.0) ∙ one.1)))
    by false true e f = let one = open_one old was f in absurd (false≢true (sym e ∙ open_where new now one.0 (same one.0 ∙ one.1)))

-- ids stand at a number
pub some_number : (by_number : NumberedIds) (number : Option ℕ) → has_ids_at by_number number ≡ true → (n : ℕ) × (number ≡ Some n)
some_number by_number None has = absurd (false≢true has)
some_number by_number (Some n) has = (n, refl)

-- an id that is open with no key stands at no number
unset_nowhere : {Key : Type 0} {cmp : Key → Key → Ordering} {number_at : Key → Option ℕ} {by_number : NumberedIds} {by_id : BTreeMap ℕ Key} → AreTied cmp number_at by_number by_id → (id : ℕ) → key_at by_id id ≡ None → (n : ℕ) → id_in by_number n id ≡ false
unset_nowhere {number_at} {by_number} tied id none n = by (id_in by_number n id) refl
  where
    by : (b : Bool) → id_in by_number n id ≡ b → b ≡ false
    by false e = refl
    by true e = absurd (cc (sym (ap (number_of number_at) none) ∙ tied.alone n id e))

-- the numbers of keys
pub any_number : {Key : Type 0} (by_number : NumberedIds) (number_at : Key → Option ℕ) (id : ℕ) (keys : List Key) → list_any (λ n. id_in by_number n id) (filter_map number_at keys) ≡ list_any (λ key. id_at by_number (number_at key) id) keys
any_number by_number number_at id [] = refl
any_number by_number number_at id (key ∷ keys) = by (number_at key) ∙ ap (λ b. id_at by_number (number_at key) id || b) (any_number by_number number_at id keys)
  where
    by : (o : Option ℕ) → list_any (λ n. id_in by_number n id) (cons_option o (filter_map number_at keys)) ≡ (id_at by_number o id || list_any (λ n. id_in by_number n id) (filter_map number_at keys))
    by None = refl
    by (Some n) = refl

no_number : (numbers : List ℕ) → list_any (λ (n : ℕ). false) numbers ≡ false
no_number [] = refl
no_number (n ∷ numbers) = no_number numbers

module _ {Key : Type 0} (cmp : Key → Key → Ordering) (total : IsTotalOrder cmp) (exact : IsAntisymmetric cmp) where
  -- ids are open with the key of an id
  pub open_there : (number_at : Key → Option ℕ) (by_number : NumberedIds) (by_id : BTreeMap ℕ Key) → AreTied cmp number_at by_number by_id → (id : ℕ) (key : Key) → key_at by_id id ≡ Some key → is_open number_at by_number key ≡ true
  open_there number_at by_number by_id tied id key is = open_where by_number (number_at key) id (tied.ids key id ∙ ap (is_key cmp key) is ∙ is_itself cmp total exact key)

  module _ (number_at : Key → Option ℕ) (by_number : NumberedIds) (by_id : BTreeMap ℕ Key) (tied : AreTied cmp number_at by_number by_id) where
    -- an id stands at the number of its key and at no other
    own_number : (id : ℕ) (key : Key) (number : ℕ) → key_at by_id id ≡ Some key → number_at key ≡ Some number → (n : ℕ) → id_in by_number n id ≡ nat_eq number n
    own_number id key number is own n = elim (eqb_tells number n) [
      | inl same ↦ ap (λ n. id_in by_number n id) (sym same.1) ∙ ap (λ o. id_at by_number o id) (sym own) ∙ tied.ids key id ∙ ap (is_key cmp key) is ∙ is_itself cmp total exact key ∙ sym same.0
      | inr apart ↦ by (id_in by_number n id) refl apart.1 ∙ sym apart.0
    ]
      where
        by : (b : Bool) → id_in by_number n id ≡ b → (number ≡ n → ⊥) → b ≡ false
        by false e apart = refl
        by true e apart = absurd (apart (cc (sym own ∙ sym (ap (number_of number_at) is) ∙ tied.alone n id e)))

    -- the ids at the numbers of keys
    pub ids_met : (numbers : List ℕ) (keys : List Key) → ((k : Key) (n : ℕ) → number_at k ≡ Some n → has_row n numbers ≡ has_key cmp keys k) → (id : ℕ) → list_any (λ n. id_in by_number n id) numbers ≡ is_one_of cmp keys (key_at by_id id)
    ids_met numbers keys met id = by (key_at by_id id) refl
      where
        by : (o : Option Key) → key_at by_id id ≡ o → list_any (λ n. id_in by_number n id) numbers ≡ is_one_of cmp keys o
        by None e = same_any (λ n. id_in by_number n id) (λ n. false) (unset_nowhere tied id e) numbers ∙ no_number numbers
        by (Some k) e =
            let own = some_number by_number (number_at k) (open_there number_at by_number by_id tied id k e) in
            same_any (λ n. id_in by_number n id) (nat_eq own.0) (own_number id k own.0 e own.1) numbers ∙ met k own.0 own.1

  -- ---- one id more

  module _ (number_at next_at : Key → Option ℕ) (by_number new : NumberedIds) (by_id next : BTreeMap ℕ Key) (id : ℕ) (key : Key) (number : ℕ) (tied : AreTied cmp number_at by_number by_id) (free : key_at by_id id ≡ None)
      (is : next_at key ≡ Some number) (keep : KeepNumbers number_at next_at) (others : (k : Key) → eq_by_cmp cmp k key ≡ false → next_at k ≡ number_at k) (apart : (k other : Key) (n : ℕ) → next_at k ≡ Some n → next_at other ≡ Some n → k ≡ other)
      (adds : AddsId (is_number (Some number)) id by_number new) (sets : SetsAt id (Some key) (key_at by_id) (key_at next)) where
    -- no ids stand at the number of a key that had none
    none_before : number_at key ≡ None → (r : ℕ) → id_in by_number number r ≡ false
    none_before none r = by (id_in by_number number r) refl
      where
        of : (o : Option Key) → number_of number_at o ≡ Some number → ⊥
        of None e = cc e
        of (Some k) e = cc (sym e ∙ ap number_at (apart k key number (keep k number e) is) ∙ none)

        by : (b : Bool) → id_in by_number number r ≡ b → b ≡ false
        by false e = refl
        by true e = absurd (of (key_at by_id r) (tied.alone number r e))

    was : (r : ℕ) → id_in by_number number r ≡ id_at by_number (number_at key) r
    was r = by (number_at key) refl
      where
        by : (o : Option ℕ) → number_at key ≡ o → id_in by_number number r ≡ id_at by_number o r
        by None e = none_before e r
        by (Some n) e = ap (λ o. id_at by_number o r) (sym is ∙ keep key n e)

    more_here : (r : ℕ) → id_at new (next_at key) r ≡ ((eq_by_cmp cmp key key && nat_eq r id) || id_at by_number (number_at key) r)
    more_here r = ap (λ o. id_at new o r) is ∙ adds number r ∙ (λ i. (itself number i && nat_eq r id) || was r i) ∙ ap (λ b. (b && nat_eq r id) || id_at by_number (number_at key) r) (sym (is_itself cmp total exact key))

    more_there : (k : Key) → eq_by_cmp cmp key k ≡ false → (r : ℕ) → id_at new (next_at k) r ≡ ((eq_by_cmp cmp key k && nat_eq r id) || id_at by_number (number_at k) r)
    more_there k out r = ap (λ o. id_at new o r) (others k (turned cmp total exact key k out)) ∙ by (number_at k) refl ∙ ap (λ b. (b && nat_eq r id) || id_at by_number (number_at k) r) (sym out)
      where
        other : (n : ℕ) → number_at k ≡ Some n → number ≡ n → ⊥
        other n e same = false≢true (sym out ∙ is_same_back cmp total exact key k (apart key k number is (keep k number (e ∙ ap Some (sym same)))))

        by : (o : Option ℕ) → number_at k ≡ o → id_at new o r ≡ id_at by_number o r
        by None e = refl
        by (Some n) e = adds n r ∙ ap (λ b. (b && nat_eq r id) || id_in by_number n r) (is_other nat_cmp nat_cmp_total nat_cmp-IsAntisymmetric number n (other n e))

    more_at : (k : Key) (r : ℕ) → id_at new (next_at k) r ≡ ((eq_by_cmp cmp key k && nat_eq r id) || id_at by_number (number_at k) r)
    more_at k r = elim (tells cmp total exact key k) [
      | inl same ↦ subst (λ (k : Key). id_at new (next_at k) r ≡ ((eq_by_cmp cmp key k && nat_eq r id) || id_at by_number (number_at k) r)) same.1 (more_here r)
      | inr out ↦ more_there k out.0 r
    ]

    more_alone : (n r : ℕ) → id_in new n r ≡ true → number_of next_at (key_at next r) ≡ Some n
    more_alone n r at = elim (eqb_tells r id) [
      | inl same ↦
          let none : id_in by_number n r ≡ false = unset_nowhere tied r (ap (key_at by_id) same.1 ∙ free) n in
          let mine : eq_by_cmp nat_cmp number n ≡ true = sym (adds n r ∙ (λ i. (eq_by_cmp nat_cmp number n && same.0 i) || none i) ∙ or_plain (eq_by_cmp nat_cmp number n)) ∙ at in
          ap (number_of next_at) (sets r ∙ ap (λ b. cond b (Some key) (key_at by_id r)) same.0) ∙ is ∙ ap Some (is_same nat_cmp nat_cmp_total nat_cmp-IsAntisymmetric number n mine)
      | inr out ↦
          let old : id_in by_number n r ≡ true = sym (adds n r ∙ ap (λ b. (eq_by_cmp nat_cmp number n && b) || id_in by_number n r) out.0 ∙ or_rest (eq_by_cmp nat_cmp number n) (id_in by_number n r)) ∙ at in
          ap (number_of next_at) (sets r ∙ ap (λ b. cond b (Some key) (key_at by_id r)) out.0) ∙ kept (key_at by_id r) (tied.alone n r old)
    ]
      where
        kept : (o : Option Key) → number_of number_at o ≡ Some n → number_of next_at o ≡ Some n
        kept None e = e
        kept (Some k) e = keep k n e

    pub put_tied : AreTied cmp next_at new next
    put_tied = record { ids = put_ids cmp total exact (λ k n. id_at by_number (number_at k) n) (λ k n. id_at new (next_at k) n) by_id next id key tied.ids free more_at sets; alone = more_alone }

    pub put_alike : (k : Key) → eq_by_cmp cmp k key ≡ false → is_open next_at new k ≡ is_open number_at by_number k
    put_alike k out = open_alike by_number new (number_at k) (next_at k) (λ r. more_at k r ∙ ap (λ b. (b && nat_eq r id) || id_at by_number (number_at k) r) (turned cmp total exact k key out))

    pub put_there : is_open next_at new key ≡ true
    put_there = open_there next_at new next put_tied id key (sets id ∙ ap (λ b. cond b (Some key) (key_at by_id id)) (sym (at_id id id) ∙ itself id))

  -- ---- one id less

  module _ (number_at next_at : Key → Option ℕ) (by_number new : NumberedIds) (by_id next : BTreeMap ℕ Key) (id : ℕ) (key : Key) (number : ℕ) (tied : AreTied cmp number_at by_number by_id) (is : key_at by_id id ≡ Some key)
      (at : number_at key ≡ Some number) (apart : (k other : Key) (n : ℕ) → number_at k ≡ Some n → number_at other ≡ Some n → k ≡ other) (others : (k : Key) → eq_by_cmp cmp k key ≡ false → next_at k ≡ number_at k)
      (own : (next_at key ≡ Some number) ⊎ ((next_at key ≡ None) × (has_ids_in new number ≡ false)))
      (takes : RemovesId (is_number (Some number)) id by_number new) (sets : SetsAt id None (key_at by_id) (key_at next)) where
    none_left : has_ids_in new number ≡ false → (r : ℕ) → id_in new number r ≡ false
    none_left none r = by (id_in new number r) refl
      where
        by : (b : Bool) → id_in new number r ≡ b → b ≡ false
        by false e = refl
        by true e = absurd (false≢true (sym none ∙ open_where new (Some number) r e))

    mine : (r : ℕ) → id_at new (next_at key) r ≡ id_in new number r
    mine r = elim own [
      | inl keeps ↦ ap (λ o. id_at new o r) keeps
      | inr none ↦ ap (λ o. id_at new o r) none.0 ∙ sym (none_left none.1 r)
    ]

    less_here : (r : ℕ) → id_at new (next_at key) r ≡ (not (eq_by_cmp cmp key key && nat_eq r id) && id_at by_number (number_at key) r)
    less_here r = mine r ∙ takes number r ∙ (λ i. not (itself number i && nat_eq r id) && id_at by_number (sym at i) r) ∙ ap (λ b. not (b && nat_eq r id) && id_at by_number (number_at key) r) (sym (is_itself cmp total exact key))

    less_there : (k : Key) → eq_by_cmp cmp key k ≡ false → (r : ℕ) → id_at new (next_at k) r ≡ (not (eq_by_cmp cmp key k && nat_eq r id) && id_at by_number (number_at k) r)
    less_there k out r = ap (λ o. id_at new o r) (others k (turned cmp total exact key k out)) ∙ by (number_at k) refl ∙ ap (λ b. not (b && nat_eq r id) && id_at by_number (number_at k) r) (sym out)
      where
        other : (n : ℕ) → number_at k ≡ Some n → number ≡ n → ⊥
        other n e same = false≢true (sym out ∙ is_same_back cmp total exact key k (apart key k number at (e ∙ ap Some (sym same))))

        by : (o : Option ℕ) → number_at k ≡ o → id_at new o r ≡ id_at by_number o r
        by None e = refl
        by (Some n) e = takes n r ∙ ap (λ b. not (b && nat_eq r id) && id_in by_number n r) (is_other nat_cmp nat_cmp_total nat_cmp-IsAntisymmetric number n (other n e))

    less_at : (k : Key) (r : ℕ) → id_at new (next_at k) r ≡ (not (eq_by_cmp cmp key k && nat_eq r id) && id_at by_number (number_at k) r)
    less_at k r = elim (tells cmp total exact key k) [
      | inl same ↦ subst (λ (k : Key). id_at new (next_at k) r ≡ (not (eq_by_cmp cmp key k && nat_eq r id) && id_at by_number (number_at k) r)) same.1 (less_here r)
      | inr out ↦ less_there k out.0 r
    ]

    -- the number of another id's key
    still : (n r : ℕ) → id_in new n r ≡ true → (o : Option Key) → number_of number_at o ≡ Some n → number_of next_at o ≡ Some n
    still n r there None e = e
    still n r there (Some k) e = elim (tells cmp total exact k key) [
      | inr out ↦ others k out.0 ∙ e
      | inl same ↦
          let equal : Some number ≡ Some n = sym at ∙ ap number_at (sym same.1) ∙ e in
          elim own [
            | inl keeps ↦ ap next_at same.1 ∙ keeps ∙ equal
            | inr none ↦ absurd (false≢true (sym (none_left none.1 r) ∙ ap (λ o. id_at new o r) equal ∙ there))
          ]
    ]

    less_alone : (n r : ℕ) → id_in new n r ≡ true → number_of next_at (key_at next r) ≡ Some n
    less_alone n r there =
        let parts = and_parts (not (eq_by_cmp nat_cmp number n && nat_eq r id)) (id_in by_number n r) (sym (takes n r) ∙ there) in
        let alone = tied.alone n r parts.1 in
        elim (eqb_tells r id) [
          | inl same ↦
              let equal : number ≡ n = cc (sym at ∙ sym (ap (number_of number_at) (ap (key_at by_id) same.1 ∙ is)) ∙ alone) in
              absurd (false≢true (sym (λ i. not (is_same_back nat_cmp nat_cmp_total nat_cmp-IsAntisymmetric number n equal i && same.0 i)) ∙ parts.0))
          | inr out ↦ ap (number_of next_at) (sets r ∙ ap (λ b. cond b None (key_at by_id r)) out.0) ∙ still n r there (key_at by_id r) alone
        ]

    pub take_tied : AreTied cmp next_at new next
    take_tied = record { ids = take_ids cmp total exact (λ k n. id_at by_number (number_at k) n) (λ k n. id_at new (next_at k) n) by_id next id key tied.ids is less_at sets; alone = less_alone }

    pub take_alike : (k : Key) → eq_by_cmp cmp k key ≡ false → is_open next_at new k ≡ is_open number_at by_number k
    take_alike k out = open_alike by_number new (number_at k) (next_at k) (λ r. less_at k r ∙ ap (λ b. not (b && nat_eq r id) && id_at by_number (number_at k) r) (turned cmp total exact k key out))
