-- What was last told stays, while changes are noted.
use Rattle.std.proofs.Common.{◌≡◌, ℕ, Bool, true, false, cond, ◌&&◌, List, [], ◌∷◌, map, Option, Some, None, if◌then◌else◌, refl, sym, ap, ◌∙◌, subst}
use lib.Dec.{T}
use Rattle.std.specs.FinMap as fin
use Rattle.std.specs.FinMap.{find, get, get-from_sorted, get-insert, get-remove, insert, same_map, values}
use Rattle.std.specs.FinMap.Entries.{below_all}
use Rattle.std.specs.List as list
use Rattle.std.specs.List.{All, AllByRecursion}
use Rattle.std.specs.List.Sorted.{IsStrictlySortedBy}
use Rattle.std.specs.Option.{IfSome, is_some, option_or}
use Rattle.std.specs.Ordering.{is_lt}
use Rattle.std.specs.declared.cmp.Ordering.{Ordering}
use Rattle.std.specs.declared.cmp.Ordering.TheVariants.{Less}
use Rattle.std.proofs.lemmas.List.Elements.{All-head, All-tail}
use Rattle.mesh_base.proofs.Keyed.{get_gap, get_hit, inserted, inserted_sorted}
use Rattle.mesh_base.specs.Keyed.{keyed}
use Rattle.mesh_base.specs.Places.{IsGap, IsHit}
use Rattle.view_rules.proofs.Entries.{equal}
use Rattle.view_rules.proofs.Pairs.{pairs_exact, pairs_total}
use Rattle.view_rules.proofs.RowMaps.{Pair, IsOwn, at_pair, own_insert, own_remove, own_rows, shown}
use Rattle.view_rules.specs.Batch.{same_pair}
use Rattle.view_rules.specs.Endpoints.{pair_cmp, pair_of}
use Rattle.view_rules.specs.Fold.{RowMap, row_map}
use Rattle.view_types.specs.declared.endpoint.EndpointRow.{EndpointRow}
use Rattle.view_diff.specs.Earlier.{IsByAddress, Stood, address, earlier_rows, put_at, put_back}
use Rattle.pending_rows.specs.Laws.{NotingKeeps}
use Rattle.pending_rows.specs.Pending.{AreKeyed, Pending, note_one, with_notes, pending_of}

-- ---- what stood at each address

abbrev Rise : List Stood → Type 0
Rise ss = IsStrictlySortedBy pair_cmp (map address ss)

abbrev pub entry_at : List Stood → Pair → Option Stood
entry_at ss q = find pair_cmp q (keyed pair_cmp address (λ s. s) ss)

-- the row that stood, where the address is noted, or else the one now
abbrev pub row_then : Option Stood → Option EndpointRow → Option EndpointRow
row_then None now = now
row_then (Some s) now = s.2

none_at : (q k : Pair) (ss : List Stood) → same_pair q k ≡ true → AllByRecursion (λ p. pair_cmp k p ≡ Less) (map address ss) → entry_at ss q ≡ None
none_at q k [] t h = refl
none_at q k (s ∷ ss) t h =
    let under : pair_cmp q (address s) ≡ Less = pairs_total.congr q k (address s) (equal _ t) ∙ h.0 in
    rw under (none_at q k ss t h.1)

got_at : (pair : Pair) (o : Option EndpointRow) (m : RowMap) (q : Pair) → get (put_at pair o m) q ≡ cond (same_pair q pair) o (get m q)
got_at pair None m q = get-remove pairs_total m pair q
got_at pair (Some row) m q = get-insert pairs_total m pair row q

pub got_back : (ss : List Stood) (m : RowMap) (q : Pair) → Rise ss → get (put_back ss m) q ≡ row_then (entry_at ss q) (get m q)
unfolding IsStrictlySortedBy
got_back [] m q h = refl
got_back (s ∷ ss) m q h =
    got_back ss (put_at (address s) s.2 m) q h.1
    ∙ ap (row_then (entry_at ss q)) (got_at (address s) s.2 m q)
    ∙ elim (same_pair q (address s)) as (λ b. same_pair q (address s) ≡ b → row_then (entry_at ss q) (cond b s.2 (get m q)) ≡ row_then (cond b (Some s) (entry_at ss q)) (get m q)) [
      | true ↦ λ t. ap (λ o. row_then o s.2) (none_at q (address s) ss t h.0)
      | false ↦ λ t. refl
    ] refl

-- ---- rows put back stand at their own addresses

own_at : (pair : Pair) (o : Option EndpointRow) (m : RowMap) → IfSome o (λ row. pair_of row ≡ pair) → IsOwn m → IsOwn (put_at pair o m)
own_at pair None m is own = own_remove m pair own
own_at pair (Some row) m is own = subst (λ k. IsOwn (insert m k row)) is (own_insert m row own)

back_own : (ss : List Stood) (m : RowMap) → All (λ s. IfSome s.2 (λ row. pair_of row ≡ address s)) ss → IsOwn m → IsOwn (put_back ss m)
back_own [] m h own = own
back_own (s ∷ ss) m h own =
    back_own ss (put_at (address s) s.2 m) (All-tail (λ (s : Stood). IfSome s.2 (λ row. pair_of row ≡ address s)) s ss h)
    (own_at (address s) s.2 m (All-head (λ (s : Stood). IfSome s.2 (λ row. pair_of row ≡ address s)) s ss h) own)

-- ---- what is noted at an address: the first of all

one_noted : (s : Stood) (P : Pending) (q : Pair) (rest : Option Stood)
    → option_or (get (note_one s P) q) rest ≡ option_or (get P q) (cond (same_pair q (address s)) (Some s) rest)
one_noted s P q rest =
    elim (get P (address s)) as (λ o. get P (address s) ≡ o → option_or (get (if is_some o then P else insert P (address s) s) q) rest ≡ option_or (get P q) (cond (same_pair q (address s)) (Some s) rest)) [
      | Some x ↦ λ there. elim (same_pair q (address s)) as (λ b. same_pair q (address s) ≡ b → option_or (get P q) rest ≡ option_or (get P q) (cond b (Some s) rest)) [
        | true ↦ λ t.
            let at : get P q ≡ Some x = ap (get P) (at_pair q (address s) t) ∙ there in
            ap (λ o. option_or o rest) at ∙ sym (ap (λ o. option_or o (Some s)) at)
        | false ↦ λ t. refl
      ] refl
      | None ↦ λ none. ap (λ o. option_or o rest) (get-insert pairs_total P (address s) s q)
          ∙ elim (same_pair q (address s)) as (λ b. same_pair q (address s) ≡ b → option_or (cond b (Some s) (get P q)) rest ≡ option_or (get P q) (cond b (Some s) rest)) [
            | true ↦ λ t. sym (ap (λ o. option_or o (Some s)) (ap (get P) (at_pair q (address s) t) ∙ none))
            | false ↦ λ t. refl
          ] refl
    ] refl

got_noted : (before : List Stood) (P : Pending) (q : Pair) → get (with_notes before P) q ≡ option_or (get P q) (entry_at before q)
got_noted [] P q = elim (get P q) as (λ o. o ≡ option_or o None) [ None ↦ refl | Some x ↦ refl ]
got_noted (s ∷ ss) P q = got_noted ss (note_one s P) q ∙ one_noted s P q (entry_at ss q)

-- ---- the law

-- keys that rise are sorted entries
both : (a b : Bool) → T a → T b → T (a && b)
both true b p q = q
both false b p q = absurd p

lesser : (r : Ordering) → r ≡ Less → T (is_lt r)
lesser r e = subst (λ r. T (is_lt r)) (sym e) tt

below : (k : Pair) (ss : List Stood) → AllByRecursion (λ p. pair_cmp k p ≡ Less) (map address ss) → T (below_all pair_cmp k (keyed pair_cmp address (λ s. s) ss))
below k [] h = tt
below k (s ∷ ss) h = both _ _ (lesser _ h.0) (below k ss h.1)

pub rises : (ss : List Stood) → Rise ss → T (fin.is_sorted pair_cmp (keyed pair_cmp address (λ s. s) ss))
unfolding IsStrictlySortedBy
rises [] h = tt
rises (s ∷ ss) h = both _ _ (below (address s) ss h.0) (rises ss h.1)

entry_is : (ss : List Stood) (q : Pair) → Rise ss → get (pending_of ss) q ≡ entry_at ss q
entry_is ss q h = get-from_sorted pair_cmp (keyed pair_cmp address (λ s. s) ss) q (rises ss h)

first_counts : (told changed : Option Stood) (now : Option EndpointRow) → row_then (option_or told changed) now ≡ row_then told (row_then changed now)
first_counts None changed now = refl
first_counts (Some s) changed now = refl

module _ (pending after before : List Stood) (new : List EndpointRow) (pend : IsByAddress pending) (aft : IsByAddress after) (bef : IsByAddress before) (is : pending_of after ≡ with_notes before (pending_of pending)) where
  entry_after : (q : Pair) → entry_at after q ≡ option_or (entry_at pending q) (entry_at before q)
  entry_after q =
      sym (entry_is after q aft.rise) ∙ ap (λ m. get m q) is ∙ got_noted before (pending_of pending) q ∙ ap (λ o. option_or o (entry_at before q)) (entry_is pending q pend.rise)

  same_rows : put_back after (row_map new) ≡ put_back pending (row_map (earlier_rows before new))
  same_rows = same_map pairs_total pairs_exact _ _ (λ q.
      got_back after (row_map new) q aft.rise
      ∙ ap (λ o. row_then o (get (row_map new) q)) (entry_after q)
      ∙ first_counts (entry_at pending q) (entry_at before q) (get (row_map new) q)
      ∙ sym (got_back pending (row_map (earlier_rows before new)) q pend.rise
      ∙ ap (λ m. row_then (entry_at pending q) (get m q)) (shown (put_back before (row_map new)) (back_own before (row_map new) bef.own (own_rows new)))
      ∙ ap (row_then (entry_at pending q)) (got_back before (row_map new) q bef.rise)))

pub noting_keeps : NotingKeeps
noting_keeps exists pending after before old new pend aft bef back is =
    ap (λ rows. record { exists = exists; rows = rows })
    (ap values (same_rows pending after before new.rows pend aft bef is) ∙ ap (λ rows. values (put_back pending (row_map rows))) back)

-- ---- one address

module _ (ss : List Stood) (h : AreKeyed ss) (s : Stood) (i : ℕ) where
  pub stays_noted : IsHit (λ x. pair_cmp (address x) (address s)) ss i → pending_of ss ≡ note_one s (pending_of ss)
  stays_noted hit =
      sym (ap (λ o. if is_some o then pending_of ss else insert (pending_of ss) (address s) s) (get_hit pairs_total pairs_exact address (λ s. s) ss h (address s) i s hit))

  pub now_noted : IsGap (λ x. pair_cmp (address x) (address s)) ss i → pending_of (list.insert ss i s) ≡ note_one s (pending_of ss)
  now_noted gap =
      inserted pairs_total pairs_exact address (λ s. s) ss h s i gap.within gap.parts
      ∙ sym (ap (λ o. if is_some o then pending_of ss else insert (pending_of ss) (address s) s) (get_gap pairs_total pairs_exact address (λ s. s) ss h (address s) i gap))

  pub still_keyed : IsGap (λ x. pair_cmp (address x) (address s)) ss i → AreKeyed (list.insert ss i s)
  still_keyed gap = inserted_sorted pairs_total pairs_exact address (λ s. s) ss h s i gap.within gap.parts
