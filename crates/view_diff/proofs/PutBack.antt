-- What has changed at the addresses that stood otherwise before is all that has changed.
use Rattle.std.proofs.Common.{◌≡◌, ◌==◌, ◌++◌, ℕ, suc, inl, inr, arith, Bool, true, false, cond, not, ◌||◌, if◌then◌else◌, List, [], ◌∷◌, map, length, Option, Some, None, refl, sym, ap, ◌∙◌, subst}
use Rattle.std.specs.FinMap.{get, get-entries, get-insert, get-remove, insert}
use Rattle.std.specs.FinMap as fin
use Rattle.std.specs.List.{All, AllByRecursion, cons_option, filter, filter_map, list_any}
use Rattle.std.specs.List.Sorted.{IsStrictlySortedBy}
use Rattle.std.specs.Option.{IfSome, is_some}
use Rattle.std.specs.declared.cmp.Ordering.TheVariants.{Less}
use Rattle.std.proofs.lemmas.Bool.Decides.{eqb_tells}
use Rattle.std.proofs.lemmas.List.{map-append}
use Rattle.std.proofs.lemmas.List.Elements.{All-head, All-tail, filter_map-append}
use Rattle.view_rules.proofs.Entries.{equal}
use Rattle.view_rules.proofs.Pairs.{pairs_total}
use Rattle.view_rules.proofs.RowMaps.{Pair, IsOwn, IsRising, at_pair, found, found_own, found_there, get_rising, not_there, own_insert, own_remove, own_rows, values_keyed, values_rise}
use Rattle.view_rules.proofs.SameRow.{row_decides}
use Rattle.view_rules.specs.Batch.{changed_rows, gone_pairs, has_pair, has_row, same_pair}
use Rattle.view_rules.specs.Endpoints.{pair_cmp, pair_of}
use Rattle.view_rules.specs.Fold.{RowMap, row_map}
use Rattle.view_rules.specs.Same.{same_row}
use Rattle.view_types.specs.declared.endpoint.EndpointRow.{EndpointRow}
use Rattle.view_diff.proofs.Found.{AreOwn, Rise, chosen, chosen_rising, found_chosen, found_kept, has_found, is_row, kept, kept_rising, same_rows}
use Rattle.view_diff.specs.Earlier.{Stood, IsByAddress, address, changed_at, earlier_rows, gone_at, put_at, put_back, row_if_changed, row_if_gone}

-- ---- what stood at each address

abbrev Own : List Stood → Type 0
Own ss = AllByRecursion (λ s. (x : EndpointRow) → s.2 ≡ Some x → pair_of x ≡ address s) ss

-- what stood at the address, if it is one of these, or else what is there now
abbrev stood : List Stood → Pair → Option EndpointRow → Option EndpointRow
stood [] q now = now
stood (s ∷ ss) q now = cond (same_pair q (address s)) s.2 (stood ss q now)

none_stood : (q k : Pair) (ss : List Stood) (o : Option EndpointRow) → same_pair q k ≡ true → AllByRecursion (λ p. pair_cmp k p ≡ Less) (map address ss) → stood ss q o ≡ o
none_stood q k [] o t h = refl
none_stood q k (s ∷ ss) o t h =
    let under : pair_cmp q (address s) ≡ Less = pairs_total.congr q k (address s) (equal _ t) ∙ h.0 in
    rw under (none_stood q k ss o t h.1)

got_at : (pair : Pair) (o : Option EndpointRow) (m : RowMap) (q : Pair) → get (put_at pair o m) q ≡ cond (same_pair q pair) o (get m q)
got_at pair None m q = get-remove pairs_total m pair q
got_at pair (Some row) m q = get-insert pairs_total m pair row q

got_back : (ss : List Stood) (m : RowMap) (q : Pair) → Rise ss → get (put_back ss m) q ≡ stood ss q (get m q)
unfolding IsStrictlySortedBy
got_back [] m q h = refl
got_back (s ∷ ss) m q h =
    got_back ss (put_at (address s) s.2 m) q h.1
    ∙ ap (stood ss q) (got_at (address s) s.2 m q)
    ∙ elim (same_pair q (address s)) as (λ b. same_pair q (address s) ≡ b → stood ss q (cond b s.2 (get m q)) ≡ cond b s.2 (stood ss q (get m q))) [
      | true ↦ λ t. none_stood q (address s) ss s.2 t h.0
      | false ↦ λ t. refl
    ] refl

own_at : (pair : Pair) (o : Option EndpointRow) (m : RowMap) → ((x : EndpointRow) → o ≡ Some x → pair_of x ≡ pair) → IsOwn m → IsOwn (put_at pair o m)
own_at pair None m is own = own_remove m pair own
own_at pair (Some row) m is own = subst (λ k. IsOwn (insert m k row)) (is row refl) (own_insert m row own)

back_own : (ss : List Stood) (m : RowMap) → Own ss → IsOwn m → IsOwn (put_back ss m)
back_own [] m owns own = own
back_own (s ∷ ss) m owns own = back_own ss (put_at (address s) s.2 m) owns.1 (own_at (address s) s.2 m owns.0 own)

from_all : (ss : List Stood) → All (λ s. IfSome s.2 (λ row. pair_of row ≡ address s)) ss → Own ss
from_all [] h = tt
from_all (s ∷ ss) h =
    let here = All-head (λ (s : Stood). IfSome s.2 (λ row. pair_of row ≡ address s)) s ss h in
    ((λ x e. subst (λ o. IfSome o (λ row. pair_of row ≡ address s)) e here), from_all ss (All-tail (λ (s : Stood). IfSome s.2 (λ row. pair_of row ≡ address s)) s ss h))

-- ---- the rows as they were, and what has changed since

module _ (ss : List Stood) (now : List EndpointRow) (rise : Rise ss) (own : Own ss) (nows : IsRising now) where
  back : RowMap
  back = put_back ss (row_map now)

  backs_own : IsOwn back
  unfolding back
  backs_own = back_own ss (row_map now) own (own_rows now)

  olds : IsRising (earlier_rows ss now)
  unfolding back
  olds = values_rise back backs_own

  found_old : (q : Pair) → found q (earlier_rows ss now) ≡ stood ss q (found q now)
  unfolding back
  found_old q =
      ap (fin.find pair_cmp q) (values_keyed back backs_own) ∙ sym (get-entries back q)
      ∙ got_back ss (row_map now) q rise ∙ ap (stood ss q) (get_rising now q nows)

  -- ---- rows that have changed

  changed_is : (o : Option EndpointRow) (r x : EndpointRow) → row_if_changed o (Some r) ≡ Some x → r ≡ x
  changed_is None r x e = cc e
  changed_is (Some w) r x e = elim (same_row r w) as (λ b. (if b then None else Some r) ≡ Some x → r ≡ x) [
    | true ↦ λ e. absurd (cc e)
    | false ↦ λ e. cc e
  ] e

  changed_own : (ts : List Stood) → AreOwn (changed_at now) ts
  changed_own [] = tt
  changed_own (s ∷ ts) = (
    (λ x e. elim (found (address s) now) as (λ o. found (address s) now ≡ o → row_if_changed s.2 o ≡ Some x → pair_of x ≡ address s) [
      | None ↦ λ t e. absurd (cc e)
      | Some r ↦ λ t e. ap pair_of (sym (changed_is s.2 r x e)) ∙ found_own now (address s) r t
    ] refl e),
    changed_own ts,
  )

  none_changed : (ts : List Stood) (q : Pair) → found q now ≡ None → chosen (changed_at now) ts q ≡ None
  none_changed [] q e = refl
  none_changed (s ∷ ts) q e =
      elim (same_pair q (address s)) as (λ b. same_pair q (address s) ≡ b → cond b (changed_at now s) (chosen (changed_at now) ts q) ≡ None) [
        | true ↦ λ t. ap (row_if_changed s.2) (ap (λ p. found p now) (sym (at_pair q (address s) t)) ∙ e)
        | false ↦ λ t. none_changed ts q e
      ] refl

  changed_here : (o : Option EndpointRow) (r : EndpointRow) → cond (not (is_row r o)) (Some r) None ≡ row_if_changed o (Some r)
  changed_here None r = refl
  changed_here (Some w) r = elim (same_row r w) as (λ b. cond (not b) (Some r) None ≡ (if b then None else Some r)) [ true ↦ refl | false ↦ refl ]

  changed_each : (ts : List Stood) (q : Pair) (r : EndpointRow) → found q now ≡ Some r → cond (not (is_row r (stood ts q (Some r)))) (Some r) None ≡ chosen (changed_at now) ts q
  changed_each [] q r e = ap (λ b. cond (not b) (Some r) None) ((row_decides r r).1 refl)
  changed_each (s ∷ ts) q r e =
      elim (same_pair q (address s)) as (λ b. same_pair q (address s) ≡ b → cond (not (is_row r (cond b s.2 (stood ts q (Some r))))) (Some r) None ≡ cond b (changed_at now s) (chosen (changed_at now) ts q)) [
        | true ↦ λ t. changed_here s.2 r ∙ ap (row_if_changed s.2) (sym e ∙ ap (λ p. found p now) (at_pair q (address s) t))
        | false ↦ λ t. changed_each ts q r e
      ] refl

  is_changed : EndpointRow → Bool
  is_changed r = not (has_row (earlier_rows ss now) r)

  changed_found : (q : Pair) → kept is_changed (found q now) ≡ chosen (changed_at now) ss q
  unfolding is_changed
  changed_found q =
      elim (found q now) as (λ o. found q now ≡ o → kept is_changed o ≡ chosen (changed_at now) ss q) [
        | None ↦ λ e. sym (none_changed ss q e)
        | Some r ↦ λ e.
            let at : pair_of r ≡ q = found_own now q r e in
            let told : has_row (earlier_rows ss now) r ≡ is_row r (stood ss q (Some r)) =
            has_found (earlier_rows ss now) r olds ∙ ap (λ p. is_row r (found p (earlier_rows ss now))) at ∙ ap (is_row r) (found_old q ∙ ap (stood ss q) e) in
            ap (λ b. cond (not b) (Some r) None) told ∙ changed_each ss q r e
      ] refl

  pub all_changed : changed_rows (earlier_rows ss now) now ≡ filter_map (changed_at now) ss
  unfolding is_changed
  all_changed =
      same_rows _ _ (kept_rising is_changed now nows) (chosen_rising (changed_at now) ss rise (changed_own ss))
      (λ q. found_kept is_changed now q nows ∙ changed_found q ∙ sym (found_chosen (changed_at now) ss q rise (changed_own ss)))

  -- ---- rows that are gone

  gone_is : (was o : Option EndpointRow) (x : EndpointRow) → row_if_gone was o ≡ Some x → was ≡ Some x
  gone_is None o x e = absurd (cc e)
  gone_is (Some w) None x e = e
  gone_is (Some w) (Some r) x e = absurd (cc e)

  gone_own : (ts : List Stood) → Own ts → AreOwn (gone_at now) ts
  gone_own [] h = tt
  gone_own (s ∷ ts) h = ((λ x e. h.0 x (gone_is s.2 (found (address s) now) x e)), gone_own ts h.1)

  is_gone : EndpointRow → Bool
  is_gone w = not (has_pair now (pair_of w))

  gone_now : (w r : EndpointRow) (q : Pair) → pair_of w ≡ q → found q now ≡ Some r → is_gone w ≡ false
  unfolding is_gone
  gone_now w r q at e = ap not (ap (has_pair now) at ∙ found_there now q r e)

  gone_here : (was : Option EndpointRow) (q : Pair) → ((x : EndpointRow) → was ≡ Some x → pair_of x ≡ q) → kept is_gone was ≡ row_if_gone was (found q now)
  unfolding is_gone
  gone_here None q own = refl
  gone_here (Some w) q own =
      elim (found q now) as (λ o. found q now ≡ o → cond (is_gone w) (Some w) None ≡ row_if_gone (Some w) o) [
        | None ↦ λ e. ap (λ b. cond (not b) (Some w) None) (ap (has_pair now) (own w refl) ∙ not_there now q e)
        | Some r ↦ λ e. ap (λ b. cond b (Some w) None) (gone_now w r q (own w refl) e)
      ] refl

  gone_none : (q : Pair) → kept is_gone (found q now) ≡ None
  gone_none q =
      elim (found q now) as (λ o. found q now ≡ o → kept is_gone o ≡ None) [
        | None ↦ λ e. refl
        | Some r ↦ λ e. ap (λ b. cond b (Some r) None) (gone_now r r q (found_own now q r e) e)
      ] refl

  gone_each : (ts : List Stood) (q : Pair) → Own ts → kept is_gone (stood ts q (found q now)) ≡ chosen (gone_at now) ts q
  gone_each [] q h = gone_none q
  gone_each (s ∷ ts) q h =
      elim (same_pair q (address s)) as (λ b. same_pair q (address s) ≡ b → kept is_gone (cond b s.2 (stood ts q (found q now))) ≡ cond b (gone_at now s) (chosen (gone_at now) ts q)) [
        | true ↦ λ t. gone_here s.2 (address s) h.0
        | false ↦ λ t. gone_each ts q h.1
      ] refl

  gone_rows : filter is_gone (earlier_rows ss now) ≡ filter_map (gone_at now) ss
  gone_rows =
      same_rows _ _ (kept_rising is_gone (earlier_rows ss now) olds) (chosen_rising (gone_at now) ss rise (gone_own ss own))
      (λ q. found_kept is_gone (earlier_rows ss now) q olds ∙ ap (kept is_gone) (found_old q) ∙ gone_each ss q own ∙ sym (found_chosen (gone_at now) ss q rise (gone_own ss own)))

  pairs_gone : (rows : List EndpointRow) → gone_pairs rows now ≡ map pair_of (filter is_gone rows)
  unfolding is_gone
  pairs_gone [] = refl
  pairs_gone (w ∷ ws) = elim (not (has_pair now (pair_of w))) as (λ b. cond b (pair_of w ∷ gone_pairs ws now) (gone_pairs ws now) ≡ map pair_of (cond b (w ∷ filter is_gone ws) (filter is_gone ws))) [
    | true ↦ ap (λ ps. pair_of w ∷ ps) (pairs_gone ws)
    | false ↦ pairs_gone ws
  ]

  pub all_gone : gone_pairs (earlier_rows ss now) now ≡ map pair_of (filter_map (gone_at now) ss)
  all_gone = pairs_gone (earlier_rows ss now) ∙ ap (map pair_of) gone_rows

-- ---- where there are no rows now

some_len : (n : ℕ) → (suc n == 0) ≡ false
some_len n = elim (eqb_tells (suc n) 0) [
  | inl w ↦ absurd (let none : suc n ≡ 0 = w.1 in omega arith)
  | inr w ↦ w.0
]

module _ (ss : List Stood) (rise : Rise ss) (own : Own ss) where
  stood_then : (ts : List Stood) (q : Pair) → stood ts q None ≡ chosen (λ s. s.2) ts q
  stood_then [] q = refl
  stood_then (s ∷ ts) q = ap (cond (same_pair q (address s)) s.2) (stood_then ts q)

  rows_then : earlier_rows ss [] ≡ filter_map (λ s. s.2) ss
  rows_then =
      same_rows _ _ (olds ss [] rise own tt) (chosen_rising (λ s. s.2) ss rise own)
      (λ q. found_old ss [] rise own tt q ∙ stood_then ss q ∙ sym (found_chosen (λ s. s.2) ss q rise own))

  none_then : (ts : List Stood) → not (length (filter_map (λ (s : Stood). s.2) ts) == 0) ≡ list_any (λ s. is_some s.2) ts
  none_then [] = refl
  none_then (s ∷ ts) = elim s.2 as (λ o. not (length (cons_option o (filter_map (λ (s : Stood). s.2) ts)) == 0) ≡ (is_some o || list_any (λ s. is_some s.2) ts)) [
    | None ↦ none_then ts
    | Some x ↦ ap not (some_len (length (filter_map (λ (s : Stood). s.2) ts)))
  ]

  pub had_rows : list_any (λ s. is_some s.2) ss ≡ not (length (earlier_rows ss []) == 0)
  had_rows = sym (ap (λ rows. not (length rows == 0)) rows_then ∙ none_then ss)

-- ---- by the conditions that a caller meets

module _ (before : List Stood) (now : List EndpointRow) (is : IsByAddress before) (nows : IsRising now) where
  pub changed_since : changed_rows (earlier_rows before now) now ≡ filter_map (changed_at now) before
  changed_since = all_changed before now is.rise (from_all before is.own) nows

  pub gone_since : gone_pairs (earlier_rows before now) now ≡ map pair_of (filter_map (gone_at now) before)
  gone_since = all_gone before now is.rise (from_all before is.own) nows

pub had_rows_since : (before : List Stood) → IsByAddress before → list_any (λ s. is_some s.2) before ≡ not (length (earlier_rows before []) == 0)
had_rows_since before is = had_rows before is.rise (from_all before is.own)

-- ---- one address more

pub change_more : (choose : Stood → Option EndpointRow) (ss : List Stood) (s : Stood) (found new : List EndpointRow) (o : Option EndpointRow) → found ≡ filter_map choose ss → new ≡ found ++ cons_option o [] → o ≡ choose s → new ≡ filter_map choose (ss ++ s ∷ [])
change_more choose ss s found new o so_far is at =
    is ∙ (λ i. so_far i ++ cons_option (at i) []) ∙ sym (filter_map-append choose ss (s ∷ []))

pub gone_more : (choose : Stood → Option EndpointRow) (ss : List Stood) (s : Stood) (found new : List Pair) (o : Option EndpointRow) → found ≡ map pair_of (filter_map choose ss) → new ≡ found ++ map pair_of (cons_option o []) → o ≡ choose s → new ≡ map pair_of (filter_map choose (ss ++ s ∷ []))
gone_more choose ss s found new o so_far is at =
    is ∙ (λ i. so_far i ++ map pair_of (cons_option (at i) [])) ∙ sym (map-append pair_of (filter_map choose ss) (cons_option (choose s) [])) ∙ ap (map pair_of) (sym (filter_map-append choose ss (s ∷ [])))
