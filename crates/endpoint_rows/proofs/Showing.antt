-- What is shown, and what stood there before.
use Rattle.std.proofs.Common.{◌≡◌, ℕ, zero, suc, ◌<◌, Bool, true, false, cond, ◌&&◌, ◌||◌, get_or, length, take, map, List, [], ◌∷◌, ◌++◌, Option, Some, None, IfSome, inl, inr, refl, sym, ap, subst, ◌∙◌, append-nil, append_assoc, arith}
use lib.Dec.{T}
use Rattle.std.specs.BTreeMap.{IsOrdered}
use Rattle.std.specs.Cmp.{eq_by_cmp_equiv, tied_itself}
use Rattle.std.specs.FinMap.Entries.{below_all}
use Rattle.std.specs.List.{All, AllByRecursion, cons_option, filter_map}
use Rattle.std.specs.List.Sorted.{IsStrictlySortedBy}
use Rattle.std.specs.Option.{option_to_list}
use Rattle.std.specs.Ordering.{is_eq, is_lt}
use Rattle.std.specs.declared.cmp.Ordering.{Ordering}
use Rattle.std.specs.declared.cmp.Ordering.TheVariants.{Less}
use Rattle.std.proofs.lemmas.List.Elements.{All-append, All-from_recursion}
use Rattle.std.proofs.lemmas.List.Folds.{list_any-append}
use Rattle.key_lists.specs.Keys.{is_key}
use Rattle.mesh_base.proofs.Keyed.{rest_apart}
use Rattle.mesh_base.specs.Keyed.{IsKeyed, keyed}
use Rattle.mesh_base.specs.KeyOrder.{key_cmp}
use Rattle.mesh_base.specs.declared.key.ObjKey.{ObjKey}
use Rattle.view_rules.proofs.Among.{Among}
use Rattle.view_rules.proofs.Entries.{first, second}
use Rattle.view_rules.proofs.KeptOnce.{keys_rise, order_keeps, order_rises}
use Rattle.view_rules.proofs.Pairs.{pairs_exact, pairs_total}
use Rattle.view_rules.proofs.RowMaps.{at_pair}
use Rattle.view_rules.proofs.SameRow.{row_decides}
use Rattle.view_rules.specs.Batch.{has_pair, same_pair}
use Rattle.view_rules.specs.Endpoints.{first_rows, pair_cmp, pair_of}
use Rattle.view_rules.specs.InOrder.{in_order_by}
use Rattle.view_rules.specs.Same.{same_option, same_row}
use Rattle.view_types.specs.declared.endpoint.EndpointRow.{EndpointRow}
use Rattle.view_diff.specs.Earlier.{IsByAddress, Stood, address}
use Rattle.endpoint_rows.specs.Before.{AddsNote, TellsBefore, note_at, note_of}
use Rattle.row_places.specs.Rows.{row_at}
use Rattle.endpoint_rows.specs.Kept.{Pair, Replaces, ReplacesAll, Rises, RowsBySlice, Shows, all_rows, has, rows_of}
use Rattle.endpoint_rows.proofs.KeysAt.{one_key}
use Rattle.endpoint_rows.proofs.ByKey.{all_alike, gives}
use Rattle.view_diff.proofs.Found.{same_rows}
use Rattle.endpoint_rows.proofs.Found.{first_at, first_rises, has_pairs, none_at, own_row}

neither : (a b : Bool) → (a || b) ≡ false → (a ≡ false) × (b ≡ false)
neither true b e = cc
neither false b e = (refl, e)

-- ---- rows that are the same

pub option_same : (a b : Option EndpointRow) → same_option same_row a b ≡ true → a ≡ b
option_same None None e = refl
option_same None (Some s) e = cc
option_same (Some r) None e = cc
option_same (Some r) (Some s) e = ap Some ((row_decides r s).0 e)

same_itself : (a : Option EndpointRow) → same_option same_row a a ≡ true
same_itself None = refl
same_itself (Some r) = (row_decides r r).1 refl

-- ---- one slice changes

module _ (by new : RowsBySlice) (ordered : IsOrdered key_cmp by) (sorted : IsOrdered key_cmp new) (key : ObjKey) (rows : List EndpointRow) (changed : (k : ObjKey) → rows_of new k ≡ cond (is_key k key) rows (rows_of by k)) where
  same_given : (q : Pair) → row_at (rows_of by key) q ≡ None → row_at rows q ≡ None → (k : ObjKey) → gives by q k ≡ gives new q k
  same_given q was now k =
      elim (is_key k key) as (λ b. is_key k key ≡ b → row_at (rows_of by k) q ≡ row_at (cond b rows (rows_of by k)) q) [
        | true ↦ λ e. ap (λ k. row_at (rows_of by k) q) (one_key k key e) ∙ was ∙ sym now
        | false ↦ λ e. refl
      ] refl ∙ ap (λ rows. row_at rows q) (sym (changed k))

  pub change_shows : (touched after : List Pair) (touching shown : List EndpointRow) → Shows touched (all_rows by) shown → after ≡ touched ++ map pair_of touching
      → ((q : Pair) → has_pair touching q ≡ false → (row_at (rows_of by key) q ≡ None) × (row_at rows q ≡ None)) → Shows after (all_rows new) shown
  change_shows touched after touching shown shows more apart = record {
    rise = shows.rise;
    rest = λ q e.
        let both = neither (has touched q) _ (sym (list_any-append (same_pair q) touched (map pair_of touching)) ∙ ap (λ ps. has ps q) (sym more) ∙ e) in
        let none = apart q (sym (has_pairs q touching) ∙ both.1) in
        shows.rest q both.0 ∙ all_alike by new ordered sorted q (same_given q none.0 none.1);
  }

-- all that was shown is touched
pub restart_shows : (touched after : List Pair) (all shown : List EndpointRow) → Rises shown → after ≡ touched ++ map pair_of shown → all ≡ [] → Shows after all shown
restart_shows touched after all shown rises more none = record {
  rise = rises;
  rest = λ q e.
      let both = neither (has touched q) _ (sym (list_any-append (same_pair q) touched (map pair_of shown)) ∙ ap (λ ps. has ps q) (sym more) ∙ e) in
      none_at q shown (sym (has_pairs q shown) ∙ both.1) ∙ sym (ap (λ rows. row_at rows q) none);
}

-- ---- pair after pair

pub nothing_replaced : (all old : List EndpointRow) → Rises old → ReplacesAll [] all old old
nothing_replaced all old rises = record { rise = rises; rows = λ q. refl }

turn : (a b : Bool) → (a || (b || false)) ≡ (a || b)
turn true b = refl
turn false true = refl
turn false false = refl

any_last : (a : Bool) → (a || true) ≡ true
any_last true = refl
any_last false = refl

any_first : (a : Bool) → (a || false) ≡ a
any_first true = refl
any_first false = refl

has_more : (pairs : List Pair) (pair q : Pair) → has (pairs ++ pair ∷ []) q ≡ (has pairs q || same_pair q pair)
has_more pairs pair q = list_any-append (same_pair q) pairs (pair ∷ []) ∙ turn (has pairs q) (same_pair q pair)

pub replaced_more : (pairs : List Pair) (pair : Pair) (all old mid new : List EndpointRow) → ReplacesAll pairs all old mid → Replaces pair (row_at all pair) mid new → ReplacesAll (pairs ++ pair ∷ []) all old new
replaced_more pairs pair all old mid new so_far one = record {
  rise = one.rise;
  rows = λ q.
      one.rows q ∙ ap (cond (same_pair q pair) (row_at all pair)) (so_far.rows q)
      ∙ elim (same_pair q pair) as (λ b. same_pair q pair ≡ b → cond b (row_at all pair) (cond (has pairs q) (row_at all q) (row_at old q)) ≡ cond (has pairs q || b) (row_at all q) (row_at old q)) [
        | true ↦ λ t. ap (λ p. row_at all p) (sym (at_pair q pair t)) ∙ ap (λ b. cond b (row_at all q) (row_at old q)) (sym (any_last (has pairs q)))
        | false ↦ λ t. ap (λ b. cond b (row_at all q) (row_at old q)) (sym (any_first (has pairs q)))
      ] refl
      ∙ ap (λ b. cond b (row_at all q) (row_at old q)) (sym (has_more pairs pair q));
}

abbrev pub AreInOrder : List Pair → Type 0
AreInOrder pairs = IsKeyed pair_cmp (λ (pair : Pair). pair) (λ pair. pair) pairs

-- a pair isn't among those before it
pub not_yet : (pairs : List Pair) → AreInOrder pairs → (i : ℕ) (d : Pair) → i < length pairs → has (take i pairs) (get_or pairs i d) ≡ false
not_yet [] rises i d lt = absurd (omega arith)
not_yet (p ∷ ps) rises zero d lt = refl
not_yet (p ∷ ps) rises (suc i) d lt =
    let apart : same_pair p (get_or ps i d) ≡ false = rest_apart pairs_total pairs_exact (λ (pair : Pair). pair) (λ pair. pair) p ps p rises (ap is_eq (tied_itself pairs_total p)) i d (omega arith) in
    ap (λ b. b || has (take i ps) (get_or ps i d)) ((eq_by_cmp_equiv pairs_total).symm (get_or ps i d) p ∙ apart) ∙ not_yet ps (second _ _ rises) i d (omega arith)

pub found_more : {X Y : Type 0} (f : X → Option Y) (xs : List X) (x : X) → filter_map f (xs ++ x ∷ []) ≡ filter_map f xs ++ option_to_list (f x)
found_more f [] x = elim (f x) as (λ found. cons_option found [] ≡ option_to_list found) [ None ↦ refl | Some y ↦ refl ]
found_more f (z ∷ zs) x = ap (cons_option (f z)) (found_more f zs x) ∙ elim (f z) as (λ found. cons_option found (filter_map f zs ++ option_to_list (f x)) ≡ cons_option found (filter_map f zs) ++ option_to_list (f x)) [ None ↦ refl | Some y ↦ refl ]

pub notes_more : (pairs : List Pair) (pair : Pair) (all old mid : List EndpointRow) (notes new : List Stood) → ReplacesAll pairs all old mid → has pairs pair ≡ false
    → notes ≡ filter_map (note_of old all) pairs → new ≡ notes ++ option_to_list (note_of mid all pair) → new ≡ filter_map (note_of old all) (pairs ++ pair ∷ [])
notes_more pairs pair all old mid notes new so_far fresh is one =
    let here : row_at mid pair ≡ row_at old pair = so_far.rows pair ∙ ap (λ b. cond b (row_at all pair) (row_at old pair)) fresh in
    one ∙ ap (λ (row : Option EndpointRow). notes ++ option_to_list (cond {A = Option Stood} (same_option same_row row (row_at all pair)) None (Some (pair.0, pair.1, row)))) here
    ∙ ap (λ notes. notes ++ option_to_list (note_of old all pair)) is ∙ sym (found_more (note_of old all) pairs pair)

-- ---- all pairs that were touched

in_list : (q : Pair) (ps : List Pair) → has ps q ≡ true → Among q ps
in_list q [] e = absurd (cc e)
in_list q (p ∷ ps) e =
    elim (same_pair q p) as (λ b. same_pair q p ≡ b → (b || has ps q) ≡ true → Among q (p ∷ ps)) [
      | true ↦ λ t e. inl (sym (at_pair q p t))
      | false ↦ λ t e. inr (in_list q ps e)
    ] refl e

of_list : (q : Pair) (ps : List Pair) → Among q ps → has ps q ≡ true
of_list q [] at = absurd at
of_list q (p ∷ ps) at = elim at [
  | inl e ↦ ap (λ p. same_pair q p || has ps q) e ∙ ap (λ b. b || has ps q) (ap is_eq (tied_itself pairs_total q))
  | inr rest ↦ ap (λ b. same_pair q p || b) (of_list q ps rest) ∙ any_last (same_pair q p)
]

map_same : (ps : List Pair) → map (λ (pair : Pair). pair) ps ≡ ps
map_same [] = refl
map_same (p ∷ ps) = ap (λ rest. p ∷ rest) (map_same ps)

abbrev pub once : List Pair → List Pair
once ps = in_order_by pair_cmp (λ (pair : Pair). pair) ps

pub untouched : (ps : List Pair) (q : Pair) → has (once ps) q ≡ false → has ps q ≡ false
untouched ps q e =
    elim (has ps q) as (λ b. has ps q ≡ b → b ≡ false) [
      | true ↦ λ t. absurd (
          let kept : Among q (once ps) = subst (Among q) (map_same (once ps)) (order_keeps pairs_total pairs_exact (λ (pair : Pair). pair) ps q (in_list q ps t)) in
          let no : true ≡ false = sym (of_list q (once ps) kept) ∙ e in cc no)
      | false ↦ λ t. refl
    ] refl

both : (a b : Bool) → T a → T b → T (a && b)
both true b p q = q
both false b p q = absurd p

-- a list that strictly rises is in the order of its own items
module _ {K : Type 0} (cmp : K → K → Ordering) where
  below : (k : K) (ks : List K) → AllByRecursion (λ x. cmp k x ≡ Less) ks → T (below_all cmp k (keyed cmp (λ (x : K). x) (λ x. x) ks))
  below k [] h = tt
  below k (x ∷ xs) h = both _ _ (subst (λ r. T (is_lt r)) (sym h.0) tt) (below k xs h.1)

  pub sorted_rises : (ks : List K) → IsStrictlySortedBy cmp ks → IsKeyed cmp (λ (x : K). x) (λ x. x) ks
  unfolding IsStrictlySortedBy
  sorted_rises [] h = tt
  sorted_rises (k ∷ ks) h = both _ _ (below k ks h.0) (sorted_rises ks h.1)

pub once_sorted : (ps : List Pair) → IsStrictlySortedBy pair_cmp (once ps)
once_sorted ps = subst (IsStrictlySortedBy pair_cmp) (map_same (once ps)) (order_rises pairs_total pairs_exact (λ (pair : Pair). pair) ps)

pub once_rises : (ps : List Pair) → AreInOrder (once ps)
once_rises ps = sorted_rises pair_cmp (once ps) (once_sorted ps)

pub replaced_as : (touched pairs : List Pair) (all shown old new rows : List EndpointRow) → pairs ≡ once touched → old ≡ shown → rows ≡ new → ReplacesAll pairs all old new → ReplacesAll (once touched) all shown rows
replaced_as touched pairs all shown old new rows once_is old_is new_is replaced =
    subst (λ rows. ReplacesAll (once touched) all shown rows) (sym new_is)
    (subst (λ old. ReplacesAll (once touched) all old new) old_is (subst (λ pairs. ReplacesAll pairs all old new) once_is replaced))

module _ (touched : List Pair) (all shown rows : List EndpointRow) (shows : Shows touched all shown) (replaced : ReplacesAll (once touched) all shown rows) where
  pub shown_at : (q : Pair) → row_at rows q ≡ row_at all q
  shown_at q =
      replaced.rows q ∙ elim (has (once touched) q) as (λ b. has (once touched) q ≡ b → cond b (row_at all q) (row_at shown q) ≡ row_at all q) [
        | true ↦ λ t. refl
        | false ↦ λ t. shows.rest q (untouched touched q t)
      ] refl

  pub all_shown : rows ≡ first_rows all
  all_shown = same_rows rows (first_rows all) replaced.rise (first_rises all) (λ q. shown_at q ∙ sym (first_at q all))

  pub settled_shows : Shows [] all rows
  settled_shows = record { rise = replaced.rise; rest = λ q e. shown_at q }

-- ---- notes

-- a row that stood somewhere is of that address and port
abbrev pub IsOwn : Stood → Type 0
IsOwn s = IfSome s.2 (λ row. pair_of row ≡ address s)

module _ (old all : List EndpointRow) where
  abbrev same_at : Pair → Bool
  same_at q = same_option same_row (row_at old q) (row_at all q)

  abbrev note : Pair → Stood
  note q = (q.0, q.1, row_at old q)

  notes_below : (p : Pair) (ps : List Pair) → T (below_all pair_cmp p (keyed pair_cmp (λ (pair : Pair). pair) (λ pair. pair) ps)) → T (below_all pair_cmp p (keyed pair_cmp address (λ note. note) (filter_map (note_of old all) ps)))
  notes_below p [] h = tt
  notes_below p (q ∷ qs) h =
      elim (same_at q) as (λ b. T (below_all pair_cmp p (keyed pair_cmp address (λ note. note) (cons_option (cond b None (Some (note q))) (filter_map (note_of old all) qs))))) [
        | true ↦ notes_below p qs (second _ _ h)
        | false ↦ both _ _ (first _ _ h) (notes_below p qs (second _ _ h))
      ]

  notes_rise : (ps : List Pair) → AreInOrder ps → IsKeyed pair_cmp address (λ note. note) (filter_map (note_of old all) ps)
  notes_rise [] h = tt
  notes_rise (p ∷ ps) h =
      elim (same_at p) as (λ b. IsKeyed pair_cmp address (λ note. note) (cons_option (cond b None (Some (note p))) (filter_map (note_of old all) ps))) [
        | true ↦ notes_rise ps (second _ _ h)
        | false ↦ both _ _ (notes_below p ps (first _ _ h)) (notes_rise ps (second _ _ h))
      ]

  own_at : (q : Pair) (row : Option EndpointRow) → row_at old q ≡ row → IfSome row (λ r. pair_of r ≡ q)
  own_at q None e = tt
  own_at q (Some r) e = own_row old q r e

  notes_own : (ps : List Pair) → AllByRecursion IsOwn (filter_map (note_of old all) ps)
  notes_own [] = tt
  notes_own (p ∷ ps) =
      elim (same_at p) as (λ b. AllByRecursion IsOwn (cons_option (cond b None (Some (note p))) (filter_map (note_of old all) ps))) [
        | true ↦ notes_own ps
        | false ↦ (own_at p (row_at old p) refl, notes_own ps)
      ]

  kept_none : (b : Bool) → cond {A = Option Stood} b None None ≡ None
  kept_none true = refl
  kept_none false = refl

  own_note : (ps : List Pair) (q : Pair) → note_at q (filter_map (note_of old all) ps) ≡ cond (has ps q) (note_of old all q) None
      → (c : Bool) → same_at q ≡ c → note_at q (cons_option (cond c None (Some (note q))) (filter_map (note_of old all) ps)) ≡ cond c None (Some (note q))
  own_note ps q rest true e = rest ∙ ap (λ c. cond (has ps q) (cond c None (Some (note q))) None) e ∙ kept_none (has ps q)
  own_note ps q rest false e = ap (λ b. cond b (Some (note q)) (note_at q (filter_map (note_of old all) ps))) (ap is_eq (tied_itself pairs_total q))

  noted : (ps : List Pair) (q : Pair) → note_at q (filter_map (note_of old all) ps) ≡ cond (has ps q) (note_of old all q) None
  noted [] q = refl
  noted (p ∷ ps) q =
      elim (same_pair q p) as (λ b. same_pair q p ≡ b → note_at q (filter_map (note_of old all) (p ∷ ps)) ≡ cond (b || has ps q) (note_of old all q) None) [
        | true ↦ λ t. subst (λ p. note_at q (filter_map (note_of old all) (p ∷ ps)) ≡ note_of old all q) (at_pair q p t) (own_note ps q (noted ps q) (same_at q) refl)
        | false ↦ λ t. elim (same_at p) as (λ c. note_at q (cons_option (cond c None (Some (note p))) (filter_map (note_of old all) ps)) ≡ cond (has ps q) (note_of old all q) None) [
          | true ↦ noted ps q
          | false ↦ ap (λ b. cond b (Some (note p)) (note_at q (filter_map (note_of old all) ps))) t ∙ noted ps q
        ]
      ] refl

module _ (touched : List Pair) (all shown rows : List EndpointRow) (notes : List Stood) (shows : Shows touched all shown) (replaced : ReplacesAll (once touched) all shown rows)
    (are : notes ≡ filter_map (note_of shown all) (once touched)) where
  unnoted : (q : Pair) → cond (has (once touched) q) (note_of shown all q) None ≡ note_of shown all q
  unnoted q =
      elim (has (once touched) q) as (λ b. has (once touched) q ≡ b → cond b (note_of shown all q) None ≡ note_of shown all q) [
        | true ↦ λ t. refl
        | false ↦ λ t.
            let same : row_at shown q ≡ row_at all q = shows.rest q (untouched touched q t) in
            sym (ap (λ b. cond {A = Option Stood} b None (Some (q.0, q.1, row_at shown q))) (ap (same_option same_row (row_at shown q)) (sym same) ∙ same_itself (row_at shown q)))
      ] refl

  pub tells : TellsBefore shown rows notes
  tells = record {
    ordered = subst IsByAddress (sym are) (record {
      rise = keys_rise pairs_total pairs_exact address _ (notes_rise shown all (once touched) (once_rises touched));
      own = All-from_recursion IsOwn _ (notes_own shown all (once touched));
    });
    each = λ q.
        ap (note_at q) are ∙ noted shown all (once touched) q ∙ unnoted q
        ∙ ap (λ (row : Option EndpointRow). cond {A = Option Stood} (same_option same_row (row_at shown q) row) None (Some (q.0, q.1, row_at shown q))) (sym (shown_at touched all shown rows shows replaced q));
  }

-- where nothing differs nothing is noted
pub nothing_noted : IsByAddress []
nothing_noted = record { rise = keys_rise pairs_total pairs_exact address [] tt; own = All-from_recursion IsOwn [] tt }

pub untold : (rows : List EndpointRow) → TellsBefore rows rows []
untold rows = record {
  ordered = nothing_noted;
  each = λ q. sym (ap (λ b. cond {A = Option Stood} b None (Some (q.0, q.1, row_at rows q))) (same_itself (row_at rows q)));
}

-- ---- the order of notes, whatever the slices are

all_less : (P : Pair → Type 0) (xs : List Pair) (p : Pair) (qs : List Pair) → AllByRecursion P (xs ++ p ∷ qs) → AllByRecursion P (xs ++ qs)
all_less P [] p qs h = h.1
all_less P (x ∷ xs) p qs h = (h.0, all_less P xs p qs h.1)

sorted_less : (xs : List Pair) (p : Pair) (qs : List Pair) → IsStrictlySortedBy pair_cmp (xs ++ p ∷ qs) → IsStrictlySortedBy pair_cmp (xs ++ qs)
unfolding IsStrictlySortedBy
sorted_less [] p qs h = h.1
sorted_less (x ∷ xs) p qs h = (all_less (λ y. pair_cmp x y ≡ Less) xs p qs h.0, sorted_less xs p qs h.1)

-- before pairs that rise after those of which it was noted, what was noted rises
abbrev pub NotesRise : List Pair → List Stood → Type 0
NotesRise pairs notes = (rest : List Pair) → IsStrictlySortedBy pair_cmp (pairs ++ rest) → IsStrictlySortedBy pair_cmp (map address notes ++ rest)

addresses_more : (notes : List Stood) (s : Stood) (rest : List Pair) → map address (notes ++ s ∷ []) ++ rest ≡ map address notes ++ address s ∷ rest
addresses_more [] s rest = refl
addresses_more (n ∷ ns) s rest = ap (λ ps. address n ∷ ps) (addresses_more ns s rest)

pub note_rises : (pairs : List Pair) (pair : Pair) (notes new : List Stood) → NotesRise pairs notes → AddsNote pair notes new → NotesRise (pairs ++ pair ∷ []) new
note_rises pairs pair notes new rise adds rest rises =
    subst (λ (all : List Stood). IsStrictlySortedBy pair_cmp (map address all ++ rest)) (sym adds.is) (by adds.note adds.own)
  where
    all : IsStrictlySortedBy pair_cmp (map address notes ++ pair ∷ rest)
    all = rise (pair ∷ rest) (subst (IsStrictlySortedBy pair_cmp) (append_assoc pairs (pair ∷ []) rest) rises)

    by : (note : Option Stood) → IfSome note (λ s. (address s ≡ pair) × IfSome s.2 (λ row. pair_of row ≡ pair)) → IsStrictlySortedBy pair_cmp (map address (notes ++ option_to_list note) ++ rest)
    by None own = subst (λ (all : List Stood). IsStrictlySortedBy pair_cmp (map address all ++ rest)) (sym (append-nil notes)) (sorted_less (map address notes) pair rest all)
    by (Some s) own = subst (IsStrictlySortedBy pair_cmp) (ap (λ p. map address notes ++ p ∷ rest) (sym own.0) ∙ sym (addresses_more notes s rest)) all

pub note_owns : (pair : Pair) (notes new : List Stood) → All IsOwn notes → AddsNote pair notes new → All IsOwn new
note_owns pair notes new owns adds = subst (All IsOwn) (sym adds.is) (All-append IsOwn notes (option_to_list adds.note) owns (All-from_recursion IsOwn (option_to_list adds.note) (by adds.note adds.own)))
  where
    own_row_at : (s : Stood) (row : Option EndpointRow) → address s ≡ pair → IfSome row (λ r. pair_of r ≡ pair) → IfSome row (λ r. pair_of r ≡ address s)
    own_row_at s None at own = tt
    own_row_at s (Some r) at own = own ∙ sym at

    by : (note : Option Stood) → IfSome note (λ s. (address s ≡ pair) × IfSome s.2 (λ row. pair_of row ≡ pair)) → AllByRecursion IsOwn (option_to_list note)
    by None own = tt
    by (Some s) own = (own_row_at s s.2 own.0 own.1, tt)

pub notes_by_address : (pairs : List Pair) (notes : List Stood) → IsStrictlySortedBy pair_cmp pairs → NotesRise pairs notes → All IsOwn notes → IsByAddress notes
notes_by_address pairs notes sorted rise owns = record {
  rise = subst (IsStrictlySortedBy pair_cmp) (append-nil (map address notes)) (rise [] (subst (IsStrictlySortedBy pair_cmp) (sym (append-nil pairs)) sorted));
  own = owns;
}
