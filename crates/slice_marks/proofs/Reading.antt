-- Which marks slices read.
use Rattle.std.proofs.Common.{◌≡◌, Bool, true, false, cond, not, ◌&&◌, ◌||◌, List, [], ◌∷◌, ◌++◌, Option, Some, refl, sym, ap, ◌∙◌}
use Rattle.std.proofs.lemmas.List.Folds.{list_any-append}
use Rattle.std.specs.BTreeMap as tree
use Rattle.std.specs.Cmp.{Equal-is, eq_by_cmp_equiv}
use Rattle.std.specs.List.{filter, list_any, slice_get}
use Rattle.std.specs.Map.{keys_of, lookup}
use Rattle.std.specs.Option.{is_some}
use Rattle.std.specs.Ordering.{is_eq}
use Rattle.key_lists.specs.Keys.{has_key, is_key, key_at, keys_at, listed}
use Rattle.mark_graph.specs.Moves.{has_after}
use Rattle.mark_graph.specs.declared.moves.MarkMoves.{MarkMoves}
use Rattle.mark_rules.proofs.MarkOrder.{marks_exact, marks_total}
use Rattle.mark_rules.proofs.MarkTests.{neither_first, neither_second}
use Rattle.mark_rules.specs.Marks.{has_mark, mark_cmp, same_mark}
use Rattle.mesh_base.specs.declared.key.ObjKey.{ObjKey}
use Rattle.view_types.specs.declared.mark.Mark.{Mark}
use Rattle.endpoint_rows.proofs.KeysAt.{one_key, own_key}
use Rattle.slice_marks.specs.Marked.{KeysByMark, Leaves, OthersStay, is_read, marks_read}

-- whether there is a key
abbrev pub has_any : List ObjKey → Bool
has_any keys = list_any (λ key. true) keys

pub one_mark : (m x : Mark) → same_mark m x ≡ true → m ≡ x
one_mark m x e = marks_exact m x ((Equal-is (mark_cmp m x)).0 e)

any_or : (b c : Bool) → b ≡ true → (b || c) ≡ true
any_or true c e = refl
any_or false c e = absurd (cc e)

-- ---- lists that have the same keys

same_any : (keys others : List ObjKey) → ((k : ObjKey) → has_key k keys ≡ has_key k others) → has_any keys ≡ has_any others
same_any [] [] same = refl
same_any [] (k ∷ ks) same = absurd (let no : false ≡ true = same k ∙ any_or (is_key k k) (has_key k ks) (own_key k) in cc no)
same_any (k ∷ ks) [] same = absurd (let no : true ≡ false = sym (any_or (is_key k k) (has_key k ks) (own_key k)) ∙ same k in cc no)
same_any (k ∷ ks) (o ∷ os) same = refl

-- the first of the keys, if there is one
pub first_any : (keys : List ObjKey) (first : Option ObjKey) → first ≡ slice_get keys 0 → is_some first ≡ has_any keys
first_any [] first e = ap is_some e
first_any (k ∷ ks) first e = ap is_some e

left_alone : (a c d : Bool) → a ≡ false → (not (a && c) && d) ≡ d
left_alone true c d e = absurd (cc e)
left_alone false c d e = refl

none_put : (a c d : Bool) → a ≡ false → ((a && c) || d) ≡ d
none_put true c d e = absurd (cc e)
none_put false c d e = refl

pub others_taken : (old new : KeysByMark) (key : ObjKey) (marks : List Mark) → ((m : Mark) (k : ObjKey) → key_at mark_cmp new m k ≡ (not (has_mark marks m && is_key k key) && key_at mark_cmp old m k)) → OthersStay marks old new
others_taken old new key marks taken m lacks = same_any (keys_at mark_cmp new m) (keys_at mark_cmp old m) (λ k. taken m k ∙ left_alone (has_mark marks m) (is_key k key) (key_at mark_cmp old m k) lacks)

-- one more moves, where a key is put to it
pub one_moves : (moved : List Mark) (before old new : KeysByMark) (mark : Mark) (key : ObjKey) → ((m : Mark) (k : ObjKey) → key_at mark_cmp new m k ≡ ((same_mark m mark && is_key k key) || key_at mark_cmp old m k))
    → OthersStay moved before old → OthersStay (moved ++ mark ∷ []) before new
one_moves moved before old new mark key put stay m lacks =
    let neither = sym (list_any-append (same_mark m) moved (mark ∷ [])) ∙ lacks in
    same_any (keys_at mark_cmp new m) (keys_at mark_cmp old m) (λ k. put m k ∙ none_put (same_mark m mark) (is_key k key) (key_at mark_cmp old m k) (neither_first _ _ (neither_second _ _ neither)))
    ∙ stay m (neither_first _ _ neither)

-- a key that stands at a mark is put there once more
pub put_again : (by : KeysByMark) (mark : Mark) (key : ObjKey) → key_at mark_cmp by mark key ≡ true → (m : Mark) (k : ObjKey) → key_at mark_cmp by m k ≡ ((same_mark m mark && is_key k key) || key_at mark_cmp by m k)
put_again by mark key there m k = elim (same_mark m mark) as (λ b. same_mark m mark ≡ b → key_at mark_cmp by m k ≡ ((b && is_key k key) || key_at mark_cmp by m k)) [
  | true ↦ λ s. elim (is_key k key) as (λ b. is_key k key ≡ b → key_at mark_cmp by m k ≡ (b || key_at mark_cmp by m k)) [
    | true ↦ λ t. (λ i. key_at mark_cmp by (one_mark m mark s i) (one_key k key t i)) ∙ there
    | false ↦ λ t. refl
  ] refl
  | false ↦ λ s. refl
] refl

-- ---- marks that are left out

last : (done : List Mark) (mark m : Mark) → has_mark done m ≡ false → has_mark (done ++ mark ∷ []) m ≡ true → same_mark m mark ≡ true
last done mark m lacks had = or_nothing (same_mark m mark) ∙ ap (λ b. b || (same_mark m mark || false)) (sym lacks) ∙ sym (list_any-append (same_mark m) done (mark ∷ [])) ∙ had
  where
    or_nothing : (b : Bool) → b ≡ (b || false)
    or_nothing true = refl
    or_nothing false = refl

-- one mark more is passed, and left out unless it stands among those now
pub one_passed : (done marks left : List Mark) (mark : Mark) (stands : Bool) → (stands ≡ true → has_mark marks mark ≡ true) → Leaves done marks left → Leaves (done ++ mark ∷ []) marks (cond stands left (left ++ mark ∷ []))
one_passed done marks left mark true among so_far m lacks had =
    elim (has_mark done m) as (λ b. has_mark done m ≡ b → has_mark marks m ≡ true) [
      | true ↦ λ e. so_far m lacks e
      | false ↦ λ e. (λ i. has_mark marks (one_mark m mark (last done mark m e had) i)) ∙ among refl
    ] refl
one_passed done marks left mark false among so_far m lacks had =
    let neither = sym (list_any-append (same_mark m) left (mark ∷ [])) ∙ lacks in
    elim (has_mark done m) as (λ b. has_mark done m ≡ b → has_mark marks m ≡ true) [
      | true ↦ λ e. so_far m (neither_first _ _ neither) e
      | false ↦ λ e. absurd (let no : true ≡ false = sym (last done mark m e had) ∙ neither_first (same_mark m mark) false (neither_second (has_mark left m) (same_mark m mark || false) neither) in cc no)
    ] refl

-- first some move, then others
pub others_then : (marks more : List Mark) (old middle new : KeysByMark) → OthersStay marks old middle → OthersStay more middle new → OthersStay (marks ++ more) old new
others_then marks more old middle new first second m lacks =
    let neither = sym (list_any-append (same_mark m) marks more) ∙ lacks in
    second m (neither_second _ _ neither) ∙ first m (neither_first _ _ neither)

-- ---- marks that pass

module _ (p : Mark → Bool) where
  passing : (m x : Mark) (rest : List Mark) → has_mark rest m ≡ has_mark rest m → (a b : Bool) → same_mark m x ≡ a → p x ≡ b → (kept all : Bool) → kept ≡ (all && p m)
      → cond b (a || kept) kept ≡ ((a || all) && p m)
  passing m x rest _ true true same passes kept all is = sym (ap p (one_mark m x same) ∙ passes)
  passing m x rest _ true false same passes kept all is = is ∙ (λ i. all && no i) ∙ none all ∙ sym no
    where
      no : p m ≡ false
      no = ap p (one_mark m x same) ∙ passes

      none : (b : Bool) → (b && false) ≡ false
      none true = refl
      none false = refl
  passing m x rest _ false true same passes kept all is = is
  passing m x rest _ false false same passes kept all is = is

  has_cond : (b : Bool) (m x : Mark) (xs : List Mark) → has_mark (cond b (x ∷ xs) xs) m ≡ cond b (same_mark m x || has_mark xs m) (has_mark xs m)
  has_cond true m x xs = refl
  has_cond false m x xs = refl

  pub has_passing : (xs : List Mark) (m : Mark) → has_mark (filter p xs) m ≡ (has_mark xs m && p m)
  has_passing [] m = refl
  has_passing (x ∷ xs) m = has_cond (p x) m x (filter p xs) ∙ passing m x xs refl (same_mark m x) (p x) refl refl (has_mark (filter p xs) m) (has_mark xs m) (has_passing xs m)

  -- ---- a row at the marks that pass

  module _ (m : Mark) (here : Bool) (x : Mark) (left rest : List Mark) (all old new : Bool) (is : left ≡ x ∷ rest) where
    has_first : has_mark (filter p left) m ≡ ((p x && same_mark x m) || has_mark (filter p rest) m)
    has_first = ap (λ xs. has_mark (filter p xs) m) is ∙ has_cond (p x) m x (filter p rest) ∙ (λ i. cond (p x) (flipped i || has_mark (filter p rest) m) (has_mark (filter p rest) m)) ∙ by_cases (p x)
      where
        flipped : same_mark m x ≡ same_mark x m
        flipped = (eq_by_cmp_equiv marks_total).symm m x

        by_cases : (b : Bool) → cond b (same_mark x m || has_mark (filter p rest) m) (has_mark (filter p rest) m) ≡ ((b && same_mark x m) || has_mark (filter p rest) m)
        by_cases true = refl
        by_cases false = refl

    -- the row is put at the first mark that is left
    pub put_next : new ≡ (((p x && same_mark x m) && here) || old) → ((has_mark (filter p left) m && here) || old) ≡ all → ((has_mark (filter p rest) m && here) || new) ≡ all
    put_next put before = ap (λ b. (has_mark (filter p rest) m && here) || b) put ∙ by_cases (p x && same_mark x m) (has_mark (filter p rest) m) here ∙ ap (λ b. (b && here) || old) (sym has_first) ∙ before
      where
        by_cases : (a h e : Bool) → ((h && e) || ((a && e) || old)) ≡ (((a || h) && e) || old)
        by_cases true true true = refl
        by_cases true true false = refl
        by_cases true false e = refl
        by_cases false true true = refl
        by_cases false true false = refl
        by_cases false false e = refl

    -- the row is taken from the first mark that is left
    pub take_next : new ≡ (not ((p x && same_mark x m) && here) && old) → (not (has_mark (filter p left) m && here) && old) ≡ all → (not (has_mark (filter p rest) m && here) && new) ≡ all
    take_next take before = ap (λ b. not (has_mark (filter p rest) m && here) && b) take ∙ by_cases (p x && same_mark x m) (has_mark (filter p rest) m) here ∙ ap (λ b. not (b && here) && old) (sym has_first) ∙ before
      where
        by_cases : (a h e : Bool) → (not (h && e) && (not (a && e) && old)) ≡ (not ((a || h) && e) && old)
        by_cases true true true = refl
        by_cases true true false = refl
        by_cases true false e = refl
        by_cases false true true = refl
        by_cases false true false = refl
        by_cases false false e = refl

-- ---- the marks that are read

key_found : (es : List (Mark × List ObjKey)) (m : Mark) → has_any (listed (lookup (λ j. is_eq (mark_cmp m j)) es)) ≡ true → has_mark (keys_of es) m ≡ true
key_found [] m e = e
key_found (x ∷ es) m e =
    elim (same_mark m x.0) as (λ b. has_any (listed (cond b (Some x.1) (lookup (λ j. is_eq (mark_cmp m j)) es))) ≡ true → (b || has_mark (keys_of es) m) ≡ true) [
      | true ↦ λ e. refl
      | false ↦ λ e. key_found es m e
    ] e

pub has_read : (by : KeysByMark) (m : Mark) → has_mark (marks_read by) m ≡ is_read by m
has_read by m = has_passing (is_read by) (tree.keys by) m ∙ elim (is_read by m) as (λ b. is_read by m ≡ b → (has_mark (tree.keys by) m && b) ≡ b) [
  | true ↦ λ e. ap (λ b. b && true) (key_found by.entries m e)
  | false ↦ λ e. none (has_mark (tree.keys by) m)
] refl
  where
    none : (b : Bool) → (b && false) ≡ false
    none true = refl
    none false = refl

-- ---- marks that moved, each as it is read now

module _ (old new : KeysByMark) (marks : List Mark) (moves : MarkMoves Mark) (stay : OthersStay marks old new) (gone : moves.gone ≡ filter (λ mark. not (is_read new mark)) marks) (come : moves.come ≡ filter (is_read new) marks) where
  as_now : (moved before now : Bool) → (moved ≡ false → now ≡ before) → now ≡ ((moved && now) || (not (moved && not now) && before))
  as_now true before true stay = refl
  as_now true before false stay = refl
  as_now false before now stay = stay refl

  pub moves_lead : (m : Mark) → is_read new m ≡ has_after mark_cmp moves (is_read old) m
  moves_lead m =
      as_now (has_mark marks m) (is_read old m) (is_read new m) (stay m)
      ∙ (λ i. sym (ap (λ xs. has_mark xs m) come ∙ has_passing (is_read new) marks m) i || (not (sym (ap (λ xs. has_mark xs m) gone ∙ has_passing (λ mark. not (is_read new mark)) marks m) i) && is_read old m))
