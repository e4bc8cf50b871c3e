-- Labels of pairs, in whatever order their keys come.
use Rattle.std.proofs.Common.{◌≡◌, ℕ, Bool, true, false, cond, not, ◌&&◌, List, [], ◌∷◌, ◌++◌, Option, Some, None, if◌then◌else◌, refl, sym, ap, ◌∙◌}
use Rattle.std.proofs.lemmas.Cmp.{nat_list_cmp_total}
use Rattle.std.specs.Cmp.Lexicographic.{slice_cmp}
use Rattle.std.specs.FinMap.{FinMap, get, find, insert, from_entries, from_entries_push, get-from_entries, same_map, slice_cmp-IsAntisymmetric, nat_cmp-IsAntisymmetric}
use Rattle.std.specs.List.{filter}
use Rattle.std.specs.List.Sorted.{IsStableBy, ties}
use Rattle.std.specs.Option.{is_some}
use Rattle.std.specs.Ordering.{eq_by_cmp, is_eq, is_lt, nat_cmp, ordering_reverse}
use Rattle.std.specs.declared.cmp.Ordering.{Ordering}
use Rattle.std.specs.declared.cmp.Ordering.TheVariants.{Less, Equal, Greater}

abbrev Label : Type 0
Label = List ℕ × List ℕ

abbrev order : List ℕ → List ℕ → Ordering
order = slice_cmp nat_cmp

abbrev Map : Type 0
Map = FinMap order (List ℕ)

exact : (m n : Map) → ((q : List ℕ) → get m q ≡ get n q) → m ≡ n
exact = same_map nat_list_cmp_total (slice_cmp-IsAntisymmetric nat_cmp-IsAntisymmetric)

-- ---- a pair more

abbrev or_else : Option (List ℕ) → Option (List ℕ) → Option (List ℕ)
or_else None later = later
or_else (Some x) later = Some x

else_first : (b : Bool) (x : List ℕ) (o p : Option (List ℕ)) → cond b (Some x) (or_else o p) ≡ or_else (cond b (Some x) o) p
else_first true x o p = refl
else_first false x o p = refl

find-push : (q : List ℕ) (es : List Label) (p : Label) → find order q (es ++ p ∷ []) ≡ or_else (find order q es) (cond (eq_by_cmp order q p.0) (Some p.1) None)
find-push q [] p = refl
find-push q (e ∷ es) p = ap (cond (eq_by_cmp order q e.0) (Some e.1)) (find-push q es p) ∙ else_first (eq_by_cmp order q e.0) e.1 (find order q es) (cond (eq_by_cmp order q p.0) (Some p.1) None)

else_none : (o : Option (List ℕ)) → or_else o None ≡ o
else_none None = refl
else_none (Some x) = refl

equal : (r : Ordering) → is_eq r ≡ true → r ≡ Equal
equal Less e = cc
equal Equal e = refl
equal Greater e = cc

unchanged : (q k x v : List ℕ) (es : List Label) (b : Bool) → eq_by_cmp order q k ≡ b → find order k es ≡ Some x → or_else (find order q es) (cond b (Some v) None) ≡ find order q es
unchanged q k x v es true is found =
    let same : q ≡ k = slice_cmp-IsAntisymmetric nat_cmp-IsAntisymmetric q k (equal (order q k) is) in
    let here : find order q es ≡ Some x = ap (λ w. find order w es) same ∙ found in
    rw here refl
unchanged q k x v es false is found = else_none (find order q es)

kept : (k x v : List ℕ) (es : List Label) → find order k es ≡ Some x → from_entries {R = order} es ≡ from_entries (es ++ (k, v) ∷ [])
kept k x v es found =
    exact _ _ (λ q. get-from_entries nat_list_cmp_total es q ∙ sym (unchanged q k x v es (eq_by_cmp order q k) refl found) ∙ sym (find-push q es (k, v)) ∙ sym (get-from_entries nat_list_cmp_total (es ++ (k, v) ∷ []) q))

by_found : (k v : List ℕ) (es : List Label) (o : Option (List ℕ)) → find order k es ≡ o → (if is_some o then from_entries {R = order} es else insert (from_entries es) k v) ≡ from_entries (es ++ (k, v) ∷ [])
by_found k v es None is = sym (from_entries_push nat_list_cmp_total (slice_cmp-IsAntisymmetric nat_cmp-IsAntisymmetric) es k v is)
by_found k v es (Some x) is = kept k x v es is

pub put_more : (k v : List ℕ) (es : List Label) → (if is_some (get (from_entries {R = order} es) k) then from_entries {R = order} es else insert (from_entries es) k v) ≡ from_entries (es ++ (k, v) ∷ [])
put_more k v es = rw (get-from_entries nat_list_cmp_total es k) (by_found k v es (find order k es) refl)

-- ---- pairs in the order of their keys

abbrev is_before : Label → Label → Bool
is_before p r = is_lt (order p.0 r.0)

neither_less : (r s : Ordering) → s ≡ ordering_reverse r → not (is_lt r) && not (is_lt s) ≡ is_eq r
neither_less Less s e = refl
neither_less Equal s e = ap (λ o. not (is_lt o)) e
neither_less Greater s e = ap (λ o. not (is_lt o)) e

tied : (p r : Label) → ties is_before p r ≡ eq_by_cmp order p.0 r.0
tied p r = neither_less (order p.0 r.0) (order r.0 p.0) (nat_list_cmp_total.antisymm r.0 p.0)

-- the value of the first pair
abbrev first_value : List Label → Option (List ℕ)
first_value [] = None
first_value (p ∷ ps) = Some p.1

first_if : (b : Bool) (p : Label) (ps : List Label) → cond b (Some p.1) (first_value ps) ≡ first_value (cond b (p ∷ ps) ps)
first_if true p ps = refl
first_if false p ps = refl

first_tied : (p : Label) (es : List Label) → find order p.0 es ≡ first_value (filter (ties is_before p) es)
first_tied p [] = refl
first_tied p (e ∷ es) =
    let rest = filter (ties is_before p) es in
    ap (cond (eq_by_cmp order p.0 e.0) (Some e.1)) (first_tied p es) ∙ first_if (eq_by_cmp order p.0 e.0) e rest ∙ ap (λ b. first_value (cond b (e ∷ rest) rest)) (sym (tied p e))

pub in_order : (old new : List Label) → IsStableBy (λ (p r : Label). is_lt (slice_cmp nat_cmp p.0 r.0)) old new → from_entries {R = slice_cmp nat_cmp} new ≡ from_entries old
in_order old new stable =
    exact _ _ (λ q. get-from_entries nat_list_cmp_total new q ∙ first_tied (q, []) new ∙ ap first_value (stable (q, [])) ∙ sym (first_tied (q, []) old) ∙ sym (get-from_entries nat_list_cmp_total old q))
