-- The row at a pair, in lists of rows.
use Rattle.std.proofs.Common.{◌≡◌, Bool, true, false, cond, ◌||◌, List, [], ◌∷◌, ◌++◌, map, Option, Some, None, IfSome, refl, sym, ap, ◌∙◌}
use Rattle.std.specs.FinMap.{find, from_entries, get, get-entries, get-from_entries, get-from_sorted}
use Rattle.std.specs.Option.{is_some, option_or}
use Rattle.mesh_base.specs.Keyed.{keyed, keyed_map}
use Rattle.view_rules.proofs.Pairs.{pairs_total}
use Rattle.view_rules.proofs.RowMaps.{IsOwn, found_own, own_insert, own_rows, values_keyed, values_rise}
use Rattle.view_rules.specs.Batch.{has_pair, same_pair}
use Rattle.view_rules.specs.Endpoints.{first_rows, pair_cmp, pair_of}
use Rattle.view_rules.specs.Fold.{RowMap}
use Rattle.view_rules.specs.Laws.{is_at}
use Rattle.view_types.specs.declared.endpoint.EndpointRow.{EndpointRow}
use Rattle.row_places.specs.Rows.{row_at}
use Rattle.endpoint_rows.specs.Kept.{Pair, Rises, has}

-- what is found at a pair is of the pair
pub own_row : (rows : List EndpointRow) (q : Pair) (x : EndpointRow) → row_at rows q ≡ Some x → pair_of x ≡ q
own_row rows q x e = found_own rows q x e

pub own_found : (rows : List EndpointRow) (q : Pair) (found : Option EndpointRow) → found ≡ row_at rows q → IfSome found (λ row. pair_of row ≡ q)
own_found rows q None e = tt
own_found rows q (Some x) e = own_row rows q x (sym e)

pub found_is : (q : Pair) (found : Option EndpointRow) → IfSome found (λ row. pair_of row ≡ q) → (x : EndpointRow) → found ≡ Some x → pair_of x ≡ q
found_is q None own x e = absurd (cc e)
found_is q (Some y) own x e = let same : y ≡ x = cc e in ap pair_of (sym same) ∙ own

joined_at : (b : Bool) (r : EndpointRow) (x y : Option EndpointRow) → cond b (Some r) (option_or x y) ≡ option_or (cond b (Some r) x) y
joined_at true r x y = refl
joined_at false r x y = refl

pub joined : (q : Pair) (xs ys : List EndpointRow) → row_at (xs ++ ys) q ≡ option_or (row_at xs q) (row_at ys q)
joined q [] ys = refl
joined q (x ∷ xs) ys = ap (cond (is_at q x) (Some x)) (joined q xs ys) ∙ joined_at (is_at q x) x (row_at xs q) (row_at ys q)

some_at : (b : Bool) (r : EndpointRow) (x : Option EndpointRow) → (b || is_some x) ≡ is_some (cond b (Some r) x)
some_at true r x = refl
some_at false r x = refl

pub has_is : (q : Pair) (rows : List EndpointRow) → has_pair rows q ≡ is_some (row_at rows q)
has_is q [] = refl
has_is q (r ∷ rs) = ap (λ b. same_pair q (pair_of r) || b) (has_is q rs) ∙ some_at (same_pair q (pair_of r)) r (row_at rs q)

pub none_is : (x : Option EndpointRow) → is_some x ≡ false → x ≡ None
none_is None e = refl
none_is (Some r) e = cc

-- at a pair that no row has there is none
pub none_at : (q : Pair) (rows : List EndpointRow) → has_pair rows q ≡ false → row_at rows q ≡ None
none_at q rows e = none_is (row_at rows q) (sym (has_is q rows) ∙ e)

pub has_pairs : (q : Pair) (rows : List EndpointRow) → has (map pair_of rows) q ≡ has_pair rows q
has_pairs q [] = refl
has_pairs q (r ∷ rs) = ap (λ b. same_pair q (pair_of r) || b) (has_pairs q rs)

pub row_get : (rows : List EndpointRow) → Rises rows → (q : Pair) → get (keyed_map pair_cmp pair_of (λ row. row) rows) q ≡ row_at rows q
row_get rows h q = get-from_sorted pair_cmp _ q h

-- ---- the first row of each pair

by_first : List EndpointRow → RowMap
by_first rows = from_entries (keyed pair_cmp pair_of (λ row. row) rows)

own_first : (rows : List EndpointRow) → IsOwn (by_first rows)
unfolding by_first
own_first [] = own_rows []
own_first (r ∷ rs) = own_insert (by_first rs) r (own_first rs)

pub first_at : (q : Pair) (rows : List EndpointRow) → row_at (first_rows rows) q ≡ row_at rows q
unfolding by_first
first_at q rows =
    ap (find pair_cmp q) (values_keyed (by_first rows) (own_first rows))
    ∙ sym (get-entries (by_first rows) q) ∙ get-from_entries pairs_total (keyed pair_cmp pair_of (λ row. row) rows) q

pub first_rises : (rows : List EndpointRow) → Rises (first_rows rows)
unfolding by_first
first_rises rows = values_rise (by_first rows) (own_first rows)
