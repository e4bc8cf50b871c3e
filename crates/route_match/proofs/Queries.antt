-- A query cut at its `&`, and a piece cut at its first `=`.
use Rattle.std.proofs.Common.{◌≡◌, ℕ, ◌+◌, ◌<◌, ◌≤◌, suc, Bool, true, false, cond, not, List, [], ◌∷◌, ◌==◌, Option, Some, None, MatchOption, IfNone, IfSome, Bor, length, take, drop, map, bytes_eq, option_map, refl, sym, ap, ◌∙◌, arith, length-drop, lit<, take_all}
use Rattle.std.proofs.lemmas.List.{drop_all, nil_from_length}
use Rattle.std.proofs.lemmas.List.Elements.{All-from_get_or}
use Rattle.std.proofs.lemmas.List.Splits.{slice_split_first, slice_split_none}
use Rattle.std.proofs.lemmas.List.Sums.{fails_before_first}
use Rattle.std.proofs.lemmas.Str.Pattern.{IsSplitOnceResult, split_once_first}
use Rattle.std.specs.List.{after_first, before_first, filter, find, position_or_len, slice_split}
use Rattle.std.specs.Option.{option_or}
use Rattle.mesh_base.specs.Pieces.{pieces}
use Rattle.route_match.specs.Matching.{is_filled, part_of, parts_of, value_in}

-- ---- the pieces

abbrev at_and : ℕ → Bool
at_and b = b == 38

cut_is : (query : List ℕ) (halves : Option (Bor (List ℕ) × Bor (List ℕ))) → IsSplitOnceResult 38 query halves
    → MatchOption halves (pieces 38 query ≡ query ∷ []) (λ x. (pieces 38 query ≡ x.0.now ∷ pieces 38 x.1.now) × (length x.1.now < length query))
unfolding pieces
cut_is query None is =
    let whole = split_once_first 38 query None is (lit< tt) in
    slice_split_none at_and query (All-from_get_or (λ x. at_and x ≡ false) query 0 (λ k lt. fails_before_first at_and query k 0 (omega (arith, whole))))
cut_is query (Some x) is =
    let first = split_once_first 38 query (Some x) is (lit< tt) in (
      slice_split_first at_and query 0 first.0 ∙ ap (λ piece. piece ∷ slice_split at_and (after_first at_and query)) (sym first.1) ∙ ap (λ rest. x.0.now ∷ slice_split at_and rest) (sym first.2),
      omega (arith, first.0, ap length first.2, length-drop (position_or_len at_and query + 1) query),
    )

pub cut_none : (query : List ℕ) (halves : Option (Bor (List ℕ) × Bor (List ℕ))) → IsSplitOnceResult 38 query halves → IfNone halves (pieces 38 query ≡ query ∷ [])
cut_none query None is = cut_is query None is
cut_none query (Some x) is = tt

pub cut_first : (query : List ℕ) (halves : Option (Bor (List ℕ) × Bor (List ℕ))) → IsSplitOnceResult 38 query halves → IfSome halves (λ x. pieces 38 query ≡ x.0.now ∷ pieces 38 x.1.now)
cut_first query None is = tt
cut_first query (Some x) is = (cut_is query (Some x) is).0

pub cut_shorter : (query : List ℕ) (halves : Option (Bor (List ℕ) × Bor (List ℕ))) → IsSplitOnceResult 38 query halves → IfSome halves (λ x. length x.1.now < length query)
cut_shorter query None is = tt
cut_shorter query (Some x) is = (cut_is query (Some x) is).1

abbrev value_among : List ℕ → List (List ℕ) → Option (List ℕ)
value_among name cut = value_in name (map part_of (filter is_filled cut))

first_of : (name piece : List ℕ) (more : List (List ℕ)) → value_among name (piece ∷ more) ≡ option_or (value_among name (piece ∷ [])) (value_among name more)
first_of name [] more = refl
first_of name (b ∷ bs) more =
    elim (bytes_eq (part_of (b ∷ bs)).0 name) as (λ t. option_map (λ (part : List ℕ × List ℕ). part.1) (cond t (Some (part_of (b ∷ bs))) (find (λ part. bytes_eq part.0 name) (map part_of (filter is_filled more))))
    ≡ option_or (option_map (λ (part : List ℕ × List ℕ). part.1) (cond t (Some (part_of (b ∷ bs))) None)) (value_among name more)) [
      | true ↦ refl
      | false ↦ refl
    ]

module _ (name query piece after : List ℕ) (cut : pieces 38 query ≡ piece ∷ pieces 38 after) where
  pub first_found : (value : List ℕ) → Some value ≡ value_in name (map part_of (filter is_filled (piece ∷ []))) → Some value ≡ value_in name (parts_of query)
  first_found value is = ap (λ o. option_or o (value_among name (pieces 38 after))) is ∙ sym (ap (value_among name) cut ∙ first_of name piece (pieces 38 after))

  pub first_passed : None ≡ value_in name (map part_of (filter is_filled (piece ∷ []))) → value_in name (parts_of query) ≡ value_in name (parts_of after)
  first_passed is = ap (value_among name) cut ∙ first_of name piece (pieces 38 after) ∙ ap (λ o. option_or o (value_among name (pieces 38 after))) (sym is)

pub one_piece : (name query : List ℕ) → pieces 38 query ≡ query ∷ [] → value_in name (parts_of query) ≡ value_in name (map part_of (filter is_filled (query ∷ [])))
one_piece name query whole = ap (value_among name) whole

-- ---- a piece

abbrev at_equals : ℕ → Bool
at_equals b = b == 61

-- a byte before the rest of a piece, whose part is known
longer : (is_mark : Bool) (b : ℕ) (bs : List ℕ) (part : List ℕ × List ℕ) (n : ℕ) → part ≡ (take n bs, drop (n + 1) bs)
    → ◌≡◌ {A = List ℕ × List ℕ} (cond is_mark ([], bs) (b ∷ part.0, part.1)) (take (cond (not is_mark) (1 + n) 0) (b ∷ bs), drop (cond (not is_mark) (1 + n) 0 + 1) (b ∷ bs))
longer true b bs part n is = refl
longer false b bs part n is =
    let more : suc n ≡ 1 + n = omega arith in
    let past : suc (n + 1) ≡ 1 + n + 1 = omega arith in
    ap (λ (p : List ℕ × List ℕ). (b ∷ p.0, p.1)) is ∙ ap (λ (k : ℕ). (take k (b ∷ bs), drop (n + 1) bs)) more ∙ ap (λ (k : ℕ). (take (1 + n) (b ∷ bs), drop k (b ∷ bs))) past

part_is : (piece : List ℕ) → ◌≡◌ {A = List ℕ × List ℕ} (part_of piece) (before_first at_equals piece, after_first at_equals piece)
part_is [] = refl
part_is (b ∷ bs) = longer (b == 61) b bs (part_of bs) (position_or_len at_equals bs) (part_is bs)

pub part_none : (piece : List ℕ) → IsSplitOnceResult 61 piece None → ◌≡◌ {A = List ℕ × List ℕ} (piece, []) (part_of piece)
part_none piece is =
    let whole : position_or_len at_equals piece ≡ length piece = split_once_first 61 piece None is (lit< tt) in
    let short : length piece ≤ position_or_len at_equals piece = omega (arith, whole) in
    let shorter : length piece ≤ position_or_len at_equals piece + 1 = omega (arith, whole) in
    sym
    (part_is piece ∙ ap (λ (own : List ℕ). (own, after_first at_equals piece)) (take_all (position_or_len at_equals piece) piece short)
    ∙ ap (λ (value : List ℕ). (piece, value)) (drop_all (position_or_len at_equals piece + 1) piece shorter))

pub part_some : (piece : List ℕ) (halves : Bor (List ℕ) × Bor (List ℕ)) → IsSplitOnceResult 61 piece (Some halves) → ◌≡◌ {A = List ℕ × List ℕ} (halves.0.now, halves.1.now) (part_of piece)
part_some piece halves is =
    let first = split_once_first 61 piece (Some halves) is (lit< tt) in
    ap (λ (own : List ℕ). (own, halves.1.now)) first.1 ∙ ap (λ (value : List ℕ). (before_first at_equals piece, value)) first.2 ∙ sym (part_is piece)

module _ (name : List ℕ) where
  value_of : (part : List ℕ × List ℕ) (same : Bool) → bytes_eq part.0 name ≡ same → value_in name (part ∷ []) ≡ cond same (Some part.1) None
  value_of part true is = ap (λ (b : Bool). option_map (λ (p : List ℕ × List ℕ). p.1) (cond b (Some part) None)) is
  value_of part false is = ap (λ (b : Bool). option_map (λ (p : List ℕ × List ℕ). p.1) (cond b (Some part) None)) is

  pub no_part : (piece : List ℕ) → length piece ≡ 0 → None ≡ value_in name (map part_of (filter is_filled (piece ∷ [])))
  no_part piece none = sym (ap (λ (p : List ℕ). value_in name (map part_of (filter is_filled (p ∷ [])))) (nil_from_length piece none))

  one_part : (piece own value : List ℕ) (same : Bool) → 0 < length piece → (own, value) ≡ part_of piece → bytes_eq own name ≡ same → cond same (Some value) None ≡ value_in name (map part_of (filter is_filled (piece ∷ [])))
  one_part [] own value same some cut is = absurd (omega arith)
  one_part (b ∷ bs) own value same some cut is = sym (value_of (own, value) same is) ∙ ap (λ (p : List ℕ × List ℕ). value_in name (p ∷ [])) cut

  pub own_part : (piece own value : List ℕ) → 0 < length piece → (own, value) ≡ part_of piece → bytes_eq own name ≡ true → Some value ≡ value_in name (map part_of (filter is_filled (piece ∷ [])))
  own_part piece own value some cut is = one_part piece own value true some cut is

  pub other_part : (piece own value : List ℕ) → 0 < length piece → (own, value) ≡ part_of piece → bytes_eq own name ≡ false → None ≡ value_in name (map part_of (filter is_filled (piece ∷ [])))
  other_part piece own value some cut is = one_part piece own value false some cut is
