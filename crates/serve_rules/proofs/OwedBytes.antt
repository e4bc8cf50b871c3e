-- A link that is owed bytes has work.
use Rattle.std.proofs.Common.{◌≡◌, ℕ, suc, ◌-◌, ◌≤◌, ◌<◌, Bool, true, false, not, List, [], ◌∷◌, length, drop, Option, Some, None, inl, inr, ◌⊎◌, refl, sym, ap, ◌∙◌, arith}
use Rattle.std.specs.Prelude.{◌&&◌, ◌||◌, nat_le}
use Rattle.std.proofs.lemmas.Bool.Decides.{nat_tests}
use Rattle.view_types.specs.declared.query.Query.{Query}
use Rattle.serve_rules.specs.FedLines.{FedRow, rows_fed, up_to}
use Rattle.serve_rules.specs.Batches.{Serving, is_touched_since}
use Rattle.serve_rules.specs.LinkStates.{is_due, is_due_for, is_empty, may_read, query_of}
use Rattle.serve_rules.specs.Due.{IsPlaced}
use Rattle.serve_rules.specs.OwedBytes.{view_after, IsOwedFor, ChangesTouch, OwedHasWork}
use Rattle.serve_rules.proofs.LinksLeftOut.{by_test}
use Rattle.serve_rules.proofs.Steps.{drop-none}
use Rattle.serve_rules.proofs.DueSteps.{up_to_all}

and_false : (x y : Bool) → x ≡ true → (x && y) ≡ false → y ≡ false
and_false true y e h = h
and_false false y e h = absurd cc

or_left : (x y : Bool) → (x || y) ≡ false → x ≡ false
or_left true y h = h
or_left false y h = refl

or_right : (x y : Bool) → (x || y) ≡ false → y ≡ false
or_right true y h = absurd cc
or_right false y h = h

pub up_to_before : (place : ℕ) (f : FedRow) (past : List FedRow) → place ≤ length past → up_to place (f ∷ past) ≡ up_to place past
up_to_before place f past h =
    let skip : length (f ∷ past) - place ≡ suc (length past - place) = omega arith in
    ap (λ n. drop n (f ∷ past)) skip

none_left : (place : ℕ) → up_to place [] ≡ []
none_left place = drop-none (0 - place)

-- what no line touches stays
untouched : (serving : Serving) → ChangesTouch serving → (query : Query) (place : ℕ) (fed : List FedRow) → place ≤ length fed → is_touched_since serving query place fed ≡ false → view_after serving query (up_to place fed) ≡ view_after serving query fed
untouched serving well query place [] p h = ap (view_after serving query) (none_left place)
untouched serving well query place (f ∷ past) p h =
    by_test (nat_le place (length past)) (view_after serving query (up_to place (f ∷ past)) ≡ view_after serving query (f ∷ past))
    (λ e.
    let below : place ≤ length past = grind (arith, nat_tests) in
    let none = and_false (nat_le place (length past)) (serving.touches query (rows_fed past) f.row || is_touched_since serving query place past) e h in
    let rest = untouched serving well query place past below (or_right (serving.touches query (rows_fed past) f.row) (is_touched_since serving query place past) none) in
    ap (view_after serving query) (up_to_before place f past below) ∙ rest ∙ sym (well query past f (or_left (serving.touches query (rows_fed past) f.row) (is_touched_since serving query place past) none)))
    (λ e.
    let above : length past < place = grind (arith, nat_tests) in
    let same : place ≡ length (f ∷ past) = omega arith in
    ap (view_after serving query) (ap (λ n. up_to n (f ∷ past)) same ∙ up_to_all (f ∷ past)))

owed_is_due : (serving : Serving) → ChangesTouch serving → (fed : List FedRow) (drained : Option ℕ) (query : Option Query) → IsPlaced drained fed → IsOwedFor serving fed drained query → is_due_for serving fed drained query ≡ true
owed_is_due serving well fed drained None p h = absurd h
owed_is_due serving well fed None (Some query) p h = refl
owed_is_due serving well fed (Some place) (Some query) p h =
    by_test (is_touched_since serving query place fed) (is_touched_since serving query place fed ≡ true) (λ e. e) (λ e. absurd (h (untouched serving well query place fed p e)))

work : (read is_open writable left due : Bool) → is_open ≡ true → writable ≡ true → (left ≡ true) ⊎ (due ≡ true) → (read || (is_open && (writable && (left || due)))) ≡ true
work true is_open writable left due i w h = refl
work false is_open writable left due i w (inl h) = rw (i, w, h) refl
work false is_open writable true due i w (inr h) = rw (i, w) refl
work false is_open writable false due i w (inr h) = rw (i, w, h) refl

pub owed_has_work : OwedHasWork
owed_has_work serving well fed s p h w =
    let there : (not (is_empty s.outbox) ≡ true) ⊎ (is_due serving fed s ≡ true) = elim h.owed [ inl e ↦ inl (ap not e) | inr o ↦ inr (owed_is_due serving well fed s.drained (query_of serving s.bytes) p o) ] in
    work (may_read serving s) s.is_open s.writable (not (is_empty s.outbox)) (is_due serving fed s) h.is_open w there
