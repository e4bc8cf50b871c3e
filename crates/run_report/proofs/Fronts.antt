-- Counting of a piece, line after line.
use Rattle.std.proofs.Common.{◌≡◌, ℕ, List, [], ◌∷◌, ◌++◌, refl, sym, ap, subst, ◌∙◌, append_assoc, append-nil}

-- `Are counts bytes` says that the counts are those of the bytes
module _ {C : Type 0} (Are : C → List ℕ → Type 0) where
  -- the lines of a front of the piece are counted, and the rest is left
  abbrev pub FrontCounted : C → C → List ℕ → List ℕ → Type 0
  FrontCounted start now piece rest = (front : List ℕ) × (piece ≡ front ++ rest) × ((bytes : List ℕ) → Are start bytes → Are now (bytes ++ front))

  pub front_starts : (start : C) (piece : List ℕ) → FrontCounted start start piece piece
  front_starts start piece = ([], refl, λ bytes are. subst (Are start) (sym (append-nil bytes)) are)

  pub front_grows : (start before between now : C) (piece rest part after : List ℕ) → FrontCounted start before piece rest → rest ≡ part ++ 10 ∷ after
      → ((bytes : List ℕ) → Are before bytes → Are between (bytes ++ part)) → ((bytes : List ℕ) → Are between bytes → Are now (bytes ++ 10 ∷ []))
      → FrontCounted start now piece after
  front_grows start before between now piece rest part after (front, whole, lines) cut adds_part adds_break = (
    front ++ (part ++ 10 ∷ []),
    whole ∙ ap (λ (xs : List ℕ). front ++ xs) (cut ∙ sym (append_assoc part (10 ∷ []) after)) ∙ sym (append_assoc front (part ++ 10 ∷ []) after),
    λ bytes are. subst (Are now) (append_assoc (bytes ++ front) part (10 ∷ []) ∙ append_assoc bytes front (part ++ 10 ∷ [])) (adds_break ((bytes ++ front) ++ part) (adds_part (bytes ++ front) (lines bytes are))),
  )

  pub front_is_all : (start before now : C) (piece rest : List ℕ) → FrontCounted start before piece rest → ((bytes : List ℕ) → Are before bytes → Are now (bytes ++ rest))
      → (bytes : List ℕ) → Are start bytes → Are now (bytes ++ piece)
  front_is_all start before now piece rest (front, whole, lines) adds_rest bytes are =
      subst (Are now) (append_assoc bytes front rest ∙ ap (λ (xs : List ℕ). bytes ++ xs) (sym whole)) (adds_rest (bytes ++ front) (lines bytes are))
