-- Texts without a byte, and how they are cut.
use Rattle.std.proofs.Common.{◌≡◌, ◌/◌, ◌%◌, ℕ, zero, suc, Bool, true, false, not, ◌&&◌, List, [], ◌∷◌, ◌++◌, refl}
use Rattle.std.specs.Prelude.{◌==◌, slice_index}
use Rattle.std.specs.List.{AllByRecursion, list_all}
use Rattle.std.proofs.lemmas.List.Elements.{All-from_recursion}
use Rattle.std.proofs.lemmas.List.Splits.{slice_split_at, slice_split_none}
use Rattle.hex.specs.Hex.{encode_with, encode_lower, lower_digits}
use Rattle.line_run.specs.Rows.{NoBreak}
use Rattle.mesh_base.specs.Pieces.{pieces}
use Rattle.feed_history.proofs.Lists.{all_joined}
use Rattle.feed_history.proofs.EntriesById.{same_id}

-- no byte is the mark
abbrev pub Without : ℕ → List ℕ → Type 0
Without mark text = AllByRecursion (λ (b : ℕ). (b == mark) ≡ false) text

pub no_break : (text : List ℕ) → Without 10 text → NoBreak text
no_break [] all = tt
no_break (b ∷ text) all = (all.0, no_break text all.1)

pub without_break : (text : List ℕ) → NoBreak text → Without 10 text
without_break [] none = tt
without_break (b ∷ text) none = (none.0, without_break text none.1)

pub without_both : (mark : ℕ) (xs ys : List ℕ) → Without mark xs → Without mark ys → Without mark (xs ++ ys)
without_both mark xs ys = all_joined (λ (b : ℕ). (b == mark) ≡ false) xs ys

-- a text that is at hand is looked through
first_passes : (b rest : Bool) → (not b && rest) ≡ true → (b ≡ false) × (rest ≡ true)
first_passes true rest e = absurd cc
first_passes false rest e = (refl, e)

pub looked_through : (mark : ℕ) (text : List ℕ) → list_all (λ b. not (b == mark)) text ≡ true → Without mark text
looked_through mark [] e = tt
looked_through mark (b ∷ text) e = let parts = first_passes (b == mark) (list_all (λ b. not (b == mark)) text) e in (parts.0, looked_through mark text parts.1)

-- ---- pieces

pub pieces_at : (mark : ℕ) (xs ys : List ℕ) → Without mark xs → pieces mark (xs ++ mark ∷ ys) ≡ xs ∷ pieces mark ys
unfolding pieces
pieces_at mark xs ys free = slice_split_at (λ b. b == mark) xs mark ys (All-from_recursion (λ (b : ℕ). (b == mark) ≡ false) xs free) (same_id mark mark refl)

pub pieces_last : (mark : ℕ) (xs : List ℕ) → Without mark xs → pieces mark xs ≡ xs ∷ []
unfolding pieces
pieces_last mark xs free = slice_split_none (λ b. b == mark) xs (All-from_recursion (λ (b : ℕ). (b == mark) ≡ false) xs free)

-- ---- hex

-- nor is any byte at a place, or 0 past its end
at_place : (mark : ℕ) (text : List ℕ) → (0 == mark) ≡ false → Without mark text → (k : ℕ) → (slice_index text k == mark) ≡ false
at_place mark [] zero_too free k = zero_too
at_place mark (b ∷ text) zero_too free zero = free.0
at_place mark (b ∷ text) zero_too free (suc k) = at_place mark text zero_too free.1 k

hex_with : (mark : ℕ) (table : List ℕ) → ((k : ℕ) → (slice_index table k == mark) ≡ false) → (bytes : List ℕ) → Without mark (encode_with table bytes)
unfolding encode_with
hex_with mark table free [] = tt
hex_with mark table free (b ∷ bytes) = (free (b / 16), (free (b % 16), hex_with mark table free bytes))

pub hex_without_break : (bytes : List ℕ) → Without 10 (encode_lower bytes)
hex_without_break bytes = hex_with 10 lower_digits (at_place 10 lower_digits refl (looked_through 10 lower_digits refl)) bytes

pub hex_without_space : (bytes : List ℕ) → Without 32 (encode_lower bytes)
hex_without_space bytes = hex_with 32 lower_digits (at_place 32 lower_digits refl (looked_through 32 lower_digits refl)) bytes
