-- A feed takes line after line.
use Rattle.std.proofs.Common.{◌≡◌, ℕ, ◌+◌, List, [], ◌∷◌, ◌++◌, length, length-append, refl, sym, ap, ◌∙◌, append_assoc, arith}
use Rattle.std.proofs.lemmas.List.{append-nil}
use Rattle.line_run.specs.Rows.{Row, rows_of}
use Rattle.session_core.specs.Feeds.{Takes}
use Rattle.session_core.specs.Pieces.{line_ask, line_asks}
use Rattle.session_core.specs.declared.session.Ask.{Ask}

line_asks-last : (before : ℕ) (rows : List Row) (row : Row) → line_asks before (rows ++ row ∷ []) ≡ line_asks before rows ++ line_ask (before + length rows + 1) row ∷ []
line_asks-last before [] row = let same : before + 1 ≡ before + 0 + 1 = omega arith in ap (λ n. line_ask n row ∷ []) same
line_asks-last before (first ∷ rows) row =
    let same : before + 1 + length rows + 1 ≡ before + length (first ∷ rows) + 1 = omega arith in
    ap (λ z. line_ask (before + 1) first ∷ z) (line_asks-last (before + 1) rows row ∙ ap (λ n. line_asks (before + 1) rows ++ line_ask n row ∷ []) same)

-- at the beginning
pub takes_nothing : (limit : ℕ) (part : List ℕ) (lines : ℕ) (asks : List Ask) (piece : List ℕ) → Takes limit part lines asks piece (part ++ piece) lines asks
takes_nothing limit part lines asks piece = record { rows = []; cut = λ more. refl; counted = omega arith; asked = sym (append-nil asks) }

-- a line more
pub takes_line : (limit : ℕ) (part : List ℕ) (lines : ℕ) (asks : List Ask) (piece left : List ℕ) (now : ℕ) (asked : List Ask) (row : Row) (after : List ℕ) (then : ℕ) (more_asked : List Ask)
    → Takes limit part lines asks piece left now asked → ((more : List ℕ) → rows_of limit (left ++ more) ≡ row ∷ rows_of limit (after ++ more)) → then ≡ now + 1 → more_asked ≡ asked ++ line_ask (now + 1) row ∷ []
    → Takes limit part lines asks piece after then more_asked
takes_line limit part lines asks piece left now asked row after then more_asked t line counts asks_one =
    let number : now + 1 ≡ lines + length t.rows + 1 = ap (λ n. n + 1) t.counted in
    let size : length (t.rows ++ row ∷ []) ≡ length t.rows + 1 = length-append t.rows (row ∷ []) in
    record {
      rows = t.rows ++ row ∷ [];
      cut = λ more. t.cut more ∙ ap (λ z. t.rows ++ z) (line more) ∙ sym (append_assoc t.rows (row ∷ []) (rows_of limit (after ++ more)));
      counted = counts ∙ number ∙ (let e : lines + length t.rows + 1 ≡ lines + length (t.rows ++ row ∷ []) = omega (arith, size) in e);
      asked =
          asks_one ∙ ap (λ z. z ++ line_ask (now + 1) row ∷ []) t.asked ∙ append_assoc asks (line_asks lines t.rows) (line_ask (now + 1) row ∷ [])
          ∙ ap (λ n. asks ++ (line_asks lines t.rows ++ line_ask n row ∷ [])) number ∙ ap (λ z. asks ++ z) (sym (line_asks-last lines t.rows row));
    }

-- the last part
pub takes_rest : (limit : ℕ) (part : List ℕ) (lines : ℕ) (asks : List Ask) (piece left : List ℕ) (now : ℕ) (asked : List Ask) (rest : List ℕ) → Takes limit part lines asks piece left now asked → ((more : List ℕ) → rows_of limit (left ++ more) ≡ rows_of limit (rest ++ more)) → Takes limit part lines asks piece rest now asked
takes_rest limit part lines asks piece left now asked rest t same = record { rows = t.rows; cut = λ more. t.cut more ∙ ap (λ z. t.rows ++ z) (same more); counted = t.counted; asked = t.asked }
