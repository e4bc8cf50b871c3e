-- The effect of a piece of its bytes on a feed.
use Rattle.std.specs.Prelude.{◌≡◌, ◌+◌, ℕ, List, ◌++◌, length}
use Rattle.line_run.specs.Rows.{Row, rows_of}
use Rattle.session_core.specs.Pieces.{line_asks}
use Rattle.session_core.specs.declared.session.Ask.{Ask}

-- the state of a feed: the bytes of the incomplete line, up to one more than the limit, and the number of lines before it
pub record FeedPart : Type 0 where
  pub part : List ℕ
  pub lines : ℕ

-- After this incomplete line and this number of lines, a piece gives rows, requests them by their numbers, and leaves this incomplete line.
pub record Takes (limit : ℕ) (part : List ℕ) (lines : ℕ) (asks : List Ask) (piece left : List ℕ) (lines_now : ℕ) (asks_now : List Ask) : Type 0 where
  pub rows : List Row
  pub cut : (more : List ℕ) → rows_of limit ((part ++ piece) ++ more) ≡ rows ++ rows_of limit (left ++ more)
  pub counted : lines_now ≡ lines + length rows
  pub asked : asks_now ≡ asks ++ line_asks lines rows
