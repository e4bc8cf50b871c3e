-- A program that reads each line by its text alone reads lawfully if the texts do.
use Rattle.std.proofs.Common.{◌≡◌, ℕ, List, Some, None, ap}
use Rattle.std.specs.Prelude.{Result, Ok, Err}
use Rattle.line_run.specs.Rows.{Row}
use Rattle.watch_events.specs.Lawful.{IsLawfulLine}
use Rattle.watch_events.specs.Lines.{row_says}
use Rattle.watch_events.specs.declared.line.Line.{Line}
use Rattle.watch_events.specs.declared.line.LineFault.{LineFault}
use Rattle.feed_history.specs.Program.{refused_unread}

read_as : (read : Result Line LineFault) (line : Line) → refused_unread read ≡ Ok line → read ≡ Ok line
read_as (Ok read) line is = let same : read ≡ line = cc is in ap Ok same
read_as (Err fault) line is = absurd (cc is)

module _ (reads : List ℕ → Result Line LineFault) (lawful : (bytes : List ℕ) (line : Line) → reads bytes ≡ Ok line → IsLawfulLine line) where
  pub texts_read_lawfully : (row : Row) (line : Line) → refused_unread (row_says reads row) ≡ Ok line → IsLawfulLine line
  texts_read_lawfully None line is = absurd (cc is)
  texts_read_lawfully (Some bytes) line is = lawful bytes line (read_as (reads bytes) line is)
