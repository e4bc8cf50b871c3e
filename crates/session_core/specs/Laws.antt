-- The effect of more bytes of a link.
use Rattle.std.specs.Prelude.{◌≡◌, ℕ, Bool, false, List, ◌∷◌, ◌++◌, Ok, Err}
use Rattle.line_run.specs.Rows.{NoBreak, Row, rows_of}
use Rattle.mesh_base.specs.declared.limits.Limits.{Limits}
use Rattle.view_types.specs.declared.config.Config.{Config}
use Rattle.view_types.specs.declared.query.Query.{Query}
use Rattle.session_core.specs.Lines.{rows_so_far}
use Rattle.session_core.specs.Pieces.{all_answers, answers, asks_so_far, given_first, given_from}
use Rattle.session_core.specs.Phases.{Feeding, Asked, phase_of}
use Rattle.session_core.specs.declared.session.SessionFault.{SessionFault}
use Rattle.session_core.specs.declared.session.SessionFault.TheVariants.{Extra}

-- A fault stays.
abbrev pub FaultStays : Type 0
FaultStays = (config : Config) (limits : Limits) (bytes more : List ℕ) (fault : SessionFault) → phase_of config limits bytes ≡ Err fault → phase_of config limits (bytes ++ more) ≡ Err fault

-- A feed continues.
abbrev pub FeedGoesOn : Type 0
FeedGoesOn = (config : Config) (limits : Limits) (bytes more text : List ℕ) → phase_of config limits bytes ≡ Ok (Feeding text) → phase_of config limits (bytes ++ more) ≡ Ok (Feeding (text ++ more))

-- A byte after a valid request is the fault Extra.
abbrev pub NothingFollows : Type 0
NothingFollows = (config : Config) (limits : Limits) (bytes : List ℕ) (byte : ℕ) (more : List ℕ) (query : Query) → phase_of config limits bytes ≡ Ok (Asked query) → phase_of config limits (bytes ++ byte ∷ more) ≡ Err Extra

-- The rows so far are a prefix of those of a longer text.
abbrev pub RowsStay : Type 0
RowsStay = (limit : ℕ) (ended : Bool) (text more : List ℕ) → (later : List Row) × (rows_so_far limit ended (text ++ more) ≡ rows_so_far limit false text ++ later)

-- If a text gives these rows and leaves a part without LF, they are the rows so far, whatever follows. The contract of a cutter says
-- this.
abbrev pub RowsAreCut : Type 0
RowsAreCut = (limit : ℕ) (text part : List ℕ) (rows : List Row) → NoBreak part → ((more : List ℕ) → rows_of limit (text ++ more) ≡ rows ++ rows_of limit (part ++ more)) → rows_so_far limit false text ≡ rows

-- It does not matter where the bytes of a link are cut: the answers to the pieces, joined, request what all bytes request, or end with
-- their fault.
abbrev pub CuttingIsFree : Type 0
CuttingIsFree = (config : Config) (limits : Limits) (pieces : List (List ℕ)) → all_answers (answers config limits given_first pieces) ≡ asks_so_far config limits (given_from given_first pieces)
