-- The state of a run at a moment within it. Callers of a run don't need these definitions.
use Rattle.std.specs.Prelude.{◌≡◌, ℕ, Bool, List, ◌++◌, length}
use Rattle.std.specs.declared.option.Option.{Option}
use Rattle.std.specs.Io.KnownBytes.{Appends}
use Rattle.line_run.specs.Rows.{Row, rows_of, past_from, past_of}
use Rattle.line_run.specs.Run.{IsFront}
use Rattle.line_run.specs.declared.feeder.Feeder.{Feeder}

-- A moment of a run: the machine, the sink's content, the output not yet written, the number of
-- lines passed, and whether one was refused.
pub record Now (M : Type 0) : Type 0 where
  pub machine : M
  pub held : Option (List ℕ)
  pub out : List ℕ
  pub lines : ℕ
  pub refused : Bool

abbrev pub now_of : {M : Type 0} → M → Option (List ℕ) → Feeder → Now M
now_of machine held feeder = record { machine = machine; held = held; out = feeder.out.items; lines = feeder.lines; refused = feeder.refused }

-- The machine is in the state after these rows, and its output is what the sink accepted since it
-- held `held`, followed by the gathered output.
pub record Says {M : Type 0} (here : M → List Row → List ℕ → Bool → Type 0) (held : Option (List ℕ)) (past : List Row) (now : Now M) : Type 0 where
  pub sent : List ℕ
  pub written : Appends held now.held sent
  pub at_past : here now.machine past (sent ++ now.out) now.refused

-- Some rows of the bytes read were passed on; the others are in `uncut`, whatever follows.
pub record Come {M : Type 0} (stands : M → List Row → List ℕ → Bool → Type 0) (limit : ℕ) (held : Option (List ℕ)) (taken uncut : List ℕ) (now : Now M) : Type 0 where
  pub past : List Row
  pub says : Says stands held past now
  pub counted : now.lines ≡ length past
  pub rows : (more : List ℕ) → past_of limit (taken ++ more) ≡ past_from past (rows_of limit (uncut ++ more))

-- The run stopped: what the sink accepted since `held` is a front of the output for these rows.
pub record Stopped {M : Type 0} (stands ending ended : M → List Row → List ℕ → Bool → Type 0) (kept : M → Type 0) (held held_now : Option (List ℕ)) (rows : List Row) : Type 0 where
  pub sent : List ℕ
  pub written : Appends held held_now sent
  pub front : IsFront stands ending ended kept rows sent
