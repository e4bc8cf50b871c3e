use Rattle.std.proofs.Common.{◌+◌, take, drop, sym, subst}
use Rattle.std.proofs.lemmas.List.{take_rest}
use Rattle.line_run.specs.Rows.{NoBreak}
use Rattle.line_run.proofs.Cut.{NoBreak-append}
use Rattle.session_core.proofs.StateSteps.{path_cut}
use Rattle.session_core.proofs.steps.fill_path.Goals as goal

pub returns-in_ok-extend_from_slice-in-Some-clause-path : goal.returns-in_ok-extend_from_slice-in-Some-clause-path
returns-in_ok-extend_from_slice-in-Some-clause-path c none =
    let at = c.in-Some.at in
    let piece = c.args.piece.now in
    rw (take_rest piece (at + 1)) (path_cut c.args.part.now piece (take at piece) (drop (at + 1) piece) c.extend_from_slice.new.self none c.in-Some.ensures.line c.in-Some.ensures.cut c.in_ok-extend_from_slice-in-Some.ensures.ok)

pub returns-in_ok-extend_from_slice-in-None-clause-none : goal.returns-in_ok-extend_from_slice-in-None-clause-none
returns-in_ok-extend_from_slice-in-None-clause-none c none = subst NoBreak (sym c.in_ok-extend_from_slice-in-None.ensures.ok) (NoBreak-append c.args.part.now c.args.piece.now none c.in-None.ensures.none)
