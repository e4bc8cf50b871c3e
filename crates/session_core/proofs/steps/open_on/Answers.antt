use Rattle.std.proofs.Common.{◌<◌, ◌≤◌, ◌++◌, length, ap, ◌∙◌, sym, arith}
use Rattle.line_run.proofs.Progress.{at_some}
use Rattle.session_core.specs.Paths.{path_of}
use Rattle.session_core.specs.Phases.{phase_of, path_bound}
use Rattle.session_core.proofs.StateSteps.{at_none, bad_path, begins, long_fault, opening_goes}
use Rattle.session_core.proofs.steps.open_on.Goals as goal

pub returns-then-len-lt-PATH_BOUND : goal.returns-then-len-lt-PATH_BOUND
returns-then-len-lt-PATH_BOUND c given next o live bytes =
    let all = at_none c.in-Ok.found _ c.in_default-found.is c.in-Ok.ensures.part in
    let none = at_none c.in-Ok.found _ c.in_default-found.is c.in-Ok.ensures.none in
    let short : length c.fill_path.new.part < path_bound = omega (arith, c.if-len-lt-PATH_BOUND.true, c.len.ensures) in
    opening_goes c.args.config.now c.args.limits.now given next c.args.part c.fill_path.new.part c.new.result o live (bytes ∙ sym all) short (none o.line) c.new.ensures

pub returns-in_default-found : goal.returns-in_default-found
returns-in_default-found c given next o live bytes =
    let all = at_none c.in-Ok.found _ c.in_default-found.is c.in-Ok.ensures.part in
    let none = at_none c.in-Ok.found _ c.in_default-found.is c.in-Ok.ensures.none in
    let long : path_bound ≤ length c.fill_path.new.part = omega (arith, c.if-len-lt-PATH_BOUND.false, c.len.ensures) in
    ap (phase_of c.args.config.now c.args.limits.now) (bytes ∙ sym all) ∙ long_fault c.args.config.now c.args.limits.now c.fill_path.new.part (none o.line) long

pub returns-in-Some-path_of : goal.returns-in-Some-path_of
returns-in-Some-path_of c given next o live bytes =
    let first = at_some c.in-Ok.found c.in-Some.rest _ c.in-Some.is c.in-Ok.ensures.path in
    c.begin.ensures given next (begins c.args.config.now c.args.limits.now given next c.args.part (c.args.part ++ c.args.piece.now) c.fill_path.new.part c.in-Some.rest.now _ o live bytes (first o.line) (c.in-Some-path_of.ensures ∙ ap path_of c.as_slice.ensures))

pub returns : goal.returns
returns c given next o live bytes =
    let first = at_some c.in-Ok.found c.in-Some.rest _ c.in-Some.is c.in-Ok.ensures.path in
    bad_path c.args.config.now c.args.limits.now given next c.in-Some.rest.now (begins c.args.config.now c.args.limits.now given next c.args.part (c.args.part ++ c.args.piece.now) c.fill_path.new.part c.in-Some.rest.now _ o live bytes (first o.line) (c.in-None.ensures ∙ ap path_of c.as_slice.ensures))
