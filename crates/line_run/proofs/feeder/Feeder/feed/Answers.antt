use Rattle.std.proofs.Common.{◌≡◌, [], ◌++◌, sym, subst, arith}
use Rattle.line_run.specs.Rows.{NoBreak}
use Rattle.line_run.specs.Within.{now_of, Come}
use Rattle.line_run.proofs.Progress.{Moves-none, come_stops, on_err, at_some}
use Rattle.line_run.proofs.Steps.{takes_line, line_stops}
use Rattle.line_run.proofs.feeder.Feeder.feed.Goals as goal

pub returns-in_default-clause-stopped : goal.returns-in_default-clause-stopped
returns-in_default-clause-stopped g c = λ start held taken more come.
    come_stops (g.M.LineMachine.stands start) (g.M.LineMachine.ending start) (g.M.LineMachine.ended start) _ more (c.loop-found.invariant.come start held taken come) (Moves-none _ _) (g.M.LineMachine.keeps_itself _)

pub returns-in_err-give-clause-stopped : goal.returns-in_err-give-clause-stopped
returns-in_err-give-clause-stopped g c = on_err c.from_residual.result (λ start held taken more come.
    line_stops (g.M.LineMachine.stands start) (g.M.LineMachine.ending start) (g.M.LineMachine.ended start) _ c.in-Some.after.now more (c.loop-found.invariant.come start held taken come)
    (at_some c.in-Ok.found c.in-Some.after _ c.in-Some.is c.in-Ok.ensures.line) (λ past rest counted says. c.in_err-give.ensures.stopped start held past rest counted says))

pub returns-in_err-give-clause-keeps : goal.returns-in_err-give-clause-keeps
returns-in_err-give-clause-keeps g c = g.M.LineMachine.keeps_on _ _ _ c.loop-found.invariant.keeps c.give.ensures.keeps

pub loop-found-preserved : goal.loop-found-preserved
loop-found-preserved g c =
    let is = c.loop-found.invariant in
    let fewer = at_some c.in-Ok.found c.in-Some.after _ c.in-Some.is c.in-Ok.ensures.fewer in
    let empty : c.give.new.self.cutter.part.items ≡ [] = c.in_ok-give.ensures.part in
    record {
      part = subst NoBreak (sym empty) tt;
      lines = omega (arith, is.lines, c.in_ok-give.ensures.lines, fewer);
      come = λ start held taken come.
          subst (λ part. Come (g.M.LineMachine.stands start) c.args.limit held (taken ++ c.args.block.now) (part ++ c.in-Some.after.now) (now_of c.give.new.machine (g.K.Sink.held c.give.new.sink) c.give.new.self)) (sym empty)
          (takes_line (g.M.LineMachine.stands start) (is.come start held taken come) (at_some c.in-Ok.found c.in-Some.after _ c.in-Some.is c.in-Ok.ensures.line) c.in_ok-give.ensures.lines
          (λ past counted says. c.in_ok-give.ensures.stands start held past counted says));
      told = grind (arith, c.in_ok-give.ensures.cause.other, is.told);
      keeps = g.M.LineMachine.keeps_on _ _ _ is.keeps c.give.ensures.keeps;
    }
