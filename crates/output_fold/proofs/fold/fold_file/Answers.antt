use Rattle.line_run.proofs.Progress.{OnEnd-weaker, OnStop-weaker}
use Rattle.output_fold.specs.Stand.{IsOfFold}
use Rattle.output_fold.proofs.Fronts.{folded_front, folded_whole}
use Rattle.output_fold.proofs.fold.fold_file.Goals as goal

pub returns-clause-output : goal.returns-clause-output
returns-clause-output g c = OnEnd-weaker c.run_lines.result _ _ (λ refused whole.
    folded_whole c.args.method c.args.id.0 c.args.limits.now (g.S.Source.left c.args.input.now) (g.K.Sink.held c.args.out.now) (g.K.Sink.held c.run_lines.new.sink) whole.input whole.output refused whole.read whole.below whole.written whole.at_end)
    c.run_lines.ensures.whole

pub returns-clause-front : goal.returns-clause-front
returns-clause-front g c = OnStop-weaker c.run_lines.result _ _ (λ part.
    folded_front c.args.method c.args.id.0 c.args.limits.now (g.S.Source.left c.args.input.now) (g.K.Sink.held c.args.out.now) (g.K.Sink.held c.run_lines.new.sink)
    (λ m. m.failed) (λ m. m.fold.view) (λ m. IsOfFold c.args.method c.args.id c.args.limits.now m.method m.id m.limits) part) c.run_lines.ensures.part
