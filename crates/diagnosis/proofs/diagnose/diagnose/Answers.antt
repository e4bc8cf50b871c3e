use Rattle.line_run.proofs.Progress.{OnEnd-weaker, OnStop-weaker}
use Rattle.diagnosis.specs.Stand.{IsOfRun}
use Rattle.diagnosis.proofs.Fronts.{diagnosed_front, diagnosed_whole}
use Rattle.diagnosis.proofs.diagnose.diagnose.Goals as goal

pub returns-clause-output : goal.returns-clause-output
returns-clause-output g c = OnEnd-weaker c.run_lines.result _ _ (λ refused whole.
    diagnosed_whole c.args.config.now c.args.limits.now c.args.id.0 c.args.query.now (g.S.Source.left c.args.input.now) (g.K.Sink.held c.args.out.now) (g.K.Sink.held c.run_lines.new.sink)
    whole.input whole.output refused whole.read whole.below whole.written whole.at_end) c.run_lines.ensures.whole

pub returns-clause-front : goal.returns-clause-front
returns-clause-front g c = OnStop-weaker c.run_lines.result _ _ (λ part.
    diagnosed_front c.args.config.now c.args.limits.now c.args.id.0 c.args.query.now (g.S.Source.left c.args.input.now) (g.K.Sink.held c.args.out.now) (g.K.Sink.held c.run_lines.new.sink)
    (λ m. m.store) (λ m. IsOfRun c.args.config.now c.args.limits.now c.args.id c.args.query.now m.config.now m.limits m.id m.query.now) part) c.run_lines.ensures.part
