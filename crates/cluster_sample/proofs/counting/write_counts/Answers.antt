use Rattle.line_run.proofs.Progress.{OnEnd-weaker, OnStop-weaker}
use Rattle.cluster_sample.proofs.Told.{at_end, at_stop, front_written, memory_cause, whole_written}
use Rattle.cluster_sample.proofs.counting.write_counts.Goals as goal

pub returns-in-Done-clause-whole : goal.returns-in-Done-clause-whole
returns-in-Done-clause-whole g c =
    let whole = whole_written c.args.n c.args.lines c.args.text.now c.requires (g.K.Sink.held c.args.out.now) (g.K.Sink.held c.run_lines.new.sink) c.run_lines.new.machine in
    (at_end c.run_lines.result _ c.in-Done.is (OnEnd-weaker c.run_lines.result _ _ whole c.run_lines.ensures.whole)).1

pub returns-in-WriteFault-clause-front : goal.returns-in-WriteFault-clause-front
returns-in-WriteFault-clause-front g c =
    front_written c.args.n c.args.lines c.args.text.now c.requires (g.K.Sink.held c.args.out.now) (g.K.Sink.held c.run_lines.new.sink)
    (λ m. m.n) (λ m. m.lines) (λ m. m.counts) c.in-WriteFault.ensures.part

pub returns-in_default : goal.returns-in_default
returns-in_default g c =
    let front = front_written c.args.n c.args.lines c.args.text.now c.requires (g.K.Sink.held c.args.out.now) (g.K.Sink.held c.run_lines.new.sink) (λ m. m.n) (λ m. m.lines) (λ m. m.counts) in record {
      whole = tt;
      front = at_stop c.run_lines.result _ c.in_default.not-Done c.in_default.not-SomeRefused (OnStop-weaker c.run_lines.result _ _ front c.run_lines.ensures.part);
      cause = memory_cause (g.K.Sink.faults c.args.out.now) (g.K.Sink.faults c.run_lines.new.sink) c.run_lines.ensures.write_later
          (c.run_lines.ensures.write_told c.in_default.not-WriteFault);
    }
