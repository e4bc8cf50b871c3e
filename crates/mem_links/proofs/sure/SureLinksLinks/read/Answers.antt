use Rattle.std.proofs.Common.{ap, arith}
use Rattle.mesh_outside.specs.Causes.{none_ever}
use Rattle.mem_links.specs.Counted.{counts_of}
use Rattle.mem_links.proofs.sure.SureLinksLinks.read.Goals as goal

pub returns-clause-cause : goal.returns-clause-cause
returns-clause-cause c = record {
  later = record { polls = omega arith; faults = λ link. omega arith; pendings = λ link. c.read.ensures.cause.later.pendings link };
  failed = λ e. absurd (c.read.ensures.sure c.args.self.now.sure e);
  pending = λ e. c.read.ensures.cause.pending e;
  memory = λ e. ap (λ k. counts_of none_ever none_ever (k.pendings 0)) (c.read.ensures.cause.memory e);
}
