use Rattle.std.proofs.Common.{ap, arith}
use Rattle.mesh_outside.specs.Causes.{none_ever}
use Rattle.mem_links.specs.Counted.{counts_of}
use Rattle.mem_links.proofs.sure.SureLinksLinks.poll.Goals as goal

pub returns-clause-cause : goal.returns-clause-cause
returns-clause-cause c = record {
  later = record { polls = omega arith; faults = λ link. omega arith; pendings = λ link. c.poll.ensures.cause.later.pendings link };
  failed = λ e. absurd (c.poll.ensures.sure c.args.self.now.sure e);
  memory = λ e. ap (λ p. counts_of none_ever none_ever p) c.poll.ensures.pendings;
}
