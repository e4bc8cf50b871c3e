use Rattle.std.proofs.Common.{Result, Err, true, refl, subst, ap, ◌∙◌}
use Rattle.route_match.specs.Asking.{facts_of}
use Rattle.view_types.specs.declared.verdict.Verdict.{Verdict}
use Rattle.request_sim.specs.Faults.{Simulated}
use Rattle.request_sim.specs.declared.fault.SimFault.{SimFault}
use Rattle.mesh_hub.proofs.LiveSubs.{asked_same}
use Rattle.mesh_hub.proofs.hub.Hub.simulate.Goals as goal

pub returns-in-Ok-clause-answers : goal.returns-in-Ok-clause-answers
returns-in-Ok-clause-answers g c = record { answer = c.in-Ok.ensures.simulated; state = record { going = c.if-self.false; same = refl } }

pub returns-in-Err-Pattern-clause-answers : goal.returns-in-Err-Pattern-clause-answers
returns-in-Err-Pattern-clause-answers g c =
    let self = c.args.self.now in
    record {
      answer = subst (λ (result : Result Verdict SimFault). Simulated self.config self.store.objects (facts_of g.P.Patterns c.args.patterns.now) c.args.request.now result) (c.in-Err-Pattern.is ∙ ap Err c.in-Err-Pattern.field-0-is) c.verdict.ensures.simulated;
      state = record { going = c.if-self.false; same = refl };
    }

pub returns-in-Err-Memory-clause-answers : goal.returns-in-Err-Memory-clause-answers
returns-in-Err-Memory-clause-answers g c =
    let self = c.args.self.now in
    record { answer = tt; state = record { spent = refl; subs = asked_same self.spent true self.subscribers self.subscribers refl; last = refl } }
