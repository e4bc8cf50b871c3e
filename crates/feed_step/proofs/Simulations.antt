-- What an answer of a simulation comes to.
use Rattle.std.proofs.Common.{◌≡◌, ℕ, ◌≤◌, Bool, List, ◌++◌, Option, Some, None, refl, sym, ap, ◌∙◌, append-nil}
use Rattle.std.specs.Prelude.{Ok, Err}
use Rattle.mesh_outside.specs.Causes.{Rose}
use Rattle.view_types.specs.declared.request.Request.{Request}
use Rattle.view_types.specs.declared.verdict.Verdict.{Verdict}
use Rattle.route_match.specs.Matching.{Pat}
use Rattle.request_rules.specs.Verdicts.{verdict}
use Rattle.request_sim.specs.Faults.{MetPattern}
use Rattle.request_sim.specs.declared.fault.SimFault.{SimFault}
use Rattle.request_sim.specs.declared.fault.SimFault.TheVariants.{Memory, Pattern}
use Rattle.mesh_hub.specs.Hub.{HubState, Simulates}
use Rattle.mesh_hub.specs.Replies.{sim_reply}
use Rattle.feed_history.specs.VerdictText.{verdict_line}
use Rattle.mesh_hub.specs.declared.machine.Reply.{Reply}
use Rattle.mesh_hub.specs.declared.machine.Reply.TheVariants as replies
use Rattle.feed_history.specs.declared.refusal.Refusal.{Refusal}
use Rattle.feed_step.specs.Transcript.{sim_text}
use Rattle.feed_history.specs.KnownPatterns.{facts_in, known_of}
use Rattle.feed_step.specs.LineStep.{IsRefusalFor, IsSimulated, Replied, text_unless}
use Rattle.feed_history.proofs.Marks.{none_met, one_met}

-- ---- by what is held

module _ (tells : Option Pat) (refuses : Option (List ℕ → Bool)) (before now number : ℕ) (request : Request) (out out_new : List ℕ) (old new : HubState) (later : before ≤ now) where
  pub simulated_ok : (found : Verdict) → Simulates (facts_in (known_of tells refuses before now)) request (Ok found) old new → out_new ≡ out ++ verdict_line number request.ns found
      → IsSimulated (known_of tells refuses before now) number request None out out_new old new
  simulated_ok found simulates writes = record {
    met = None;
    counted = none_met before now later;
    may_meet = tt;
    refusal_is = refl;
    state = simulates.state.same;
    wrote = λ none. (found, writes);
    text = λ pat is. writes ∙ ap (λ (v : Verdict). out ++ verdict_line number request.ns v) (simulates.answer pat is);
  }

  pub simulated_err : (fault : SimFault) (refusal : Option Refusal) → Simulates (facts_in (known_of tells refuses before now)) request (Err fault) old new → (MetPattern {T = Verdict} (Err fault) → Rose before now) → IsRefusalFor fault refusal → out_new ≡ out
      → IsSimulated (known_of tells refuses before now) number request refusal out out_new old new
  simulated_err Memory refusal simulates rose is same = absurd is
  simulated_err (Pattern route rule item) refusal simulates rose is same = record {
    met = Some (Pattern route rule item);
    counted = one_met (Pattern route rule item) before now (rose tt);
    may_meet = simulates.answer;
    refusal_is = is;
    state = simulates.state.same;
    wrote = λ none. absurd (let some = sym is ∙ none in cc);
    text = λ pat told. same ∙ sym (append-nil out)
        ∙ ap (λ (r : Option Refusal). out ++ text_unless r (verdict_line number request.ns (verdict old.config old.objects pat request))) (sym is);
  }

-- ---- by the replies

module _ (number : ℕ) (ns out out_new : List ℕ) (old new : List Reply) where
  pub sim_replied_ok : (found : Verdict) → new ≡ old ++ sim_reply (Ok found) → out_new ≡ out ++ verdict_line number ns found → Replied (sim_text number ns) None out out_new old new
  sim_replied_ok found adds writes = record { reply = replies.Verdict found; adds = adds; refuses = refl; texts = writes }

  pub sim_replied_err : (fault : SimFault) (refusal : Option Refusal) → new ≡ old ++ sim_reply (Err fault) → IsRefusalFor fault refusal → out_new ≡ out → Replied (sim_text number ns) refusal out out_new old new
  sim_replied_err Memory refusal adds is same = absurd is
  sim_replied_err (Pattern route rule item) refusal adds is same = record { reply = replies.Pattern (Pattern route rule item); adds = adds; refuses = is; texts = same ∙ sym (append-nil out) }
