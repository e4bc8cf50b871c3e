use Rattle.std.proofs.Common.{Ok, None, refl, subst, sym}
use Rattle.watch_events.specs.declared.line.Line.TheVariants as lines
use Rattle.feed_history.specs.Optional.{Becomes-weaker}
use Rattle.feed_history.proofs.Optional.{Becomes-same}
use Rattle.feed_history.specs.KnownPatterns.{known_of}
use Rattle.feed_step.specs.LineStep.{Calls, TakesByReplies}
use Rattle.feed_step.proofs.Lines.{IfOk-both, IfOk-weaker, IfSome-all, cancel_takes, drain_takes, silent, simulate_takes, takes_none, takes_reply}
use Rattle.feed_step.proofs.run.Run.call.Goals as goal

pub returns-in-Blank-clause-state : goal.returns-in-Blank-clause-state
returns-in-Blank-clause-state g c =
    let run = c.args.self.now in
    let patterns = run.patterns.now in
    let count = g.P.Patterns.refusals patterns in
    let known = known_of (g.P.Patterns.tells patterns) (g.P.Patterns.refuses patterns) count count in
    rw c.in-Blank.is (Becomes-same (g.H.Machine.state run.hub.now) (Calls known c.args.number lines.Blank None run.live.now run.live.now c.args.out.now.items c.args.out.now.items) (λ held. (refl, refl, refl, refl)))

pub returns-in-Blank-clause-replies : goal.returns-in-Blank-clause-replies
returns-in-Blank-clause-replies g c =
    let out = c.args.out.now.items in rw c.in-Blank.is (λ has.
    Becomes-same (g.H.Machine.replies c.args.self.now.hub.now) (TakesByReplies c.args.number (Ok lines.Blank) None out out) (λ told. takes_none c.args.number (Ok lines.Blank) out told told (λ left more. refl) refl))

pub returns-in-Stop-clause-state : goal.returns-in-Stop-clause-state
returns-in-Stop-clause-state g c =
    let run = c.args.self.now in
    let patterns = run.patterns.now in
    let count = g.P.Patterns.refusals patterns in
    let known = known_of (g.P.Patterns.tells patterns) (g.P.Patterns.refuses patterns) count count in
    rw c.in-Stop.is (Becomes-same (g.H.Machine.state run.hub.now) (Calls known c.args.number lines.Stop None run.live.now run.live.now c.args.out.now.items c.args.out.now.items) (λ held. (refl, refl, refl, refl)))

pub returns-in-Stop-clause-replies : goal.returns-in-Stop-clause-replies
returns-in-Stop-clause-replies g c = rw c.in-Stop.is (λ has. absurd cc)

pub returns-in-Event-clause-state : goal.returns-in-Event-clause-state
returns-in-Event-clause-state g c =
    rw c.in-Event.is (IfOk-weaker c.apply.result _ _ (λ refusal by.
    Becomes-weaker (g.H.Machine.state c.args.self.now.hub.now) (g.H.Machine.state c.apply.new.self.hub.now) _ _ (λ old new makes. (makes, c.apply.ensures.live, refl)) by) c.apply.ensures.state)

pub returns-in-Event-clause-replies : goal.returns-in-Event-clause-replies
returns-in-Event-clause-replies g c = let out = c.args.out.now.items in rw c.in-Event.is (IfOk-weaker c.apply.result _ _ (λ refusal by has.
    Becomes-weaker (g.H.Machine.replies c.args.self.now.hub.now) (g.H.Machine.replies c.apply.new.self.hub.now) _ _
    (λ old new replied. takes_reply c.args.number (Ok (lines.Event c.in-Event.event)) out refusal out old new (λ left more. refl) (silent refusal out old new replied)) by) c.apply.ensures.replies)

pub returns-in-Subscribe-clause-state : goal.returns-in-Subscribe-clause-state
returns-in-Subscribe-clause-state g c =
    rw c.in-Subscribe.is (IfOk-both c.subscribe.result _ _ _ (λ refusal by adds.
    Becomes-weaker (g.H.Machine.state c.args.self.now.hub.now) (g.H.Machine.state c.subscribe.new.hub) _ _ (λ old new makes. (makes, adds, refl)) by)
    c.subscribe.ensures.state c.subscribe.ensures.live)

pub returns-in-Subscribe-clause-replies : goal.returns-in-Subscribe-clause-replies
returns-in-Subscribe-clause-replies g c = let out = c.args.out.now.items in rw c.in-Subscribe.is (IfOk-weaker c.subscribe.result _ _ (λ refusal by has.
    Becomes-weaker (g.H.Machine.replies c.args.self.now.hub.now) (g.H.Machine.replies c.subscribe.new.hub) _ _
    (λ old new replied. takes_reply c.args.number (Ok (lines.Subscribe c.in-Subscribe.id c.in-Subscribe.query)) out refusal out old new (λ left more. refl) (silent refusal out old new replied)) by) c.subscribe.ensures.replies)

pub returns-in-Cancel-clause-state : goal.returns-in-Cancel-clause-state
returns-in-Cancel-clause-state g c =
    rw c.in-Cancel.is (Becomes-weaker (g.H.Machine.state c.args.self.now.hub.now) (g.H.Machine.state c.cancel.new.hub) _ _ (λ old new makes. (makes, c.cancel.ensures.live, refl)) c.cancel.ensures.state)

pub returns-in-Cancel-clause-replies : goal.returns-in-Cancel-clause-replies
returns-in-Cancel-clause-replies g c = rw c.in-Cancel.is (λ has.
    Becomes-weaker (g.H.Machine.replies c.args.self.now.hub.now) (g.H.Machine.replies c.cancel.new.hub) _ _
    (λ old new unreplied. cancel_takes c.args.number c.in-Cancel.id c.cancel.result c.args.out.now.items old new unreplied) c.cancel.ensures.replies)

pub returns-in_ok-outcome-in-Drain-clause-state : goal.returns-in_ok-outcome-in-Drain-clause-state
returns-in_ok-outcome-in-Drain-clause-state g c =
    rw c.in-Drain.is (Becomes-weaker (g.H.Machine.state c.args.self.now.hub.now) (g.H.Machine.state c.drain.new.hub) _ _
    (λ old new drains. (c.in_ok-outcome-in-Drain.outcome, drains, c.settle.ensures.refusal, c.settle.ensures.live)) c.in_ok-outcome-in-Drain.ensures.state)

pub returns-in_ok-outcome-in-Drain-clause-replies : goal.returns-in_ok-outcome-in-Drain-clause-replies
returns-in_ok-outcome-in-Drain-clause-replies g c = rw c.in-Drain.is (λ has.
    Becomes-weaker (g.H.Machine.replies c.args.self.now.hub.now) (g.H.Machine.replies c.drain.new.hub) _ _
    (λ old new replied. drain_takes c.args.number c.in-Drain.id c.in_ok-outcome-in-Drain.outcome c.settle.result c.args.out.now.items c.drain.new.out.items old new replied c.settle.ensures.refusal)
    c.in_ok-outcome-in-Drain.ensures.replies)

pub returns-in-Simulate-clause-state : goal.returns-in-Simulate-clause-state
returns-in-Simulate-clause-state g c =
    rw c.in-Simulate.is (IfOk-weaker c.simulate.result _ _ (λ refusal by.
    Becomes-weaker (g.H.Machine.state c.args.self.now.hub.now) (g.H.Machine.state c.simulate.new.self.hub.now) _ _ (λ old new simulated. (simulated, c.simulate.ensures.live)) by) c.simulate.ensures.state)

pub returns-in-Simulate-clause-replies : goal.returns-in-Simulate-clause-replies
returns-in-Simulate-clause-replies g c = rw c.in-Simulate.is (IfOk-weaker c.simulate.result _ _ (λ refusal by has.
    Becomes-weaker (g.H.Machine.replies c.args.self.now.hub.now) (g.H.Machine.replies c.simulate.new.self.hub.now) _ _
    (λ old new replied. simulate_takes c.args.number c.in-Simulate.request refusal c.args.out.now.items c.simulate.new.out.items old new replied) by) c.simulate.ensures.replies)

pub returns-in-Blank-clause-follows : goal.returns-in-Blank-clause-follows
returns-in-Blank-clause-follows g c = rw c.in-Blank.is (λ held follows. follows)

pub returns-in-Stop-clause-follows : goal.returns-in-Stop-clause-follows
returns-in-Stop-clause-follows g c = rw c.in-Stop.is (λ held follows. follows)

pub returns-in-Event-clause-follows : goal.returns-in-Event-clause-follows
returns-in-Event-clause-follows g c = rw c.in-Event.is c.apply.ensures.follows

pub returns-in-Subscribe-clause-follows : goal.returns-in-Subscribe-clause-follows
returns-in-Subscribe-clause-follows g c = rw c.in-Subscribe.is (IfOk-weaker c.subscribe.result _ _ (λ refusal adds held follows. follows) c.subscribe.ensures.live)

pub returns-in-Cancel-clause-follows : goal.returns-in-Cancel-clause-follows
returns-in-Cancel-clause-follows g c = rw c.in-Cancel.is (λ held follows. follows)

pub returns-in_ok-outcome-in-Drain-clause-follows : goal.returns-in_ok-outcome-in-Drain-clause-follows
returns-in_ok-outcome-in-Drain-clause-follows g c = rw c.in-Drain.is (λ held follows. follows)

pub returns-in-Simulate-clause-follows : goal.returns-in-Simulate-clause-follows
returns-in-Simulate-clause-follows g c =
    rw c.in-Simulate.is (IfOk-weaker c.simulate.result _ _ (λ refusal by held follows. subst (λ reader. g.R.RowReader.follows reader held) (sym c.simulate.ensures.reader) follows) c.simulate.ensures.replies)

pub returns-in-Blank-clause-due : goal.returns-in-Blank-clause-due
returns-in-Blank-clause-due g c =
    let hub = c.args.self.now.hub.now in
    rw c.in-Blank.is (Becomes-same (g.H.Machine.due hub) _ (λ was. IfSome-all (g.H.Machine.state hub) _ (λ old id. refl)))

pub returns-in-Stop-clause-due : goal.returns-in-Stop-clause-due
returns-in-Stop-clause-due g c =
    let hub = c.args.self.now.hub.now in
    rw c.in-Stop.is (Becomes-same (g.H.Machine.due hub) _ (λ was. IfSome-all (g.H.Machine.state hub) _ (λ old id. refl)))

pub returns-in-Event-clause-due : goal.returns-in-Event-clause-due
returns-in-Event-clause-due g c = rw c.in-Event.is c.apply.ensures.due

pub returns-in-Subscribe-clause-due : goal.returns-in-Subscribe-clause-due
returns-in-Subscribe-clause-due g c =
    let hub = c.args.self.now.hub.now in
    rw c.in-Subscribe.is (IfOk-weaker c.subscribe.result _ _ (λ refusal due.
    Becomes-weaker (g.H.Machine.due hub) (g.H.Machine.due c.subscribe.new.hub) _ _ (λ was now is. IfSome-all (g.H.Machine.state hub) _ (λ old. is)) due) c.subscribe.ensures.due)

pub returns-in-Cancel-clause-due : goal.returns-in-Cancel-clause-due
returns-in-Cancel-clause-due g c =
    let hub = c.args.self.now.hub.now in
    rw c.in-Cancel.is (Becomes-weaker (g.H.Machine.due hub) (g.H.Machine.due c.cancel.new.hub) _ _ (λ was now is. IfSome-all (g.H.Machine.state hub) _ (λ old. is)) c.cancel.ensures.due)

pub returns-in_ok-outcome-in-Drain-clause-due : goal.returns-in_ok-outcome-in-Drain-clause-due
returns-in_ok-outcome-in-Drain-clause-due g c =
    let hub = c.args.self.now.hub.now in
    rw c.in-Drain.is (Becomes-weaker (g.H.Machine.due hub) (g.H.Machine.due c.drain.new.hub) _ _ (λ was now is. IfSome-all (g.H.Machine.state hub) _ (λ old. is)) c.in_ok-outcome-in-Drain.ensures.due)

pub returns-in-Simulate-clause-due : goal.returns-in-Simulate-clause-due
returns-in-Simulate-clause-due g c =
    let hub = c.args.self.now.hub.now in
    rw c.in-Simulate.is (IfOk-weaker c.simulate.result _ _ (λ refusal by.
    Becomes-weaker (g.H.Machine.due hub) (g.H.Machine.due c.simulate.new.self.hub.now) _ _ (λ was now is. IfSome-all (g.H.Machine.state hub) _ (λ old. is)) c.simulate.ensures.due) c.simulate.ensures.replies)
