use Rattle.std.proofs.Common.{Some, sym, subst, ◌∙◌}
use Rattle.std.specs.Option.{option_copied}
use Rattle.std.specs.Prelude.{Result}
use Rattle.watch_events.specs.declared.line.Line.{Line}
use Rattle.feed_history.specs.KnownPatterns.{known_of}
use Rattle.feed_history.specs.Optional.{Becomes, Becomes-weaker}
use Rattle.feed_history.specs.declared.refusal.Refusal.{Refusal}
use Rattle.feed_history.specs.declared.refusal.Refusal.TheVariants as refusals
use Rattle.feed_history.proofs.Marks.{at_most}
use Rattle.feed_history.proofs.Optional.{Becomes-same}
use Rattle.feed_step.specs.LineStep.{TakesByReplies, TakesFrom}
use Rattle.feed_step.proofs.Lines.{IfOk-weaker, IfSome-both, IfSome-weaker, called_from, held_still, unplaced_says, unread_from, unread_says}
use Rattle.feed_step.proofs.run.Run.step.Goals as goal

pub returns-then-has_place-clause-state : goal.returns-then-has_place-clause-state
returns-then-has_place-clause-state g c =
    let run = c.args.self.now in
    let end = c.call.new.self in
    let patterns = run.patterns.now in
    let known = known_of (g.P.Patterns.tells patterns) (g.P.Patterns.refuses patterns) (g.P.Patterns.refusals patterns) (g.P.Patterns.refusals end.patterns.now) in
    let line = c.in-Ok.line in
    IfOk-weaker c.call.result _ _ (λ refusal calls limits pat.
    let program = g.R.RowReader.program run.reader.now limits pat in
    Becomes-weaker (g.H.Machine.state run.hub.now) (g.H.Machine.state end.hub.now) _ _ (λ old new by follows.
    subst (λ (says : Result Line Refusal). TakesFrom program known c.args.number says refusal run.live.now end.live.now c.args.out.now.items c.call.new.out.items old new) (sym c.in-Ok.is ∙ c.in_ok-line.ensures.over limits pat old.objects follows)
    (called_from program known c.call.ensures.goes_on.later c.args.number line (sym (c.has_place.ensures.place limits pat) ∙ c.if-has_place.true) refusal run.live.now end.live.now c.args.out.now.items c.call.new.out.items old new by)) calls) c.call.ensures.state

pub returns-then-has_place-clause-replies : goal.returns-then-has_place-clause-replies
returns-then-has_place-clause-replies g c =
    let run = c.args.self.now in
    let end = c.call.new.self in
    let row = option_copied c.args.row in
    IfOk-weaker c.call.result _ _ (λ refusal replied.
    IfSome-both (g.R.RowReader.alone run.reader.now) _ _ _ (λ reads read has.
    subst (λ (says : Result Line Refusal). Becomes (g.H.Machine.replies run.hub.now) (g.H.Machine.replies end.hub.now) (TakesByReplies c.args.number says refusal c.args.out.now.items c.call.new.out.items)) (sym c.in-Ok.is ∙ read)
    (replied (sym has ∙ c.if-has_place.true))) c.in_ok-line.ensures.alone c.has_place.ensures.alone) c.call.ensures.replies

pub returns-else-has_place-clause-replies : goal.returns-else-has_place-clause-replies
returns-else-has_place-clause-replies g c =
    let run = c.args.self.now in
    let replies = g.H.Machine.replies run.hub.now in
    let out = c.args.out.now.items in
    IfSome-both (g.R.RowReader.alone run.reader.now) _ _ _ (λ reads read has.
    subst (λ (says : Result Line Refusal). Becomes replies replies (TakesByReplies c.args.number says (Some refusals.NotHere) out out)) (sym c.in-Ok.is ∙ read)
    (unplaced_says c.args.number c.in-Ok.line (sym has ∙ c.if-has_place.false) out replies)) c.in_ok-line.ensures.alone c.has_place.ensures.alone

pub returns-in-Err-clause-state : goal.returns-in-Err-clause-state
returns-in-Err-clause-state g c = λ limits pat.
    let run = c.args.self.now in
    let patterns = run.patterns.now in
    let count = g.P.Patterns.refusals patterns in
    let known = known_of (g.P.Patterns.tells patterns) (g.P.Patterns.refuses patterns) count count in
    let program = g.R.RowReader.program run.reader.now limits pat in
    let out = c.args.out.now.items in
    let refusal = c.in-Err.refusal in
    Becomes-same (g.H.Machine.state run.hub.now) _ (λ old follows.
    subst (λ (says : Result Line Refusal). TakesFrom program known c.args.number says (Some refusal) run.live.now run.live.now out out old old) (sym c.in-Err.is ∙ c.in_ok-line.ensures.over limits pat old.objects follows)
    (unread_from program known (at_most count) c.args.number refusal run.live.now out old))

pub returns-in-Err-clause-follows : goal.returns-in-Err-clause-follows
returns-in-Err-clause-follows g c = λ limits pat held follows.
    let run = c.args.self.now in
    subst (λ held. g.R.RowReader.follows run.reader.now held) (sym (held_still held c.in-Err.refusal ((g.R.RowReader.program run.reader.now limits pat).reads held (option_copied c.args.row)))) follows

pub returns-in-Err-clause-replies : goal.returns-in-Err-clause-replies
returns-in-Err-clause-replies g c =
    let run = c.args.self.now in
    let replies = g.H.Machine.replies run.hub.now in
    let out = c.args.out.now.items in
    let refusal = c.in-Err.refusal in
    IfSome-weaker (g.R.RowReader.alone run.reader.now) _ _ (λ reads read.
    subst (λ (says : Result Line Refusal). Becomes replies replies (TakesByReplies c.args.number says (Some refusal) out out)) (sym c.in-Err.is ∙ read)
    (unread_says c.args.number refusal out replies)) c.in_ok-line.ensures.alone
