use Rattle.std.proofs.Common.{ℕ, ◌+◌, List, ◌++◌, length, Some, None, sym, ap, ◌∙◌, append_assoc, append-nil}
use Rattle.std.specs.Option.{option_copied}
use Rattle.diagnosis.proofs.Rows.{refusal_line, stands_row, takes_too}
use Rattle.diagnosis.proofs.diagnosing.DiagnosingLineMachine.line.Goals as goal

pub returns-in-None-clause-stands : goal.returns-in-None-clause-stands
returns-in-None-clause-stands c = λ start past sent earlier counts stood.
    let old = c.args.self.now in
    let new = c.take_row.new.store in
    let row = option_copied c.args.line in
    let text = sent ++ c.args.out.now.items in (
      stood.0,
      stands_row start.config.now start.limits row past None old.store new text text earlier
          (takes_too start.config.now start.limits start.id start.query.now old.config.now old.limits old.id old.query.now stood.0 row None old.store new (rw c.in-None.is at c.in-Ok.ensures))
          (sym (append-nil text)) stood.1,
    )

pub returns-in_ok-push_refused-in-Some-clause-stands : goal.returns-in_ok-push_refused-in-Some-clause-stands
returns-in_ok-push_refused-in-Some-clause-stands c = λ start past sent earlier counts stood.
    let old = c.args.self.now in
    let new = c.take_row.new.store in
    let row = option_copied c.args.line in
    let refusal = Some c.in-Some.refusal in
    let out = c.args.out.now.items in (
      stood.0,
      stands_row start.config.now start.limits row past refusal old.store new (sent ++ out) (sent ++ c.push_refused.new.out.items) earlier
          (takes_too start.config.now start.limits start.id start.query.now old.config.now old.limits old.id old.query.now stood.0 row refusal old.store new (rw c.in-Some.is at c.in-Ok.ensures))
          (ap (λ (xs : List ℕ). sent ++ xs) (c.in_ok-push_refused-in-Some.ensures ∙ ap (λ (n : ℕ). out ++ refusal_line n refusal) counts) ∙ sym (append_assoc sent out (refusal_line (length past + 1) refusal)))
          stood.1,
    )
