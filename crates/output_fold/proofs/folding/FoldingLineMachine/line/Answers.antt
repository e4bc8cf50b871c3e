use Rattle.std.proofs.Common.{◌++◌, ◌≡◌, ℕ, List, Some, None, Ok, Err, refl, sym, ap, ◌∙◌, append_assoc}
use Rattle.std.specs.Option.{option_copied}
use Rattle.feed_history.specs.Text.{fault_line}
use Rattle.output_fold.specs.FaultText.{fold_fault_text}
use Rattle.output_fold.specs.Lines.{row_says}
use Rattle.output_fold.proofs.Rows.{fails, fault_is, reads, says_too, skipped, taken_is}
use Rattle.output_fold.proofs.folding.FoldingLineMachine.line.Goals as goal

pub invariant_of-self : goal.invariant_of-self
invariant_of-self c =
    let old = c.args.self.now in record {
      some_addresses = old.some_addresses;
      orderly = taken_is c.take.result old.fold c.take.new.self c.in-Ok-Some.message c.take.ensures.ok c.take.ensures.err old.orderly;
    }

pub returns-then-self-clause-stands : goal.returns-then-self-clause-stands
returns-then-self-clause-stands c = λ start past sent earlier counts stood.
    let old = c.args.self.now in (
      stood.0,
      skipped start.method start.id.0 (option_copied c.args.line) past old.failed old.fold.view (sent ++ c.args.out.now.items) earlier c.if-self.true stood.1,
    )

pub returns-in-Ok-None-clause-stands : goal.returns-in-Ok-None-clause-stands
returns-in-Ok-None-clause-stands c = λ start past sent earlier counts stood.
    let old = c.args.self.now in
    let row = option_copied c.args.line in
    let says : row_says start.method start.id.0 row ≡ Ok None = says_too stood.0 row (c.in-Ok-None.ensures ∙ ap Ok c.in-Ok-None.field-0-is) in (
      stood.0,
      reads start.method start.id.0 row past old.failed old.fold.view old.fold.view (sent ++ c.args.out.now.items) earlier None c.if-self.false says refl stood.1,
    )

pub returns-in-Ok-clause-stands : goal.returns-in-Ok-clause-stands
returns-in-Ok-clause-stands c = λ start past sent earlier counts stood.
    let old = c.args.self.now in
    let row = option_copied c.args.line in
    let message = c.in-Ok-Some.message in
    let says : row_says start.method start.id.0 row ≡ Ok (Some message) = says_too stood.0 row (c.in-Ok-Some.ensures ∙ ap Ok c.in-Ok-Some.field-0-is) in (
      stood.0,
      reads start.method start.id.0 row past old.failed old.fold.view c.take.new.self.view (sent ++ c.args.out.now.items) earlier (Some message) c.if-self.false says c.in-Ok.ensures.ok stood.1,
    )

pub returns-in_ok-refuse-in-Err-clause-stands : goal.returns-in_ok-refuse-in-Err-clause-stands
returns-in_ok-refuse-in-Err-clause-stands c = λ start past sent earlier counts stood.
    let old = c.args.self.now in
    let row = option_copied c.args.line in
    let fault = c.in-Err.fault in
    let says : row_says start.method start.id.0 row ≡ Err fault = says_too stood.0 row (fault_is fault _ c.in_ok-refuse-in-Err.ensures.fault c.in-Err.ensures) in
    let writes : sent ++ c.refuse.new.out.items ≡ (sent ++ c.args.out.now.items) ++ fault_line _ (fold_fault_text fault) =
    ap (λ (xs : List ℕ). sent ++ xs) (c.in_ok-refuse-in-Err.ensures.writes ∙ ap (λ (n : ℕ). c.args.out.now.items ++ fault_line n (fold_fault_text fault)) counts)
    ∙ sym (append_assoc sent c.args.out.now.items _) in (
      stood.0,
      fails start.method start.id.0 row past old.failed old.fold.view (sent ++ c.args.out.now.items) (sent ++ c.refuse.new.out.items) earlier fault c.if-self.false says writes stood.1,
    )
