use Rattle.std.proofs.Common.{ap, ◌∙◌}
use Rattle.view_rules.specs.Batch.{batch}
use Rattle.view_rules.specs.Views.{view_of}
use Rattle.feed_history.specs.History.{after}
use Rattle.due_laws.proofs.laws.only_due_are_sent.Goals as goal

pub returns : goal.returns
returns c program reads past id asked found undue =
    let now = view_of program.config (after program past).objects asked.query in
    ap (λ old. batch old now program.limits) (c.only_due_are_owed.ensures program reads past id asked found undue) ∙ c.same_view_sends_nothing.ensures now program.limits
