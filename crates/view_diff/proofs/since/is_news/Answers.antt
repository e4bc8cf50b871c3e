use Rattle.std.proofs.Common.{◌==◌, ◌||◌, [], length, not, sym, ap, ◌∙◌}
use Rattle.view_diff.specs.Earlier.{earlier_rows}
use Rattle.view_diff.proofs.PutBack.{had_rows_since}
use Rattle.view_diff.proofs.since.is_news.Goals as goal

pub returns-else-existed-exists : goal.returns-else-existed-exists
returns-else-existed-exists c =
    c.had_rows.ensures ∙ had_rows_since c.args.before.now c.requires
    ∙ sym (ap (λ apart. apart || not (length (earlier_rows c.args.before.now []) == 0)) c.if-existed-exists.false)
