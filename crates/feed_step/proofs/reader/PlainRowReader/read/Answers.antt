use Rattle.std.proofs.Common.{sym, ap, ◌∙◌}
use Rattle.std.specs.Option.{option_copied}
use Rattle.watch_events.specs.Lines.{row_says, text_line}
use Rattle.feed_history.specs.Program.{refused_unread}
use Rattle.feed_step.proofs.Lines.{IfOk-weaker}
use Rattle.feed_step.proofs.Reading.{read_is}
use Rattle.feed_step.proofs.reader.PlainRowReader.read.Goals as goal

pub returns-in-Err-clause-over : goal.returns-in-Err-clause-over
returns-in-Err-clause-over c = λ limits pat held follows. IfOk-weaker c.unread.result _ _ (λ read is.
    is.refuses ∙ sym (ap refused_unread (read_is c.in-Err.fault (row_says (text_line c.args.self.now.config.now) (option_copied c.args.row)) is.told c.in-Err.ensures.value))) c.unread.ensures

pub returns-in-Err-clause-alone : goal.returns-in-Err-clause-alone
returns-in-Err-clause-alone c = IfOk-weaker c.unread.result _ _ (λ read is.
    is.refuses ∙ sym (ap refused_unread (read_is c.in-Err.fault (row_says (text_line c.args.self.now.config.now) (option_copied c.args.row)) is.told c.in-Err.ensures.value))) c.unread.ensures
