use Rattle.std.specs.Option.{option_copied}
use Rattle.std.proofs.lemmas.Result.{IfOk-weaker}
use Rattle.watch_events.specs.Lines.{row_says, text_line}
use Rattle.diagnosis.proofs.Taken.{unread_taken}
use Rattle.diagnosis.proofs.take.take_row.Goals as goal

pub returns-in-Ok : goal.returns-in-Ok
returns-in-Ok c = rw c.in-Ok.ensures.value (IfOk-weaker c.take_line.result _ _ (λ refusal taken limits. taken c.args.config.now limits) c.take_line.ensures)

pub returns-in-Err : goal.returns-in-Err
returns-in-Err c =
    unread_taken c.args.config.now c.in-Err.fault (row_says (text_line c.args.config.now) (option_copied c.args.row)) c.args.store.now
    c.unread.result c.unread.ensures.refuses c.unread.ensures.told c.in-Err.ensures.value
