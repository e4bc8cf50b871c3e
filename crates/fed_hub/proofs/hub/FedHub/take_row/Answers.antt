use Rattle.std.proofs.Common.{refl, sym, subst}
use Rattle.std.specs.Option.{option_copied}
use Rattle.std.specs.Prelude.{Result}
use Rattle.watch_events.specs.Lines.{row_says, text_line}
use Rattle.watch_events.specs.declared.line.Line.{Line}
use Rattle.watch_events.specs.declared.line.LineFault.{LineFault}
use Rattle.feed_history.specs.KnownPatterns.{known_of}
use Rattle.feed_history.specs.Program.{refused_unread}
use Rattle.fed_hub.specs.LineSteps.{TakesLine}
use Rattle.fed_hub.proofs.LineAnswers.{IfOk-joined, IfOk-weaker, always_unread, or_false, read_is, refused_takes}
use Rattle.fed_hub.proofs.hub.FedHub.take_row.Goals as goal

pub returns-in-Ok-clause-takes : goal.returns-in-Ok-clause-takes
returns-in-Ok-clause-takes g c =
    let patterns = c.args.patterns.now in
    let known = known_of (g.P.Patterns.tells patterns) (g.P.Patterns.refuses patterns) (g.P.Patterns.refusals patterns) (g.P.Patterns.refusals c.take_line.new.patterns) in
    IfOk-weaker c.take_line.result _ _ (λ item takes.
    subst (λ (r : Result Line LineFault). TakesLine c.args.self.now c.take_line.new.self c.args.number (refused_unread r) known item) (sym c.in-Ok.ensures.value) takes) c.take_line.ensures.takes

pub returns-in-Err-clause-takes : goal.returns-in-Err-clause-takes
returns-in-Err-clause-takes g c =
    let patterns = c.args.patterns.now in
    let old = c.args.self.now in
    let tells = g.P.Patterns.tells patterns in
    let refuses = g.P.Patterns.refuses patterns in
    let count = g.P.Patterns.refusals patterns in
    let read = row_says (text_line old.config) (option_copied c.args.row) in
    IfOk-joined c.unread.result _ _ _ (λ item is going.
    subst (λ (r : Result Line LineFault). TakesLine old old c.args.number (refused_unread r) (known_of tells refuses count count) item) (sym (read_is c.in-Err.fault read going c.in-Err.ensures.value))
    (refused_takes tells refuses count c.args.number old old _ _ item is (record { hub = refl; config = refl; requests = refl; stopped = or_false old.stopped }) (always_unread c.in-Err.fault))) c.unread.ensures.item c.unread.ensures.memory
