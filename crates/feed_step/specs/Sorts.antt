-- What a line asks for.
use Rattle.watch_events.specs.declared.line.Line.{Line}
use Rattle.watch_events.specs.declared.line.Line.TheVariants as lines
use Rattle.feed_step.specs.declared.sort.Sort.{Sort}
use Rattle.feed_step.specs.declared.sort.Sort.TheVariants as sorts

abbrev pub sort_in : Line → Sort
sort_in lines.Blank = sorts.Nothing
sort_in (lines.Event event) = sorts.Event
sort_in (lines.Subscribe id query) = sorts.Subscription
sort_in (lines.Cancel id) = sorts.Subscription
sort_in (lines.Drain id) = sorts.Subscription
sort_in (lines.Simulate request) = sorts.Verdict
sort_in lines.Stop = sorts.Stop
