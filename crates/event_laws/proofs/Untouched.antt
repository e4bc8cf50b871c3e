-- A query that an event doesn't touch stays.
use Rattle.mark_rules.specs.Laws.{QueriesStay, ViewsStay}
use Rattle.feed_history.specs.Due.{marks_of_event}
use Rattle.feed_history.specs.Events.{objects_after}
use Rattle.event_laws.specs.Laws.{EventsKeepLawful, EventsLead, UntouchedQueriesStay}

pub untouched : EventsLead → EventsKeepLawful → QueriesStay → ViewsStay → UntouchedQueriesStay
untouched leads keep queries views config held at_keys lawful event right query misses =
    let led = leads held at_keys event right in
    record {
      view = views config query (marks_of_event held event) held (objects_after held event) lawful (keep held lawful event right) led misses;
      reads = (queries config query (marks_of_event held event) held (objects_after held event) led misses).1;
    }
