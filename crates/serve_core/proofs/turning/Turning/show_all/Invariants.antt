use Rattle.std.proofs.Common.{◌≡◌, drop}
use Rattle.serve_core.specs.TurnCalls.{Calls, AllCloses}
use Rattle.serve_core.proofs.ShownEvents.{ShowsTo}
use Rattle.serve_core.proofs.turning.Turning.show_all.Given as goal

abbrev pub invariant-loop-event : goal.invariant-loop-event
invariant-loop-event g l = record {
  calls : Calls g.N.Links AllCloses l.fn.links l.links;
  shows : ShowsTo l.events (drop l.event-index l.events) (g.N.Links.trace l.fn.links) l.fn.self (g.N.Links.trace l.links) l.self;
  same : l.self ≡ record l.fn.self { kept = l.self.kept };
}
