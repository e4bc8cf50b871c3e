-- A turn in which no limit was met is a turn.
use Rattle.std.proofs.Common.{Bool, true, false, List, [], ◌∷◌, ◌++◌, Option, Some, None}
use Rattle.mesh_links.specs.declared.call.LinkCall.{LinkCall}
use Rattle.mesh_links.specs.declared.call.LinkEvent.{LinkEvent}
use Rattle.serve_rules.specs.FedLines.{FedRow}
use Rattle.serve_rules.specs.Batches.{Serving}
use Rattle.serve_rules.specs.LinkStates.{LinkState, may_read}
use Rattle.serve_rules.specs.Turns.{Step, Each, ReadIf, ReadStep, Events, event_to, Passes, AfterPoll}
use Rattle.serve_rules.specs.LinkErasure.{StrictTurnsAreTurns}

each_relaxed : (strict loose : Step) → ((others : List LinkState) (fed : List FedRow) (s : LinkState) (made : List LinkCall) (now : List FedRow) (t : LinkState) → strict others fed s made now t → loose others fed s made now t) → (done : List LinkState) (fed : List FedRow) (ss : List LinkState) (made : List LinkCall) (now : List FedRow) (ts : List LinkState) → Each strict done fed ss made now ts → Each loose done fed ss made now ts
each_relaxed strict loose f done fed [] made now [] h = h
each_relaxed strict loose f done fed [] made now (t ∷ ts) h = h
each_relaxed strict loose f done fed (s ∷ ss) made now [] h = h
each_relaxed strict loose f done fed (s ∷ ss) made now (t ∷ ts) h = (h.0, h.1, h.2, h.3, f (done ++ ss) fed s h.0 h.2 t h.4, each_relaxed strict loose f (done ++ t ∷ []) h.2 ss h.1 now ts h.5)

read_relaxed : (b : Bool) (serving : Serving) (others : List LinkState) (fed : List FedRow) (s : LinkState) (made : List LinkCall) (now : List FedRow) (t : LinkState) → ReadIf b serving true others fed s made now t → ReadIf b serving false others fed s made now t
read_relaxed true serving others fed s made now t h = record { got = h.got; met = h.met; calls = h.calls; fed_now = h.fed_now; link = h.link; unmet = tt }
read_relaxed false serving others fed s made now t h = h

events_relaxed : (serving : Serving) (shown : List LinkEvent) (all : List LinkState) (made : List LinkCall) (ts : List LinkState) → Events serving true shown all made ts → Events serving false shown all made ts
events_relaxed serving [] all made ts h = h
events_relaxed serving (e ∷ shown) all made ts h = (h.0, h.1, tt, events_relaxed serving shown (event_to serving all e) h.0 ts h.3)

after_relaxed : (serving : Serving) (shown : Option (List LinkEvent)) (fed : List FedRow) (before : List LinkState) (made : List LinkCall) (now : List FedRow) (after : List LinkState) → AfterPoll serving true shown fed before made now after → AfterPoll serving false shown fed before made now after
after_relaxed serving None fed before made now after h = h
after_relaxed serving (Some shown) fed before made now after h =
    let p = h.5 in
    let loose : Passes serving false fed h.2 h.1 now after =
    record {
      reads = p.reads;
      drains = p.drains;
      writes = p.writes;
      stops = p.stops;
      read = p.read;
      drained = p.drained;
      written = p.written;
      calls_are = p.calls_are;
      each_read = each_relaxed (ReadStep serving true) (ReadStep serving false) (λ o f s c n t r. read_relaxed (may_read serving s) serving o f s c n t r) [] fed h.2 p.reads now p.read p.each_read;
      each_drain = p.each_drain;
      each_write = p.each_write;
      each_stop = p.each_stop;
    } in
    (h.0, h.1, h.2, h.3, events_relaxed serving shown before h.0 h.2 h.4, loose)

pub relaxed : StrictTurnsAreTurns
relaxed serving fed before r h = after_relaxed serving r.shown fed before r.made r.fed r.links h
