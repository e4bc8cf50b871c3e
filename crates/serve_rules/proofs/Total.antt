-- From each stand some step goes on.
use Rattle.std.proofs.Common.{◌≡◌, Bool, true, false, if◌then◌else◌, List, [], ◌∷◌, ◌++◌, Some, None, refl, sym}
use Rattle.mesh_links.specs.declared.call.LinkCall.{LinkCall}
use Rattle.mesh_links.specs.declared.call.LinkCall.TheVariants as calls
use Rattle.mesh_links.specs.declared.call.LinkEvent.{LinkEvent}
use Rattle.mesh_links.specs.declared.call.ReadGot.TheVariants as reads
use Rattle.mesh_links.specs.declared.call.WriteGot.TheVariants as writes
use Rattle.session_core.specs.Outboxes.{head}
use Rattle.serve_rules.specs.FedLines.{FedRow}
use Rattle.serve_rules.specs.Batches.{Serving}
use Rattle.serve_rules.specs.LinkStates.{LinkState, closed, closing, drain_to, may_read, may_write, read_feeds, read_to, write_to}
use Rattle.serve_rules.specs.Turns.{Each, Events, event_closes, event_to, DrainStep, Passes, ReadIf, ReadStep, Step, StopStep, WriteIf, WriteStep, has_stop, room}
use Rattle.serve_rules.specs.Traces.{waits}
use Rattle.serve_rules.specs.TraceExtension.{SomeTurnGoesOn}

-- a step that feeds nothing
pub record Stepped (step : Step) (others : List LinkState) (fed : List FedRow) (s : LinkState) : Type 0 where
  pub made : List LinkCall
  pub t : LinkState
  pub stepped : step others fed s made fed t

pub record IsTotal (step : Step) : Type 0 where
  pub some : (others : List LinkState) (fed : List FedRow) (s : LinkState) → Stepped step others fed s

-- a pass that feeds nothing
pub record Passed (step : Step) (done : List LinkState) (fed : List FedRow) (ss : List LinkState) : Type 0 where
  pub made : List LinkCall
  pub ts : List LinkState
  pub passed : Each step done fed ss made fed ts

pub each_total : (step : Step) → IsTotal step → (done : List LinkState) (fed : List FedRow) (ss : List LinkState) → Passed step done fed ss
each_total step f done fed [] = record { made = []; ts = []; passed = (refl, refl) }
each_total step f done fed (s ∷ ss) =
    let one = f.some (done ++ ss) fed s in
    let rest = each_total step f (done ++ one.t ∷ []) fed ss in
    record { made = one.made ++ rest.made; ts = one.t ∷ rest.ts; passed = (one.made, rest.made, fed, refl, one.stepped, rest.passed) }

pending_feeds : (serving : Serving) (fed : List FedRow) (s : LinkState) → read_feeds serving true (λ n. None) fed s reads.Pending ≡ fed
unfolding read_feeds
pending_feeds serving fed s = refl

read_some : (b : Bool) (serving : Serving) (others : List LinkState) (fed : List FedRow) (s : LinkState) → Stepped (ReadIf b serving false) others fed s
read_some true serving others fed s =
    let t = read_to serving true (λ n. None) fed s reads.Pending in
    record {
      made = calls.Read s.number room reads.Pending ∷ closing s t;
      t = t;
      stepped = record { got = reads.Pending; met = λ n. None; calls = refl; fed_now = sym (pending_feeds serving fed s); link = refl; unmet = tt };
    }
read_some false serving others fed s = record { made = []; t = s; stepped = record { calls = refl; fed_now = refl; link = refl } }

write_some : (b : Bool) (serving : Serving) (others : List LinkState) (fed : List FedRow) (s : LinkState) → Stepped (WriteIf b serving) others fed s
write_some true serving others fed s =
    let t = write_to serving s writes.Pending in
    record {
      made = calls.Write s.number (head s.outbox) writes.Pending ∷ closing s t;
      t = t;
      stepped = record { got = writes.Pending; calls = refl; fed_now = refl; link = refl };
    }
write_some false serving others fed s = record { made = []; t = s; stepped = record { calls = refl; fed_now = refl; link = refl } }

pub read_total : (serving : Serving) → IsTotal (ReadStep serving false)
read_total serving = record { some = λ others fed s. let one = read_some (may_read serving s) serving others fed s in record { made = one.made; t = one.t; stepped = one.stepped } }

pub drain_total : (serving : Serving) → IsTotal (DrainStep serving)
drain_total serving = record { some = λ others fed s. let t = drain_to serving fed s in record { made = closing s t; t = t; stepped = record { calls = refl; fed_now = refl; link = refl } } }

pub write_total : (serving : Serving) → IsTotal (WriteStep serving)
write_total serving = record { some = λ others fed s. let one = write_some (may_write s) serving others fed s in record { made = one.made; t = one.t; stepped = one.stepped } }

pub stop_total : (stopped : Bool) → IsTotal (StopStep stopped)
stop_total stopped = record { some = λ others fed s. let t = if stopped then closed s else s in record { made = closing s t; t = t; stepped = record { calls = refl; fed_now = refl; link = refl } } }

-- the links and the closes after events
record Polled (serving : Serving) (shown : List LinkEvent) (all : List LinkState) : Type 0 where
  made : List LinkCall
  ts : List LinkState
  polled : Events serving false shown all made ts

events_total : (serving : Serving) (shown : List LinkEvent) (all : List LinkState) → Polled serving shown all
events_total serving [] all = record { made = []; ts = all; polled = (refl, refl) }
events_total serving (e ∷ shown) all =
    let rest = events_total serving shown (event_to serving all e) in
    record { made = event_closes serving all e ++ rest.made; ts = rest.ts; polled = (rest.made, refl, tt, rest.polled) }

pub some_turn_goes_on : SomeTurnGoesOn
some_turn_goes_on serving fed links None = record {
  round = record { waited = waits serving fed links; shown = None; made = []; fed = fed; links = links };
  wait = refl;
  showed = refl;
  same = refl;
  turn = (refl, refl, refl);
}
some_turn_goes_on serving fed links (Some shown) =
    let polled = events_total serving shown links in
    let stop = has_stop serving fed fed in
    let read = each_total (ReadStep serving false) (read_total serving) [] fed polled.ts in
    let drained = each_total (DrainStep serving) (drain_total serving) [] fed read.ts in
    let written = each_total (WriteStep serving) (write_total serving) [] fed drained.ts in
    let stopped = each_total (StopStep stop) (stop_total stop) [] fed written.ts in
    let rest = read.made ++ (drained.made ++ (written.made ++ stopped.made)) in
    let passes : Passes serving false fed polled.ts rest fed stopped.ts =
    record {
      reads = read.made;
      drains = drained.made;
      writes = written.made;
      stops = stopped.made;
      read = read.ts;
      drained = drained.ts;
      written = written.ts;
      calls_are = refl;
      each_read = read.passed;
      each_drain = drained.passed;
      each_write = written.passed;
      each_stop = stopped.passed;
    } in
    record {
      round = record { waited = waits serving fed links; shown = Some shown; made = polled.made ++ rest; fed = fed; links = stopped.ts };
      wait = refl;
      showed = refl;
      same = refl;
      turn = (polled.made, rest, polled.ts, refl, polled.polled, passes);
    }
