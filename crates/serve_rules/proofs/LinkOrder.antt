-- Links stand in the order of their numbers.
use Rattle.std.proofs.Common.{◌≡◌, ℕ, ◌≤◌, ◌<◌, Bool, true, false, if◌then◌else◌, List, [], ◌∷◌, ◌++◌, map, max, Option, Some, None, refl, sym, subst, arith}
use Rattle.mesh_links.specs.Calls.{AreAbove, last_of_events}
use Rattle.mesh_links.specs.declared.call.LinkCall.{LinkCall}
use Rattle.mesh_links.specs.declared.call.LinkEvent.{LinkEvent}
use Rattle.mesh_links.specs.declared.call.LinkEvent.TheVariants as events
use Rattle.serve_rules.specs.FedLines.{FedRow}
use Rattle.serve_rules.specs.Batches.{Serving}
use Rattle.serve_rules.specs.LinkStates.{LinkState, fresh}
use Rattle.serve_rules.specs.Turns.{made_readable, made_writable, admits_link, event_to, Events, Step, Each, ReadStep, DrainStep, WriteStep, StopStep, has_stop, Passes, AfterPoll}
use Rattle.serve_rules.specs.Traces.{opened}
use Rattle.serve_rules.specs.LinkOrder.{AreBetween, AreAboveIn, last_shown, LinksAscend}
use Rattle.serve_rules.proofs.DueSteps.{tells_read, tells_drain, tells_write, tells_stop}

lower : (low other : ℕ) (ss : List LinkState) (high : ℕ) → other ≤ low → AreBetween low ss high → AreBetween other ss high
lower low other [] high h b = omega arith
lower low other (s ∷ ss) high h b = let less : low < s.number = b.0 in (omega arith, b.1)

higher : (low : ℕ) (ss : List LinkState) (high other : ℕ) → high ≤ other → AreBetween low ss high → AreBetween low ss other
higher low [] high other h b = omega arith
higher low (s ∷ ss) high other h b = (b.0, higher s.number ss high other h b.1)

append_between : (low : ℕ) (ss : List LinkState) (high : ℕ) (y : LinkState) → high < y.number → AreBetween low ss high → AreBetween low (ss ++ y ∷ []) y.number
append_between low [] high y h b = (omega arith, omega arith)
append_between low (s ∷ ss) high y h b = (b.0, append_between s.number ss high y h b.1)

map_between : (f : LinkState → LinkState) → ((s : LinkState) → (f s).number ≡ s.number) → (low : ℕ) (ss : List LinkState) (high : ℕ) → AreBetween low ss high → AreBetween low (map f ss) high
map_between f same low [] high b = b
map_between f same low (s ∷ ss) high b =
    let rest : AreBetween (f s).number (map f ss) high = subst (λ n. AreBetween n (map f ss) high) (sym (same s)) (map_between f same s.number ss high b.1) in
    (subst (λ n. low < n) (sym (same s)) b.0, rest)

new_between : (b : Bool) (n last : ℕ) (all : List LinkState) → last < n → AreBetween 0 all last → AreBetween 0 (if b then all ++ fresh n ∷ [] else all) n
new_between true n last all h k = append_between 0 all last (fresh n) h k
new_between false n last all h k = higher 0 all last n (omega arith) k

events_between : (serving : Serving) (strict : Bool) (shown : List LinkEvent) (all : List LinkState) (made : List LinkCall) (ts : List LinkState) (last : ℕ) → Events serving strict shown all made ts → AreAbove last shown → AreBetween 0 all last → AreBetween 0 ts (last_of_events last shown)
events_between serving strict [] all made ts last h a b = subst (λ z. AreBetween 0 z last) (sym h.1) b
events_between serving strict (events.New n ∷ shown) all made ts last h a b =
    let most : max last n ≡ n = omega arith in
    let rest = events_between serving strict shown (event_to serving all (events.New n)) h.0 ts n h.3 a.1 (new_between (admits_link serving all) n last all a.0 b) in
    subst (λ m. AreBetween 0 ts (last_of_events m shown)) (sym most) rest
events_between serving strict (events.Readable n ∷ shown) all made ts last h a b = events_between serving strict shown (map (made_readable n) all) h.0 ts last h.3 a (map_between (made_readable n) (λ s. refl) 0 all last b)
events_between serving strict (events.Writable n ∷ shown) all made ts last h a b = events_between serving strict shown (map (made_writable n) all) h.0 ts last h.3 a (map_between (made_writable n) (λ s. refl) 0 all last b)

-- a step leaves each link its number
record Numbers (step : Step) : Type 0 where
  same : (others : List LinkState) (fed : List FedRow) (s : LinkState) (made : List LinkCall) (now : List FedRow) (t : LinkState) → step others fed s made now t → t.number ≡ s.number

each_between : (step : Step) → Numbers step → (done : List LinkState) (fed : List FedRow) (ss : List LinkState) (made : List LinkCall) (now : List FedRow) (ts : List LinkState) (low high : ℕ) → Each step done fed ss made now ts → AreBetween low ss high → AreBetween low ts high
each_between step f done fed [] made now [] low high h b = b
each_between step f done fed [] made now (t ∷ ts) low high h b = absurd h
each_between step f done fed (s ∷ ss) made now [] low high h b = absurd h
each_between step f done fed (s ∷ ss) made now (t ∷ ts) low high h b =
    let same = f.same (done ++ ss) fed s h.0 h.2 t h.4 in
    let rest = each_between step f (done ++ t ∷ []) h.2 ss h.1 now ts s.number high h.5 b.1 in
    (subst (λ n. low < n) (sym same) b.0, subst (λ n. AreBetween n ts high) (sym same) rest)

passes_between : (serving : Serving) (strict : Bool) (fed : List FedRow) (polled : List LinkState) (made : List LinkCall) (now : List FedRow) (after : List LinkState) (high : ℕ) → Passes serving strict fed polled made now after → AreBetween 0 polled high → AreBetween 0 after high
passes_between serving strict fed polled made now after high p b =
    let stop = has_stop serving fed now in
    let b1 = each_between (ReadStep serving strict) (record { same = (tells_read serving strict 0).number }) [] fed polled p.reads now p.read 0 high p.each_read b in
    let b2 = each_between (DrainStep serving) (record { same = (tells_drain serving 0).number }) [] now p.read p.drains now p.drained 0 high p.each_drain b1 in
    let b3 = each_between (WriteStep serving) (record { same = (tells_write serving 0).number }) [] now p.drained p.writes now p.written 0 high p.each_write b2 in
    each_between (StopStep stop) (record { same = (tells_stop stop 0).number }) [] now p.written p.stops now after 0 high p.each_stop b3

after_between : (serving : Serving) (strict : Bool) (shown : Option (List LinkEvent)) (fed : List FedRow) (before : List LinkState) (made : List LinkCall) (now : List FedRow) (after : List LinkState) (last : ℕ) → AfterPoll serving strict shown fed before made now after → AreAboveIn last shown → AreBetween 0 before last → AreBetween 0 after (last_shown last shown)
after_between serving strict None fed before made now after last h a b = subst (λ z. AreBetween 0 z last) (sym h.2) b
after_between serving strict (Some shown) fed before made now after last h a b = passes_between serving strict fed h.2 h.1 now after (last_of_events last shown) h.5 (events_between serving strict shown before h.0 h.2 last h.4 a b)

opened_between : (low : ℕ) (ss : List LinkState) (high : ℕ) → AreBetween low ss high → AreBetween low (opened ss) high
opened_between low [] high b = b
opened_between low (s ∷ ss) high b =
    let rest = opened_between s.number ss high b.1 in
    let less : low < s.number = b.0 in
    let P : Bool → Type 0 = λ c. AreBetween low (if c then s ∷ opened ss else opened ss) high in
    let at : (c : Bool) → P c = λ c. elim c as P [ true ↦ (b.0, rest) | false ↦ lower s.number low (opened ss) high (omega arith) rest ] in
    at s.is_open

pub links_ascend : LinksAscend
links_ascend serving strict fed before [] last h b n = b
links_ascend serving strict fed before (r ∷ rounds) last h b n =
    links_ascend serving strict r.fed (opened r.links) rounds (last_shown last r.shown) h.1 (opened_between 0 r.links (last_shown last r.shown) (after_between serving strict r.shown fed before r.made r.fed r.links last h.0 n.0 b)) n.1
