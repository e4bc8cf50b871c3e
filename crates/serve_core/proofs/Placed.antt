-- Each link's last drain is at a place of what was fed.
use Rattle.std.proofs.Common.{◌≡◌, ℕ, ◌≤◌, Bool, true, false, if◌then◌else◌, List, [], ◌∷◌, ◌++◌, length, map, Option, Some, None, refl, sym, ap, ◌∙◌, subst, arith}
use Rattle.mesh_links.specs.declared.call.LinkCall.{LinkCall}
use Rattle.mesh_links.specs.declared.call.LinkEvent.{LinkEvent}
use Rattle.mesh_links.specs.declared.call.LinkEvent.TheVariants as events
use Rattle.mesh_links.specs.declared.call.ReadGot.{ReadGot}
use Rattle.mesh_links.specs.declared.call.ReadGot.TheVariants as reads
use Rattle.mesh_links.specs.declared.call.WriteGot.{WriteGot}
use Rattle.mesh_links.specs.declared.call.WriteGot.TheVariants as writes
use Rattle.request_sim.specs.declared.fault.SimFault.{SimFault}
use Rattle.view_types.specs.declared.query.Query.{Query}
use Rattle.serve_rules.specs.Batches.{Serving, frames_due}
use Rattle.serve_rules.specs.Due.{IsPlaced, find}
use Rattle.serve_rules.specs.FedLines.{FedRow}
use Rattle.serve_rules.specs.LinkStates.{LinkState, admits, closed, drain_to, filled, filled_for, fresh, may_drain, may_read, may_write, query_of, read_to, write_to}
use Rattle.serve_rules.specs.Traces.{AreTurns, fed_in, links_in, opened}
use Rattle.serve_rules.specs.Turns.{AfterPoll, DrainStep, Each, Events, Passes, ReadIf, ReadStep, Step, StopStep, Turn, WriteIf, WriteStep, admits_link, event_to, has_stop, made_readable, made_writable}
use Rattle.serve_rules.proofs.DrainPlaces.{placed_later, turn_grows}

abbrev pub EachPlaced : List FedRow → List LinkState → Type 0
EachPlaced fed [] = Unit {0}
EachPlaced fed (s ∷ links) = IsPlaced s.drained fed × EachPlaced fed links

placed_as : (fed : List FedRow) (s t : LinkState) → t.drained ≡ s.drained → IsPlaced s.drained fed → IsPlaced t.drained fed
placed_as fed s t same placed = subst (λ d. IsPlaced d fed) (sym same) placed

-- ---- steps

read_drained : (serving : Serving) (admitted : Bool) (met : ℕ → Option SimFault) (fed : List FedRow) (s : LinkState) (got : ReadGot) → (read_to serving admitted met fed s got).drained ≡ s.drained
unfolding read_to
read_drained serving true met fed s (reads.Bytes piece) = refl
read_drained serving false met fed s (reads.Bytes piece) = refl
read_drained serving admitted met fed s reads.Pending = refl
read_drained serving admitted met fed s reads.Failed = refl

write_drained : (serving : Serving) (s : LinkState) (got : WriteGot) → (write_to serving s got).drained ≡ s.drained
unfolding write_to
write_drained serving s (writes.Took n) = refl
write_drained serving s writes.Pending = refl
write_drained serving s writes.Failed = refl

module _ (serving : Serving) (fed : List FedRow) (s : LinkState) (placed : IsPlaced s.drained fed) where
  filled_placed : (frames : Option (List (List ℕ))) → IsPlaced (filled fed s frames).drained fed
  filled_placed None = placed
  filled_placed (Some frames) = omega arith

  filled_for_placed : (query : Option Query) → IsPlaced (filled_for serving fed s query).drained fed
  filled_for_placed None = placed
  filled_for_placed (Some query) = filled_placed (frames_due serving.program query s.drained fed)

  drained_if : (b : Bool) → IsPlaced (if b then filled_for serving fed s (query_of serving s.bytes) else s).drained fed
  drained_if true = filled_for_placed (query_of serving s.bytes)
  drained_if false = placed

  drain_placed : IsPlaced (drain_to serving fed s).drained fed
  unfolding drain_to
  drain_placed = drained_if (may_drain serving fed s)

  stop_placed : (stopped : Bool) → IsPlaced (if stopped then closed s else s).drained fed
  stop_placed true = placed
  stop_placed false = placed

read_if : (final : List FedRow) (b : Bool) (serving : Serving) (others : List LinkState) (fed : List FedRow) (s : LinkState) (made : List LinkCall) (now : List FedRow) (t : LinkState) → ReadIf b serving false others fed s made now t → IsPlaced s.drained final → IsPlaced t.drained final
read_if final true serving others fed s made now t step placed =
    placed_as final s t (ap (λ (x : LinkState). x.drained) step.link ∙ read_drained serving (admits serving others s.bytes step.got) step.met fed s step.got) placed
read_if final false serving others fed s made now t step placed = placed_as final s t (ap (λ (x : LinkState). x.drained) step.link) placed

write_if : (final : List FedRow) (b : Bool) (serving : Serving) (others : List LinkState) (fed : List FedRow) (s : LinkState) (made : List LinkCall) (now : List FedRow) (t : LinkState) → WriteIf b serving others fed s made now t → IsPlaced s.drained final → IsPlaced t.drained final
write_if final true serving others fed s made now t step placed = placed_as final s t (ap (λ (x : LinkState). x.drained) step.link ∙ write_drained serving s step.got) placed
write_if final false serving others fed s made now t step placed = placed_as final s t (ap (λ (x : LinkState). x.drained) step.link) placed

-- each step leaves its link at a place of these lines, which are those fed where a drain comes
module _ (final : List FedRow) (step : Step) (stays : (others : List LinkState) (fed : List FedRow) (s : LinkState) (made : List LinkCall) (now : List FedRow) (t : LinkState) → step others fed s made now t → fed ≡ final → IsPlaced s.drained final → IsPlaced t.drained final)
    (quiet : (others : List LinkState) (fed : List FedRow) (s : LinkState) (made : List LinkCall) (now : List FedRow) (t : LinkState) → step others fed s made now t → now ≡ fed) where
  each_placed : (done : List LinkState) (fed : List FedRow) (ss : List LinkState) (made : List LinkCall) (now : List FedRow) (ts : List LinkState) → fed ≡ final → Each step done fed ss made now ts → EachPlaced final ss → EachPlaced final ts
  each_placed done fed [] made now [] is each placed = tt
  each_placed done fed [] made now (t ∷ ts) is each placed = absurd each
  each_placed done fed (s ∷ ss) made now [] is each placed = absurd each
  each_placed done fed (s ∷ ss) made now (t ∷ ts) is each placed =
      (stays (done ++ ss) fed s each.0 each.2 t each.4 is placed.0, each_placed (done ++ t ∷ []) each.2 ss each.1 now ts (quiet (done ++ ss) fed s each.0 each.2 t each.4 ∙ is) each.5 placed.1)

reads_placed : (final : List FedRow) (serving : Serving) (done : List LinkState) (fed : List FedRow) (ss : List LinkState) (made : List LinkCall) (now : List FedRow) (ts : List LinkState) → Each (ReadStep serving false) done fed ss made now ts → EachPlaced final ss → EachPlaced final ts
reads_placed final serving done fed [] made now [] each placed = tt
reads_placed final serving done fed [] made now (t ∷ ts) each placed = absurd each
reads_placed final serving done fed (s ∷ ss) made now [] each placed = absurd each
reads_placed final serving done fed (s ∷ ss) made now (t ∷ ts) each placed =
    (read_if final (may_read serving s) serving (done ++ ss) fed s each.0 each.2 t each.4 placed.0, reads_placed final serving (done ++ t ∷ []) each.2 ss each.1 now ts each.5 placed.1)

write_quiet : (b : Bool) (serving : Serving) (others : List LinkState) (fed : List FedRow) (s : LinkState) (made : List LinkCall) (now : List FedRow) (t : LinkState) → WriteIf b serving others fed s made now t → now ≡ fed
write_quiet true serving others fed s made now t step = step.fed_now
write_quiet false serving others fed s made now t step = step.fed_now

-- ---- a turn

module _ (final : List FedRow) where
  append_placed : (ss : List LinkState) (n : ℕ) → EachPlaced final ss → EachPlaced final (ss ++ fresh n ∷ [])
  append_placed [] n placed = (tt, tt)
  append_placed (s ∷ ss) n placed = (placed.0, append_placed ss n placed.1)

  new_placed : (b : Bool) (ss : List LinkState) (n : ℕ) → EachPlaced final ss → EachPlaced final (if b then ss ++ fresh n ∷ [] else ss)
  new_placed true ss n placed = append_placed ss n placed
  new_placed false ss n placed = placed

  map_placed : (change : LinkState → LinkState) → ((s : LinkState) → (change s).drained ≡ s.drained) → (ss : List LinkState) → EachPlaced final ss → EachPlaced final (map change ss)
  map_placed change same [] placed = tt
  map_placed change same (s ∷ ss) placed = (placed_as final s (change s) (same s) placed.0, map_placed change same ss placed.1)

  events_placed : (serving : Serving) (shown : List LinkEvent) (all : List LinkState) (made : List LinkCall) (ts : List LinkState) → Events serving false shown all made ts → EachPlaced final all → EachPlaced final ts
  events_placed serving [] all made ts is placed = subst (EachPlaced final) (sym is.1) placed
  events_placed serving (events.New n ∷ shown) all made ts is placed = events_placed serving shown (event_to serving all (events.New n)) is.0 ts is.3 (new_placed (admits_link serving all) all n placed)
  events_placed serving (events.Readable n ∷ shown) all made ts is placed = events_placed serving shown (map (made_readable n) all) is.0 ts is.3 (map_placed (made_readable n) (λ s. refl) all placed)
  events_placed serving (events.Writable n ∷ shown) all made ts is placed = events_placed serving shown (map (made_writable n) all) is.0 ts is.3 (map_placed (made_writable n) (λ s. refl) all placed)

  later_placed : (fed : List FedRow) → ((d : Option ℕ) → IsPlaced d fed → IsPlaced d final) → (ss : List LinkState) → EachPlaced fed ss → EachPlaced final ss
  later_placed fed later [] placed = tt
  later_placed fed later (s ∷ ss) placed = (later s.drained placed.0, later_placed fed later ss placed.1)

  opened_placed : (ss : List LinkState) → EachPlaced final ss → EachPlaced final (opened ss)
  opened_placed [] placed = tt
  opened_placed (s ∷ ss) placed = at (opened_placed ss placed.1) s.is_open
    where
      at : EachPlaced final (opened ss) → (b : Bool) → EachPlaced final (if b then s ∷ opened ss else opened ss)
      at rest true = (placed.0, rest)
      at rest false = rest

  passes_placed : (serving : Serving) (fed : List FedRow) (polled : List LinkState) (made : List LinkCall) (after : List LinkState) → Passes serving false fed polled made final after → EachPlaced final polled → EachPlaced final after
  passes_placed serving fed polled made after p placed =
      let stop = has_stop serving fed final in
      let read = reads_placed final serving [] fed polled p.reads final p.read p.each_read placed in
      let drained = each_placed final (DrainStep serving)
      (λ others fs s made now t step is at. subst (λ (x : LinkState). IsPlaced x.drained final) (sym step.link) (subst (λ gs. IsPlaced (drain_to serving gs s).drained final) (sym is) (drain_placed serving final s at)))
      (λ others fs s made now t step. step.fed_now) [] final p.read p.drains final p.drained refl p.each_drain read in
      let written = each_placed final (WriteStep serving) (λ others fs s made now t step is at. write_if final (may_write s) serving others fs s made now t step at)
      (λ others fs s made now t step. write_quiet (may_write s) serving others fs s made now t step) [] final p.drained p.writes final p.written refl p.each_write drained in
      each_placed final (StopStep stop) (λ others fs s made now t step is at. subst (λ (x : LinkState). IsPlaced x.drained final) (sym step.link) (stop_placed serving final s at stop))
      (λ others fs s made now t step. step.fed_now) [] final p.written p.stops final after refl p.each_stop written

after_placed : (serving : Serving) (shown : Option (List LinkEvent)) (fed : List FedRow) (before : List LinkState) (made : List LinkCall) (now : List FedRow) (after : List LinkState) → AfterPoll serving false shown fed before made now after → EachPlaced now before → EachPlaced now after
after_placed serving None fed before made now after is placed = subst (EachPlaced now) (sym is.2) placed
after_placed serving (Some shown) fed before made now after is placed = passes_placed now serving fed is.2 is.1 after is.5 (events_placed now serving shown before is.0 is.2 is.4 placed)

pub turns_placed : (serving : Serving) (fed : List FedRow) (before : List LinkState) (turns : List Turn) → AreTurns serving false fed before turns → EachPlaced fed before → EachPlaced (fed_in fed turns) (links_in before turns)
turns_placed serving fed before [] are placed = placed
turns_placed serving fed before (r ∷ turns) are placed =
    let grown = turn_grows serving false fed before r are.0 in
    let now = later_placed r.fed fed (λ d at. placed_later d fed r.fed at grown) before placed in
    turns_placed serving r.fed (opened r.links) turns are.1 (opened_placed r.fed r.links (after_placed serving r.shown fed before r.made r.fed r.links are.0 now))
