-- What an outbox holds.
use Rattle.std.proofs.Common.{◌≡◌, ℕ, Bool, true, false, not, if◌then◌else◌, List, [], ◌∷◌, ◌++◌, map, Option, Some, None, inl, inr, Result, Ok, Err, refl, sym, ap, subst, ◌∙◌, append_assoc}
use Rattle.std.specs.Prelude.{◌||◌, is_ok}
use Rattle.std.specs.List.{concat}
use Rattle.std.proofs.lemmas.List.{append-nil}
use Rattle.std.proofs.lemmas.Bool.{and_parts}
use Rattle.mesh_links.specs.declared.call.LinkCall.{LinkCall}
use Rattle.mesh_links.specs.declared.call.LinkEvent.{LinkEvent}
use Rattle.mesh_links.specs.declared.call.LinkEvent.TheVariants as events
use Rattle.mesh_links.specs.declared.call.ReadGot.{ReadGot}
use Rattle.mesh_links.specs.declared.call.ReadGot.TheVariants as reads
use Rattle.mesh_links.specs.declared.call.WriteGot.{WriteGot}
use Rattle.mesh_links.specs.declared.call.WriteGot.TheVariants as writes
use Rattle.view_types.specs.declared.query.Query.{Query}
use Rattle.request_sim.specs.declared.fault.SimFault.{SimFault}
use Rattle.session_core.specs.Phases.{Phase, is_feeding}
use Rattle.session_core.specs.declared.session.SessionFault.{SessionFault}
use Rattle.session_core.proofs.PhaseLaws.{asked_once, no_feed_yet}
use Rattle.session_core.specs.Outboxes.{head, wrote}
use Rattle.serve_rules.specs.FedLines.{FedRow}
use Rattle.serve_rules.specs.Batches.{Serving, frames_due}
use Rattle.serve_rules.specs.LinkStates.{LinkState, fresh, closed, is_empty, phase_in, is_feed, query_of, goes_on, answers_then, came, heard, turned_away, may_read, admits, read_to, filled, filled_for, drain_to, may_drain, may_write, write_to}
use Rattle.serve_rules.specs.Turns.{made_readable, made_writable, admits_link, event_to, Events, Step, Each, ReadIf, ReadStep, DrainStep, WriteIf, WriteStep, StopStep, has_stop, Passes, AfterPoll}
use Rattle.serve_rules.specs.Traces.{opened}
use Rattle.serve_rules.specs.Due.{took_of}
use Rattle.serve_rules.specs.Outboxes.{HoldsOne, EachHoldsOne, OutboxesHoldOne}
use Rattle.serve_rules.proofs.Steps.{none_came}
use Rattle.serve_rules.proofs.LinksLeftOut.{by_test}
use Rattle.serve_rules.proofs.DueSteps.{empty_is, still_asks, took_back}

-- ---- what can't be

open_closed : (let bit : Bool = false in bit) ≡ true → ⊥
open_closed h = cc

both : (b : Bool) → b ≡ true → b ≡ false → ⊥
both b h k = cc

none_some : (query : Query) → (let none : Option Query = None in none) ≡ Some query → ⊥
none_some query h = cc

feeding_ok : (phase : Result Phase SessionFault) → is_feeding phase ≡ true → is_ok phase ≡ false → ⊥
feeding_ok (Ok phase) h k = absurd cc
feeding_ok (Err fault) h k = absurd cc

-- ---- the same outbox

-- a link whose outbox is the same, and which is closed or has the same bytes
holds_as : (serving : Serving) (s t : LinkState) → HoldsOne serving s → t.outbox ≡ s.outbox → (t.is_open ≡ true → (s.is_open ≡ true) × (t.bytes ≡ s.bytes)) → HoldsOne serving t
holds_as serving s t h o b = record {
  items = h.items;
  front = h.front;
  left = ap (λ z. h.front ++ concat z) o ∙ h.left;
  one = h.one;
  quiet = λ i f q. let there = b i in o ∙ h.quiet there.0 (sym (ap (is_feed serving) there.1) ∙ f) (sym (ap (query_of serving) there.1) ∙ q);
}

holds_closed : (serving : Serving) (s t : LinkState) → HoldsOne serving s → t.outbox ≡ s.outbox → t.is_open ≡ false → HoldsOne serving t
holds_closed serving s t h o c = holds_as serving s t h o (λ i. absurd (both t.is_open i c))

-- ---- a read

-- a link that has a request hears nothing and stays open
no_feed_asked : (serving : Serving) (bytes piece : List ℕ) (query : Query) → query_of serving bytes ≡ Some query → is_feed serving bytes ≡ false → is_feed serving (bytes ++ piece) ≡ true → ⊥
no_feed_asked serving bytes [] query q n f = both (is_feed serving bytes) (sym (ap (is_feed serving) (append-nil bytes)) ∙ f) n
no_feed_asked serving bytes (byte ∷ piece) query q n f = feeding_ok (phase_in serving (bytes ++ byte ∷ piece)) f (asked_once serving.program.config serving.program.limits bytes byte piece query q)

-- what becomes a feed had nothing to write
was_quiet : (serving : Serving) (s : LinkState) (piece : List ℕ) (query : Option Query) → HoldsOne serving s → s.is_open ≡ true → is_feed serving s.bytes ≡ false → is_feed serving (s.bytes ++ piece) ≡ true → query_of serving s.bytes ≡ query → s.outbox ≡ []
was_quiet serving s piece None h i n f q = h.quiet i n q
was_quiet serving s piece (Some query) h i n f q = absurd (no_feed_asked serving s.bytes piece query q n f)

empty_or : (b : Bool) (outbox : List (List ℕ)) → b ≡ true → (not b || is_empty outbox) ≡ true → outbox ≡ []
empty_or true outbox e h = empty_is outbox h
empty_or false outbox e h = absurd (open_closed e)

-- a feed that is read, or what becomes one, has nothing to write
read_empty : (serving : Serving) (s : LinkState) (piece : List ℕ) → HoldsOne serving s → s.is_open ≡ true → (not (is_feed serving s.bytes) || is_empty s.outbox) ≡ true → is_feed serving (s.bytes ++ piece) ≡ true → s.outbox ≡ []
read_empty serving s piece h i m f =
    by_test (is_feed serving s.bytes) (s.outbox ≡ [])
    (λ e. empty_or (is_feed serving s.bytes) s.outbox e m)
    (λ e. was_quiet serving s piece (query_of serving s.bytes) h i e f refl)

-- what stays no feed
quiet_on : (serving : Serving) (s : LinkState) (piece : List ℕ) (outbox : List (List ℕ)) (query : Option Query) → HoldsOne serving s → s.is_open ≡ true → is_feed serving (s.bytes ++ piece) ≡ false → query_of serving (s.bytes ++ piece) ≡ None → goes_on (phase_in serving (s.bytes ++ piece)) (is_empty piece) outbox ≡ true → query_of serving s.bytes ≡ query → s.outbox ≡ []
quiet_on serving s piece outbox None h i f q g is = h.quiet i (no_feed_yet serving.program.config serving.program.limits s.bytes piece f) is
quiet_on serving s piece outbox (Some query) h i f q g is =
    let same : s.bytes ++ piece ≡ s.bytes = still_asks serving s.bytes piece outbox query is g in
    absurd (none_some query (sym q ∙ ap (query_of serving) same ∙ is))

heard_holds : (serving : Serving) (met : ℕ → Option SimFault) (fed : List FedRow) (s : LinkState) (piece : List ℕ) → HoldsOne serving s → s.is_open ≡ true → (not (is_feed serving s.bytes) || is_empty s.outbox) ≡ true → HoldsOne serving (heard serving fed (came serving met s piece) s piece)
heard_holds serving met fed s piece h i m =
    let lines = came serving met s piece in
    let answers = answers_then serving fed lines in
    let t = heard serving fed lines s piece in
    by_test (is_feed serving (s.bytes ++ piece)) (HoldsOne serving t)
    (λ f.
    let none : s.outbox ≡ [] = read_empty serving s piece h i m f in
    record { items = answers; front = []; left = ap (λ z. concat (z ++ answers)) none; one = inr (inr (record { link = s; met = met; fed = fed; piece = piece; answers = refl })); quiet = λ g n q. absurd (both (is_feed serving (s.bytes ++ piece)) f n) })
    (λ f.
    let none : answers ≡ [] = ap (answers_then serving fed) (none_came serving met s piece f) in
    let same : s.outbox ++ answers ≡ s.outbox = ap (λ z. s.outbox ++ z) none ∙ append-nil s.outbox in
    record { items = h.items; front = h.front; left = ap (λ z. h.front ++ concat z) same ∙ h.left; one = h.one; quiet = λ g n q. same ∙ quiet_on serving s piece (s.outbox ++ answers) (query_of serving s.bytes) h i f q g refl })

read_holds : (serving : Serving) (a : Bool) (met : ℕ → Option SimFault) (fed : List FedRow) (s : LinkState) (got : ReadGot) → HoldsOne serving s → s.is_open ≡ true → (not (is_feed serving s.bytes) || is_empty s.outbox) ≡ true → HoldsOne serving (read_to serving a met fed s got)
unfolding read_to
read_holds serving true met fed s (reads.Bytes piece) h i m = heard_holds serving met fed s piece h i m
read_holds serving false met fed s (reads.Bytes piece) h i m = holds_closed serving s (turned_away s piece) h refl refl
read_holds serving a met fed s reads.Pending h i m = holds_as serving s (record s { readable = false }) h refl (λ g. (g, refl))
read_holds serving a met fed s reads.Failed h i m = holds_closed serving s (closed s) h refl refl

-- ---- a drain

filled_holds : (serving : Serving) (fed : List FedRow) (s : LinkState) (query : Query) (frames : Option (List (List ℕ))) → HoldsOne serving s → query_of serving s.bytes ≡ Some query → frames_due serving.program query s.drained fed ≡ frames → HoldsOne serving (filled fed s frames)
filled_holds serving fed s query None h q e = holds_closed serving s (closed s) h refl refl
filled_holds serving fed s query (Some frames) h q e = record {
  items = frames;
  front = [];
  left = refl;
  one = inr (inl (record { query = query; place = s.drained; fed = fed; frames = e }));
  quiet = λ i f n. absurd (none_some query (sym n ∙ q));
}

filled_for_holds : (serving : Serving) (fed : List FedRow) (s : LinkState) (query : Option Query) → HoldsOne serving s → query_of serving s.bytes ≡ query → HoldsOne serving (filled_for serving fed s query)
filled_for_holds serving fed s None h q = h
filled_for_holds serving fed s (Some query) h q = filled_holds serving fed s query (frames_due serving.program query s.drained fed) h q refl

if_holds : (serving : Serving) (b : Bool) (x y : LinkState) → HoldsOne serving x → HoldsOne serving y → HoldsOne serving (if b then x else y)
if_holds serving true x y h k = h
if_holds serving false x y h k = k

drain_holds : (serving : Serving) (fed : List FedRow) (s : LinkState) → HoldsOne serving s → HoldsOne serving (drain_to serving fed s)
unfolding drain_to
drain_holds serving fed s h = if_holds serving (may_drain serving fed s) (filled_for serving fed s (query_of serving s.bytes)) s (filled_for_holds serving fed s (query_of serving s.bytes) h refl) h

-- ---- a write

wrote_none : (n : ℕ) (outbox : List (List ℕ)) → outbox ≡ [] → wrote n outbox ≡ []
wrote_none n outbox e = ap (wrote n) e

took_holds : (serving : Serving) (n : ℕ) (s t : LinkState) → HoldsOne serving s → t.outbox ≡ wrote n s.outbox → t.bytes ≡ s.bytes → s.is_open ≡ true → HoldsOne serving t
took_holds serving n s t h o b i = record {
  items = h.items;
  front = h.front ++ took_of (writes.Took n) (head s.outbox);
  left =
      append_assoc h.front (took_of (writes.Took n) (head s.outbox)) (concat t.outbox)
      ∙ ap (λ z. h.front ++ (took_of (writes.Took n) (head s.outbox) ++ concat z)) o
      ∙ ap (λ z. h.front ++ z) (took_back n s.outbox) ∙ h.left;
  one = h.one;
  quiet = λ g f q. o ∙ wrote_none n s.outbox (h.quiet i (sym (ap (is_feed serving) b) ∙ f) (sym (ap (query_of serving) b) ∙ q));
}

write_holds : (serving : Serving) (s : LinkState) (got : WriteGot) → HoldsOne serving s → s.is_open ≡ true → HoldsOne serving (write_to serving s got)
unfolding write_to
write_holds serving s (writes.Took n) h i = took_holds serving n s (record s { is_open = goes_on (phase_in serving s.bytes) s.ended (wrote n s.outbox); outbox = wrote n s.outbox }) h refl refl i
write_holds serving s writes.Pending h i = holds_as serving s (record s { writable = false }) h refl (λ g. (g, refl))
write_holds serving s writes.Failed h i = holds_closed serving s (closed s) h refl refl

-- ---- steps

record Keeps (serving : Serving) (step : Step) : Type 0 where
  keep : (others : List LinkState) (fed : List FedRow) (s : LinkState) (made : List LinkCall) (now : List FedRow) (t : LinkState) → step others fed s made now t → HoldsOne serving s → HoldsOne serving t

read_if_holds : (b : Bool) (serving : Serving) (strict : Bool) (others : List LinkState) (fed : List FedRow) (s : LinkState) (made : List LinkCall) (now : List FedRow) (t : LinkState) → may_read serving s ≡ b → ReadIf b serving strict others fed s made now t → HoldsOne serving s → HoldsOne serving t
read_if_holds true serving strict others fed s made now t m h k =
    let open_and = and_parts _ _ m in
    let readable_and = and_parts _ _ open_and.1 in
    let ended_and = and_parts _ _ readable_and.1 in
    subst (HoldsOne serving) (sym h.link) (read_holds serving (admits serving others s.bytes h.got) h.met fed s h.got k open_and.0 ended_and.1)
read_if_holds false serving strict others fed s made now t m h k = subst (HoldsOne serving) (sym h.link) k

write_if_holds : (b : Bool) (serving : Serving) (others : List LinkState) (fed : List FedRow) (s : LinkState) (made : List LinkCall) (now : List FedRow) (t : LinkState) → may_write s ≡ b → WriteIf b serving others fed s made now t → HoldsOne serving s → HoldsOne serving t
write_if_holds true serving others fed s made now t m h k = subst (HoldsOne serving) (sym h.link) (write_holds serving s h.got k (and_parts _ _ m).0)
write_if_holds false serving others fed s made now t m h k = subst (HoldsOne serving) (sym h.link) k

keeps_read : (serving : Serving) (strict : Bool) → Keeps serving (ReadStep serving strict)
keeps_read serving strict = record { keep = λ others fed s made now t h k. read_if_holds (may_read serving s) serving strict others fed s made now t refl h k }

keeps_drain : (serving : Serving) → Keeps serving (DrainStep serving)
keeps_drain serving = record { keep = λ others fed s made now t h k. subst (HoldsOne serving) (sym h.link) (drain_holds serving fed s k) }

keeps_write : (serving : Serving) → Keeps serving (WriteStep serving)
keeps_write serving = record { keep = λ others fed s made now t h k. write_if_holds (may_write s) serving others fed s made now t refl h k }

keeps_stop : (serving : Serving) (stopped : Bool) → Keeps serving (StopStep stopped)
keeps_stop serving stopped = record { keep = λ others fed s made now t h k. subst (HoldsOne serving) (sym h.link) (if_holds serving stopped (closed s) s (holds_closed serving s (closed s) k refl refl) k) }

each_holds : (serving : Serving) (step : Step) → Keeps serving step → (done : List LinkState) (fed : List FedRow) (ss : List LinkState) (made : List LinkCall) (now : List FedRow) (ts : List LinkState) → Each step done fed ss made now ts → EachHoldsOne serving ss → EachHoldsOne serving ts
each_holds serving step f done fed [] made now [] h k = tt
each_holds serving step f done fed [] made now (t ∷ ts) h k = absurd h
each_holds serving step f done fed (s ∷ ss) made now [] h k = absurd h
each_holds serving step f done fed (s ∷ ss) made now (t ∷ ts) h k = (f.keep (done ++ ss) fed s h.0 h.2 t h.4 k.0, each_holds serving step f (done ++ t ∷ []) h.2 ss h.1 now ts h.5 k.1)

-- ---- turns

append_holds : (serving : Serving) (xs : List LinkState) (y : LinkState) → EachHoldsOne serving xs → HoldsOne serving y → EachHoldsOne serving (xs ++ y ∷ [])
append_holds serving [] y h k = (k, tt)
append_holds serving (x ∷ xs) y h k = (h.0, append_holds serving xs y h.1 k)

map_holds : (serving : Serving) (f : LinkState → LinkState) → ((s : LinkState) → HoldsOne serving s → HoldsOne serving (f s)) → (ss : List LinkState) → EachHoldsOne serving ss → EachHoldsOne serving (map f ss)
map_holds serving f g [] h = tt
map_holds serving f g (s ∷ ss) h = (g s h.0, map_holds serving f g ss h.1)

fresh_holds : (serving : Serving) (n : ℕ) → HoldsOne serving (fresh n)
fresh_holds serving n = record { items = []; front = []; left = refl; one = inl refl; quiet = λ i f q. refl }

new_holds : (serving : Serving) (b : Bool) (n : ℕ) (all : List LinkState) → EachHoldsOne serving all → EachHoldsOne serving (if b then all ++ fresh n ∷ [] else all)
new_holds serving true n all h = append_holds serving all (fresh n) h (fresh_holds serving n)
new_holds serving false n all h = h

events_hold : (serving : Serving) (strict : Bool) (shown : List LinkEvent) (all : List LinkState) (made : List LinkCall) (ts : List LinkState) → Events serving strict shown all made ts → EachHoldsOne serving all → EachHoldsOne serving ts
events_hold serving strict [] all made ts h k = subst (EachHoldsOne serving) (sym h.1) k
events_hold serving strict (events.New n ∷ shown) all made ts h k = events_hold serving strict shown (event_to serving all (events.New n)) h.0 ts h.3 (new_holds serving (admits_link serving all) n all k)
events_hold serving strict (events.Readable n ∷ shown) all made ts h k = events_hold serving strict shown (map (made_readable n) all) h.0 ts h.3 (map_holds serving (made_readable n) (λ s x. holds_as serving s (made_readable n s) x refl (λ g. (g, refl))) all k)
events_hold serving strict (events.Writable n ∷ shown) all made ts h k = events_hold serving strict shown (map (made_writable n) all) h.0 ts h.3 (map_holds serving (made_writable n) (λ s x. holds_as serving s (made_writable n s) x refl (λ g. (g, refl))) all k)

passes_hold : (serving : Serving) (strict : Bool) (fed : List FedRow) (polled : List LinkState) (made : List LinkCall) (now : List FedRow) (after : List LinkState) → Passes serving strict fed polled made now after → EachHoldsOne serving polled → EachHoldsOne serving after
passes_hold serving strict fed polled made now after p h =
    let stop = has_stop serving fed now in
    let a = each_holds serving (ReadStep serving strict) (keeps_read serving strict) [] fed polled p.reads now p.read p.each_read h in
    let b = each_holds serving (DrainStep serving) (keeps_drain serving) [] now p.read p.drains now p.drained p.each_drain a in
    let c = each_holds serving (WriteStep serving) (keeps_write serving) [] now p.drained p.writes now p.written p.each_write b in
    each_holds serving (StopStep stop) (keeps_stop serving stop) [] now p.written p.stops now after p.each_stop c

after_holds : (serving : Serving) (strict : Bool) (shown : Option (List LinkEvent)) (fed : List FedRow) (before : List LinkState) (made : List LinkCall) (now : List FedRow) (after : List LinkState) → AfterPoll serving strict shown fed before made now after → EachHoldsOne serving before → EachHoldsOne serving after
after_holds serving strict None fed before made now after h k = subst (EachHoldsOne serving) (sym h.2) k
after_holds serving strict (Some shown) fed before made now after h k = passes_hold serving strict fed h.2 h.1 now after h.5 (events_hold serving strict shown before h.0 h.2 h.4 k)

opened_holds : (serving : Serving) (ss : List LinkState) → EachHoldsOne serving ss → EachHoldsOne serving (opened ss)
opened_holds serving [] h = tt
opened_holds serving (s ∷ ss) h =
    let rest = opened_holds serving ss h.1 in
    let P : Bool → Type 0 = λ b. EachHoldsOne serving (if b then s ∷ opened ss else opened ss) in
    let at : (b : Bool) → P b = λ b. elim b as P [ true ↦ (h.0, rest) | false ↦ rest ] in
    at s.is_open

pub outboxes_hold_one : OutboxesHoldOne
outboxes_hold_one serving strict fed before [] h k = k
outboxes_hold_one serving strict fed before (r ∷ rounds) h k =
    outboxes_hold_one serving strict r.fed (opened r.links) rounds h.1 (opened_holds serving r.links (after_holds serving strict r.shown fed before r.made r.fed r.links h.0 k))
