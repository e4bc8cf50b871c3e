-- A link that fails in a turn isn't open after it.
use Rattle.std.proofs.Common.{◌≡◌, ℕ, ◌==◌, Bool, true, false, not, if◌then◌else◌, List, [], ◌∷◌, ◌++◌, Option, Some, None, refl, sym, ap, subst, ◌∙◌}
use Rattle.std.specs.Prelude.{◌&&◌, ◌||◌}
use Rattle.mesh_links.specs.declared.call.LinkCall.{LinkCall}
use Rattle.mesh_links.specs.declared.call.LinkCall.TheVariants as calls
use Rattle.mesh_links.specs.declared.call.LinkEvent.{LinkEvent}
use Rattle.mesh_links.specs.declared.call.LinkEvent.TheVariants as events
use Rattle.mesh_links.specs.declared.call.ReadGot.{ReadGot}
use Rattle.mesh_links.specs.declared.call.ReadGot.TheVariants as reads
use Rattle.mesh_links.specs.declared.call.WriteGot.{WriteGot}
use Rattle.mesh_links.specs.declared.call.WriteGot.TheVariants as writes
use Rattle.request_sim.specs.declared.fault.SimFault.{SimFault}
use Rattle.session_core.specs.Outboxes.{head}
use Rattle.serve_rules.specs.FedLines.{FedRow}
use Rattle.serve_rules.specs.Batches.{Serving}
use Rattle.serve_rules.specs.LinkStates.{LinkState, closing, may_read, may_write, admits, read_to, write_to}
use Rattle.serve_rules.specs.Turns.{admits_link, event_to, event_closes, Events, Step, Each, ReadIf, ReadStep, DrainStep, WriteIf, WriteStep, StopStep, has_stop, Passes, AfterPoll, room}
use Rattle.serve_rules.specs.Due.{Absent, NoNew, Once, find}
use Rattle.serve_rules.specs.LinkFailures.{is_failure, has_failed, FailureCloses}
use Rattle.serve_rules.proofs.LinksLeftOut.{by_test}
use Rattle.serve_rules.proofs.DueSteps.{Answered, Filled, EmptiedBetween, each_find, each_once, tells_read, tells_drain, tells_write, tells_stop, find-in, find-out, same_some}
use Rattle.serve_rules.proofs.Serving.{events_kept}

no_bit : (let bit : Bool = false in bit) ≡ true → ⊥
no_bit h = cc

or_none : (x y : Bool) → y ≡ false → (x || y) ≡ x
or_none true y h = refl
or_none false y h = h

new_mild : (b : Bool) (k n : ℕ) → has_failed k (if b then [] else calls.Close n ∷ []) ≡ false
new_mild true k n = refl
new_mild false k n = refl

or_split : (x y : Bool) → (x || y) ≡ true → (x ≡ false → y ≡ true)
or_split true y h n = absurd cc
or_split false y h n = h

has-append : (k : ℕ) (xs ys : List LinkCall) → has_failed k (xs ++ ys) ≡ (has_failed k xs || has_failed k ys)
has-append k [] ys = refl
has-append k (x ∷ xs) ys =
    let rest = has-append k xs ys in
    by_test (is_failure k x) (has_failed k (x ∷ (xs ++ ys)) ≡ (has_failed k (x ∷ xs) || has_failed k ys)) (λ e. rw e refl) (λ e. rw e rest)

close_no_failure : (k : ℕ) (s t : LinkState) → has_failed k (closing s t) ≡ false
close_no_failure k s t =
    let P : Bool → Type 0 = λ b. has_failed k (if b then calls.Close s.number ∷ [] else []) ≡ false in
    let at : (b : Bool) → P b = λ b. elim b as P [ true ↦ refl | false ↦ refl ] in
    at (s.is_open && not t.is_open)

-- what holds of each step: its failures are of its link, which they close, and a closed link stays closed
record Shuts (k : ℕ) (step : Step) : Type 0 where
  number : (others : List LinkState) (fed : List FedRow) (s : LinkState) (made : List LinkCall) (now : List FedRow) (t : LinkState) → step others fed s made now t → t.number ≡ s.number
  other : (others : List LinkState) (fed : List FedRow) (s : LinkState) (made : List LinkCall) (now : List FedRow) (t : LinkState) → step others fed s made now t → (s.number == k) ≡ false → has_failed k made ≡ false
  shuts : (others : List LinkState) (fed : List FedRow) (s : LinkState) (made : List LinkCall) (now : List FedRow) (t : LinkState) → step others fed s made now t → has_failed k made ≡ true → t.is_open ≡ false

each_silent : (k : ℕ) (step : Step) → Shuts k step → (done : List LinkState) (fed : List FedRow) (ss : List LinkState) (made : List LinkCall) (now : List FedRow) (ts : List LinkState) → Each step done fed ss made now ts → Absent k ss → has_failed k made ≡ false
each_silent k step f done fed [] made now [] h a = ap (has_failed k) h.0
each_silent k step f done fed [] made now (t ∷ ts) h a = absurd h
each_silent k step f done fed (s ∷ ss) made now [] h a = absurd h
each_silent k step f done fed (s ∷ ss) made now (t ∷ ts) h a =
    let one = f.other (done ++ ss) fed s h.0 h.2 t h.4 a.0 in
    let rest = each_silent k step f (done ++ t ∷ []) h.2 ss h.1 now ts h.5 a.1 in
    ap (has_failed k) h.3 ∙ has-append k h.0 h.1 ∙ ap (λ z. z || has_failed k h.1) one ∙ rest

each_shut : (k : ℕ) (step : Step) → Shuts k step → (done : List LinkState) (fed : List FedRow) (ss : List LinkState) (made : List LinkCall) (now : List FedRow) (ts : List LinkState) (t : LinkState) → Each step done fed ss made now ts → Once k ss → find k ts ≡ Some t → has_failed k made ≡ true → t.is_open ≡ false
each_shut k step f done fed [] made now [] t h o g e = absurd cc
each_shut k step f done fed [] made now (y ∷ ts) t h o g e = absurd h
each_shut k step f done fed (x ∷ ss) made now [] t h o g e = absurd h
each_shut k step f done fed (x ∷ ss) made now (y ∷ ts) t h o g e =
    let n = f.number (done ++ ss) fed x h.0 h.2 y h.4 in
    let split : (has_failed k h.0 || has_failed k h.1) ≡ true = sym (ap (has_failed k) h.3 ∙ has-append k h.0 h.1) ∙ e in
    by_test (x.number == k) (t.is_open ≡ false)
    (λ i.
    let there = ap (λ m. m == k) n ∙ i in
    let is : y ≡ t = same_some y t (sym (find-in k y ts there) ∙ g) in
    let none = each_silent k step f (done ++ y ∷ []) h.2 ss h.1 now ts h.5 (o.0 i) in
    let first : has_failed k h.0 ≡ true = sym (or_none (has_failed k h.0) (has_failed k h.1) none) ∙ split in
    sym (ap (λ z. z.is_open) is) ∙ f.shuts (done ++ ss) fed x h.0 h.2 y h.4 first)
    (λ i.
    let there = ap (λ m. m == k) n ∙ i in
    let none = f.other (done ++ ss) fed x h.0 h.2 y h.4 i in
    each_shut k step f (done ++ y ∷ []) h.2 ss h.1 now ts t h.5 o.1 (sym (find-out k y ts there) ∙ g) (or_split (has_failed k h.0) (has_failed k h.1) split none))

-- ---- the steps

read_failure : (k n : ℕ) (got : ReadGot) → is_failure k (calls.Read n room got) ≡ true → reads.Failed ≡ got
read_failure k n (reads.Bytes piece) h = absurd cc
read_failure k n reads.Pending h = absurd cc
read_failure k n reads.Failed h = refl

write_failure : (k n : ℕ) (piece : List ℕ) (got : WriteGot) → is_failure k (calls.Write n piece got) ≡ true → writes.Failed ≡ got
write_failure k n piece (writes.Took count) h = absurd cc
write_failure k n piece writes.Pending h = absurd cc
write_failure k n piece writes.Failed h = refl

read_other : (k n : ℕ) (got : ReadGot) → (n == k) ≡ false → is_failure k (calls.Read n room got) ≡ false
read_other k n (reads.Bytes piece) e = refl
read_other k n reads.Pending e = refl
read_other k n reads.Failed e = e

write_other : (k n : ℕ) (piece : List ℕ) (got : WriteGot) → (n == k) ≡ false → is_failure k (calls.Write n piece got) ≡ false
write_other k n piece (writes.Took count) e = refl
write_other k n piece writes.Pending e = refl
write_other k n piece writes.Failed e = e

-- a call with its close fails where the call does
call_failure : (k : ℕ) (s t : LinkState) (call : LinkCall) (made : List LinkCall) → made ≡ call ∷ closing s t → has_failed k made ≡ is_failure k call
call_failure k s t call made e =
    ap (has_failed k) e
    ∙ by_test (is_failure k call) (has_failed k (call ∷ closing s t) ≡ is_failure k call) (λ i. rw i refl) (λ i. rw i (close_no_failure k s t))

read_shut : (serving : Serving) (a : Bool) (met : ℕ → Option SimFault) (fed : List FedRow) (s : LinkState) (got : ReadGot) → reads.Failed ≡ got → (read_to serving a met fed s got).is_open ≡ false
unfolding read_to
read_shut serving a met fed s got e = subst (λ g. (read_to serving a met fed s g).is_open ≡ false) e refl

write_shut : (serving : Serving) (s : LinkState) (got : WriteGot) → writes.Failed ≡ got → (write_to serving s got).is_open ≡ false
unfolding write_to
write_shut serving s got e = subst (λ g. (write_to serving s g).is_open ≡ false) e refl

none_fails : (k : ℕ) (made : List LinkCall) → made ≡ [] → has_failed k made ≡ true → ⊥
none_fails k made e h = no_bit (sym (ap (has_failed k) e) ∙ h)

read_shuts : (k : ℕ) (b : Bool) (serving : Serving) (strict : Bool) (others : List LinkState) (fed : List FedRow) (s : LinkState) (made : List LinkCall) (now : List FedRow) (t : LinkState) → ReadIf b serving strict others fed s made now t → has_failed k made ≡ true → t.is_open ≡ false
read_shuts k true serving strict others fed s made now t h e =
    let got = read_failure k s.number h.got (sym (call_failure k s t (calls.Read s.number room h.got) made h.calls) ∙ e) in
    ap (λ x. x.is_open) h.link ∙ read_shut serving (admits serving others s.bytes h.got) h.met fed s h.got got
read_shuts k false serving strict others fed s made now t h e = absurd (none_fails k made h.calls e)

write_shuts : (k : ℕ) (b : Bool) (serving : Serving) (others : List LinkState) (fed : List FedRow) (s : LinkState) (made : List LinkCall) (now : List FedRow) (t : LinkState) → WriteIf b serving others fed s made now t → has_failed k made ≡ true → t.is_open ≡ false
write_shuts k true serving others fed s made now t h e =
    let got = write_failure k s.number (head s.outbox) h.got (sym (call_failure k s t (calls.Write s.number (head s.outbox) h.got) made h.calls) ∙ e) in
    ap (λ x. x.is_open) h.link ∙ write_shut serving s h.got got
write_shuts k false serving others fed s made now t h e = absurd (none_fails k made h.calls e)

read_apart : (k : ℕ) (b : Bool) (serving : Serving) (strict : Bool) (others : List LinkState) (fed : List FedRow) (s : LinkState) (made : List LinkCall) (now : List FedRow) (t : LinkState) → ReadIf b serving strict others fed s made now t → (s.number == k) ≡ false → has_failed k made ≡ false
read_apart k true serving strict others fed s made now t h e = call_failure k s t (calls.Read s.number room h.got) made h.calls ∙ read_other k s.number h.got e
read_apart k false serving strict others fed s made now t h e = ap (has_failed k) h.calls

write_apart : (k : ℕ) (b : Bool) (serving : Serving) (others : List LinkState) (fed : List FedRow) (s : LinkState) (made : List LinkCall) (now : List FedRow) (t : LinkState) → WriteIf b serving others fed s made now t → (s.number == k) ≡ false → has_failed k made ≡ false
write_apart k true serving others fed s made now t h e = call_failure k s t (calls.Write s.number (head s.outbox) h.got) made h.calls ∙ write_other k s.number (head s.outbox) h.got e
write_apart k false serving others fed s made now t h e = ap (has_failed k) h.calls

shuts_read : (serving : Serving) (strict : Bool) (k : ℕ) → Shuts k (ReadStep serving strict)
shuts_read serving strict k = record {
  number = (tells_read serving strict k).number;
  other = λ others fed s made now t h e. read_apart k (may_read serving s) serving strict others fed s made now t h e;
  shuts = λ others fed s made now t h e. read_shuts k (may_read serving s) serving strict others fed s made now t h e;
}

shuts_write : (serving : Serving) (k : ℕ) → Shuts k (WriteStep serving)
shuts_write serving k = record {
  number = (tells_write serving k).number;
  other = λ others fed s made now t h e. write_apart k (may_write s) serving others fed s made now t h e;
  shuts = λ others fed s made now t h e. write_shuts k (may_write s) serving others fed s made now t h e;
}

-- no drain and no stop fails
each_mild : (k : ℕ) (step : Step) → ((others : List LinkState) (fed : List FedRow) (s : LinkState) (made : List LinkCall) (now : List FedRow) (t : LinkState) → step others fed s made now t → has_failed k made ≡ false) → (done : List LinkState) (fed : List FedRow) (ss : List LinkState) (made : List LinkCall) (now : List FedRow) (ts : List LinkState) → Each step done fed ss made now ts → has_failed k made ≡ false
each_mild k step f done fed [] made now [] h = ap (has_failed k) h.0
each_mild k step f done fed [] made now (t ∷ ts) h = absurd h
each_mild k step f done fed (s ∷ ss) made now [] h = absurd h
each_mild k step f done fed (s ∷ ss) made now (t ∷ ts) h =
    ap (has_failed k) h.3 ∙ has-append k h.0 h.1 ∙ ap (λ z. z || has_failed k h.1) (f (done ++ ss) fed s h.0 h.2 t h.4) ∙ each_mild k step f (done ++ t ∷ []) h.2 ss h.1 now ts h.5

-- ---- the turn

open_not : (b c : Bool) → (b ≡ true → c ≡ true) → c ≡ false → b ≡ false
open_not true c h e = absurd (no_bit (sym e ∙ h refl))
open_not false c h e = refl

passes_shut : (serving : Serving) (strict : Bool) (k : ℕ) (fed : List FedRow) (polled : List LinkState) (made : List LinkCall) (now : List FedRow) (after : List LinkState) (s : LinkState) → Passes serving strict fed polled made now after → Once k polled → find k polled ≡ Some s → has_failed k made ≡ true → (t : LinkState) × (find k after ≡ Some t) × (t.is_open ≡ false)
passes_shut serving strict k fed polled made now after s p once here e =
    let stop = has_stop serving fed now in
    let a = each_find k (ReadStep serving strict) (Answered serving k) (tells_read serving strict k) [] fed polled p.reads now p.read s p.each_read once here in
    let once1 = each_once k (ReadStep serving strict) (Answered serving k) (tells_read serving strict k) [] fed polled p.reads now p.read p.each_read once in
    let b = each_find k (DrainStep serving) (Filled serving) (tells_drain serving k) [] now p.read p.drains now p.drained a.t p.each_drain once1 a.found in
    let once2 = each_once k (DrainStep serving) (Filled serving) (tells_drain serving k) [] now p.read p.drains now p.drained p.each_drain once1 in
    let c = each_find k (WriteStep serving) EmptiedBetween (tells_write serving k) [] now p.drained p.writes now p.written b.t p.each_write once2 b.found in
    let once3 = each_once k (WriteStep serving) EmptiedBetween (tells_write serving k) [] now p.drained p.writes now p.written p.each_write once2 in
    let d = each_find k (StopStep stop) EmptiedBetween (tells_stop stop k) [] now p.written p.stops now after c.t p.each_stop once3 c.found in
    let drains : has_failed k p.drains ≡ false = each_mild k (DrainStep serving) (λ others g x m n y h. ap (has_failed k) h.calls ∙ close_no_failure k x y) [] now p.read p.drains now p.drained p.each_drain in
    let stops : has_failed k p.stops ≡ false = each_mild k (StopStep stop) (λ others g x m n y h. ap (has_failed k) h.calls ∙ close_no_failure k x y) [] now p.written p.stops now after p.each_stop in
    let list : has_failed k made ≡ (has_failed k p.reads || has_failed k p.writes) =
    ap (has_failed k) p.calls_are ∙ has-append k p.reads (p.drains ++ (p.writes ++ p.stops))
    ∙ ap (λ z. has_failed k p.reads || z) (has-append k p.drains (p.writes ++ p.stops) ∙ ap (λ z. z || has_failed k (p.writes ++ p.stops)) drains ∙ has-append k p.writes p.stops ∙ ap (λ z. has_failed k p.writes || z) stops ∙ or_none (has_failed k p.writes) false refl) in
    let l4 = d.told in
    let l3 = c.told in
    let l2 = b.told in
    let shut : d.t.is_open ≡ false =
    by_test (has_failed k p.reads) (d.t.is_open ≡ false)
    (λ i.
    let first = each_shut k (ReadStep serving strict) (shuts_read serving strict k) [] fed polled p.reads now p.read a.t p.each_read once a.found i in
    open_not d.t.is_open a.t.is_open (λ g. l2.opens (l3.opens (l4.opens g))) first)
    (λ i.
    let last = each_shut k (WriteStep serving) (shuts_write serving k) [] now p.drained p.writes now p.written c.t p.each_write once2 c.found (or_split (has_failed k p.reads) (has_failed k p.writes) (sym list ∙ e) i) in
    open_not d.t.is_open c.t.is_open l4.opens last) in
    (d.t, d.found, shut)

events_mild : (serving : Serving) (strict : Bool) (k : ℕ) (shown : List LinkEvent) (all : List LinkState) (made : List LinkCall) (ts : List LinkState) → Events serving strict shown all made ts → has_failed k made ≡ false
events_mild serving strict k [] all made ts h = ap (has_failed k) h.0
events_mild serving strict k (events.New n ∷ shown) all made ts h =
    ap (has_failed k) h.1 ∙ has-append k (event_closes serving all (events.New n)) h.0 ∙ ap (λ z. z || has_failed k h.0) (new_mild (admits_link serving all) k n) ∙ events_mild serving strict k shown (event_to serving all (events.New n)) h.0 ts h.3
events_mild serving strict k (events.Readable n ∷ shown) all made ts h = ap (has_failed k) h.1 ∙ events_mild serving strict k shown (event_to serving all (events.Readable n)) h.0 ts h.3
events_mild serving strict k (events.Writable n ∷ shown) all made ts h = ap (has_failed k) h.1 ∙ events_mild serving strict k shown (event_to serving all (events.Writable n)) h.0 ts h.3

after_shut : (serving : Serving) (strict : Bool) (k : ℕ) (shown : Option (List LinkEvent)) (fed : List FedRow) (before : List LinkState) (made : List LinkCall) (now : List FedRow) (last : List LinkState) (s : LinkState) → AfterPoll serving strict shown fed before made now last → NoNew k shown → Once k before → find k before ≡ Some s → has_failed k made ≡ true → (t : LinkState) × (find k last ≡ Some t) × (t.is_open ≡ false)
after_shut serving strict k None fed before made now last s h un once f e = absurd (none_fails k made h.0 e)
after_shut serving strict k (Some shown) fed before made now last s h un once f e =
    let kept = events_kept serving strict k shown before h.0 h.2 s h.4 un once f in
    let mild = events_mild serving strict k shown before h.0 h.2 h.4 in
    let later : has_failed k h.1 ≡ true = or_split (has_failed k h.0) (has_failed k h.1) (sym (ap (has_failed k) h.3 ∙ has-append k h.0 h.1) ∙ e) mild in
    passes_shut serving strict k fed h.2 h.1 now last kept.0.t h.5 kept.0.once kept.0.found later

pub failure_closes : FailureCloses
failure_closes serving strict k fed before r s h un once f e = after_shut serving strict k r.shown fed before r.made r.fed r.links s h un once f e
