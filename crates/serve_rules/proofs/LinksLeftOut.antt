-- A turn without one link.
use Rattle.std.proofs.Common.{◌≡◌, ℕ, ◌==◌, Bool, true, false, not, if◌then◌else◌, List, [], ◌∷◌, ◌++◌, map, Option, Some, None, refl, sym, ap, subst, ◌∙◌, arith}
use Rattle.std.specs.Prelude.{◌&&◌, ◌||◌}
use Rattle.std.specs.List.{filter}
use Rattle.std.proofs.lemmas.List.{append-nil}
use Rattle.std.proofs.lemmas.Bool.Decides.{nat_tests}
use Rattle.mesh_links.specs.declared.call.LinkCall.{LinkCall}
use Rattle.mesh_links.specs.declared.call.LinkEvent.{LinkEvent}
use Rattle.mesh_links.specs.declared.call.LinkEvent.TheVariants as events
use Rattle.serve_rules.specs.FedLines.{FedRow}
use Rattle.serve_rules.specs.Batches.{Serving}
use Rattle.serve_rules.specs.LinkStates.{LinkState, fresh}
use Rattle.serve_rules.specs.Turns.{made_readable, made_writable, event_to, event_closes, event_within, Events, ReadStep, DrainStep, WriteStep, StopStep, has_stop, Passes, AfterPoll}
use Rattle.serve_rules.specs.Traces.{opened, AreTurns}
use Rattle.serve_rules.specs.LinkErasure.{event_link, without, events_without, shown_without, calls_without, NoFeed, Erasure, round_without, TraceErasure}
use Rattle.serve_rules.proofs.ErasureSteps.{fewer, less, without-in, without-out, without-append, calls-append, no_feed_before, each_without}
use Rattle.serve_rules.proofs.Steps.{fair_read, fair_drain, fair_write, fair_stop}

pub by_test : (b : Bool) (Goal : Type 0) → (b ≡ true → Goal) → (b ≡ false → Goal) → Goal
by_test true Goal f g = f refl
by_test false Goal f g = g refl

pub same_number : (a b : ℕ) → (a == b) ≡ true → a ≡ b
same_number a b h = grind (arith, nat_tests)

-- ---- a map over the links

mapped_kept : (f : LinkState → LinkState) → ((s : LinkState) → (f s).number ≡ s.number) → (k : ℕ) (ss : List LinkState) → without k (map f ss) ≡ map f (without k ss)
mapped_kept f same k [] = refl
mapped_kept f same k (s ∷ ss) =
    by_test (s.number == k) (without k (map f (s ∷ ss)) ≡ map f (without k (s ∷ ss)))
    (λ e. without-in k (f s) (map f ss) (ap (λ m. m == k) (same s) ∙ e) ∙ mapped_kept f same k ss ∙ ap (map f) (sym (without-in k s ss e)))
    (λ e. without-out k (f s) (map f ss) (ap (λ m. m == k) (same s) ∙ e) ∙ ap (λ z. f s ∷ z) (mapped_kept f same k ss) ∙ ap (map f) (sym (without-out k s ss e)))

mapped_dropped : (f : LinkState → LinkState) → ((s : LinkState) → (f s).number ≡ s.number) → (k : ℕ) → ((s : LinkState) → (s.number == k) ≡ false → f s ≡ s) → (ss : List LinkState) → without k (map f ss) ≡ without k ss
mapped_dropped f same k idle [] = refl
mapped_dropped f same k idle (s ∷ ss) =
    by_test (s.number == k) (without k (map f (s ∷ ss)) ≡ without k (s ∷ ss))
    (λ e. without-in k (f s) (map f ss) (ap (λ m. m == k) (same s) ∙ e) ∙ mapped_dropped f same k idle ss ∙ sym (without-in k s ss e))
    (λ e. without-out k (f s) (map f ss) (ap (λ m. m == k) (same s) ∙ e) ∙ ap (λ z. f s ∷ z) (mapped_dropped f same k idle ss) ∙ ap (λ z. z ∷ without k ss) (idle s e) ∙ sym (without-out k s ss e))

or_none : (r o b : Bool) → b ≡ false → (r || (o && b)) ≡ r
or_none true o b h = refl
or_none false true b h = h
or_none false false b h = refl

not_that : (m n k : ℕ) → (n == k) ≡ true → (m == k) ≡ false → (m == n) ≡ false
not_that m n k e h = rw (same_number n k e) h

made_readable_idle : (n k : ℕ) → (n == k) ≡ true → (s : LinkState) → (s.number == k) ≡ false → made_readable n s ≡ s
made_readable_idle n k e s h = let f : Bool → LinkState = λ r. record s { readable = r } in ap f (or_none s.readable s.is_open (s.number == n) (not_that s.number n k e h))

made_idle : (n k : ℕ) → (n == k) ≡ true → (s : LinkState) → (s.number == k) ≡ false → made_writable n s ≡ s
made_idle n k e s h = let f : Bool → LinkState = λ r. record s { writable = r } in ap f (or_none s.writable s.is_open (s.number == n) (not_that s.number n k e h))

-- ---- events

no_close : (serving : Serving) (all : List LinkState) (e : LinkEvent) → event_within serving all e ≡ true → event_closes serving all e ≡ []
no_close serving all (events.New n) w = rw w refl
no_close serving all (events.Readable n) w = refl
no_close serving all (events.Writable n) w = refl

event_dropped : (serving : Serving) (k : ℕ) (all : List LinkState) (e : LinkEvent) → event_within serving all e ≡ true → (event_link e == k) ≡ true → without k (event_to serving all e) ≡ without k all
event_dropped serving k all (events.New n) w e =
    let made : event_to serving all (events.New n) ≡ all ++ fresh n ∷ [] = rw w refl in
    ap (without k) made ∙ without-append k all (fresh n ∷ []) ∙ ap (λ z. without k all ++ z) (without-in k (fresh n) [] e) ∙ append-nil (without k all)
event_dropped serving k all (events.Readable n) w e = mapped_dropped (made_readable n) (λ s. refl) k (made_readable_idle n k e) all
event_dropped serving k all (events.Writable n) w e = mapped_dropped (made_writable n) (λ s. refl) k (made_idle n k e) all

event_kept_within : (serving : Serving) (k : ℕ) (all : List LinkState) (e : LinkEvent) → event_within serving all e ≡ true → event_within serving (without k all) e ≡ true
event_kept_within serving k all (events.New n) w = less _ _ serving.program.limits.links (fewer _ _ all) w
event_kept_within serving k all (events.Readable n) w = refl
event_kept_within serving k all (events.Writable n) w = refl

event_kept : (serving : Serving) (k : ℕ) (all : List LinkState) (e : LinkEvent) → event_within serving all e ≡ true → (event_link e == k) ≡ false → without k (event_to serving all e) ≡ event_to serving (without k all) e
event_kept serving k all (events.New n) w e =
    let made : event_to serving all (events.New n) ≡ all ++ fresh n ∷ [] = rw w refl in
    let there : event_to serving (without k all) (events.New n) ≡ without k all ++ fresh n ∷ [] = rw (event_kept_within serving k all (events.New n) w) refl in
    ap (without k) made ∙ without-append k all (fresh n ∷ []) ∙ ap (λ z. without k all ++ z) (without-out k (fresh n) [] e) ∙ sym there
event_kept serving k all (events.Readable n) w e = mapped_kept (made_readable n) (λ s. refl) k all
event_kept serving k all (events.Writable n) w e = mapped_kept (made_writable n) (λ s. refl) k all

events-in : (k : ℕ) (e : LinkEvent) (es : List LinkEvent) → (event_link e == k) ≡ true → events_without k (e ∷ es) ≡ events_without k es
events-in k e es h = rw h refl

events-out : (k : ℕ) (e : LinkEvent) (es : List LinkEvent) → (event_link e == k) ≡ false → events_without k (e ∷ es) ≡ e ∷ events_without k es
events-out k e es h = rw h refl

pub polled_without : (serving : Serving) (k : ℕ) (es : List LinkEvent) (all : List LinkState) (made : List LinkCall) (ts : List LinkState) → Events serving true es all made ts → Events serving true (events_without k es) (without k all) (calls_without k made) (without k ts)
polled_without serving k [] all made ts h = (ap (calls_without k) h.0, ap (without k) h.1)
polled_without serving k (e ∷ es) all made ts h =
    let rest = polled_without serving k es (event_to serving all e) h.0 ts h.3 in
    let none : made ≡ h.0 = h.1 ∙ ap (λ z. z ++ h.0) (no_close serving all e h.2) in
    let calls_are : calls_without k made ≡ calls_without k h.0 = ap (calls_without k) none in
    let P : List LinkState → Type 0 = λ a. Events serving true (events_without k es) a (calls_without k h.0) (without k ts) in
    by_test (event_link e == k) (Events serving true (events_without k (e ∷ es)) (without k all) (calls_without k made) (without k ts))
    (λ i. rw (events-in k e es i, calls_are) (subst P (event_dropped serving k all e h.2 i) rest))
    (λ i.
    let w = event_kept_within serving k all e h.2 in
    let there : calls_without k made ≡ event_closes serving (without k all) e ++ calls_without k h.0 = calls_are ∙ ap (λ z. z ++ calls_without k h.0) (sym (no_close serving (without k all) e w)) in
    rw (events-out k e es i) (calls_without k h.0, there, w, subst P (event_kept serving k all e h.2 i) rest))

-- ---- the turn

four : (k : ℕ) (b c d e made : List LinkCall) → made ≡ b ++ (c ++ (d ++ e)) → calls_without k made ≡ calls_without k b ++ (calls_without k c ++ (calls_without k d ++ calls_without k e))
four k b c d e made h =
    ap (calls_without k) h
    ∙ calls-append k b (c ++ (d ++ e))
    ∙ ap (λ z. calls_without k b ++ z) (calls-append k c (d ++ e) ∙ ap (λ z. calls_without k c ++ z) (calls-append k d e))

passes_without : (serving : Serving) (k : ℕ) (fed : List FedRow) (polled : List LinkState) (made : List LinkCall) (now : List FedRow) (after : List LinkState) → Passes serving true fed polled made now after → NoFeed serving k after → Passes serving true fed (without k polled) (calls_without k made) now (without k after)
passes_without serving k fed polled made now after p n =
    let stop = has_stop serving fed now in
    let n3 = no_feed_before serving (StopStep stop) (fair_stop serving stop) k [] now p.written p.stops now after p.each_stop n in
    let n2 = no_feed_before serving (WriteStep serving) (fair_write serving) k [] now p.drained p.writes now p.written p.each_write n3 in
    let n1 = no_feed_before serving (DrainStep serving) (fair_drain serving) k [] now p.read p.drains now p.drained p.each_drain n2 in
    record {
      reads = calls_without k p.reads;
      drains = calls_without k p.drains;
      writes = calls_without k p.writes;
      stops = calls_without k p.stops;
      read = without k p.read;
      drained = without k p.drained;
      written = without k p.written;
      calls_are = four k p.reads p.drains p.writes p.stops made p.calls_are;
      each_read = each_without serving (ReadStep serving true) (fair_read serving) k [] fed polled p.reads now p.read p.each_read n1;
      each_drain = each_without serving (DrainStep serving) (fair_drain serving) k [] now p.read p.drains now p.drained p.each_drain n2;
      each_write = each_without serving (WriteStep serving) (fair_write serving) k [] now p.drained p.writes now p.written p.each_write n3;
      each_stop = each_without serving (StopStep stop) (fair_stop serving stop) k [] now p.written p.stops now after p.each_stop n;
    }

after_without : (serving : Serving) (k : ℕ) (shown : Option (List LinkEvent)) (fed : List FedRow) (before : List LinkState) (made : List LinkCall) (now : List FedRow) (after : List LinkState) → AfterPoll serving true shown fed before made now after → NoFeed serving k after → AfterPoll serving true (shown_without k shown) fed (without k before) (calls_without k made) now (without k after)
after_without serving k None fed before made now after h n = (ap (calls_without k) h.0, h.1, ap (without k) h.2)
after_without serving k (Some events) fed before made now after h n =
    (calls_without k h.0, calls_without k h.1, without k h.2, ap (calls_without k) h.3 ∙ calls-append k h.0 h.1, polled_without serving k events before h.0 h.2 h.4, passes_without serving k fed h.2 h.1 now after h.5 n)

pub turn_without : Erasure
turn_without serving k fed before r h n = after_without serving k r.shown fed before r.made r.fed r.links h n

filter_both : (p q : LinkState → Bool) (ss : List LinkState) → filter p (filter q ss) ≡ filter q (filter p ss)
filter_both p q [] = refl
filter_both p q (s ∷ ss) =
    let ih = filter_both p q ss in
    let P : Bool → Bool → Type 0 = λ a b. filter p (if b then s ∷ filter q ss else filter q ss) ≡ filter q (if a then s ∷ filter p ss else filter p ss) in
    by_test (p s) (P (p s) (q s))
    (λ e. by_test (q s) (P (p s) (q s)) (λ f. rw (e, f, e) (ap (λ z. s ∷ z) ih)) (λ f. rw (e, f) ih))
    (λ e. by_test (q s) (P (p s) (q s)) (λ f. rw (e, f, e) ih) (λ f. rw (e, f) ih))

pub trace_without : TraceErasure
trace_without serving k fed before [] h n = tt
trace_without serving k fed before (r ∷ rounds) h n =
    let first = turn_without serving k fed before r h.0 n.0 in
    let rest = trace_without serving k r.fed (opened r.links) rounds h.1 n.1 in
    let P : List LinkState → Type 0 = λ ss. AreTurns serving true r.fed ss (map (round_without k) rounds) in
    (first, subst P (filter_both (λ s. not (s.number == k)) (λ s. s.is_open) r.links) rest)
