-- What was written on a link since a server began.
use Rattle.std.proofs.Common.{◌≡◌, ℕ, ◌==◌, Bool, true, false, if◌then◌else◌, List, [], ◌∷◌, ◌++◌, map, Option, Some, None, inl, inr, ◌⊎◌, refl, sym, ap, subst, ◌∙◌, append_assoc}
use Rattle.std.specs.List.{concat}
use Rattle.std.proofs.lemmas.List.{append-nil}
use Rattle.std.proofs.lemmas.List.Folds.{concat-append}
use Rattle.mesh_links.specs.declared.call.LinkCall.{LinkCall}
use Rattle.mesh_links.specs.declared.call.LinkEvent.{LinkEvent}
use Rattle.mesh_links.specs.declared.call.LinkEvent.TheVariants as events
use Rattle.serve_rules.specs.FedLines.{FedRow}
use Rattle.serve_rules.specs.Batches.{Serving}
use Rattle.serve_rules.specs.LinkStates.{LinkState, fresh, query_of}
use Rattle.serve_rules.specs.Turns.{made_readable, made_writable, admits_link, event_to, event_closes, Events, ReadStep, DrainStep, WriteStep, StopStep, has_stop, Passes, AfterPoll, Turn}
use Rattle.serve_rules.specs.Traces.{opened, AreTurns, links_in}
use Rattle.serve_rules.specs.Due.{written, find, Absent, Once, answers_of, answered, put, NoNewEvents, NoNew, place_of, query_at, due_items, all_written}
use Rattle.serve_rules.specs.WrittenBytes.{NewOnceEvents, NewOnce, NeverNew, NewAtMostOnce, WrittenIsDue}
use Rattle.serve_rules.proofs.LinksLeftOut.{by_test}
use Rattle.serve_rules.proofs.DueSteps.{written-append, Answered, Filled, EmptiedBetween, each_apart, find-in, find-out, same_some, tells_read, tells_drain, tells_write, tells_stop, unchanged}
use Rattle.serve_rules.proofs.Serving.{due, passes_turned, events_kept, absent_append, absent_map, close_silent, added_is, absent_opened, once_opened, find_opened}

-- ---- a link that isn't there

pub find_none : (k : ℕ) (ss : List LinkState) → Absent k ss → find k ss ≡ None
find_none k [] a = refl
find_none k (s ∷ ss) a = find-out k s ss a.0 ∙ find_none k ss a.1

pub none_found : (t : LinkState) → (let none : Option LinkState = None in none) ≡ Some t → ⊥
none_found t h = cc

-- Nothing is written on it, and none of its lines is answered.
pub record Nothing (serving : Serving) (k : ℕ) (fed : List FedRow) (made : List LinkCall) (now : List FedRow) (links : List LinkState) : Type 0 where
  pub silent : written k made ≡ []
  pub absent : Absent k links
  pub answers : answers_of serving k now ≡ answers_of serving k fed

new_absent : (b : Bool) (k n : ℕ) (all : List LinkState) → (n == k) ≡ false → Absent k all → Absent k (if b then all ++ fresh n ∷ [] else all)
new_absent true k n all e a = absent_append k all (fresh n) a e
new_absent false k n all e a = a

events_absent : (serving : Serving) (strict : Bool) (k : ℕ) (shown : List LinkEvent) (all : List LinkState) (made : List LinkCall) (ts : List LinkState) → Events serving strict shown all made ts → NoNewEvents k shown → Absent k all → Absent k ts × (written k made ≡ [])
events_absent serving strict k [] all made ts h n a = (subst (Absent k) (sym h.1) a, ap (written k) h.0)
events_absent serving strict k (events.New n ∷ shown) all made ts h un a =
    let rest = events_absent serving strict k shown (event_to serving all (events.New n)) h.0 ts h.3 un.1 (new_absent (admits_link serving all) k n all un.0 a) in
    (rest.0, ap (written k) h.1 ∙ written-append k (event_closes serving all (events.New n)) h.0 ∙ ap (λ z. z ++ written k h.0) (close_silent (admits_link serving all) k n) ∙ rest.1)
events_absent serving strict k (events.Readable n ∷ shown) all made ts h un a =
    let rest = events_absent serving strict k shown (map (made_readable n) all) h.0 ts h.3 un (absent_map (made_readable n) (λ x. refl) k all a) in
    (rest.0, ap (written k) h.1 ∙ rest.1)
events_absent serving strict k (events.Writable n ∷ shown) all made ts h un a =
    let rest = events_absent serving strict k shown (map (made_writable n) all) h.0 ts h.3 un (absent_map (made_writable n) (λ x. refl) k all a) in
    (rest.0, ap (written k) h.1 ∙ rest.1)

nothing_added : (added : List (List ℕ)) → (let none : List (List ℕ) = [] in none) ≡ [] ++ added → added ≡ []
nothing_added added h = sym h

pub passes_absent : (serving : Serving) (strict : Bool) (k : ℕ) (fed : List FedRow) (polled : List LinkState) (made : List LinkCall) (now : List FedRow) (after : List LinkState) → Passes serving strict fed polled made now after → Absent k polled → Nothing serving k fed made now after
passes_absent serving strict k fed polled made now after p none =
    let stop = has_stop serving fed now in
    let a = each_apart k (ReadStep serving strict) (Answered serving k) (tells_read serving strict k) [] fed polled p.reads now p.read p.each_read none in
    let b = each_apart k (DrainStep serving) (Filled serving) (tells_drain serving k) [] now p.read p.drains now p.drained p.each_drain a.absent in
    let c = each_apart k (WriteStep serving) EmptiedBetween (tells_write serving k) [] now p.drained p.writes now p.written p.each_write b.absent in
    let d = each_apart k (StopStep stop) EmptiedBetween (tells_stop stop k) [] now p.written p.stops now after p.each_stop c.absent in
    let other = fresh k in
    let l = a.behind fed other [] other (unchanged serving k fed other other refl refl (λ g. g) (λ g query q. refl) (λ query q. inl q)) in
    record {
      silent =
          ap (written k) p.calls_are ∙ written-append k p.reads (p.drains ++ (p.writes ++ p.stops)) ∙ ap (λ z. z ++ written k (p.drains ++ (p.writes ++ p.stops))) a.silent
          ∙ written-append k p.drains (p.writes ++ p.stops) ∙ ap (λ z. z ++ written k (p.writes ++ p.stops)) b.silent
          ∙ written-append k p.writes p.stops ∙ ap (λ z. z ++ written k p.stops) c.silent ∙ d.silent;
      absent = d.absent;
      answers = l.answers ∙ ap (λ z. answers_of serving k fed ++ z) (nothing_added l.added l.outbox) ∙ append-nil (answers_of serving k fed);
    }

pub after_absent : (serving : Serving) (strict : Bool) (k : ℕ) (shown : Option (List LinkEvent)) (fed : List FedRow) (before : List LinkState) (made : List LinkCall) (now : List FedRow) (last : List LinkState) → AfterPoll serving strict shown fed before made now last → NoNew k shown → Absent k before → Nothing serving k fed made now last
after_absent serving strict k None fed before made now last h un a = record { silent = ap (written k) h.0; absent = subst (Absent k) (sym h.2) a; answers = ap (answers_of serving k) h.1 }
after_absent serving strict k (Some shown) fed before made now last h un a =
    let polled = events_absent serving strict k shown before h.0 h.2 h.4 un a in
    let p = passes_absent serving strict k fed h.2 h.1 now last h.5 polled.0 in
    record { silent = ap (written k) h.3 ∙ written-append k h.0 h.1 ∙ ap (λ z. z ++ written k h.1) polled.1 ∙ p.silent; absent = p.absent; answers = p.answers }

-- what is due in a turn where the link isn't there after it
pub nothing_due : (serving : Serving) (k : ℕ) (fed now : List FedRow) (d : Option ℕ) (found : Option LinkState) → answers_of serving k now ≡ answers_of serving k fed → found ≡ None → answered serving k fed now ++ put serving (query_at serving found) d (place_of found) now ≡ []
nothing_due serving k fed now d found e n =
    let none = added_is serving k fed now [] (e ∙ sym (append-nil (answers_of serving k fed))) in
    ap (λ z. z ++ put serving (query_at serving found) d (place_of found) now) (sym none) ∙ ap (λ x. put serving (query_at serving x) d (place_of x) now) n

pub record Gone (serving : Serving) (k : ℕ) (fed : List FedRow) (d : Option ℕ) (before : List LinkState) (rounds : List Turn) : Type 0 where
  pub silent : all_written k rounds ≡ []
  pub due_none : due_items serving k fed d rounds ≡ []
  pub absent : Absent k (links_in before rounds)

pub gone : (serving : Serving) (strict : Bool) (k : ℕ) (fed : List FedRow) (d : Option ℕ) (before : List LinkState) (rounds : List Turn) → AreTurns serving strict fed before rounds → NeverNew k rounds → Absent k before → Gone serving k fed d before rounds
gone serving strict k fed d before [] h n a = record { silent = refl; due_none = refl; absent = a }
gone serving strict k fed d before (r ∷ rounds) h n a =
    let one = after_absent serving strict k r.shown fed before r.made r.fed r.links h.0 n.0 a in
    let found = find k r.links in
    let rest = gone serving strict k r.fed (place_of found) (opened r.links) rounds h.1 n.1 (absent_opened k r.links one.absent) in
    record {
      silent = ap (λ z. z ++ all_written k rounds) one.silent ∙ rest.silent;
      due_none = ap (λ z. z ++ due_items serving k r.fed (place_of found) rounds) (nothing_due serving k fed r.fed d found one.answers (find_none k r.links one.absent)) ∙ rest.due_none;
      absent = rest.absent;
    }

-- ---- a link that is there

pub closed_absent : (k : ℕ) (ss : List LinkState) (t : LinkState) → Once k ss → find k ss ≡ Some t → t.is_open ≡ false → Absent k (opened ss)
closed_absent k [] t o h c = tt
closed_absent k (s ∷ ss) t o h c =
    by_test (s.number == k) (Absent k (opened (s ∷ ss)))
    (λ e.
    let is : s ≡ t = same_some s t (sym (find-in k s ss e) ∙ h) in
    let shut : s.is_open ≡ false = ap (λ x. x.is_open) is ∙ c in
    let P : Bool → Type 0 = λ b. Absent k (if b then s ∷ opened ss else opened ss) in
    subst P (sym shut) (absent_opened k ss (o.0 e)))
    (λ e.
    let rest = closed_absent k ss t o.1 (sym (find-out k s ss e) ∙ h) c in
    let P : Bool → Type 0 = λ b. Absent k (if b then s ∷ opened ss else opened ss) in
    let at : (b : Bool) → P b = λ b. elim b as P [ true ↦ (e, rest) | false ↦ rest ] in
    at s.is_open)

-- what was written since, against what was left and what came since
record Since (serving : Serving) (k : ℕ) (fed : List FedRow) (outbox : List (List ℕ)) (d : Option ℕ) (before : List LinkState) (rounds : List Turn) : Type 0 where
  rest : List ℕ
  joined : all_written k rounds ++ rest ≡ concat outbox ++ concat (due_items serving k fed d rounds)
  unwritten : (t : LinkState) → find k (links_in before rounds) ≡ Some t → rest ≡ concat t.outbox

join_on : (w all rest o out p d : List ℕ) → w ++ o ≡ out ++ p → all ++ rest ≡ o ++ d → (w ++ all) ++ rest ≡ out ++ (p ++ d)
join_on w all rest o out p d a b = append_assoc w all rest ∙ ap (λ z. w ++ z) b ∙ sym (append_assoc w o d) ∙ ap (λ z. z ++ d) a ∙ append_assoc out p d

-- after a turn that leaves the link as t, where what follows is known from t
since_then : (serving : Serving) (k : ℕ) (fed : List FedRow) (outbox : List (List ℕ)) (d : Option ℕ) (before : List LinkState) (r : Turn) (rounds : List Turn) (t : LinkState) → find k r.links ≡ Some t
    → written k r.made ++ concat t.outbox ≡ concat outbox ++ concat (answered serving k fed r.fed ++ put serving (query_of serving t.bytes) d t.drained r.fed)
    → Since serving k r.fed t.outbox t.drained (opened r.links) rounds → Since serving k fed outbox d before (r ∷ rounds)
since_then serving k fed outbox d before r rounds t found e rest =
    let items = answered serving k fed r.fed ++ put serving (query_of serving t.bytes) d t.drained r.fed in
    let P : Option LinkState → Type 0 = λ x. (written k r.made ++ all_written k rounds) ++ rest.rest ≡ concat outbox ++ concat ((answered serving k fed r.fed ++ put serving (query_at serving x) d (place_of x) r.fed) ++ due_items serving k r.fed (place_of x) rounds) in
    let here : P (Some t) =
    join_on (written k r.made) (all_written k rounds) rest.rest (concat t.outbox) (concat outbox) (concat items) (concat (due_items serving k r.fed t.drained rounds)) e rest.joined
    ∙ ap (λ z. concat outbox ++ z) (sym (concat-append items (due_items serving k r.fed t.drained rounds))) in
    record { rest = rest.rest; joined = subst P (sym found) here; unwritten = rest.unwritten }

closed_since : (serving : Serving) (strict : Bool) (k : ℕ) (fed : List FedRow) (outbox : List (List ℕ)) (d : Option ℕ) (before : List LinkState) (rounds : List Turn) → AreTurns serving strict fed before rounds → NeverNew k rounds → Absent k before → Since serving k fed outbox d before rounds
closed_since serving strict k fed outbox d before rounds h n a =
    let g = gone serving strict k fed d before rounds h n a in
    record {
      rest = concat outbox;
      joined = ap (λ z. z ++ concat outbox) g.silent ∙ sym (append-nil (concat outbox)) ∙ ap (λ z. concat outbox ++ concat z) (sym g.due_none);
      unwritten = λ t f. absurd (none_found t (sym (find_none k (links_in before rounds) g.absent) ∙ f));
    }

since_found : (s t : LinkState) → Some s ≡ Some t → concat s.outbox ≡ concat t.outbox
since_found s t h = ap (λ x. concat x.outbox) (same_some s t h)

since : (serving : Serving) (strict : Bool) (k : ℕ) (fed : List FedRow) (before : List LinkState) (rounds : List Turn) (s : LinkState) → AreTurns serving strict fed before rounds → NeverNew k rounds → Once k before → find k before ≡ Some s → Since serving k fed s.outbox s.drained before rounds
since serving strict k fed before [] s h n once f = record { rest = concat s.outbox; joined = sym (append-nil (concat s.outbox)); unwritten = λ t g. since_found s t (sym f ∙ g) }
since serving strict k fed before (r ∷ rounds) s h n once f =
    let one = due serving strict k fed before r s h.0 n.0 once f in
    let t = one.t in
    since_then serving k fed s.outbox s.drained before r rounds t one.found one.due
    (by_test t.is_open (Since serving k r.fed t.outbox t.drained (opened r.links) rounds)
    (λ i. since serving strict k r.fed (opened r.links) rounds t h.1 n.1 (once_opened k r.links one.once) (find_opened k r.links t one.found i))
    (λ i. closed_since serving strict k r.fed t.outbox t.drained (opened r.links) rounds h.1 n.1 (closed_absent k r.links t one.once one.found i)))

-- ---- a link that comes

pub record Arrived (k : ℕ) (ts : List LinkState) : Type 0 where
  pub t : LinkState
  pub found : find k ts ≡ Some t
  pub once : Once k ts
  pub outbox : t.outbox ≡ []
  pub drained : t.drained ≡ None

not_here : (n k : ℕ) → (n == k) ≡ true → (n == k) ≡ false → ⊥
not_here n k h g = cc

find_last : (k : ℕ) (xs : List LinkState) (y : LinkState) → Absent k xs → (y.number == k) ≡ true → find k (xs ++ y ∷ []) ≡ Some y
find_last k [] y a e = find-in k y [] e
find_last k (x ∷ xs) y a e = find-out k x (xs ++ y ∷ []) a.0 ∙ find_last k xs y a.1 e

once_absent : (k : ℕ) (xs : List LinkState) → Absent k xs → Once k xs
once_absent k [] a = tt
once_absent k (x ∷ xs) a = ((λ h. a.1), once_absent k xs a.1)

once_last : (k : ℕ) (xs : List LinkState) (y : LinkState) → Absent k xs → Once k (xs ++ y ∷ [])
once_last k [] y a = ((λ h. tt), tt)
once_last k (x ∷ xs) y a = ((λ h. absurd (not_here x.number k h a.0)), once_last k xs y a.1)

new_comes : (b : Bool) (serving : Serving) (strict : Bool) (k n : ℕ) (shown : List LinkEvent) (all : List LinkState) (made : List LinkCall) (ts : List LinkState) → Events serving strict shown (if b then all ++ fresh n ∷ [] else all) made ts → NoNewEvents k shown → Absent k all → (n == k) ≡ true → (Absent k ts ⊎ Arrived k ts) × (written k made ≡ [])
new_comes true serving strict k n shown all made ts h un a e =
    let rest = events_kept serving strict k shown (all ++ fresh n ∷ []) made ts (fresh n) h un (once_last k all (fresh n) a) (find_last k all (fresh n) a e) in
    (inr (record { t = rest.0.t; found = rest.0.found; once = rest.0.once; outbox = rest.0.outbox; drained = rest.0.drained }), rest.1)
new_comes false serving strict k n shown all made ts h un a e =
    let rest = events_absent serving strict k shown all made ts h un a in
    (inl rest.0, rest.1)

pub events_arrive : (serving : Serving) (strict : Bool) (k : ℕ) (shown : List LinkEvent) (all : List LinkState) (made : List LinkCall) (ts : List LinkState) → Events serving strict shown all made ts → NewOnceEvents k shown → Absent k all → (Absent k ts ⊎ Arrived k ts) × (written k made ≡ [])
events_arrive serving strict k [] all made ts h n a = absurd n
events_arrive serving strict k (events.New n ∷ shown) all made ts h (inl here) a =
    let rest = new_comes (admits_link serving all) serving strict k n shown all h.0 ts h.3 here.1 a here.0 in
    (rest.0, ap (written k) h.1 ∙ written-append k (event_closes serving all (events.New n)) h.0 ∙ ap (λ z. z ++ written k h.0) (close_silent (admits_link serving all) k n) ∙ rest.1)
events_arrive serving strict k (events.New n ∷ shown) all made ts h (inr later) a =
    let rest = events_arrive serving strict k shown (event_to serving all (events.New n)) h.0 ts h.3 later.1 (new_absent (admits_link serving all) k n all later.0 a) in
    (rest.0, ap (written k) h.1 ∙ written-append k (event_closes serving all (events.New n)) h.0 ∙ ap (λ z. z ++ written k h.0) (close_silent (admits_link serving all) k n) ∙ rest.1)
events_arrive serving strict k (events.Readable n ∷ shown) all made ts h un a =
    let rest = events_arrive serving strict k shown (map (made_readable n) all) h.0 ts h.3 un (absent_map (made_readable n) (λ x. refl) k all a) in
    (rest.0, ap (written k) h.1 ∙ rest.1)
events_arrive serving strict k (events.Writable n ∷ shown) all made ts h un a =
    let rest = events_arrive serving strict k shown (map (made_writable n) all) h.0 ts h.3 un (absent_map (made_writable n) (λ x. refl) k all a) in
    (rest.0, ap (written k) h.1 ∙ rest.1)

-- from the passes of the turn in which it comes
arrived_then : (serving : Serving) (strict : Bool) (k : ℕ) (fed : List FedRow) (polled before : List LinkState) (closes rest : List LinkCall) (r : Turn) (rounds : List Turn) → r.made ≡ closes ++ rest → written k closes ≡ [] → Passes serving strict fed polled rest r.fed r.links → Arrived k polled → AreTurns serving strict r.fed (opened r.links) rounds → NeverNew k rounds → Since serving k fed [] None before (r ∷ rounds)
arrived_then serving strict k fed polled before closes rest r rounds e silent p here h n =
    let u = here.t in
    let one = passes_turned serving strict k fed polled rest r.fed r.links u p here.once here.found in
    let t = one.t in
    let wrote : written k r.made ≡ written k rest = ap (written k) e ∙ written-append k closes rest ∙ ap (λ z. z ++ written k rest) silent in
    let due_is : written k r.made ++ concat t.outbox ≡ concat [] ++ concat (answered serving k fed r.fed ++ put serving (query_of serving t.bytes) None t.drained r.fed) =
    ap (λ z. z ++ concat t.outbox) wrote ∙ one.due
    ∙ ap (λ z. concat z ++ concat (one.added ++ put serving (query_of serving t.bytes) u.drained t.drained r.fed)) here.outbox
    ∙ ap (λ z. concat [] ++ concat (one.added ++ put serving (query_of serving t.bytes) z t.drained r.fed)) here.drained
    ∙ ap (λ z. concat [] ++ concat (z ++ put serving (query_of serving t.bytes) None t.drained r.fed)) (added_is serving k fed r.fed one.added one.answers) in
    since_then serving k fed [] None before r rounds t one.found due_is
    (by_test t.is_open (Since serving k r.fed t.outbox t.drained (opened r.links) rounds)
    (λ i. since serving strict k r.fed (opened r.links) rounds t h n (once_opened k r.links one.once) (find_opened k r.links t one.found i))
    (λ i. closed_since serving strict k r.fed t.outbox t.drained (opened r.links) rounds h n (closed_absent k r.links t one.once one.found i)))

-- after a turn in which it isn't there
absent_then : (serving : Serving) (k : ℕ) (fed : List FedRow) (before : List LinkState) (r : Turn) (rounds : List Turn) → Nothing serving k fed r.made r.fed r.links → Since serving k r.fed [] None (opened r.links) rounds → Since serving k fed [] None before (r ∷ rounds)
absent_then serving k fed before r rounds one rest =
    let found = find k r.links in
    let none = find_none k r.links one.absent in
    let nothing = nothing_due serving k fed r.fed None found one.answers none in
    record {
      rest = rest.rest;
      joined =
          ap (λ z. (z ++ all_written k rounds) ++ rest.rest) one.silent ∙ rest.joined
          ∙ ap (λ x. concat [] ++ concat (due_items serving k r.fed (place_of x) rounds)) (sym none)
          ∙ ap (λ z. concat [] ++ concat (z ++ due_items serving k r.fed (place_of found) rounds)) (sym nothing);
      unwritten = rest.unwritten;
    }

arrives : (serving : Serving) (strict : Bool) (k : ℕ) (shown : Option (List LinkEvent)) (fed : List FedRow) (before : List LinkState) (r : Turn) (rounds : List Turn) → AfterPoll serving strict shown fed before r.made r.fed r.links → NewOnce k shown → Absent k before → AreTurns serving strict r.fed (opened r.links) rounds → NeverNew k rounds → Since serving k fed [] None before (r ∷ rounds)
arrives serving strict k None fed before r rounds h un a more n = absurd un
arrives serving strict k (Some shown) fed before r rounds h un a more n =
    let polled = events_arrive serving strict k shown before h.0 h.2 h.4 un a in
    elim polled.0 [
      | inl none ↦
          let p = passes_absent serving strict k fed h.2 h.1 r.fed r.links h.5 none in
          let one : Nothing serving k fed r.made r.fed r.links = record { silent = ap (written k) h.3 ∙ written-append k h.0 h.1 ∙ ap (λ z. z ++ written k h.1) polled.1 ∙ p.silent; absent = p.absent; answers = p.answers } in
          absent_then serving k fed before r rounds one (closed_since serving strict k r.fed [] None (opened r.links) rounds more n (absent_opened k r.links p.absent))
      | inr here ↦ arrived_then serving strict k fed h.2 before h.0 h.1 r rounds h.3 polled.1 h.5 here more n
    ]

from_start : (serving : Serving) (strict : Bool) (k : ℕ) (fed : List FedRow) (before : List LinkState) (rounds : List Turn) → AreTurns serving strict fed before rounds → NewAtMostOnce k rounds → Absent k before → Since serving k fed [] None before rounds
from_start serving strict k fed before [] h n a = record { rest = []; joined = refl; unwritten = λ t f. absurd (none_found t (sym (find_none k before a) ∙ f)) }
from_start serving strict k fed before (r ∷ rounds) h (inl later) a =
    let one = after_absent serving strict k r.shown fed before r.made r.fed r.links h.0 later.0 a in
    absent_then serving k fed before r rounds one (from_start serving strict k r.fed (opened r.links) rounds h.1 later.1 (absent_opened k r.links one.absent))
from_start serving strict k fed before (r ∷ rounds) h (inr now) a = arrives serving strict k r.shown fed before r rounds h.0 now.0 a h.1 now.1

pub written_is_due : WrittenIsDue
written_is_due serving strict k rounds h n =
    let all = from_start serving strict k [] [] rounds h n tt in
    record { rest = all.rest; joined = all.joined; unwritten = all.unwritten }
