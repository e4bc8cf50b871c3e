-- What a link is due in a turn and in a list of turns.
use Rattle.std.proofs.Common.{◌≡◌, ℕ, ◌==◌, Bool, true, false, if◌then◌else◌, List, [], ◌∷◌, ◌++◌, map, length, drop, Option, Some, None, inl, inr, ◌⊎◌, refl, sym, ap, subst, ◌∙◌, append_assoc}
use Rattle.std.specs.List.{concat}
use Rattle.std.proofs.lemmas.List.{append-nil}
use Rattle.std.proofs.Math.Seq.{drop-append_seam}
use Rattle.std.proofs.lemmas.List.Folds.{concat-append}
use Rattle.mesh_links.specs.declared.call.LinkCall.{LinkCall}
use Rattle.mesh_links.specs.declared.call.LinkCall.TheVariants as calls
use Rattle.mesh_links.specs.declared.call.LinkEvent.{LinkEvent}
use Rattle.mesh_links.specs.declared.call.LinkEvent.TheVariants as events
use Rattle.view_types.specs.declared.query.Query.{Query}
use Rattle.serve_rules.specs.FedLines.{FedRow}
use Rattle.serve_rules.specs.Batches.{Serving}
use Rattle.serve_rules.specs.LinkStates.{LinkState, fresh, is_feed, query_of}
use Rattle.serve_rules.specs.Turns.{made_readable, made_writable, admits_link, event_to, event_closes, Events, ReadStep, DrainStep, WriteStep, StopStep, has_stop, Passes, AfterPoll, Turn, IsTurn}
use Rattle.serve_rules.specs.Traces.{opened}
use Rattle.serve_rules.specs.Due.{written, find, Absent, Once, answers_of, answered, put, NoNewEvents, NoNew, Due, place_of, outbox_of, query_at, due_items, all_written, left, TraceDue}
use Rattle.serve_rules.proofs.LinksLeftOut.{by_test}
use Rattle.serve_rules.proofs.DueSteps.{KeepsQuery, written-append, written-cons, Answered, Filled, EmptiedBetween, each_find, each_once, find-in, find-out, same_some, tells_read, tells_drain, tells_write, tells_stop, put_none}

-- ---- the events of a poll

-- the link is as it was, but for what it is ready for
pub record Kept (k : ℕ) (s : LinkState) (ts : List LinkState) : Type 0 where
  pub t : LinkState
  pub found : find k ts ≡ Some t
  pub once : Once k ts
  pub is_open : t.is_open ≡ s.is_open
  pub bytes : t.bytes ≡ s.bytes
  pub outbox : t.outbox ≡ s.outbox
  pub drained : t.drained ≡ s.drained

pub absent_append : (k : ℕ) (xs : List LinkState) (y : LinkState) → Absent k xs → (y.number == k) ≡ false → Absent k (xs ++ y ∷ [])
absent_append k [] y a e = (e, tt)
absent_append k (x ∷ xs) y a e = (a.0, absent_append k xs y a.1 e)

once_append : (k : ℕ) (xs : List LinkState) (y : LinkState) → Once k xs → (y.number == k) ≡ false → Once k (xs ++ y ∷ [])
once_append k [] y a e = ((λ h. tt), tt)
once_append k (x ∷ xs) y a e = ((λ h. absent_append k xs y (a.0 h) e), once_append k xs y a.1 e)

find_append : (k : ℕ) (xs : List LinkState) (y s : LinkState) → find k xs ≡ Some s → find k (xs ++ y ∷ []) ≡ Some s
find_append k [] y s h = absurd cc
find_append k (x ∷ xs) y s h =
    by_test (x.number == k) (find k (x ∷ (xs ++ y ∷ [])) ≡ Some s)
    (λ e. find-in k x (xs ++ y ∷ []) e ∙ sym (find-in k x xs e) ∙ h)
    (λ e. find-out k x (xs ++ y ∷ []) e ∙ find_append k xs y s (sym (find-out k x xs e) ∙ h))

pub absent_map : (f : LinkState → LinkState) → ((s : LinkState) → (f s).number ≡ s.number) → (k : ℕ) (xs : List LinkState) → Absent k xs → Absent k (map f xs)
absent_map f same k [] a = tt
absent_map f same k (x ∷ xs) a = (ap (λ m. m == k) (same x) ∙ a.0, absent_map f same k xs a.1)

once_map : (f : LinkState → LinkState) → ((s : LinkState) → (f s).number ≡ s.number) → (k : ℕ) (xs : List LinkState) → Once k xs → Once k (map f xs)
once_map f same k [] a = tt
once_map f same k (x ∷ xs) a = ((λ h. absent_map f same k xs (a.0 (sym (ap (λ m. m == k) (same x)) ∙ h))), once_map f same k xs a.1)

find_map : (f : LinkState → LinkState) → ((s : LinkState) → (f s).number ≡ s.number) → (k : ℕ) (xs : List LinkState) (s : LinkState) → find k xs ≡ Some s → find k (map f xs) ≡ Some (f s)
find_map f same k [] s h = absurd cc
find_map f same k (x ∷ xs) s h =
    by_test (x.number == k) (find k (f x ∷ map f xs) ≡ Some (f s))
    (λ e. find-in k (f x) (map f xs) (ap (λ m. m == k) (same x) ∙ e) ∙ ap (λ z. Some (f z)) (same_some x s (sym (find-in k x xs e) ∙ h)))
    (λ e. find-out k (f x) (map f xs) (ap (λ m. m == k) (same x) ∙ e) ∙ find_map f same k xs s (sym (find-out k x xs e) ∙ h))

new_kept : (b : Bool) (k n : ℕ) (all : List LinkState) (s : LinkState) → (n == k) ≡ false → Once k all → find k all ≡ Some s → Kept k s (if b then all ++ fresh n ∷ [] else all)
new_kept true k n all s e once h = record { t = s; found = find_append k all (fresh n) s h; once = once_append k all (fresh n) once e; is_open = refl; bytes = refl; outbox = refl; drained = refl }
new_kept false k n all s e once h = record { t = s; found = h; once = once; is_open = refl; bytes = refl; outbox = refl; drained = refl }

pub close_silent : (b : Bool) (k n : ℕ) → written k (if b then [] else calls.Close n ∷ []) ≡ []
close_silent true k n = refl
close_silent false k n = written-cons k (calls.Close n) []

chain : (k : ℕ) (s t : LinkState) (ts : List LinkState) → t.is_open ≡ s.is_open → t.bytes ≡ s.bytes → t.outbox ≡ s.outbox → t.drained ≡ s.drained → Kept k t ts → Kept k s ts
chain k s t ts i b o d r = record { t = r.t; found = r.found; once = r.once; is_open = r.is_open ∙ i; bytes = r.bytes ∙ b; outbox = r.outbox ∙ o; drained = r.drained ∙ d }

pub events_kept : (serving : Serving) (strict : Bool) (k : ℕ) (shown : List LinkEvent) (all : List LinkState) (made : List LinkCall) (ts : List LinkState) (s : LinkState) → Events serving strict shown all made ts → NoNewEvents k shown → Once k all → find k all ≡ Some s → Kept k s ts × (written k made ≡ [])
events_kept serving strict k [] all made ts s h n once f = (subst (λ z. Kept k s z) (sym h.1) (record { t = s; found = f; once = once; is_open = refl; bytes = refl; outbox = refl; drained = refl }), ap (written k) h.0)
events_kept serving strict k (events.New n ∷ shown) all made ts s h un once f =
    let here = new_kept (admits_link serving all) k n all s un.0 once f in
    let rest = events_kept serving strict k shown (event_to serving all (events.New n)) h.0 ts here.t h.3 un.1 here.once here.found in
    (chain k s here.t ts here.is_open here.bytes here.outbox here.drained rest.0, ap (written k) h.1 ∙ written-append k (event_closes serving all (events.New n)) h.0 ∙ ap (λ z. z ++ written k h.0) (close_silent (admits_link serving all) k n) ∙ rest.1)
events_kept serving strict k (events.Readable n ∷ shown) all made ts s h un once f =
    let rest = events_kept serving strict k shown (map (made_readable n) all) h.0 ts (made_readable n s) h.3 un (once_map (made_readable n) (λ x. refl) k all once) (find_map (made_readable n) (λ x. refl) k all s f) in
    (chain k s (made_readable n s) ts refl refl refl refl rest.0, ap (written k) h.1 ∙ rest.1)
events_kept serving strict k (events.Writable n ∷ shown) all made ts s h un once f =
    let rest = events_kept serving strict k shown (map (made_writable n) all) h.0 ts (made_writable n s) h.3 un (once_map (made_writable n) (λ x. refl) k all once) (find_map (made_writable n) (λ x. refl) k all s f) in
    (chain k s (made_writable n s) ts refl refl refl refl rest.0, ap (written k) h.1 ∙ rest.1)

-- ---- one turn

-- all that a turn does to a link
pub record Turned (serving : Serving) (k : ℕ) (fed : List FedRow) (s : LinkState) (made : List LinkCall) (now : List FedRow) (last : List LinkState) : Type 0 where
  pub t : LinkState
  pub found : find k last ≡ Some t
  pub once : Once k last
  pub added : List (List ℕ)
  pub answers : answers_of serving k now ≡ answers_of serving k fed ++ added
  pub due : written k made ++ concat t.outbox ≡ concat s.outbox ++ concat (added ++ put serving (query_of serving t.bytes) s.drained t.drained now)
  pub place : (t.drained ≡ s.drained) ⊎ ((t.drained ≡ Some (length now)) × (query : Query) × (query_of serving t.bytes ≡ Some query))
  pub quiet : is_feed serving t.bytes ≡ false → added ≡ []
  pub opens : t.is_open ≡ true → s.is_open ≡ true
  pub asks : t.is_open ≡ true → (query : Query) → query_of serving s.bytes ≡ Some query → t.bytes ≡ s.bytes
  pub keeps : (query : Query) → query_of serving s.bytes ≡ Some query → KeepsQuery serving query t.bytes

-- what the outbox gains in the passes
gained : (u r1 r2 r3 t : List (List ℕ)) (w x : List ℕ) (added items : List (List ℕ)) → r1 ≡ u ++ added → r2 ≡ r1 ++ items → w ++ concat r3 ≡ concat r2 → x ++ concat t ≡ concat r3 → (w ++ x) ++ concat t ≡ concat u ++ concat (added ++ items)
gained u r1 r2 r3 t w x added items a b c d =
    append_assoc w x (concat t) ∙ ap (λ z. w ++ z) d ∙ c ∙ ap concat b ∙ ap (λ z. concat (z ++ items)) a ∙ ap concat (append_assoc u added items) ∙ concat-append u (added ++ items)

pub passes_turned : (serving : Serving) (strict : Bool) (k : ℕ) (fed : List FedRow) (polled : List LinkState) (made : List LinkCall) (now : List FedRow) (after : List LinkState) (s : LinkState) → Passes serving strict fed polled made now after → Once k polled → find k polled ≡ Some s → Turned serving k fed s made now after
passes_turned serving strict k fed polled made now after s p once here =
    let stop = has_stop serving fed now in
    let a = each_find k (ReadStep serving strict) (Answered serving k) (tells_read serving strict k) [] fed polled p.reads now p.read s p.each_read once here in
    let once1 = each_once k (ReadStep serving strict) (Answered serving k) (tells_read serving strict k) [] fed polled p.reads now p.read p.each_read once in
    let b = each_find k (DrainStep serving) (Filled serving) (tells_drain serving k) [] now p.read p.drains now p.drained a.t p.each_drain once1 a.found in
    let once2 = each_once k (DrainStep serving) (Filled serving) (tells_drain serving k) [] now p.read p.drains now p.drained p.each_drain once1 in
    let c = each_find k (WriteStep serving) EmptiedBetween (tells_write serving k) [] now p.drained p.writes now p.written b.t p.each_write once2 b.found in
    let once3 = each_once k (WriteStep serving) EmptiedBetween (tells_write serving k) [] now p.drained p.writes now p.written p.each_write once2 in
    let d = each_find k (StopStep stop) EmptiedBetween (tells_stop stop k) [] now p.written p.stops now after c.t p.each_stop once3 c.found in
    let once4 = each_once k (StopStep stop) EmptiedBetween (tells_stop stop k) [] now p.written p.stops now after p.each_stop once3 in
    let l1 = a.told in
    let l2 = b.told in
    let l3 = c.told in
    let l4 = d.told in
    let bytes : d.t.bytes ≡ a.t.bytes = l4.bytes ∙ l3.bytes ∙ l2.bytes in
    let drained : d.t.drained ≡ b.t.drained = l4.drained ∙ l3.drained in
    let list : written k made ≡ written k p.writes ++ written k p.stops =
    ap (written k) p.calls_are ∙ written-append k p.reads (p.drains ++ (p.writes ++ p.stops)) ∙ ap (λ z. z ++ written k (p.drains ++ (p.writes ++ p.stops))) l1.silent
    ∙ written-append k p.drains (p.writes ++ p.stops) ∙ ap (λ z. z ++ written k (p.writes ++ p.stops)) l2.silent
    ∙ written-append k p.writes p.stops in
    let items = put serving (query_of serving a.t.bytes) a.t.drained b.t.drained now in
    let same_items : items ≡ put serving (query_of serving d.t.bytes) s.drained d.t.drained now =
    ap (λ z. put serving z a.t.drained b.t.drained now) (ap (query_of serving) (sym bytes))
    ∙ ap (λ z. put serving (query_of serving d.t.bytes) z b.t.drained now) l1.drained
    ∙ ap (λ z. put serving (query_of serving d.t.bytes) s.drained z now) (sym drained) in
    record {
      t = d.t;
      found = d.found;
      once = once4;
      added = l1.added;
      answers = l1.answers;
      due =
          ap (λ z. z ++ concat d.t.outbox) list
          ∙ gained s.outbox a.t.outbox b.t.outbox c.t.outbox d.t.outbox (written k p.writes) (written k p.stops) l1.added items l1.outbox l2.outbox l3.outbox l4.outbox
          ∙ ap (λ z. concat s.outbox ++ concat (l1.added ++ z)) same_items;
      place = elim l2.place [ inl x ↦ inl (drained ∙ x ∙ l1.drained) | inr x ↦ inr (drained ∙ x.0, x.1, ap (query_of serving) bytes ∙ x.2) ];
      quiet = λ n. l1.quiet (sym (ap (is_feed serving) bytes) ∙ n);
      opens = λ g. l1.opens (l2.opens (l3.opens (l4.opens g)));
      asks = λ g query q. bytes ∙ l1.asks (l2.opens (l3.opens (l4.opens g))) query q;
      keeps = λ query q. subst (KeepsQuery serving query) (sym bytes) (l1.keeps query q);
    }

after_turned : (serving : Serving) (strict : Bool) (k : ℕ) (shown : Option (List LinkEvent)) (fed : List FedRow) (before : List LinkState) (made : List LinkCall) (now : List FedRow) (last : List LinkState) (s : LinkState) → AfterPoll serving strict shown fed before made now last → NoNew k shown → Once k before → find k before ≡ Some s → Turned serving k fed s made now last
after_turned serving strict k None fed before made now last s h un once f =
    let none : put serving (query_of serving s.bytes) s.drained s.drained now ≡ [] = put_none serving (query_of serving s.bytes) s.drained now in
    let here : Turned serving k fed s made now before = record {
      t = s;
      found = f;
      once = once;
      added = [];
      answers = ap (answers_of serving k) h.1 ∙ sym (append-nil (answers_of serving k fed));
      due = ap (λ z. written k z ++ concat s.outbox) h.0 ∙ sym (append-nil (concat s.outbox)) ∙ ap (λ z. concat s.outbox ++ concat z) (sym none);
      place = inl refl;
      quiet = λ n. refl;
      opens = λ g. g;
      asks = λ g query q. refl;
      keeps = λ query q. inl q;
    } in
    subst (λ z. Turned serving k fed s made now z) (sym h.2) here
after_turned serving strict k (Some shown) fed before made now last s h un once f =
    let kept = events_kept serving strict k shown before h.0 h.2 s h.4 un once f in
    let u = kept.0.t in
    let p = passes_turned serving strict k fed h.2 h.1 now last u h.5 kept.0.once kept.0.found in
    record {
      t = p.t;
      found = p.found;
      once = p.once;
      added = p.added;
      answers = p.answers;
      due =
          ap (λ z. z ++ concat p.t.outbox) (ap (written k) h.3 ∙ written-append k h.0 h.1 ∙ ap (λ z. z ++ written k h.1) kept.1)
          ∙ p.due ∙ ap (λ z. concat z ++ concat (p.added ++ put serving (query_of serving p.t.bytes) u.drained p.t.drained now)) kept.0.outbox
          ∙ ap (λ z. concat s.outbox ++ concat (p.added ++ put serving (query_of serving p.t.bytes) z p.t.drained now)) kept.0.drained;
      place = elim p.place [ inl x ↦ inl (x ∙ kept.0.drained) | inr x ↦ inr x ];
      quiet = p.quiet;
      opens = λ g. sym kept.0.is_open ∙ p.opens g;
      asks = λ g query q. p.asks g query (ap (query_of serving) kept.0.bytes ∙ q) ∙ kept.0.bytes;
      keeps = λ query q. p.keeps query (ap (query_of serving) kept.0.bytes ∙ q);
    }

pub turned : (serving : Serving) (strict : Bool) (k : ℕ) (fed : List FedRow) (before : List LinkState) (r : Turn) (s : LinkState) → IsTurn serving strict fed before r → NoNew k r.shown → Once k before → find k before ≡ Some s → Turned serving k fed s r.made r.fed r.links
turned serving strict k fed before r s h un once f = after_turned serving strict k r.shown fed before r.made r.fed r.links s h un once f

pub added_is : (serving : Serving) (k : ℕ) (fed now : List FedRow) (added : List (List ℕ)) → answers_of serving k now ≡ answers_of serving k fed ++ added → added ≡ answered serving k fed now
added_is serving k fed now added e = sym (ap (drop (length (answers_of serving k fed))) e ∙ drop-append_seam (answers_of serving k fed) added)

pub due : Due
due serving strict k fed before r s h un once f =
    let d = turned serving strict k fed before r s h un once f in
    record {
      t = d.t;
      found = d.found;
      once = d.once;
      due = d.due ∙ ap (λ z. concat s.outbox ++ concat (z ++ put serving (query_of serving d.t.bytes) s.drained d.t.drained r.fed)) (added_is serving k fed r.fed d.added d.answers);
    }

-- ---- the links that are left open

opened_in : (s : LinkState) (ss : List LinkState) → s.is_open ≡ true → opened (s ∷ ss) ≡ s ∷ opened ss
opened_in s ss e = rw e refl

opened_out : (s : LinkState) (ss : List LinkState) → s.is_open ≡ false → opened (s ∷ ss) ≡ opened ss
opened_out s ss e = rw e refl

pub absent_opened : (k : ℕ) (ss : List LinkState) → Absent k ss → Absent k (opened ss)
absent_opened k [] a = tt
absent_opened k (s ∷ ss) a = by_test s.is_open (Absent k (opened (s ∷ ss))) (λ e. rw (opened_in s ss e) (a.0, absent_opened k ss a.1)) (λ e. rw (opened_out s ss e) (absent_opened k ss a.1))

pub once_opened : (k : ℕ) (ss : List LinkState) → Once k ss → Once k (opened ss)
once_opened k [] a = tt
once_opened k (s ∷ ss) a = by_test s.is_open (Once k (opened (s ∷ ss))) (λ e. rw (opened_in s ss e) ((λ h. absent_opened k ss (a.0 h)), once_opened k ss a.1)) (λ e. rw (opened_out s ss e) (once_opened k ss a.1))

pub find_opened : (k : ℕ) (ss : List LinkState) (t : LinkState) → find k ss ≡ Some t → t.is_open ≡ true → find k (opened ss) ≡ Some t
find_opened k [] t h o = absurd cc
find_opened k (s ∷ ss) t h o =
    by_test (s.number == k) (find k (opened (s ∷ ss)) ≡ Some t)
    (λ e.
    let is : s ≡ t = same_some s t (sym (find-in k s ss e) ∙ h) in
    let is_open : s.is_open ≡ true = ap (λ x. x.is_open) is ∙ o in
    ap (find k) (opened_in s ss is_open) ∙ find-in k s (opened ss) e ∙ ap Some is)
    (λ e.
    let rest = find_opened k ss t (sym (find-out k s ss e) ∙ h) o in
    by_test s.is_open (find k (opened (s ∷ ss)) ≡ Some t) (λ i. ap (find k) (opened_in s ss i) ∙ find-out k s (opened ss) e ∙ rest) (λ i. ap (find k) (opened_out s ss i) ∙ rest))

-- ---- a list of turns

join : (w all : List ℕ) (l o out p d : List (List ℕ)) → w ++ concat o ≡ concat out ++ concat p → all ++ concat l ≡ concat o ++ concat d → (w ++ all) ++ concat l ≡ concat out ++ concat (p ++ d)
join w all l o out p d a b =
    append_assoc w all (concat l) ∙ ap (λ z. w ++ z) b ∙ sym (append_assoc w (concat o) (concat d)) ∙ ap (λ z. z ++ concat d) a ∙ append_assoc (concat out) (concat p) (concat d)
    ∙ ap (λ z. concat out ++ z) (sym (concat-append p d))

pub trace_due : TraceDue
trace_due serving strict k fed before [] s h once f n = sym (append-nil (concat s.outbox))
trace_due serving strict k fed before (r ∷ rounds) s h once f n =
    let one = due serving strict k fed before r s h.0 n.0 once f in
    let t = one.t in
    let rest = trace_due serving strict k r.fed (opened r.links) rounds t h.1 (once_opened k r.links one.once) (find_opened k r.links t one.found (n.1 t one.found)) n.2 in
    let P : Option LinkState → Type 0 = λ x. (written k r.made ++ all_written k rounds) ++ concat (left k (outbox_of x) rounds) ≡ concat s.outbox ++ concat ((answered serving k fed r.fed ++ put serving (query_at serving x) s.drained (place_of x) r.fed) ++ due_items serving k r.fed (place_of x) rounds) in
    let items = answered serving k fed r.fed ++ put serving (query_of serving t.bytes) s.drained t.drained r.fed in
    subst P (sym one.found) (join (written k r.made) (all_written k rounds) (left k t.outbox rounds) t.outbox s.outbox items (due_items serving k r.fed t.drained rounds) one.due rest)
