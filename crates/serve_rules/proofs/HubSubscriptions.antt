-- The life of a link, from before it comes until after it is gone, by the places of its drains.
use Rattle.std.proofs.Common.{◌≡◌, ℕ, ◌==◌, Bool, true, false, List, [], ◌∷◌, ◌++◌, length, Option, Some, None, inl, inr, ◌⊎◌, refl, sym, ap, subst, ◌∙◌}
use Rattle.std.proofs.lemmas.List.{append-nil}
use Rattle.mesh_links.specs.declared.call.LinkCall.{LinkCall}
use Rattle.mesh_links.specs.declared.call.LinkEvent.{LinkEvent}
use Rattle.view_types.specs.declared.query.Query.{Query}
use Rattle.serve_rules.specs.FedLines.{FedRow}
use Rattle.serve_rules.specs.Batches.{Serving}
use Rattle.serve_rules.specs.LinkStates.{LinkState, is_feed, query_of}
use Rattle.serve_rules.specs.Turns.{AfterPoll, Turn}
use Rattle.serve_rules.specs.Traces.{opened, AreTurns, fed_in}
use Rattle.serve_rules.specs.Due.{Absent, Ascend, IsPlaced, NoFeedIn, Once, answers_of, answered, batches, due_items, find, new_place, place_of, places, put, query_at, written}
use Rattle.serve_rules.specs.WrittenBytes.{AllPlacesAscend, DueByPlaces, NeverNew, NewAtMostOnce, NewOnce, asked_query, kept}
use Rattle.serve_rules.proofs.LinksLeftOut.{by_test}
use Rattle.serve_rules.proofs.DueSteps.{KeepsQuery, written-append}
use Rattle.serve_rules.proofs.Serving.{Turned, turned, added_is, absent_opened, find_opened, once_opened, passes_turned}
use Rattle.serve_rules.proofs.DrainPlaces.{Grows, IsNext, fed_grows, first_ascends, first_part, next_placed, placed_later, turn_grows}
use Rattle.serve_rules.proofs.WholeTraces.{Arrived, Nothing, after_absent, closed_absent, events_arrive, find_none, gone, passes_absent}

-- ---- what each turn does to it

-- From then on it is gone.
record IsGone (serving : Serving) (k : ℕ) (fed : List FedRow) (d : Option ℕ) (query : Option Query) (rounds : List Turn) : Type 0 where
  due_none : due_items serving k fed d rounds ≡ []
  places_none : places k d rounds ≡ []
  asked : asked_query serving k query rounds ≡ query

-- what a turn does that leaves it as found
record IsOnward (serving : Serving) (k : ℕ) (fed : List FedRow) (d : Option ℕ) (query : Option Query) (r : Turn) (found : Option LinkState) : Type 0 where
  grows : Grows fed r.fed
  quiet : answered serving k fed r.fed ≡ []
  next : IsNext (query_at serving found) d (place_of found) r.fed
  asked : (was : Query) → query ≡ Some was → kept query (query_at serving found) ≡ Some was

abbrev Lives : Serving → ℕ → List FedRow → Option ℕ → Option Query → List Turn → Type 0
Lives serving k fed d query [] = Unit {0}
Lives serving k fed d query (r ∷ rounds) = IsGone serving k fed d query (r ∷ rounds) ⊎ (IsOnward serving k fed d query r (find k r.links) × Lives serving k r.fed (place_of (find k r.links)) (kept query (query_at serving (find k r.links))) rounds)

-- ---- what follows of a life

asked_stays : (serving : Serving) (k : ℕ) (fed : List FedRow) (d : Option ℕ) (was : Query) (query : Option Query) (rounds : List Turn) → query ≡ Some was → Lives serving k fed d query rounds → asked_query serving k query rounds ≡ Some was
asked_stays serving k fed d was query [] e h = e
asked_stays serving k fed d was query (r ∷ rounds) e (inl g) = g.asked ∙ e
asked_stays serving k fed d was query (r ∷ rounds) e (inr on) =
    let found = find k r.links in
    asked_stays serving k r.fed (place_of found) was (kept query (query_at serving found)) rounds (on.0.asked was e) on.1

first_quiet : (serving : Serving) (answers items rest all : List (List ℕ)) → answers ≡ [] → items ++ rest ≡ all → (answers ++ items) ++ rest ≡ all
first_quiet serving answers items rest all e h = ap (λ z. (z ++ items) ++ rest) e ∙ h

lives_due : (serving : Serving) (strict : Bool) (k : ℕ) (fed : List FedRow) (before : List LinkState) (d : Option ℕ) (query : Option Query) (rounds : List Turn) → AreTurns serving strict fed before rounds → Lives serving k fed d query rounds → due_items serving k fed d rounds ≡ batches serving (asked_query serving k query rounds) (fed_in fed rounds) d (places k d rounds)
lives_due serving strict k fed before d query [] h l = refl
lives_due serving strict k fed before d query (r ∷ rounds) h (inl g) = g.due_none ∙ ap (batches serving (asked_query serving k query (r ∷ rounds)) (fed_in fed (r ∷ rounds)) d) (sym g.places_none)
lives_due serving strict k fed before d query (r ∷ rounds) h (inr on) =
    let found = find k r.links in
    let p = place_of found in
    let now = query_at serving found in
    let asked = asked_query serving k (kept query now) rounds in
    let grown = fed_grows serving strict r.fed (opened r.links) rounds h.1 in
    let rest = lives_due serving strict k r.fed (opened r.links) p (kept query now) rounds h.1 on.1 in
    let same : (q : Query) → now ≡ Some q → asked ≡ Some q = λ q e. asked_stays serving k r.fed p q (kept query now) rounds (ap (kept query) e) on.1 in
    let part = first_part serving now asked d p r.fed (fed_in r.fed rounds) grown.0 (due_items serving k r.fed p rounds) (places k p rounds) grown.1 on.0.next same rest in
    first_quiet serving (answered serving k fed r.fed) (put serving now d p r.fed) (due_items serving k r.fed p rounds) (batches serving asked (fed_in r.fed rounds) d (new_place d p ++ places k p rounds)) on.0.quiet part

lives_ascend : (serving : Serving) (k : ℕ) (fed : List FedRow) (d : Option ℕ) (query : Option Query) (rounds : List Turn) → IsPlaced d fed → Lives serving k fed d query rounds → Ascend d (places k d rounds)
lives_ascend serving k fed d query [] p l = tt
lives_ascend serving k fed d query (r ∷ rounds) p (inl g) = subst (Ascend d) (sym g.places_none) tt
lives_ascend serving k fed d query (r ∷ rounds) p (inr on) =
    let found = find k r.links in
    let now = query_at serving found in
    let placed = placed_later d fed r.fed p on.0.grows in
    first_ascends now d (place_of found) r.fed (places k (place_of found) rounds) placed on.0.next (lives_ascend serving k r.fed (place_of found) (kept query now) rounds (next_placed now d (place_of found) r.fed placed on.0.next) on.1)

-- ---- a life

none_kept : (query : Option Query) (found : Option Query) → found ≡ None → kept query found ≡ query
none_kept query found e = ap (kept query) e

gone_places : (serving : Serving) (strict : Bool) (k : ℕ) (fed : List FedRow) (d : Option ℕ) (query : Option Query) (before : List LinkState) (rounds : List Turn) → AreTurns serving strict fed before rounds → NeverNew k rounds → Absent k before → (places k d rounds ≡ []) × (asked_query serving k query rounds ≡ query)
gone_places serving strict k fed d query before [] h n a = (refl, refl)
gone_places serving strict k fed d query before (r ∷ rounds) h n a =
    let one = after_absent serving strict k r.shown fed before r.made r.fed r.links h.0 n.0 a in
    let none = find_none k r.links one.absent in
    let rest = gone_places serving strict k r.fed None query (opened r.links) rounds h.1 n.1 (absent_opened k r.links one.absent) in
    (ap (λ x. new_place d (place_of x) ++ places k (place_of x) rounds) none ∙ rest.0, ap (λ x. asked_query serving k (kept query (query_at serving x)) rounds) none ∙ rest.1)

is_gone : (serving : Serving) (strict : Bool) (k : ℕ) (fed : List FedRow) (d : Option ℕ) (query : Option Query) (before : List LinkState) (rounds : List Turn) → AreTurns serving strict fed before rounds → NeverNew k rounds → Absent k before → IsGone serving k fed d query rounds
is_gone serving strict k fed d query before rounds h n a =
    let g = gone serving strict k fed d before rounds h n a in
    let p = gone_places serving strict k fed d query before rounds h n a in
    record { due_none = g.due_none; places_none = p.0; asked = p.1 }

gone_lives : (serving : Serving) (strict : Bool) (k : ℕ) (fed : List FedRow) (d : Option ℕ) (query : Option Query) (before : List LinkState) (rounds : List Turn) → AreTurns serving strict fed before rounds → NeverNew k rounds → Absent k before → Lives serving k fed d query rounds
gone_lives serving strict k fed d query before [] h n a = tt
gone_lives serving strict k fed d query before (r ∷ rounds) h n a = inl (is_gone serving strict k fed d query before (r ∷ rounds) h n a)

-- a query that the link had, or none yet, and what it has now
kept_query : (serving : Serving) (query : Option Query) (now : Option Query) (was : Query) → query ≡ Some was → (now ≡ Some was) ⊎ (now ≡ None) → kept query now ≡ Some was
kept_query serving query now was e (inl x) = ap (kept query) x
kept_query serving query now was e (inr x) = none_kept query now x ∙ e

-- what a turn does to a link that is there, whose query so far is this
turned_onward : (serving : Serving) (k : ℕ) (fed : List FedRow) (s : LinkState) (query : Option Query) (made : List LinkCall) (r : Turn) (one : Turned serving k fed s made r.fed r.links) → Grows fed r.fed → ((was : Query) → query ≡ Some was → query_of serving s.bytes ≡ Some was) → is_feed serving one.t.bytes ≡ false → IsOnward serving k fed s.drained query r (Some one.t)
turned_onward serving k fed s query made r one g q n = record {
  grows = g;
  quiet = sym (added_is serving k fed r.fed one.added one.answers) ∙ one.quiet n;
  next = one.place;
  asked = λ was e. kept_query serving query (query_of serving one.t.bytes) was e (one.keeps was (q was e));
}

-- the query so far is that of the link, while it is open
still_query : (query now : Option Query) (was : Query) → ((w : Query) → query ≡ Some w → now ≡ Some w) → kept query now ≡ Some was → now ≡ Some was
still_query query None was f e = f was e
still_query query (Some found) was f e = e

-- behind a turn that leaves the link as t
behind_turn : (serving : Serving) (strict : Bool) (k : ℕ) (r : Turn) (rounds : List Turn) (t : LinkState) (query : Option Query) → Once k r.links → find k r.links ≡ Some t → AreTurns serving strict r.fed (opened r.links) rounds → NeverNew k rounds → (t.is_open ≡ true → Lives serving k r.fed t.drained query rounds) → Lives serving k r.fed t.drained query rounds
behind_turn serving strict k r rounds t query once found h n f =
    by_test t.is_open (Lives serving k r.fed t.drained query rounds) f (λ i. gone_lives serving strict k r.fed t.drained query (opened r.links) rounds h n (closed_absent k r.links t once found i))

-- one turn more
one_more : (serving : Serving) (k : ℕ) (fed : List FedRow) (d : Option ℕ) (query : Option Query) (r : Turn) (rounds : List Turn) (found : Option LinkState) → find k r.links ≡ found → IsOnward serving k fed d query r found → Lives serving k r.fed (place_of found) (kept query (query_at serving found)) rounds → Lives serving k fed d query (r ∷ rounds)
one_more serving k fed d query r rounds found e on rest =
    let P : Option LinkState → Type 0 = λ x. IsOnward serving k fed d query r x × Lives serving k r.fed (place_of x) (kept query (query_at serving x)) rounds in
    inr (subst P (sym e) (on, rest))

-- of a link that is there
there_lives : (serving : Serving) (strict : Bool) (k : ℕ) (fed : List FedRow) (before : List LinkState) (rounds : List Turn) (s : LinkState) (query : Option Query) → AreTurns serving strict fed before rounds → NeverNew k rounds → NoFeedIn serving k rounds → Once k before → find k before ≡ Some s → ((was : Query) → query ≡ Some was → query_of serving s.bytes ≡ Some was) → Lives serving k fed s.drained query rounds
there_lives serving strict k fed before [] s query h n mute once f q = tt
there_lives serving strict k fed before (r ∷ rounds) s query h n mute once f q =
    let one = turned serving strict k fed before r s h.0 n.0 once f in
    let t = one.t in
    let now = query_of serving t.bytes in
    let on = turned_onward serving k fed s query r.made r one (turn_grows serving strict fed before r h.0) q (mute.0 t one.found) in
    one_more serving k fed s.drained query r rounds (Some t) one.found on
    (behind_turn serving strict k r rounds t (kept query now) one.once one.found h.1 n.1
    (λ i.
    there_lives serving strict k r.fed (opened r.links) rounds t (kept query now) h.1 n.1 mute.1 (once_opened k r.links one.once) (find_opened k r.links t one.found i)
    (λ was e. still_query query now was (λ w x. ap (query_of serving) (one.asks i w (q w x)) ∙ q w x) e)))

no_was : (was : Query) → (let none : Option Query = None in none) ≡ Some was → ⊥
no_was was e = cc

-- a turn after which it isn't there
absent_onward : (serving : Serving) (k : ℕ) (fed : List FedRow) (r : Turn) → Nothing serving k fed r.made r.fed r.links → Grows fed r.fed → IsOnward serving k fed None None r None
absent_onward serving k fed r one g = record {
  grows = g;
  quiet = sym (added_is serving k fed r.fed [] (one.answers ∙ sym (append-nil (answers_of serving k fed))));
  next = inl refl;
  asked = λ was e. absurd (no_was was e);
}

-- from the passes of the turn in which it comes
comes_on : (serving : Serving) (strict : Bool) (k : ℕ) (fed : List FedRow) (u : LinkState) (made : List LinkCall) (r : Turn) (rounds : List Turn) → Turned serving k fed u made r.fed r.links → u.drained ≡ None → Grows fed r.fed → AreTurns serving strict r.fed (opened r.links) rounds → NeverNew k rounds → NoFeedIn serving k (r ∷ rounds) → Lives serving k fed None None (r ∷ rounds)
comes_on serving strict k fed u made r rounds one d g h n mute =
    let t = one.t in
    let now = query_of serving t.bytes in
    let on = subst (λ x. IsOnward serving k fed x None r (Some t)) d (turned_onward serving k fed u None made r one g (λ was e. absurd (no_was was e)) (mute.0 t one.found)) in
    one_more serving k fed None None r rounds (Some t) one.found on
    (behind_turn serving strict k r rounds t (kept None now) one.once one.found h n
    (λ i.
    there_lives serving strict k r.fed (opened r.links) rounds t (kept None now) h n mute.1 (once_opened k r.links one.once) (find_opened k r.links t one.found i)
    (λ was e. still_query None now was (λ w x. absurd (no_was w x)) e)))

come_lives : (serving : Serving) (strict : Bool) (k : ℕ) (shown : Option (List LinkEvent)) (fed : List FedRow) (before : List LinkState) (r : Turn) (rounds : List Turn) → AfterPoll serving strict shown fed before r.made r.fed r.links → NewOnce k shown → Absent k before → Grows fed r.fed → AreTurns serving strict r.fed (opened r.links) rounds → NeverNew k rounds → NoFeedIn serving k (r ∷ rounds) → Lives serving k fed None None (r ∷ rounds)
come_lives serving strict k None fed before r rounds h un a g more n mute = absurd un
come_lives serving strict k (Some shown) fed before r rounds h un a g more n mute =
    let polled = events_arrive serving strict k shown before h.0 h.2 h.4 un a in
    elim polled.0 [
      | inl none ↦
          let p = passes_absent serving strict k fed h.2 h.1 r.fed r.links h.5 none in
          let one : Nothing serving k fed r.made r.fed r.links = record { silent = ap (written k) h.3 ∙ written-append k h.0 h.1 ∙ ap (λ z. z ++ written k h.1) polled.1 ∙ p.silent; absent = p.absent; answers = p.answers } in
          one_more serving k fed None None r rounds None (find_none k r.links p.absent) (absent_onward serving k fed r one g) (gone_lives serving strict k r.fed None None (opened r.links) rounds more n (absent_opened k r.links p.absent))
      | inr here ↦ comes_on serving strict k fed here.t h.1 r rounds (passes_turned serving strict k fed h.2 h.1 r.fed r.links here.t h.5 here.once here.found) here.drained g more n mute
    ]

all_lives : (serving : Serving) (strict : Bool) (k : ℕ) (fed : List FedRow) (before : List LinkState) (rounds : List Turn) → AreTurns serving strict fed before rounds → NewAtMostOnce k rounds → NoFeedIn serving k rounds → Absent k before → Lives serving k fed None None rounds
all_lives serving strict k fed before [] h n mute a = tt
all_lives serving strict k fed before (r ∷ rounds) h (inl later) mute a =
    let one = after_absent serving strict k r.shown fed before r.made r.fed r.links h.0 later.0 a in
    one_more serving k fed None None r rounds None (find_none k r.links one.absent) (absent_onward serving k fed r one (turn_grows serving strict fed before r h.0))
    (all_lives serving strict k r.fed (opened r.links) rounds h.1 later.1 mute.1 (absent_opened k r.links one.absent))
all_lives serving strict k fed before (r ∷ rounds) h (inr now) mute a = come_lives serving strict k r.shown fed before r rounds h.0 now.0 a (turn_grows serving strict fed before r h.0) h.1 now.1 mute

pub due_by_places : DueByPlaces
due_by_places serving strict k rounds h n mute = lives_due serving strict k [] [] None None rounds h (all_lives serving strict k [] [] rounds h n mute tt)

pub all_places_ascend : AllPlacesAscend
all_places_ascend serving strict k rounds h n mute = lives_ascend serving k [] None None rounds tt (all_lives serving strict k [] [] rounds h n mute tt)
