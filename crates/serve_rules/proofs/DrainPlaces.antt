-- What a link is due by the places of its drains, which never go back.
use Rattle.std.proofs.Common.{◌≡◌, ℕ, ◌+◌, ◌-◌, ◌==◌, Bool, true, false, List, [], ◌∷◌, ◌++◌, length, length-append, drop, Option, Some, None, inl, inr, ◌⊎◌, refl, sym, ap, subst, ◌∙◌, append_assoc, arith}
use Rattle.std.proofs.Math.Seq.{drop-append_seam}
use Rattle.std.proofs.lemmas.Bool.Decides.{nat_tests}
use Rattle.mesh_links.specs.declared.call.LinkCall.{LinkCall}
use Rattle.mesh_links.specs.declared.call.LinkEvent.{LinkEvent}
use Rattle.mesh_links.specs.declared.call.ReadGot.{ReadGot}
use Rattle.mesh_links.specs.declared.call.ReadGot.TheVariants as reads
use Rattle.view_types.specs.declared.query.Query.{Query}
use Rattle.request_sim.specs.declared.fault.SimFault.{SimFault}
use Rattle.serve_rules.specs.FedLines.{FedRow, up_to}
use Rattle.serve_rules.specs.Batches.{Serving}
use Rattle.serve_rules.specs.LinkStates.{LinkState, query_of, came, fed_then, may_read, admits, read_feeds}
use Rattle.serve_rules.specs.Turns.{Each, ReadIf, ReadStep, AfterPoll, Turn, IsTurn}
use Rattle.serve_rules.specs.Traces.{opened, AreTurns, fed_in}
use Rattle.serve_rules.specs.Due.{find, Once, answered, is_at, frames_for, put, place_of, query_at, Stays, due_items, new_place, places, batches, last_query, ByPlaces, IsPlaced, IsBefore, Ascend, PlacesAscend}
use Rattle.serve_rules.proofs.LinksLeftOut.{by_test}
use Rattle.serve_rules.proofs.DueSteps.{put_none, up_to_all}
use Rattle.serve_rules.proofs.Serving.{turned, added_is, once_opened, find_opened}

-- ---- what was fed grows

abbrev pub Grows : List FedRow → List FedRow → Type 0
Grows fed now = (more : List FedRow) × (now ≡ more ++ fed)

grows_same : (fed now : List FedRow) → now ≡ fed → Grows fed now
grows_same fed now e = ([], e)

grows_then : (a b c : List FedRow) → Grows a b → Grows b c → Grows a c
grows_then a b c x y = (y.0 ++ x.0, y.1 ∙ ap (λ z. y.0 ++ z) x.1 ∙ sym (append_assoc y.0 x.0 a))

fed_then_grows : (lines fed : List FedRow) → Grows fed (fed_then fed lines)
fed_then_grows [] fed = ([], refl)
fed_then_grows (f ∷ lines) fed = grows_then fed (f ∷ fed) (fed_then (f ∷ fed) lines) (f ∷ [], refl) (fed_then_grows lines (f ∷ fed))

feeds_grow : (serving : Serving) (a : Bool) (met : ℕ → Option SimFault) (fed : List FedRow) (s : LinkState) (got : ReadGot) → Grows fed (read_feeds serving a met fed s got)
unfolding read_feeds
feeds_grow serving true met fed s (reads.Bytes piece) = fed_then_grows (came serving met s piece) fed
feeds_grow serving false met fed s (reads.Bytes piece) = grows_same fed fed refl
feeds_grow serving a met fed s reads.Pending = grows_same fed fed refl
feeds_grow serving a met fed s reads.Failed = grows_same fed fed refl

read_grows : (b : Bool) (serving : Serving) (strict : Bool) (others : List LinkState) (fed : List FedRow) (s : LinkState) (made : List LinkCall) (now : List FedRow) (t : LinkState) → ReadIf b serving strict others fed s made now t → Grows fed now
read_grows true serving strict others fed s made now t h = subst (Grows fed) (sym h.fed_now) (feeds_grow serving (admits serving others s.bytes h.got) h.met fed s h.got)
read_grows false serving strict others fed s made now t h = grows_same fed now h.fed_now

reads_grow : (serving : Serving) (strict : Bool) (done : List LinkState) (fed : List FedRow) (ss : List LinkState) (made : List LinkCall) (now : List FedRow) (ts : List LinkState) → Each (ReadStep serving strict) done fed ss made now ts → Grows fed now
reads_grow serving strict done fed [] made now [] h = grows_same fed now h.1
reads_grow serving strict done fed [] made now (t ∷ ts) h = absurd h
reads_grow serving strict done fed (s ∷ ss) made now [] h = absurd h
reads_grow serving strict done fed (s ∷ ss) made now (t ∷ ts) h = grows_then fed h.2 now (read_grows (may_read serving s) serving strict (done ++ ss) fed s h.0 h.2 t h.4) (reads_grow serving strict (done ++ t ∷ []) h.2 ss h.1 now ts h.5)

after_grows : (serving : Serving) (strict : Bool) (shown : Option (List LinkEvent)) (fed : List FedRow) (before : List LinkState) (made : List LinkCall) (now : List FedRow) (last : List LinkState) → AfterPoll serving strict shown fed before made now last → Grows fed now
after_grows serving strict None fed before made now last h = grows_same fed now h.1
after_grows serving strict (Some shown) fed before made now last h = let p = h.5 in reads_grow serving strict [] fed h.2 p.reads now p.read p.each_read

pub turn_grows : (serving : Serving) (strict : Bool) (fed : List FedRow) (before : List LinkState) (r : Turn) → IsTurn serving strict fed before r → Grows fed r.fed
turn_grows serving strict fed before r h = after_grows serving strict r.shown fed before r.made r.fed r.links h

pub fed_grows : (serving : Serving) (strict : Bool) (fed : List FedRow) (before : List LinkState) (rounds : List Turn) → AreTurns serving strict fed before rounds → Grows fed (fed_in fed rounds)
fed_grows serving strict fed before [] h = ([], refl)
fed_grows serving strict fed before (r ∷ rounds) h = grows_then fed r.fed (fed_in r.fed rounds) (turn_grows serving strict fed before r h.0) (fed_grows serving strict r.fed (opened r.links) rounds h.1)

-- what had been fed when this had been fed
pub up_to_then : (now more final : List FedRow) → final ≡ more ++ now → up_to (length now) final ≡ now
up_to_then now more final e =
    let size : length final ≡ length more + length now = ap length e ∙ length-append more now in
    let skip : length final - length now ≡ length more = omega arith in
    ap (λ n. drop n final) skip ∙ ap (drop (length more)) e ∙ drop-append_seam more now

-- ---- by places alone

no_place : (d : Option ℕ) → new_place d d ≡ []
no_place None = refl
no_place (Some p) = let e : (p == p) ≡ true = grind (arith, nat_tests) in rw e refl

at_same : (d : Option ℕ) (p : ℕ) → is_at d p ≡ true → d ≡ Some p
at_same None p e = absurd cc
at_same (Some q) p e = let same : q ≡ p = grind (arith, nat_tests) in ap (λ z. Some z) same

-- the place of a link's last drain is as it was, or is now, where it has a query
abbrev pub IsNext : Option Query → Option ℕ → Option ℕ → List FedRow → Type 0
IsNext query d d2 now = (d2 ≡ d) ⊎ ((d2 ≡ Some (length now)) × (found : Query) × (query ≡ Some found))

-- one turn's part
pub first_part : (serving : Serving) (query last : Option Query) (d d2 : Option ℕ) (now final more : List FedRow) (rest : List (List ℕ)) (ps : List ℕ) → final ≡ more ++ now → IsNext query d d2 now → ((found : Query) → query ≡ Some found → last ≡ Some found) → rest ≡ batches serving last final d2 ps → put serving query d d2 now ++ rest ≡ batches serving last final d (new_place d d2 ++ ps)
first_part serving query last d d2 now final more rest ps g (inl e) same h =
    let P : Option ℕ → Type 0 = λ x. rest ≡ batches serving last final x ps → put serving query d x now ++ rest ≡ batches serving last final d (new_place d x ++ ps) in
    let here : P d = λ i. ap (λ z. z ++ rest) (put_none serving query d now) ∙ i ∙ ap (λ z. batches serving last final d (z ++ ps)) (sym (no_place d)) in
    subst P (sym e) here h
first_part serving query last d d2 now final more rest ps g (inr e) same h =
    let n = length now in
    let asked : query ≡ last = e.2 ∙ sym (same e.1 e.2) in
    let P : Option ℕ → Type 0 = λ x. rest ≡ batches serving last final x ps → put serving query d x now ++ rest ≡ batches serving last final d (new_place d x ++ ps) in
    let here : P (Some n) = λ i. by_test (is_at d n) (put serving query d (Some n) now ++ rest ≡ batches serving last final d (new_place d (Some n) ++ ps))
    (λ y. rw y (i ∙ ap (λ z. batches serving last final z ps) (sym (at_same d n y))))
    (λ y. rw y (ap (λ z. frames_for serving query d z ++ rest) (up_to_all now ∙ sym (up_to_then now more final g)) ∙ ap (λ z. frames_for serving z d (up_to n final) ++ rest) asked ∙ ap (λ z. frames_for serving last d (up_to n final) ++ z) i)) in
    subst P (sym e.0) here h

-- a link that stays open keeps its query
query_stays : (serving : Serving) (strict : Bool) (k : ℕ) (fed : List FedRow) (before : List LinkState) (rounds : List Turn) (s : LinkState) → AreTurns serving strict fed before rounds → Once k before → find k before ≡ Some s → Stays k rounds → (query : Query) → query_of serving s.bytes ≡ Some query → last_query serving k (query_of serving s.bytes) rounds ≡ Some query
query_stays serving strict k fed before [] s h once f n query q = q
query_stays serving strict k fed before (r ∷ rounds) s h once f n query q =
    let one = turned serving strict k fed before r s h.0 n.0 once f in
    let t = one.t in
    let is_open = n.1 t one.found in
    let same : query_of serving t.bytes ≡ Some query = ap (query_of serving) (one.asks is_open query q) ∙ q in
    let rest = query_stays serving strict k r.fed (opened r.links) rounds t h.1 (once_opened k r.links one.once) (find_opened k r.links t one.found is_open) n.2 query same in
    subst (λ x. last_query serving k (query_at serving x) rounds ≡ Some query) (sym one.found) rest

-- a turn that answers nothing
quiet_first : (answers items rest all : List (List ℕ)) → answers ≡ [] → items ++ rest ≡ all → (answers ++ items) ++ rest ≡ all
quiet_first answers items rest all e h = ap (λ z. (z ++ items) ++ rest) e ∙ h

pub by_places : ByPlaces
by_places serving strict k fed before [] s h once f n none = refl
by_places serving strict k fed before (r ∷ rounds) s h once f n none =
    let one = turned serving strict k fed before r s h.0 n.0 once f in
    let t = one.t in
    let is_open = n.1 t one.found in
    let again = once_opened k r.links one.once in
    let there = find_opened k r.links t one.found is_open in
    let rest = by_places serving strict k r.fed (opened r.links) rounds t h.1 again there n.2 none.1 in
    let quiet : answered serving k fed r.fed ≡ [] = sym (added_is serving k fed r.fed one.added one.answers) ∙ one.quiet (none.0 t one.found) in
    let grown = fed_grows serving strict r.fed (opened r.links) rounds h.1 in
    let end = fed_in r.fed rounds in
    let last = last_query serving k (query_of serving t.bytes) rounds in
    let part = first_part serving (query_of serving t.bytes) last s.drained t.drained r.fed end grown.0 (due_items serving k r.fed t.drained rounds) (places k t.drained rounds) grown.1 one.place (λ query q. query_stays serving strict k r.fed (opened r.links) rounds t h.1 again there n.2 query q) rest in
    let P : Option LinkState → Type 0 = λ x. (answered serving k fed r.fed ++ put serving (query_at serving x) s.drained (place_of x) r.fed) ++ due_items serving k r.fed (place_of x) rounds ≡ batches serving (last_query serving k (query_at serving x) rounds) end s.drained (new_place s.drained (place_of x) ++ places k (place_of x) rounds) in
    subst P (sym one.found) (quiet_first (answered serving k fed r.fed) (put serving (query_of serving t.bytes) s.drained t.drained r.fed) (due_items serving k r.fed t.drained rounds) (batches serving last end s.drained (new_place s.drained t.drained ++ places k t.drained rounds)) quiet part)

-- ---- places never go back

pub placed_later : (d : Option ℕ) (fed now : List FedRow) → IsPlaced d fed → Grows fed now → IsPlaced d now
placed_later None fed now h g = tt
placed_later (Some p) fed now h g =
    let size : length now ≡ length g.0 + length fed = ap length g.1 ∙ length-append g.0 fed in
    omega arith

placed_now : (now : List FedRow) → IsPlaced (Some (length now)) now
placed_now now = omega arith

place_before : (d : Option ℕ) (now : List FedRow) → IsPlaced d now → is_at d (length now) ≡ false → IsBefore d (length now)
place_before None now h e = tt
place_before (Some p) now h e = let other : (p == length now) ≡ false = e in grind (arith, nat_tests)

pub first_ascends : (query : Option Query) (d d2 : Option ℕ) (now : List FedRow) (ps : List ℕ) → IsPlaced d now → IsNext query d d2 now → Ascend d2 ps → Ascend d (new_place d d2 ++ ps)
first_ascends query d d2 now ps p (inl e) h =
    let P : Option ℕ → Type 0 = λ x. Ascend x ps → Ascend d (new_place d x ++ ps) in
    let here : P d = λ i. rw (no_place d) i in
    subst P (sym e) here h
first_ascends query d d2 now ps p (inr e) h =
    let n = length now in
    let P : Option ℕ → Type 0 = λ x. Ascend x ps → Ascend d (new_place d x ++ ps) in
    let here : P (Some n) = λ i. by_test (is_at d n) (Ascend d (new_place d (Some n) ++ ps))
    (λ y. rw y (subst (λ x. Ascend x ps) (sym (at_same d n y)) i))
    (λ y. rw y (place_before d now p y, i)) in
    subst P (sym e.0) here h

pub next_placed : (query : Option Query) (d d2 : Option ℕ) (now : List FedRow) → IsPlaced d now → IsNext query d d2 now → IsPlaced d2 now
next_placed query d d2 now p (inl e) = subst (λ x. IsPlaced x now) (sym e) p
next_placed query d d2 now p (inr e) = subst (λ x. IsPlaced x now) (sym e.0) (placed_now now)

pub places_ascend : PlacesAscend
places_ascend serving strict k fed before [] s h once f n p = tt
places_ascend serving strict k fed before (r ∷ rounds) s h once f n p =
    let one = turned serving strict k fed before r s h.0 n.0 once f in
    let t = one.t in
    let is_open = n.1 t one.found in
    let placed = placed_later s.drained fed r.fed p (turn_grows serving strict fed before r h.0) in
    let query = query_of serving t.bytes in
    let rest = places_ascend serving strict k r.fed (opened r.links) rounds t h.1 (once_opened k r.links one.once) (find_opened k r.links t one.found is_open) n.2 (next_placed query s.drained t.drained r.fed placed one.place) in
    let P : Option LinkState → Type 0 = λ x. Ascend s.drained (new_place s.drained (place_of x) ++ places k (place_of x) rounds) in
    subst P (sym one.found) (first_ascends query s.drained t.drained r.fed (places k t.drained rounds) placed one.place rest)
