-- What a link is due in the passes of a turn.
use Rattle.std.proofs.Common.{Ok, Err, ◌≡◌, ℕ, zero, suc, ◌+◌, ◌-◌, ◌≤◌, ◌<◌, ◌==◌, Bool, true, false, not, if◌then◌else◌, List, [], ◌∷◌, ◌++◌, length, take, drop, Option, Some, None, nat_lt, inl, inr, ◌⊎◌, Result, refl, sym, ap, subst, ◌∙◌, append_assoc, arith}
use Rattle.std.specs.Prelude.{◌&&◌, ◌||◌, is_ok, nat_le}
use Rattle.std.specs.List.{concat}
use Rattle.std.proofs.lemmas.List.{append-nil, take-append-drop}
use Rattle.std.proofs.lemmas.List.Concat.{flat_map-cons, concat_is}
use Rattle.std.proofs.lemmas.Grind.{flat_map-append}
use Rattle.std.proofs.lemmas.Bool.{and_parts}
use Rattle.std.proofs.lemmas.Bool.Decides.{nat_tests}
use Rattle.line_run.specs.Rows.{Row}
use Rattle.mesh_links.specs.declared.call.LinkCall.{LinkCall}
use Rattle.mesh_links.specs.declared.call.LinkCall.TheVariants as calls
use Rattle.mesh_links.specs.declared.call.ReadGot.{ReadGot}
use Rattle.mesh_links.specs.declared.call.ReadGot.TheVariants as reads
use Rattle.mesh_links.specs.declared.call.WriteGot.{WriteGot}
use Rattle.mesh_links.specs.declared.call.WriteGot.TheVariants as writes
use Rattle.view_types.specs.declared.query.Query.{Query}
use Rattle.request_sim.specs.declared.fault.SimFault.{SimFault}
use Rattle.session_core.specs.Phases.{Phase, is_feeding, query_in}
use Rattle.session_core.specs.declared.session.SessionFault.{SessionFault}
use Rattle.session_core.proofs.PhaseLaws.{asked_once}
use Rattle.session_core.specs.Outboxes.{head, wrote}
use Rattle.serve_rules.specs.FedLines.{FedRow, answer_to, up_to}
use Rattle.serve_rules.specs.Batches.{Serving, frames_due, is_touched_since, is_due_since}
use Rattle.serve_rules.specs.LinkStates.{LinkState, is_feed, is_empty, phase_in, query_of, goes_on, rows_by, fed_rows, came, fed_then, answers_then, turned_away, may_read, admits, read_to, read_feeds, is_due_for, may_drain, filled, filled_for, drain_to, may_write, write_to, closing, closed}
use Rattle.serve_rules.specs.Turns.{room, Step, Each, ReadIf, ReadStep, DrainStep, Writes, WriteIf, WriteStep, StopStep}
use Rattle.serve_rules.specs.Due.{took_of, written_by, written, find, Absent, Once, answers_of, is_at, frames_or_none, put}
use Rattle.serve_rules.proofs.Steps.{read_number, none_came, drain_keeps, write_keeps, stop_keeps}
use Rattle.serve_rules.proofs.LinksLeftOut.{by_test}

-- ---- what can't be

closed_open : (let no_bit : Bool = false in no_bit) ≡ true → ⊥
closed_open h = cc

not_both : (b : Bool) → b ≡ true → b ≡ false → ⊥
not_both b h k = cc

take_none : (n : ℕ) → take n (let none : List ℕ = [] in none) ++ [] ≡ []
take_none zero = refl
take_none (suc n) = refl

drop_past : (n : ℕ) (xs : List ℕ) → nat_lt n (length xs) ≡ false → drop n xs ≡ []
drop_past zero [] h = refl
drop_past (suc n) [] h = refl
drop_past zero (x ∷ xs) h = absurd (grind (arith, nat_tests))
drop_past (suc n) (x ∷ xs) h = let less : nat_lt n (length xs) ≡ false = grind (arith, nat_tests) in drop_past n xs less

-- ---- what calls write

pub written-append : (k : ℕ) (xs ys : List LinkCall) → written k (xs ++ ys) ≡ written k xs ++ written k ys
written-append k xs ys = flat_map-append (written_by k) xs ys

pub written-cons : (k : ℕ) (c : LinkCall) (cs : List LinkCall) → written k (c ∷ cs) ≡ written_by k c ++ written k cs
written-cons k c cs = flat_map-cons (written_by k) c cs

pub close_writes : (k : ℕ) (s t : LinkState) → written k (closing s t) ≡ []
close_writes k s t =
    let P : Bool → Type 0 = λ b. written k (if b then calls.Close s.number ∷ [] else []) ≡ [] in
    let at : (b : Bool) → P b = λ b. elim b as P [ true ↦ written-cons k (calls.Close s.number) [] | false ↦ refl ] in
    at (s.is_open && not t.is_open)

-- ---- one pass, for one link

-- What a pass does to the link k is told by what was fed before it, the link, what was written on it, what was fed after it, and the link
-- after it.
abbrev pub Told : Type 1
Told = List FedRow → LinkState → List ℕ → List FedRow → LinkState → Type 0

pub record Tells (k : ℕ) (step : Step) (L : Told) : Type 0 where
  pub number : (others : List LinkState) (fed : List FedRow) (s : LinkState) (made : List LinkCall) (now : List FedRow) (t : LinkState) → step others fed s made now t → t.number ≡ s.number
  pub silent : (others : List LinkState) (fed : List FedRow) (s : LinkState) (made : List LinkCall) (now : List FedRow) (t : LinkState) → step others fed s made now t → (s.number == k) ≡ false → written k made ≡ []
  -- steps of other links before it and after it don't matter
  pub before : (others : List LinkState) (fed : List FedRow) (s : LinkState) (made : List LinkCall) (now : List FedRow) (t : LinkState) → step others fed s made now t → (s.number == k) ≡ false → (x : LinkState) (w : List ℕ) (end : List FedRow) (y : LinkState) → L now x w end y → L fed x w end y
  pub behind : (others : List LinkState) (fed : List FedRow) (s : LinkState) (made : List LinkCall) (now : List FedRow) (t : LinkState) → step others fed s made now t → (s.number == k) ≡ false → (start : List FedRow) (x : LinkState) (w : List ℕ) (y : LinkState) → L start x w fed y → L start x w now y
  pub one : (others : List LinkState) (fed : List FedRow) (s : LinkState) (made : List LinkCall) (now : List FedRow) (t : LinkState) → step others fed s made now t → (s.number == k) ≡ true → L fed s (written k made) now t

-- a pass over other links
pub record Apart (k : ℕ) (L : Told) (fed : List FedRow) (made : List LinkCall) (now : List FedRow) (ts : List LinkState) : Type 0 where
  pub silent : written k made ≡ []
  pub absent : Absent k ts
  pub behind : (start : List FedRow) (x : LinkState) (w : List ℕ) (y : LinkState) → L start x w fed y → L start x w now y

pub each_apart : (k : ℕ) (step : Step) (L : Told) → Tells k step L → (done : List LinkState) (fed : List FedRow) (ss : List LinkState) (made : List LinkCall) (now : List FedRow) (ts : List LinkState) → Each step done fed ss made now ts → Absent k ss → Apart k L fed made now ts
each_apart k step L f done fed [] made now [] h a = record { silent = ap (written k) h.0; absent = tt; behind = λ start x w y l. subst (λ z. L start x w z y) (sym h.1) l }
each_apart k step L f done fed [] made now (t ∷ ts) h a = absurd h
each_apart k step L f done fed (s ∷ ss) made now [] h a = absurd h
each_apart k step L f done fed (s ∷ ss) made now (t ∷ ts) h a =
    let rest = each_apart k step L f (done ++ t ∷ []) h.2 ss h.1 now ts h.5 a.1 in
    let none = f.silent (done ++ ss) fed s h.0 h.2 t h.4 a.0 in
    let n = f.number (done ++ ss) fed s h.0 h.2 t h.4 in
    record {
      silent = ap (written k) h.3 ∙ written-append k h.0 h.1 ∙ ap (λ z. z ++ written k h.1) none ∙ rest.silent;
      absent = (ap (λ m. m == k) n ∙ a.0, rest.absent);
      behind = λ start x w y l. rest.behind start x w y (f.behind (done ++ ss) fed s h.0 h.2 t h.4 a.0 start x w y l);
    }

pub each_once : (k : ℕ) (step : Step) (L : Told) → Tells k step L → (done : List LinkState) (fed : List FedRow) (ss : List LinkState) (made : List LinkCall) (now : List FedRow) (ts : List LinkState) → Each step done fed ss made now ts → Once k ss → Once k ts
each_once k step L f done fed [] made now [] h a = tt
each_once k step L f done fed [] made now (t ∷ ts) h a = absurd h
each_once k step L f done fed (s ∷ ss) made now [] h a = absurd h
each_once k step L f done fed (s ∷ ss) made now (t ∷ ts) h a =
    let n = f.number (done ++ ss) fed s h.0 h.2 t h.4 in
    ((λ e. (each_apart k step L f (done ++ t ∷ []) h.2 ss h.1 now ts h.5 (a.0 (sym (ap (λ m. m == k) n) ∙ e))).absent), each_once k step L f (done ++ t ∷ []) h.2 ss h.1 now ts h.5 a.1)

pub find-in : (k : ℕ) (s : LinkState) (ss : List LinkState) → (s.number == k) ≡ true → find k (s ∷ ss) ≡ Some s
find-in k s ss e = rw e refl

pub find-out : (k : ℕ) (s : LinkState) (ss : List LinkState) → (s.number == k) ≡ false → find k (s ∷ ss) ≡ find k ss
find-out k s ss e = rw e refl

pub same_some : (x y : LinkState) → Some x ≡ Some y → x ≡ y
same_some x y h = cc

-- what a pass does to the link k
pub record Found (k : ℕ) (L : Told) (fed : List FedRow) (s : LinkState) (made : List LinkCall) (now : List FedRow) (ts : List LinkState) : Type 0 where
  pub t : LinkState
  pub found : find k ts ≡ Some t
  pub told : L fed s (written k made) now t

pub each_find : (k : ℕ) (step : Step) (L : Told) → Tells k step L → (done : List LinkState) (fed : List FedRow) (ss : List LinkState) (made : List LinkCall) (now : List FedRow) (ts : List LinkState) (s : LinkState) → Each step done fed ss made now ts → Once k ss → find k ss ≡ Some s → Found k L fed s made now ts
each_find k step L f done fed [] made now ts s h a e = absurd cc
each_find k step L f done fed (x ∷ ss) made now [] s h a e = absurd h
each_find k step L f done fed (x ∷ ss) made now (y ∷ ts) s h a e =
    let n = f.number (done ++ ss) fed x h.0 h.2 y h.4 in
    let split : written k made ≡ written k h.0 ++ written k h.1 = ap (written k) h.3 ∙ written-append k h.0 h.1 in
    by_test (x.number == k) (Found k L fed s made now (y ∷ ts))
    (λ i.
    let there = ap (λ m. m == k) n ∙ i in
    let rest = each_apart k step L f (done ++ y ∷ []) h.2 ss h.1 now ts h.5 (a.0 i) in
    let all : written k h.0 ≡ written k made = sym (split ∙ ap (λ z. written k h.0 ++ z) rest.silent ∙ append-nil (written k h.0)) in
    let is : x ≡ s = same_some x s (sym (find-in k x ss i) ∙ e) in
    let here : L fed x (written k h.0) now y = rest.behind fed x (written k h.0) y (f.one (done ++ ss) fed x h.0 h.2 y h.4 i) in
    record { t = y; found = find-in k y ts there; told = subst (λ z. L fed z (written k made) now y) is (subst (λ z. L fed x z now y) all here) })
    (λ i.
    let there = ap (λ m. m == k) n ∙ i in
    let none = f.silent (done ++ ss) fed x h.0 h.2 y h.4 i in
    let rest = each_find k step L f (done ++ y ∷ []) h.2 ss h.1 now ts s h.5 a.1 (sym (find-out k x ss i) ∙ e) in
    let all : written k h.1 ≡ written k made = sym (split ∙ ap (λ z. z ++ written k h.1) none) in
    record { t = rest.t; found = find-out k y ts there ∙ rest.found; told = subst (λ z. L fed s z now rest.t) all (f.before (done ++ ss) fed x h.0 h.2 y h.4 i s (written k h.1) now rest.t rest.told) })

-- ---- the lines of a link among what is fed

apart_fed : (serving : Serving) (k : ℕ) (link : ℕ) (met : ℕ → Option SimFault) (rows : List Row) (before : ℕ) (fed : List FedRow) → (link == k) ≡ false → answers_of serving k (fed_then fed (fed_rows link met before rows)) ≡ answers_of serving k fed
apart_fed serving k link met [] before fed e = refl
apart_fed serving k link met (row ∷ rows) before fed e =
    let f : FedRow = record { link = link; number = before + 1; row = (row, met (before + 1)) } in
    let one : answers_of serving k (f ∷ fed) ≡ answers_of serving k fed = rw e (append-nil (answers_of serving k fed)) in
    apart_fed serving k link met rows (before + 1) (f ∷ fed) e ∙ one

own_fed : (serving : Serving) (k : ℕ) (link : ℕ) (met : ℕ → Option SimFault) (rows : List Row) (before : ℕ) (fed : List FedRow) → (link == k) ≡ true → answers_of serving k (fed_then fed (fed_rows link met before rows)) ≡ answers_of serving k fed ++ answers_then serving fed (fed_rows link met before rows)
own_fed serving k link met [] before fed e = sym (append-nil (answers_of serving k fed))
own_fed serving k link met (row ∷ rows) before fed e =
    let f : FedRow = record { link = link; number = before + 1; row = (row, met (before + 1)) } in
    let more = fed_rows link met (before + 1) rows in
    let one : answers_of serving k (f ∷ fed) ≡ answers_of serving k fed ++ answer_to serving.program fed f = rw e refl in
    own_fed serving k link met rows (before + 1) (f ∷ fed) e ∙ ap (λ z. z ++ answers_then serving (f ∷ fed) more) one ∙ append_assoc (answers_of serving k fed) (answer_to serving.program fed f) (answers_then serving (f ∷ fed) more)

came_apart : (serving : Serving) (k : ℕ) (met : ℕ → Option SimFault) (fed : List FedRow) (s : LinkState) (piece : List ℕ) → (s.number == k) ≡ false → answers_of serving k (fed_then fed (came serving met s piece)) ≡ answers_of serving k fed
unfolding came
came_apart serving k met fed s piece e = let before = length (rows_by serving false s.bytes) in apart_fed serving k s.number met (drop before (rows_by serving (is_empty piece) (s.bytes ++ piece))) before fed e

came_own : (serving : Serving) (k : ℕ) (met : ℕ → Option SimFault) (fed : List FedRow) (s : LinkState) (piece : List ℕ) → (s.number == k) ≡ true → answers_of serving k (fed_then fed (came serving met s piece)) ≡ answers_of serving k fed ++ answers_then serving fed (came serving met s piece)
unfolding came
came_own serving k met fed s piece e = let before = length (rows_by serving false s.bytes) in own_fed serving k s.number met (drop before (rows_by serving (is_empty piece) (s.bytes ++ piece))) before fed e

-- ---- reads

-- the bytes have this query, or none any more
abbrev pub KeepsQuery : Serving → Query → List ℕ → Type 0
KeepsQuery serving query bytes = (query_of serving bytes ≡ Some query) ⊎ (query_of serving bytes ≡ None)

-- what a read brings: answers, and nothing is written
pub record Answered (serving : Serving) (k : ℕ) (fed : List FedRow) (s : LinkState) (w : List ℕ) (now : List FedRow) (t : LinkState) : Type 0 where
  pub added : List (List ℕ)
  pub silent : w ≡ []
  pub answers : answers_of serving k now ≡ answers_of serving k fed ++ added
  pub outbox : t.outbox ≡ s.outbox ++ added
  pub drained : t.drained ≡ s.drained
  -- none to what is no feed
  pub quiet : is_feed serving t.bytes ≡ false → added ≡ []
  pub opens : t.is_open ≡ true → s.is_open ≡ true
  -- and a request that reads stays
  pub asks : t.is_open ≡ true → (query : Query) → query_of serving s.bytes ≡ Some query → t.bytes ≡ s.bytes
  -- or a fault follows it
  pub keeps : (query : Query) → query_of serving s.bytes ≡ Some query → KeepsQuery serving query t.bytes

reads_apart : (serving : Serving) (k : ℕ) (a : Bool) (met : ℕ → Option SimFault) (fed : List FedRow) (s : LinkState) (got : ReadGot) → (s.number == k) ≡ false → answers_of serving k (read_feeds serving a met fed s got) ≡ answers_of serving k fed
unfolding read_feeds
reads_apart serving k true met fed s (reads.Bytes piece) e = came_apart serving k met fed s piece e
reads_apart serving k false met fed s (reads.Bytes piece) e = refl
reads_apart serving k a met fed s reads.Pending e = refl
reads_apart serving k a met fed s reads.Failed e = refl

-- nothing is added
pub unchanged : (serving : Serving) (k : ℕ) (fed : List FedRow) (s t : LinkState) → t.outbox ≡ s.outbox → t.drained ≡ s.drained → (t.is_open ≡ true → s.is_open ≡ true) → (t.is_open ≡ true → (query : Query) → query_of serving s.bytes ≡ Some query → t.bytes ≡ s.bytes) → ((query : Query) → query_of serving s.bytes ≡ Some query → KeepsQuery serving query t.bytes) → Answered serving k fed s [] fed t
unchanged serving k fed s t o d i q kq = record { added = []; silent = refl; answers = sym (append-nil (answers_of serving k fed)); outbox = o ∙ sym (append-nil s.outbox); drained = d; quiet = λ e. refl; opens = i; asks = q; keeps = kq }

no_query : (phase : Result Phase SessionFault) → is_ok phase ≡ false → query_in phase ≡ None
no_query (Ok phase) h = absurd cc
no_query (Err fault) h = refl

-- whatever comes behind a request
keeps_query : (serving : Serving) (bytes piece : List ℕ) (query : Query) → query_of serving bytes ≡ Some query → KeepsQuery serving query (bytes ++ piece)
keeps_query serving bytes [] query q = inl (ap (query_of serving) (append-nil bytes) ∙ q)
keeps_query serving bytes (byte ∷ piece) query q = inr (no_query (phase_in serving (bytes ++ byte ∷ piece)) (asked_once serving.program.config serving.program.limits bytes byte piece query q))

going_parts : (phase : Result Phase SessionFault) (ended : Bool) (outbox : List (List ℕ)) → goes_on phase ended outbox ≡ true → (is_ok phase ≡ true) × ((not ended || (is_feeding phase && not (is_empty outbox))) ≡ true)
going_parts phase ended outbox h = and_parts _ _ h

-- a link with a request that hears anything is closed
pub still_asks : (serving : Serving) (bytes piece : List ℕ) (outbox : List (List ℕ)) (query : Query) → query_of serving bytes ≡ Some query → goes_on (phase_in serving (bytes ++ piece)) (is_empty piece) outbox ≡ true → bytes ++ piece ≡ bytes
still_asks serving bytes [] outbox query q g = append-nil bytes
still_asks serving bytes (byte ∷ piece) outbox query q g =
    let bad : is_ok (phase_in serving (bytes ++ byte ∷ piece)) ≡ false = asked_once serving.program.config serving.program.limits bytes byte piece query q in
    let parts = going_parts (phase_in serving (bytes ++ byte ∷ piece)) false outbox g in
    absurd (not_both _ parts.0 bad)

-- the link is open before a read of its bytes, since it is read
read_answered : (serving : Serving) (k : ℕ) (a : Bool) (met : ℕ → Option SimFault) (fed : List FedRow) (s : LinkState) (got : ReadGot) → s.is_open ≡ true → (s.number == k) ≡ true → Answered serving k fed s [] (read_feeds serving a met fed s got) (read_to serving a met fed s got)
unfolding read_to read_feeds
read_answered serving k true met fed s (reads.Bytes piece) i e = record {
  added = answers_then serving fed (came serving met s piece);
  silent = refl;
  answers = came_own serving k met fed s piece e;
  outbox = refl;
  drained = refl;
  quiet = λ n. ap (answers_then serving fed) (none_came serving met s piece n);
  opens = λ g. i;
  asks = λ g query q. still_asks serving s.bytes piece (s.outbox ++ answers_then serving fed (came serving met s piece)) query q g;
  keeps = λ query q. keeps_query serving s.bytes piece query q;
}
read_answered serving k false met fed s (reads.Bytes piece) i e = unchanged serving k fed s (turned_away s piece) refl refl (λ g. i) (λ g query q. absurd (closed_open g)) (λ query q. keeps_query serving s.bytes piece query q)
read_answered serving k a met fed s reads.Pending i e = unchanged serving k fed s (record s { readable = false }) refl refl (λ g. g) (λ g query q. refl) (λ query q. inl q)
read_answered serving k a met fed s reads.Failed i e = unchanged serving k fed s (closed s) refl refl (λ g. i) (λ g query q. refl) (λ query q. inl q)

read_writes : (k : ℕ) (b : Bool) (serving : Serving) (strict : Bool) (others : List LinkState) (fed : List FedRow) (s : LinkState) (made : List LinkCall) (now : List FedRow) (t : LinkState) → ReadIf b serving strict others fed s made now t → written k made ≡ []
read_writes k true serving strict others fed s made now t h = ap (written k) h.calls ∙ written-cons k (calls.Read s.number room h.got) (closing s t) ∙ close_writes k s t
read_writes k false serving strict others fed s made now t h = ap (written k) h.calls

read_apart : (k : ℕ) (b : Bool) (serving : Serving) (strict : Bool) (others : List LinkState) (fed : List FedRow) (s : LinkState) (made : List LinkCall) (now : List FedRow) (t : LinkState) → ReadIf b serving strict others fed s made now t → (s.number == k) ≡ false → answers_of serving k now ≡ answers_of serving k fed
read_apart k true serving strict others fed s made now t h e = ap (answers_of serving k) h.fed_now ∙ reads_apart serving k (admits serving others s.bytes h.got) h.met fed s h.got e
read_apart k false serving strict others fed s made now t h e = ap (answers_of serving k) h.fed_now

read_same : (b : Bool) (serving : Serving) (strict : Bool) (others : List LinkState) (fed : List FedRow) (s : LinkState) (made : List LinkCall) (now : List FedRow) (t : LinkState) → ReadIf b serving strict others fed s made now t → t.number ≡ s.number
read_same true serving strict others fed s made now t h = ap (λ x. x.number) h.link ∙ read_number serving (admits serving others s.bytes h.got) h.met fed s h.got
read_same false serving strict others fed s made now t h = ap (λ x. x.number) h.link

read_one : (k : ℕ) (b : Bool) (serving : Serving) (strict : Bool) (others : List LinkState) (fed : List FedRow) (s : LinkState) (made : List LinkCall) (now : List FedRow) (t : LinkState) → (b ≡ true → s.is_open ≡ true) → ReadIf b serving strict others fed s made now t → (s.number == k) ≡ true → Answered serving k fed s [] now t
read_one k true serving strict others fed s made now t i h e =
    let a = admits serving others s.bytes h.got in
    subst (λ z. Answered serving k fed s [] now z) (sym h.link) (subst (λ z. Answered serving k fed s [] z (read_to serving a h.met fed s h.got)) (sym h.fed_now) (read_answered serving k a h.met fed s h.got (i refl) e))
read_one k false serving strict others fed s made now t i h e =
    subst (λ z. Answered serving k fed s [] now z) (sym h.link) (subst (λ z. Answered serving k fed s [] z s) (sym h.fed_now) (unchanged serving k fed s s refl refl (λ g. g) (λ g query q. refl) (λ query q. inl q)))

answered_before : (serving : Serving) (k : ℕ) (fed now end : List FedRow) (x y : LinkState) (w : List ℕ) → answers_of serving k now ≡ answers_of serving k fed → Answered serving k now x w end y → Answered serving k fed x w end y
answered_before serving k fed now end x y w e l = record { added = l.added; silent = l.silent; answers = l.answers ∙ ap (λ z. z ++ l.added) e; outbox = l.outbox; drained = l.drained; quiet = l.quiet; opens = l.opens; asks = l.asks; keeps = l.keeps }

answered_behind : (serving : Serving) (k : ℕ) (start fed now : List FedRow) (x y : LinkState) (w : List ℕ) → answers_of serving k now ≡ answers_of serving k fed → Answered serving k start x w fed y → Answered serving k start x w now y
answered_behind serving k start fed now x y w e l = record { added = l.added; silent = l.silent; answers = e ∙ l.answers; outbox = l.outbox; drained = l.drained; quiet = l.quiet; opens = l.opens; asks = l.asks; keeps = l.keeps }

pub tells_read : (serving : Serving) (strict : Bool) (k : ℕ) → Tells k (ReadStep serving strict) (Answered serving k)
tells_read serving strict k = record {
  number = λ others fed s made now t h. read_same (may_read serving s) serving strict others fed s made now t h;
  silent = λ others fed s made now t h e. read_writes k (may_read serving s) serving strict others fed s made now t h;
  before = λ others fed s made now t h e x w end y l. answered_before serving k fed now end x y w (read_apart k (may_read serving s) serving strict others fed s made now t h e) l;
  behind = λ others fed s made now t h e start x w y l. answered_behind serving k start fed now x y w (read_apart k (may_read serving s) serving strict others fed s made now t h e) l;
  one = λ others fed s made now t h e.
      let none = read_writes k (may_read serving s) serving strict others fed s made now t h in
      subst (λ z. Answered serving k fed s z now t) (sym none) (read_one k (may_read serving s) serving strict others fed s made now t (λ m. (and_parts _ _ m).0) h e);
}

-- ---- drains

-- what a drain puts into the outbox
pub record Filled (serving : Serving) (fed : List FedRow) (s : LinkState) (w : List ℕ) (now : List FedRow) (t : LinkState) : Type 0 where
  pub silent : w ≡ []
  pub bytes : t.bytes ≡ s.bytes
  pub outbox : t.outbox ≡ s.outbox ++ put serving (query_of serving s.bytes) s.drained t.drained fed
  pub place : (t.drained ≡ s.drained) ⊎ ((t.drained ≡ Some (length fed)) × (query : Query) × (query_of serving s.bytes ≡ Some query))
  pub opens : t.is_open ≡ true → s.is_open ≡ true

pub put_none : (serving : Serving) (query : Option Query) (d : Option ℕ) (fed : List FedRow) → put serving query d d fed ≡ []
put_none serving query None fed = refl
put_none serving query (Some p) fed = let e : (p == p) ≡ true = grind (arith, nat_tests) in rw e refl

pub empty_is : (xs : List (List ℕ)) → is_empty xs ≡ true → xs ≡ []
empty_is [] h = refl
empty_is (x ∷ xs) h = absurd cc

touched_less : (serving : Serving) (query : Query) (place : ℕ) (fed : List FedRow) → is_touched_since serving query place fed ≡ true → place < length fed
touched_less serving query place [] h = absurd cc
touched_less serving query place (f ∷ past) h =
    let parts = and_parts _ _ h in
    let here : nat_le place (length past) ≡ true = parts.0 in
    let there : place ≤ length past = grind (arith, nat_tests) in
    omega arith

due_no_place : (serving : Serving) (query : Query) (d : Option ℕ) (fed : List FedRow) → is_due_since serving query d fed ≡ true → is_at d (length fed) ≡ false
due_no_place serving query None fed h = refl
due_no_place serving query (Some p) fed h = let less = touched_less serving query p fed h in grind (arith, nat_tests)

pub up_to_all : (fed : List FedRow) → up_to (length fed) fed ≡ fed
up_to_all fed = let none : length fed - length fed ≡ 0 = omega arith in ap (λ n. drop n fed) none

put_now : (serving : Serving) (query : Query) (d : Option ℕ) (fed : List FedRow) → is_at d (length fed) ≡ false → put serving (Some query) d (Some (length fed)) fed ≡ frames_or_none (frames_due serving.program query d fed)
put_now serving query d fed e = rw e (ap (λ z. frames_or_none (frames_due serving.program query d z)) (up_to_all fed))

-- a link that stays as it is
stays_filled : (serving : Serving) (fed : List FedRow) (s t : LinkState) → t.bytes ≡ s.bytes → t.outbox ≡ s.outbox → t.drained ≡ s.drained → (t.is_open ≡ true → s.is_open ≡ true) → Filled serving fed s [] fed t
stays_filled serving fed s t b o d i =
    let none : put serving (query_of serving s.bytes) s.drained t.drained fed ≡ [] = ap (λ z. put serving (query_of serving s.bytes) s.drained z fed) d ∙ put_none serving (query_of serving s.bytes) s.drained fed in
    record { silent = refl; bytes = b; outbox = o ∙ sym (append-nil s.outbox) ∙ ap (λ z. s.outbox ++ z) (sym none); place = inl d; opens = i }

filled_by : (serving : Serving) (fed : List FedRow) (s : LinkState) (query : Query) (frames : Option (List (List ℕ))) → s.outbox ≡ [] → s.is_open ≡ true → query_of serving s.bytes ≡ Some query → is_at s.drained (length fed) ≡ false → frames_due serving.program query s.drained fed ≡ frames → Filled serving fed s [] fed (filled fed s frames)
filled_by serving fed s query None o i q at is = stays_filled serving fed s (closed s) refl refl refl (λ g. i)
filled_by serving fed s query (Some frames) o i q at is =
    let there : put serving (query_of serving s.bytes) s.drained (Some (length fed)) fed ≡ frames = ap (λ z. put serving z s.drained (Some (length fed)) fed) q ∙ put_now serving query s.drained fed at ∙ ap frames_or_none is in
    record { silent = refl; bytes = refl; outbox = sym there ∙ ap (λ z. z ++ put serving (query_of serving s.bytes) s.drained (Some (length fed)) fed) (sym o); place = inr (refl, query, q); opens = λ g. i }

filled_as : (serving : Serving) (fed : List FedRow) (s : LinkState) (query : Option Query) → query_of serving s.bytes ≡ query → s.outbox ≡ [] → s.is_open ≡ true → is_due_for serving fed s.drained query ≡ true → Filled serving fed s [] fed (filled_for serving fed s query)
filled_as serving fed s None q o i d = absurd cc
filled_as serving fed s (Some query) q o i d = filled_by serving fed s query (frames_due serving.program query s.drained fed) o i q (due_no_place serving query s.drained fed d) refl

drain_filled : (serving : Serving) (fed : List FedRow) (s : LinkState) → Filled serving fed s [] fed (drain_to serving fed s)
unfolding drain_to
drain_filled serving fed s =
    by_test (may_drain serving fed s) (Filled serving fed s [] fed (if may_drain serving fed s then filled_for serving fed s (query_of serving s.bytes) else s))
    (λ m.
    let open_and = and_parts _ _ m in
    let writable_and = and_parts _ _ open_and.1 in
    let empty_and = and_parts _ _ writable_and.1 in
    rw m (filled_as serving fed s (query_of serving s.bytes) refl (empty_is s.outbox empty_and.0) open_and.0 empty_and.1))
    (λ m. rw m (stays_filled serving fed s s refl refl refl (λ g. g)))

pub tells_drain : (serving : Serving) (k : ℕ) → Tells k (DrainStep serving) (Filled serving)
tells_drain serving k = record {
  number = λ others fed s made now t h. ap (λ x. x.number) h.link ∙ (drain_keeps serving fed s).number;
  silent = λ others fed s made now t h e. ap (written k) h.calls ∙ close_writes k s t;
  before = λ others fed s made now t h e x w end y l. subst (λ z. Filled serving z x w end y) h.fed_now l;
  behind = λ others fed s made now t h e start x w y l. subst (λ z. Filled serving start x w z y) (sym h.fed_now) l;
  one = λ others fed s made now t h e.
      let none : written k made ≡ [] = ap (written k) h.calls ∙ close_writes k s t in
      let here : Filled serving fed s [] fed t = subst (λ z. Filled serving fed s [] fed z) (sym h.link) (drain_filled serving fed s) in
      subst (λ z. Filled serving fed s z now t) (sym none) (subst (λ z. Filled serving fed s [] z t) (sym h.fed_now) here);
}

-- ---- writes and stops

-- what is written is taken from the front of the outbox
pub record Emptied (s : LinkState) (w : List ℕ) (t : LinkState) : Type 0 where
  pub bytes : t.bytes ≡ s.bytes
  pub outbox : w ++ concat t.outbox ≡ concat s.outbox
  pub drained : t.drained ≡ s.drained
  pub opens : t.is_open ≡ true → s.is_open ≡ true

pub concat-cons : (xs : List ℕ) (xss : List (List ℕ)) → concat (xs ∷ xss) ≡ xs ++ concat xss
concat-cons xs xss = concat_is (xs ∷ xss) ∙ flat_map-cons (λ x. x) xs xss ∙ ap (λ z. xs ++ z) (sym (concat_is xss))

take-all : (n : ℕ) (xs : List ℕ) → nat_lt n (length xs) ≡ false → take n xs ≡ xs
take-all n xs e =
    let none : drop n xs ≡ [] = drop_past n xs e in
    sym (append-nil (take n xs)) ∙ ap (λ z. take n xs ++ z) (sym none) ∙ take-append-drop n xs

-- what was taken and what is left
pub took_back : (n : ℕ) (outbox : List (List ℕ)) → take n (head outbox) ++ concat (wrote n outbox) ≡ concat outbox
took_back n [] = take_none n
took_back n (item ∷ items) =
    by_test (nat_lt n (length item)) (take n item ++ concat (if nat_lt n (length item) then drop n item ∷ items else items) ≡ concat (item ∷ items))
    (λ e. rw e (ap (λ z. take n item ++ z) (concat-cons (drop n item) items) ∙ sym (append_assoc (take n item) (drop n item) (concat items)) ∙ ap (λ z. z ++ concat items) (take-append-drop n item) ∙ sym (concat-cons item items)))
    (λ e. rw e (ap (λ z. z ++ concat items) (take-all n item e) ∙ sym (concat-cons item items)))

got_back : (serving : Serving) (s : LinkState) (got : WriteGot) → s.is_open ≡ true → Emptied s (took_of got (head s.outbox)) (write_to serving s got)
unfolding write_to
got_back serving s (writes.Took n) i = record { bytes = refl; outbox = took_back n s.outbox; drained = refl; opens = λ g. i }
got_back serving s writes.Pending i = record { bytes = refl; outbox = refl; drained = refl; opens = λ g. g }
got_back serving s writes.Failed i = record { bytes = refl; outbox = refl; drained = refl; opens = λ g. i }

write_list : (k : ℕ) (serving : Serving) (fed : List FedRow) (s : LinkState) (made : List LinkCall) (now : List FedRow) (t : LinkState) (h : Writes serving fed s made now t) → written k made ≡ (if s.number == k then took_of h.got (head s.outbox) else [])
write_list k serving fed s made now t h =
    let one = if s.number == k then took_of h.got (head s.outbox) else [] in
    ap (written k) h.calls ∙ written-cons k (calls.Write s.number (head s.outbox) h.got) (closing s t) ∙ ap (λ z. one ++ z) (close_writes k s t) ∙ append-nil one

write_silent : (k : ℕ) (b : Bool) (serving : Serving) (others : List LinkState) (fed : List FedRow) (s : LinkState) (made : List LinkCall) (now : List FedRow) (t : LinkState) → WriteIf b serving others fed s made now t → (s.number == k) ≡ false → written k made ≡ []
write_silent k true serving others fed s made now t h e = write_list k serving fed s made now t h ∙ rw e refl
write_silent k false serving others fed s made now t h e = ap (written k) h.calls

write_one : (k : ℕ) (b : Bool) (serving : Serving) (others : List LinkState) (fed : List FedRow) (s : LinkState) (made : List LinkCall) (now : List FedRow) (t : LinkState) → (b ≡ true → s.is_open ≡ true) → WriteIf b serving others fed s made now t → (s.number == k) ≡ true → Emptied s (written k made) t
write_one k true serving others fed s made now t i h e =
    let list : written k made ≡ took_of h.got (head s.outbox) = write_list k serving fed s made now t h ∙ rw e refl in
    subst (λ z. Emptied s (written k made) z) (sym h.link) (subst (λ z. Emptied s z (write_to serving s h.got)) (sym list) (got_back serving s h.got (i refl)))
write_one k false serving others fed s made now t i h e =
    let none : written k made ≡ [] = ap (written k) h.calls in
    subst (λ z. Emptied s (written k made) z) (sym h.link) (subst (λ z. Emptied s z s) (sym none) (record { bytes = refl; outbox = refl; drained = refl; opens = λ g. g }))

write_same : (b : Bool) (serving : Serving) (others : List LinkState) (fed : List FedRow) (s : LinkState) (made : List LinkCall) (now : List FedRow) (t : LinkState) → WriteIf b serving others fed s made now t → t.number ≡ s.number
write_same true serving others fed s made now t h = ap (λ x. x.number) h.link ∙ (write_keeps serving s h.got).number
write_same false serving others fed s made now t h = ap (λ x. x.number) h.link

abbrev pub EmptiedBetween : Told
EmptiedBetween fed s w now t = Emptied s w t

pub tells_write : (serving : Serving) (k : ℕ) → Tells k (WriteStep serving) EmptiedBetween
tells_write serving k = record {
  number = λ others fed s made now t h. write_same (may_write s) serving others fed s made now t h;
  silent = λ others fed s made now t h e. write_silent k (may_write s) serving others fed s made now t h e;
  before = λ others fed s made now t h e x w end y l. l;
  behind = λ others fed s made now t h e start x w y l. l;
  one = λ others fed s made now t h e. write_one k (may_write s) serving others fed s made now t (λ m. (and_parts _ _ m).0) h e;
}

stop_emptied : (stopped : Bool) (s : LinkState) → Emptied s [] (if stopped then closed s else s)
stop_emptied true s = record { bytes = refl; outbox = refl; drained = refl; opens = λ g. absurd (closed_open g) }
stop_emptied false s = record { bytes = refl; outbox = refl; drained = refl; opens = λ g. g }

pub tells_stop : (stopped : Bool) (k : ℕ) → Tells k (StopStep stopped) EmptiedBetween
tells_stop stopped k = record {
  number = λ others fed s made now t h. ap (λ x. x.number) h.link ∙ (stop_keeps stopped s).number;
  silent = λ others fed s made now t h e. ap (written k) h.calls ∙ close_writes k s t;
  before = λ others fed s made now t h e x w end y l. l;
  behind = λ others fed s made now t h e start x w y l. l;
  one = λ others fed s made now t h e.
      let none : written k made ≡ [] = ap (written k) h.calls ∙ close_writes k s t in
      subst (λ z. Emptied s (written k made) z) (sym h.link) (subst (λ z. Emptied s z (if stopped then closed s else s)) (sym none) (stop_emptied stopped s));
}
