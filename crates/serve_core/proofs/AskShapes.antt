-- What the answer to a piece asks for: what the link has come to be, the lines that became whole, and the end of its input.
use Rattle.std.proofs.Common.{◌≡◌, ◌⊎◌, inl, inr, ℕ, suc, ◌+◌, Bool, true, false, cond, List, [], ◌∷◌, ◌++◌, drop, length, Some, None, Ok, Err, refl, sym, ap, ◌∙◌, subst, append-nil, arith}
use Rattle.std.specs.Prelude.{Result, is_ok, is_some}
use Rattle.line_run.specs.Rows.{Row}
use Rattle.mesh_base.specs.declared.limits.Limits.{Limits}
use Rattle.view_types.specs.declared.config.Config.{Config}
use Rattle.view_types.specs.declared.query.Query.{Query}
use Rattle.session_core.specs.Lines.{rows_so_far}
use Rattle.session_core.specs.Phases.{Phase, Opening, Feeding, Asking, Asked, is_feeding, phase_of, query_in, rows_in}
use Rattle.session_core.specs.Pieces.{answer_to, asks_beyond, asks_by, asks_in, end_ask, given_next, line_asks}
use Rattle.session_core.specs.declared.session.Ask.{Ask}
use Rattle.session_core.specs.declared.session.Ask.TheVariants as asks
use Rattle.session_core.specs.declared.session.SessionFault.{SessionFault}
use Rattle.session_core.specs.declared.session.SessionFault.TheVariants.{Extra}
use Rattle.session_core.proofs.PhaseLaws.{feed_goes_on, nothing_follows}
use Rattle.session_core.proofs.Rows.{rows_stay}
use Rattle.serve_rules.specs.LinkStates.{is_empty}

-- what the link has come to be, if it wasn't that before
abbrev pub head_of : Result Phase SessionFault → Result Phase SessionFault → List Ask
head_of was (Ok Opening) = []
head_of was (Ok (Feeding text)) = cond (is_feeding was) [] (asks.FeedBegins ∷ [])
head_of was (Ok Asking) = []
head_of was (Ok (Asked query)) = cond (is_some (query_in was)) [] (asks.Subscribe query ∷ [])
head_of was (Err fault) = []

-- the rows that became whole
abbrev pub new_rows : ℕ → Bool → Result Phase SessionFault → Result Phase SessionFault → List Row
new_rows limit ended was now = drop (length (rows_in limit false was)) (rows_in limit ended now)

abbrev pub rest_of : ℕ → Bool → Result Phase SessionFault → Result Phase SessionFault → List Ask
rest_of limit ended was now = line_asks (length (rows_in limit false was)) (new_rows limit ended was now) ++ end_ask ended

abbrev pub shape_of : ℕ → Bool → Result Phase SessionFault → Result Phase SessionFault → List Ask
shape_of limit ended was now = head_of was now ++ rest_of limit ended was now

-- ---- lines

line_count : (before : ℕ) (rows : List Row) → length (line_asks before rows) ≡ length rows
line_count before [] = refl
line_count before (row ∷ rows) = ap suc (line_count (before + 1) rows)

next_number : (before n : ℕ) → (before + 1) + n ≡ before + suc n
next_number before n = omega arith

same_number : (before : ℕ) → before ≡ before + 0
same_number before = omega arith

-- the asks behind so many lines
drop_lines : (before : ℕ) (first later : List Row) (more : List Ask) → drop (length first) (line_asks before (first ++ later) ++ more) ≡ line_asks (before + length first) later ++ more
drop_lines before [] later more = ap (λ n. line_asks n later ++ more) (same_number before)
drop_lines before (row ∷ first) later more = drop_lines (before + 1) first later more ∙ ap (λ n. line_asks n later ++ more) (next_number before (length first))

drop_front : (first later : List Row) → drop (length first) (first ++ later) ≡ later
drop_front [] later = refl
drop_front (row ∷ first) later = drop_front first later

from_none : (n : ℕ) → 0 + n ≡ n
from_none n = omega arith

-- ---- what each phase becomes

-- the rows of a feed begin with those before, and a request that was read goes on no further
abbrev GoesTo : ℕ → Bool → Phase → Phase → Type 0
GoesTo limit ended Opening now = Unit {0}
GoesTo limit ended (Feeding text) Opening = ⊥
GoesTo limit ended (Feeding text) (Feeding more) = (later : List Row) × (rows_so_far limit ended more ≡ rows_so_far limit false text ++ later)
GoesTo limit ended (Feeding text) Asking = ⊥
GoesTo limit ended (Feeding text) (Asked query) = ⊥
GoesTo limit ended Asking now = Unit {0}
GoesTo limit ended (Asked query) now = now ≡ Asked query

given_is : (a b : List Ask) → ◌≡◌ {A = Result (List Ask) SessionFault} (Ok a) (Ok b) → b ≡ a
given_is a b same = let one : a ≡ b = cc in sym one

feed_shape : (limit : ℕ) (ended : Bool) (text more : List ℕ) (later : List Row) → rows_so_far limit ended more ≡ rows_so_far limit false text ++ later
    → drop (length (asks_in limit false (Feeding text))) (asks_in limit ended (Feeding more)) ≡ shape_of limit ended (Ok (Feeding text)) (Ok (Feeding more))
feed_shape limit ended text more later rows =
    let first : List Row = rows_so_far limit false text in
    let n = length first in
    let count : length (line_asks 0 first ++ []) ≡ n = ap length (append-nil (line_asks 0 first)) ∙ line_count 0 first in
    ap (λ k. drop k (line_asks 0 (rows_so_far limit ended more) ++ end_ask ended)) count
    ∙ ap (λ all. drop n (line_asks 0 all ++ end_ask ended)) rows
    ∙ drop_lines 0 first later (end_ask ended)
    ∙ ap (λ k. line_asks k later ++ end_ask ended) (from_none n)
    ∙ ap (λ all. line_asks n all ++ end_ask ended) (sym (drop_front first later))
    ∙ ap (λ all. line_asks n (drop n all) ++ end_ask ended) (sym rows)

new_shape : (limit : ℕ) (ended : Bool) (now : Phase) → asks_in limit ended now ≡ shape_of limit ended (Ok Opening) (Ok now)
new_shape limit ended Opening = refl
new_shape limit ended (Feeding text) = refl
new_shape limit ended Asking = refl
new_shape limit ended (Asked query) = refl

asking_shape : (limit : ℕ) (ended : Bool) (now : Phase) → asks_in limit ended now ≡ shape_of limit ended (Ok Asking) (Ok now)
asking_shape limit ended Opening = refl
asking_shape limit ended (Feeding text) = refl
asking_shape limit ended Asking = refl
asking_shape limit ended (Asked query) = refl

shape_by : (limit : ℕ) (ended : Bool) (was now : Phase) → GoesTo limit ended was now → drop (length (asks_in limit false was)) (asks_in limit ended now) ≡ shape_of limit ended (Ok was) (Ok now)
shape_by limit ended Opening now goes = new_shape limit ended now
shape_by limit ended (Feeding text) Opening goes = absurd goes
shape_by limit ended (Feeding text) (Feeding more) goes = feed_shape limit ended text more goes.0 goes.1
shape_by limit ended (Feeding text) Asking goes = absurd goes
shape_by limit ended (Feeding text) (Asked query) goes = absurd goes
shape_by limit ended Asking now goes = asking_shape limit ended now
shape_by limit ended (Asked query) now goes =
    subst (λ phase. drop (length (asks_in limit false (Asked query))) (asks_in limit ended phase) ≡ shape_of limit ended (Ok (Asked query)) (Ok phase)) (sym goes) refl

-- ---- what the link has come to be

-- nothing else
pub record IsSame (was now : Result Phase SessionFault) : Type 0 where
  pub feed : is_feeding now ≡ is_feeding was
  pub query : query_in now ≡ query_in was
  pub head : head_of was now ≡ []

-- a feed
pub record IsFeedNow (was now : Result Phase SessionFault) : Type 0 where
  pub unfed : is_feeding was ≡ false
  pub unasked : query_in was ≡ None
  pub feed : is_feeding now ≡ true
  pub none : query_in now ≡ None
  pub head : head_of was now ≡ asks.FeedBegins ∷ []

-- a subscriber, of whom no lines come
pub record IsAskNow (was now : Result Phase SessionFault) : Type 0 where
  pub query : Query
  pub unfed : is_feeding was ≡ false
  pub unasked : query_in was ≡ None
  pub unfed_now : is_feeding now ≡ false
  pub asked : query_in now ≡ Some query
  pub rows : (limit : ℕ) (ended : Bool) → new_rows limit ended was now ≡ []
  pub head : head_of was now ≡ asks.Subscribe query ∷ []

abbrev pub Heads : Result Phase SessionFault → Result Phase SessionFault → Type 0
Heads was now = IsSame was now ⊎ (IsFeedNow was now ⊎ IsAskNow was now)

heads_by : (limit : ℕ) (ended : Bool) (was now : Phase) → GoesTo limit ended was now → Heads (Ok was) (Ok now)
heads_by limit ended Opening Opening goes = inl (record { feed = refl; query = refl; head = refl })
heads_by limit ended Opening (Feeding text) goes = inr (inl (record { unfed = refl; unasked = refl; feed = refl; none = refl; head = refl }))
heads_by limit ended Opening Asking goes = inl (record { feed = refl; query = refl; head = refl })
heads_by limit ended Opening (Asked query) goes = inr (inr (record { query = query; unfed = refl; unasked = refl; unfed_now = refl; asked = refl; rows = λ limit ended. refl; head = refl }))
heads_by limit ended (Feeding text) Opening goes = absurd goes
heads_by limit ended (Feeding text) (Feeding more) goes = inl (record { feed = refl; query = refl; head = refl })
heads_by limit ended (Feeding text) Asking goes = absurd goes
heads_by limit ended (Feeding text) (Asked query) goes = absurd goes
heads_by limit ended Asking Opening goes = inl (record { feed = refl; query = refl; head = refl })
heads_by limit ended Asking (Feeding text) goes = inr (inl (record { unfed = refl; unasked = refl; feed = refl; none = refl; head = refl }))
heads_by limit ended Asking Asking goes = inl (record { feed = refl; query = refl; head = refl })
heads_by limit ended Asking (Asked query) goes = inr (inr (record { query = query; unfed = refl; unasked = refl; unfed_now = refl; asked = refl; rows = λ limit ended. refl; head = refl }))
heads_by limit ended (Asked query) now goes = subst (λ phase. Heads (Ok (Asked query)) (Ok phase)) (sym goes) (inl (record { feed = refl; query = refl; head = refl }))

-- ---- by the laws of phases

module _ (config : Config) (limits : Limits) (bytes : List ℕ) where
  abbrev phase : List ℕ → Result Phase SessionFault
  phase all = phase_of config limits all

  goes_by : (piece : List ℕ) (was now : Phase) → phase bytes ≡ Ok was → phase (bytes ++ piece) ≡ Ok now → GoesTo limits.line (is_empty piece) was now
  goes_by piece Opening now was_is now_is = tt
  goes_by piece (Feeding text) now was_is now_is =
      let same : ◌≡◌ {A = Result Phase SessionFault} (Ok (Feeding (text ++ piece))) (Ok now) = sym (feed_goes_on config limits bytes piece text was_is) ∙ now_is in
      let one : Feeding (text ++ piece) ≡ now = cc in
      subst (λ phase. GoesTo limits.line (is_empty piece) (Feeding text) phase) one (rows_stay limits.line (is_empty piece) text piece)
  goes_by piece Asking now was_is now_is = tt
  goes_by [] (Asked query) now was_is now_is =
      let same : ◌≡◌ {A = Result Phase SessionFault} (Ok now) (Ok (Asked query)) = sym now_is ∙ ap phase (append-nil bytes) ∙ was_is in
      let one : now ≡ Asked query = cc in one
  goes_by (byte ∷ piece) (Asked query) now was_is now_is =
      absurd (let not_so : ◌≡◌ {A = Result Phase SessionFault} (Ok now) (Err Extra) = sym now_is ∙ nothing_follows config limits bytes byte piece query was_is in cc)

  -- an answer that is no fault, by the phases
  answer_by : (piece : List ℕ) (was : Phase) (now : Result Phase SessionFault) (asked : List Ask) → phase bytes ≡ Ok was → phase (bytes ++ piece) ≡ now → asks_beyond (Ok (asks_in limits.line false was)) (asks_by limits.line (is_empty piece) now) ≡ Ok asked
      → (is_ok now ≡ true) × (asked ≡ shape_of limits.line (is_empty piece) (Ok was) now) × Heads (Ok was) now
  answer_by piece was (Err fault) asked was_is now_is answer = absurd (let not_so : ◌≡◌ {A = Result (List Ask) SessionFault} (Err fault) (Ok asked) = answer in cc)
  answer_by piece was (Ok now) asked was_is now_is answer =
      (refl, given_is (drop (length (asks_in limits.line false was)) (asks_in limits.line (is_empty piece) now)) asked answer ∙ shape_by limits.line (is_empty piece) was now (goes_by piece was now was_is now_is), heads_by limits.line (is_empty piece) was now (goes_by piece was now was_is now_is))

  next_is : (piece : List ℕ) → asks_by limits.line (given_next (record { bytes = bytes; ended = false }) piece).ended (phase (given_next (record { bytes = bytes; ended = false }) piece).bytes) ≡ asks_by limits.line (is_empty piece) (phase (bytes ++ piece))
  next_is [] = ap (λ all. asks_by limits.line true (phase all)) (sym (append-nil bytes))
  next_is (byte ∷ piece) = refl

  -- What is asked has its shape, and the bytes have no fault.
  pub record IsShaped (piece : List ℕ) (asked : List Ask) : Type 0 where
    pub fine : is_ok (phase (bytes ++ piece)) ≡ true
    pub shape : asked ≡ shape_of limits.line (is_empty piece) (phase bytes) (phase (bytes ++ piece))
    pub heads : Heads (phase bytes) (phase (bytes ++ piece))

  shaped_by : (piece : List ℕ) (was : Result Phase SessionFault) (asked : List Ask) → phase bytes ≡ was → is_ok was ≡ true → answer_to config limits (record { bytes = bytes; ended = false }) piece ≡ Ok asked
      → (is_ok (phase (bytes ++ piece)) ≡ true) × (asked ≡ shape_of limits.line (is_empty piece) was (phase (bytes ++ piece))) × Heads was (phase (bytes ++ piece))
  shaped_by piece (Err fault) asked was_is fine answer = absurd (let not_so : false ≡ true = fine in cc)
  shaped_by piece (Ok was) asked was_is fine answer =
      answer_by piece was (phase (bytes ++ piece)) asked was_is refl
      (ap (λ now. asks_beyond (Ok (asks_in limits.line false was)) now) (sym (next_is piece)) ∙ ap (λ before. asks_beyond (asks_by limits.line false before) (asks_by limits.line (given_next (record { bytes = bytes; ended = false }) piece).ended (phase (given_next (record { bytes = bytes; ended = false }) piece).bytes))) (sym was_is) ∙ answer)

  pub asks_shaped : (piece : List ℕ) (asked : List Ask) → is_ok (phase bytes) ≡ true → answer_to config limits (record { bytes = bytes; ended = false }) piece ≡ Ok asked → IsShaped piece asked
  asks_shaped piece asked fine answer = let found = shaped_by piece (phase bytes) asked refl fine answer in record { fine = found.0; shape = found.1; heads = found.2 }

  refused_by : (limit : ℕ) (ended : Bool) (was now : Result Phase SessionFault) → is_ok was ≡ true → is_ok (asks_beyond (asks_by limit false was) (asks_by limit ended now)) ≡ false → is_ok now ≡ false
  refused_by limit ended (Ok was) (Ok now) fine refused = refused
  refused_by limit ended (Ok was) (Err fault) fine refused = refl
  refused_by limit ended (Err other) now fine refused = absurd (let not_so : false ≡ true = fine in cc)

  -- an answer that is a fault tells that the bytes have one
  pub asks_refused : (piece : List ℕ) → is_ok (phase bytes) ≡ true → is_ok (answer_to config limits (record { bytes = bytes; ended = false }) piece) ≡ false → is_ok (phase (bytes ++ piece)) ≡ false
  asks_refused piece fine refused =
      refused_by limits.line (is_empty piece) (phase bytes) (phase (bytes ++ piece)) fine
      (ap (λ now. is_ok (asks_beyond (asks_by limits.line false (phase bytes)) now)) (sym (next_is piece)) ∙ refused)
