-- The calls on a new hub as a history: the row of a call is its number, and the program reads it as the call.
use Rattle.std.proofs.Common.{◌≡◌, ◌<◌, ℕ, suc, Bool, true, false, cond, eqb, List, [], ◌∷◌, length, map, Option, Some, None, refl, sym, ap, ◌∙◌, subst, arith, inl, inr}
use Rattle.std.specs.Prelude.{Result, Ok, Err, ◌==◌, if◌then◌else◌, option_map}
use Rattle.std.specs.List.{AllByRecursion}
use Rattle.std.proofs.lemmas.Bool.Decides.{eqb_tells}
use Rattle.mesh_base.specs.declared.limits.Limits.{Limits}
use Rattle.view_types.specs.declared.config.Config.{Config}
use Rattle.route_match.specs.Matching.{Pat}
use Rattle.request_sim.specs.declared.fault.SimFault.{SimFault}
use Rattle.watch_events.specs.Lawful.{IsLawfulLine}
use Rattle.watch_events.specs.declared.line.Line.{Line}
use Rattle.watch_events.specs.declared.line.Line.TheVariants as lines
use Rattle.feed_history.specs.History.{State, after, after_line, hub_refusal, refusal_of, step}
use Rattle.feed_history.specs.Ids.{unless_refused}
use Rattle.feed_history.specs.Marks.{MarkedRow}
use Rattle.feed_history.specs.Program.{Program}
use Rattle.feed_history.specs.declared.refusal.HubFault.{HubFault}
use Rattle.feed_history.specs.declared.refusal.Refusal.{Refusal}
use Rattle.feed_history.specs.declared.refusal.Refusal.TheVariants as refusals
use Rattle.mesh_hub.specs.Calls.{CallsAreHistories, IsHistory, called, called_all}
use Rattle.mesh_hub.specs.Hub.{HubState}
use Rattle.mesh_hub.specs.HubAfter.{seen}
use Rattle.mesh_hub.proofs.HubSteps.{applied_seen, cancelled_seen, drained_seen, subscribed_seen}

abbrev pub number_in : List ℕ → ℕ
number_in [] = 0
number_in (n ∷ ns) = n

-- the call of a number, counted from the oldest
abbrev numbered : List Line → ℕ → Result Line Refusal
numbered [] n = Err refusals.NotHere
numbered (call ∷ past) n = if n == length past then Ok call else numbered past n

abbrev pub reads_of : List Line → Option (List ℕ) → Result Line Refusal
reads_of calls None = Err refusals.NotHere
reads_of calls (Some bytes) = numbered calls (number_in bytes)

abbrev pub rows_of : List Line → List MarkedRow
rows_of [] = []
rows_of (call ∷ past) = (Some (length past ∷ []), None) ∷ rows_of past

pub same_number : (n : ℕ) → eqb n n ≡ true
same_number n = elim (eqb_tells n n) [ inl same ↦ same.0 | inr apart ↦ absurd (apart.1 refl) ]

-- ---- the rows of calls are read as before by a program of more calls

abbrev pub IsOlder : ℕ → MarkedRow → Type 0
IsOlder count row = (n : ℕ) × (row.0 ≡ Some (n ∷ [])) × (n < count)

older_later : (count : ℕ) (rows : List MarkedRow) → AllByRecursion (IsOlder count) rows → AllByRecursion (IsOlder (suc count)) rows
older_later count [] older = tt
older_later count (row ∷ rows) older = ((older.0.0, older.0.1, let lt = older.0.2 in omega (arith, lt)), older_later count rows older.1)

next_number : (n : ℕ) → n < suc n
next_number n = omega arith

pub are_older : (calls : List Line) → AllByRecursion (IsOlder (length calls)) (rows_of calls)
are_older [] = tt
are_older (call ∷ past) = ((length past, refl, next_number (length past)), older_later (length past) (rows_of past) (are_older past))

not_last : (n count : ℕ) → n < count → eqb n count ≡ false
not_last n count lt = elim (eqb_tells n count) [ inl same ↦ absurd (let is = same.1 in omega (arith, lt, is)) | inr apart ↦ apart.0 ]

pub read_alike : (call : Line) (past : List Line) (rows : List MarkedRow) → AllByRecursion (IsOlder (length past)) rows
    → AllByRecursion (λ (row : MarkedRow). reads_of past row.0 ≡ reads_of (call ∷ past) row.0) rows
read_alike call past [] older = tt
read_alike call past (row ∷ rows) older = (
  ap (reads_of past) older.0.1
      ∙ ap (λ (b : Bool). cond b (Ok call) (numbered past older.0.0)) (sym (not_last older.0.0 (length past) older.0.2))
      ∙ ap (reads_of (call ∷ past)) (sym older.0.1),
  read_alike call past rows older.1,
)

unless_mapped : (refusal : Option HubFault) (before later : State) → unless_refused (option_map refusals.Hub refusal) before later ≡ unless_refused refusal before later
unless_mapped None before later = refl
unless_mapped (Some fault) before later = refl

module _ (config : Config) (limits : Limits) where
  abbrev matches : Pat
  matches pattern text = false

  abbrev pub program : (Option (List ℕ) → Result Line Refusal) → Program
  program reads = record { config = config; reads = λ held row. reads row; has_place = λ line. true; limits = limits; matches = matches }

  -- what a line leads to depends on what it says alone
  line_alike : (one other : Option (List ℕ) → Result Line Refusal) (now : State) (met : Option SimFault) (line : Result Line Refusal)
      → unless_refused (refusal_of (program one) now met line) now (after_line (program one) now line) ≡ unless_refused (refusal_of (program other) now met line) now (after_line (program other) now line)
  line_alike one other now met (Err fault) = refl
  line_alike one other now met (Ok lines.Blank) = refl
  line_alike one other now met (Ok lines.Stop) = refl
  line_alike one other now met (Ok (lines.Event event)) = refl
  line_alike one other now met (Ok (lines.Subscribe id query)) = refl
  line_alike one other now met (Ok (lines.Cancel id)) = refl
  line_alike one other now met (Ok (lines.Drain id)) = refl
  line_alike one other now met (Ok (lines.Simulate request)) = refl

  step_alike : (one other : Option (List ℕ) → Result Line Refusal) (now : State) (row : MarkedRow) → one row.0 ≡ other row.0 → step (program one) now row ≡ step (program other) now row
  step_alike one other now row same =
      line_alike one other now row.1 (one row.0)
      ∙ ap (λ (line : Result Line Refusal). unless_refused (refusal_of (program other) now row.1 line) now (after_line (program other) now line)) same

  pub after_alike : (one other : Option (List ℕ) → Result Line Refusal) (rows : List MarkedRow) → AllByRecursion (λ (row : MarkedRow). one row.0 ≡ other row.0) rows
      → after (program one) rows ≡ after (program other) rows
  after_alike one other [] same = refl
  after_alike one other (row ∷ past) same = ap (λ (now : State). step (program one) now row) (after_alike one other past same.1) ∙ step_alike one other (after (program other) past) row same.0

  -- a call leads where its line leads
  call_leads : (reads : Option (List ℕ) → Result Line Refusal) (now : State) (call : Line)
      → called (seen (program reads) now) call ≡ seen (program reads) (unless_refused (refusal_of (program reads) now None (Ok call)) now (after_line (program reads) now (Ok call)))
  call_leads reads now lines.Blank = refl
  call_leads reads now lines.Stop = refl
  call_leads reads now (lines.Simulate request) = refl
  call_leads reads now (lines.Event event) = applied_seen (program reads) now event
      ∙ ap (seen (program reads)) (sym (unless_mapped (hub_refusal (program reads) now (lines.Event event)) now (after_line (program reads) now (Ok (lines.Event event)))))
  call_leads reads now (lines.Subscribe id query) = subscribed_seen (program reads) now id query
      ∙ ap (seen (program reads)) (sym (unless_mapped (hub_refusal (program reads) now (lines.Subscribe id query)) now (after_line (program reads) now (Ok (lines.Subscribe id query)))))
  call_leads reads now (lines.Cancel id) = cancelled_seen (program reads) now id
      ∙ ap (seen (program reads)) (sym (unless_mapped (hub_refusal (program reads) now (lines.Cancel id)) now (after_line (program reads) now (Ok (lines.Cancel id)))))
  call_leads reads now (lines.Drain id) = drained_seen (program reads) now id
      ∙ ap (seen (program reads)) (sym (unless_mapped (hub_refusal (program reads) now (lines.Drain id)) now (after_line (program reads) now (Ok (lines.Drain id)))))

  pub leads_here : (calls : List Line) → called_all config limits calls ≡ seen (program (reads_of calls)) (after (program (reads_of calls)) (rows_of calls))
  leads_here [] = refl
  leads_here (call ∷ past) =
      let reads = reads_of (call ∷ past) in
      let now = after (program reads) (rows_of past) in
      ap (λ (state : HubState). called state call) (leads_here past)
      ∙ ap (λ (now : State). called (seen (program reads) now) call) (after_alike (reads_of past) reads (rows_of past) (read_alike call past (rows_of past) (are_older past)))
      ∙ call_leads reads now call
      ∙ ap (λ (b : Bool).
      let line = cond b (Ok call) (numbered past (length past)) in
      seen (program reads) (unless_refused (refusal_of (program reads) now None line) now (after_line (program reads) now line))) (sym (same_number (length past)))

reads_lawfully : (calls : List Line) → AllByRecursion IsLawfulLine calls → (n : ℕ) (line : Line) → numbered calls n ≡ Ok line → IsLawfulLine line
reads_lawfully [] lawful n line is = absurd (cc is)
reads_lawfully (call ∷ past) lawful n line is = by_test (eqb n (length past)) (reads_lawfully past lawful.1 n line) is
  where
    by_test : (b : Bool) → (numbered past n ≡ Ok line → IsLawfulLine line) → cond b (Ok call) (numbered past n) ≡ Ok line → IsLawfulLine line
    by_test true earlier is = let same : call ≡ line = cc is in subst IsLawfulLine same lawful.0
    by_test false earlier is = earlier is

pub rows_lawfully : (calls : List Line) → AllByRecursion IsLawfulLine calls → (row : Option (List ℕ)) (line : Line) → reads_of calls row ≡ Ok line → IsLawfulLine line
rows_lawfully calls lawful None line is = absurd (cc is)
rows_lawfully calls lawful (Some bytes) line is = reads_lawfully calls lawful (number_in bytes) line is

-- ---- each row reads as its call

same_said : (one other : Option (List ℕ) → Result Line Refusal) (rows : List MarkedRow) → AllByRecursion (λ (row : MarkedRow). one row.0 ≡ other row.0) rows
    → map (λ (row : MarkedRow). one row.0) rows ≡ map (λ (row : MarkedRow). other row.0) rows
same_said one other [] same = refl
same_said one other (row ∷ rows) same = λ i. same.0 i ∷ same_said one other rows same.1 i

pub said : (calls : List Line) → map (λ (row : MarkedRow). reads_of calls row.0) (rows_of calls) ≡ map Ok calls
said [] = refl
said (call ∷ past) =
    let reads = reads_of (call ∷ past) in
    let here : reads (Some (length past ∷ [])) ≡ Ok call = ap (λ (b : Bool). cond b (Ok call) (numbered past (length past))) (same_number (length past)) in
    let before = sym (same_said (reads_of past) reads (rows_of past) (read_alike call past (rows_of past) (are_older past))) ∙ said past in
    λ i. here i ∷ before i

pub none_marked : (calls : List Line) → AllByRecursion (λ (row : MarkedRow). row.1 ≡ None) (rows_of calls)
none_marked [] = tt
none_marked (call ∷ past) = (refl, none_marked past)

abbrev pub history_of : (config : Config) (limits : Limits) (calls : List Line) → AllByRecursion IsLawfulLine calls → IsHistory config limits calls
history_of config limits calls lawful = record {
  program = program config limits (reads_of calls);
  past = rows_of calls;
  same_config = refl;
  same_limits = refl;
  lawfully = λ held held_lawful at_keys. rows_lawfully calls lawful;
  reads = λ held. said calls;
  unmarked = none_marked calls;
  leads = leads_here config limits calls;
}

pub calls_are_histories : CallsAreHistories
calls_are_histories = history_of
