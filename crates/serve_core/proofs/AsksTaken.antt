-- What a server stands for once it has done what a link asks for.
use Rattle.std.proofs.Common.{◌≡◌, inl, inr, ℕ, ◌+◌, ◌-◌, ◌^◌, ◌≤◌, ◌<◌, min, Bool, true, false, ◌||◌, cond, eqb, List, [], ◌∷◌, ◌++◌, Option, Some, None, Ok, Err, refl, sym, ap, ◌∙◌, subst, append_assoc, append-nil, arith, eqb-true, eq-eqb}
use Rattle.std.specs.Prelude.{Result, OnOk}
use Rattle.std.specs.List.{list_any}
use Rattle.mesh_base.specs.declared.limits.Limits.{Limits}
use Rattle.mesh_base.specs.declared.memory.Memory.{Memory}
use Rattle.mesh_links.specs.declared.call.LinkCall.{LinkCall}
use Rattle.line_run.specs.Rows.{Row}
use Rattle.view_types.specs.declared.config.Config.{Config}
use Rattle.view_types.specs.declared.query.Query.{Query}
use Rattle.request_sim.specs.declared.fault.SimFault.{SimFault}
use Rattle.session_core.specs.Pieces.{end_ask, line_asks}
use Rattle.session_core.specs.declared.session.Ask.{Ask}
use Rattle.session_core.specs.declared.session.Ask.TheVariants as asks
use Rattle.route_match.specs.Matching.{Pat}
use Rattle.route_match.specs.Asking.{PatternFacts}
use Rattle.feed_history.specs.KnownPatterns.{known_of}
use Rattle.feed_history.specs.MarkCauses.{AreFair, IsTold}
use Rattle.feed_history.specs.Marks.{AreFew, marks}
use Rattle.feed_history.specs.Ids.{unless_refused}
use Rattle.mesh_base.specs.declared.sub_id.SubId.{SubId}
use Rattle.mesh_hub.specs.Hub.{state_of}
use Rattle.fed_hub.specs.HubSteps.{IsSubscribed, id_at}
use Rattle.fed_hub.specs.LineSteps.{Applies, Holds, fed_row}
use Rattle.serve_rules.specs.Batches.{Serving}
use Rattle.serve_rules.specs.FedLines.{FedRow, answer_to, is_stop, rows_fed, serve_of}
use Rattle.serve_rules.specs.LinkStates.{LinkState, answers_then, fed_rows, fed_then as fed_after}
use Rattle.serve_core.specs.Hearing.{EndsInput, FeedsLine, IsDone, IsRefused, StopsAt, TakesEach}
use Rattle.serve_core.specs.Served.{serving_of}
use Rattle.serve_core.specs.Steps.{AreUnmarked, IsFed, StaysFed}
use Rattle.serve_core.specs.declared.turning.Turning.{Turning}
use Rattle.serve_core.proofs.FedParts.{fed_none, few_none, stays_here, told_early, told_late}
use Rattle.serve_core.proofs.FedParts.{fed_then as fed_joined, fair_then as fair_joined, few_then as few_joined}
use Rattle.serve_core.proofs.LinesHeard.{IsHearing, end_heard, line_heard}
use Rattle.serve_core.proofs.Settles.{stays_same}

-- ---- lines that memory was not left for

-- lines that met no fault, fed one after another
pub record AreLeft (link : ℕ) (n : ℕ) (rows : List Row) (fed : List FedRow) : Type 0 where
  pub rest : List FedRow
  pub unmarked : AreUnmarked rest
  pub fed_is : rest ++ fed ≡ fed_after fed (fed_rows link (λ k. None) n rows)

unmarked_then : (rest : List FedRow) (f : FedRow) → f.row.1 ≡ None → AreUnmarked rest → AreUnmarked (rest ++ f ∷ [])
unmarked_then [] f none unmarked = (none, tt)
unmarked_then (g ∷ rest) f none unmarked = (unmarked.0, unmarked_then rest f none unmarked.1)

pub left_over : (link n : ℕ) (rows : List Row) (fed : List FedRow) → AreLeft link n rows fed
left_over link n [] fed = record { rest = []; unmarked = tt; fed_is = refl }
left_over link n (row ∷ rows) fed =
    let f : FedRow = record { link = link; number = n + 1; row = (row, None) } in
    let more = left_over link (n + 1) rows (f ∷ fed) in
    record { rest = more.rest ++ f ∷ []; unmarked = unmarked_then more.rest f refl more.unmarked; fed_is = append_assoc more.rest (f ∷ []) fed ∙ more.fed_is }

or_none : (b : Bool) → b ≡ (b || false)
or_none true = refl
or_none false = refl

-- ---- faults of lines by their numbers

-- the faults of the lines behind one, and its own
abbrev met_at : ℕ → Option SimFault → (ℕ → Option SimFault) → ℕ → Option SimFault
met_at n own later k = cond (eqb k n) own (later k)

own_at : (n : ℕ) (own : Option SimFault) (later : ℕ → Option SimFault) → met_at n own later n ≡ own
own_at n own later = ap (λ b. cond b own (later n)) (eq-eqb n n refl)

apart : (n k : ℕ) → n < k → eqb k n ≡ false
apart n k less = by_test (eqb k n) refl
  where
    by_test : (b : Bool) → eqb k n ≡ b → eqb k n ≡ false
    by_test true e = absurd (let same : k ≡ n = eqb-true k n e in omega arith)
    by_test false e = e

rows_same : (link : ℕ) (own : Option SimFault) (later : ℕ → Option SimFault) (m n : ℕ) (rows : List Row) → m ≤ n → fed_rows link later n rows ≡ fed_rows link (met_at m own later) n rows
rows_same link own later m n [] le = refl
rows_same link own later m n (row ∷ rows) le =
    let beyond : m < n + 1 = omega arith in
    let other : later (n + 1) ≡ met_at m own later (n + 1) = sym (ap (λ b. cond b own (later (n + 1))) (apart m (n + 1) beyond)) in
    ap (λ met. line_of met ∷ fed_rows link later (n + 1) rows) other ∙ ap (λ more. line_of (met_at m own later (n + 1)) ∷ more) (rows_same link own later m (n + 1) rows (omega arith))
  where
    line_of : Option SimFault → FedRow
    line_of met = record { link = link; number = n + 1; row = (row, met) }

-- ---- what so many asks come to

module _ (config : Config) (limits : Limits) (pat : Pat) (tells : Option Pat) (refuses : Option (List ℕ → Bool)) (number : ℕ) where
  abbrev serving : Serving
  serving = serving_of config limits pat

  abbrev facts : PatternFacts
  facts = record { tells = tells; refuses = refuses }

  -- every line was fed
  pub record AreAllHeard (fed lines : List FedRow) (n : ℕ) (rows : List Row) (was ended : Bool) (answers answers_now : List (List ℕ)) (links : List LinkState) (trace : List LinkCall) (new : Turning) : Type 0 where
    pub met : ℕ → Option SimFault
    pub fed_is : lines ++ fed ≡ fed_after fed (fed_rows number met n rows)
    pub answers_are : answers_now ≡ answers ++ answers_then serving fed (fed_rows number met n rows)
    pub at : IsHearing config limits pat (lines ++ fed) number was ended links trace new

  -- memory ran out, and the rest would be fed with no fault
  pub record AreSomeHeard (fed lines : List FedRow) (n : ℕ) (rows : List Row) : Type 0 where
    pub met : ℕ → Option SimFault
    pub rest : List FedRow
    pub unmarked : AreUnmarked rest
    pub fed_is : rest ++ (lines ++ fed) ≡ fed_after fed (fed_rows number met n rows)

  abbrev pub AreHeard : List FedRow → List FedRow → ℕ → List Row → Bool → Bool → List (List ℕ) → Result Bool Memory → List (List ℕ) → List LinkState → List LinkCall → Turning → Type 0
  AreHeard fed lines n rows was ended answers (Ok true) answers_now links trace new = AreAllHeard fed lines n rows was ended answers answers_now links trace new
  AreHeard fed lines n rows was ended answers (Ok false) answers_now links trace new = ⊥
  AreHeard fed lines n rows was ended answers (Err memory) answers_now links trace new = AreSomeHeard fed lines n rows

  -- The lines among the asks were fed. Where they are asked for in their order, the link is heard.
  pub record IsRun (fed : List FedRow) (before now : ℕ) (asked : List Ask) (old : Turning) (answers : List (List ℕ)) (result : Result Bool Memory) (new : Turning) (answers_now : List (List ℕ)) : Type 0 where
    pub lines : List FedRow
    pub few : AreFew (rows_fed lines) before now
    pub fair : AreFair (serve_of config limits pat) facts (rows_fed fed) → AreFair (serve_of config limits pat) facts (rows_fed (lines ++ fed))
    pub is_fed : OnOk result (IsFed config limits pat (known_of tells refuses before now) fed lines old new)
    pub heard : IsTold (serve_of config limits pat) tells (rows_fed lines) → (links : List LinkState) (trace : List LinkCall) (n : ℕ) (rows : List Row) (last was ended : Bool) → asked ≡ line_asks n rows ++ end_ask last
        → IsHearing config limits pat fed number was ended links trace old → AreHeard fed lines n rows (last || was) ended answers result answers_now links trace new

  -- ---- nothing more is asked

  none_heard : (fed : List FedRow) (answers : List (List ℕ)) (old : Turning) (links : List LinkState) (trace : List LinkCall) (n : ℕ) (rows : List Row) (last was ended : Bool) → [] ≡ line_asks n rows ++ end_ask last → IsHearing config limits pat fed number was ended links trace old
      → AreAllHeard fed [] n rows (last || was) ended answers answers links trace old
  none_heard fed answers old links trace n [] false was ended is at = record { met = λ k. None; fed_is = refl; answers_are = sym (append-nil answers); at = at }
  none_heard fed answers old links trace n [] true was ended is at = absurd cc
  none_heard fed answers old links trace n (row ∷ rows) last was ended is at = absurd cc

  run_none : (fed : List FedRow) (before : ℕ) (old : Turning) (answers : List (List ℕ)) → Holds config limits pat fed (state_of old.hub.hub) → IsRun fed before before [] old answers (Ok true) old answers
  run_none fed before old answers holds = record {
    lines = [];
    few = few_none before before (omega arith);
    fair = λ fair. fair;
    is_fed = fed_none config limits pat tells refuses before before fed old old (omega arith) holds (stays_here old);
    heard = λ told links trace n rows last was ended is at. none_heard fed answers old links trace n rows last was ended is at;
  }

  run_end : (fed : List FedRow) (before now : ℕ) (old : Turning) (answers : List (List ℕ)) (result : Result Bool Memory) (new : Turning) (answers_now : List (List ℕ)) → Holds config limits pat fed (state_of old.hub.hub) → (result ≡ Ok true) × (now ≡ before) × (new ≡ old) × (answers_now ≡ answers)
      → IsRun fed before now [] old answers result new answers_now
  run_end fed before now old answers result new answers_now holds is =
      subst (λ r. IsRun fed before now [] old answers r new answers_now) (sym is.0)
      (subst (λ m. IsRun fed before m [] old answers (Ok true) new answers_now) (sym is.1)
      (subst (λ t. IsRun fed before before [] old answers (Ok true) t answers_now) (sym is.2)
      (subst (λ items. IsRun fed before before [] old answers (Ok true) old items) (sym is.3) (run_none fed before old answers holds))))

  -- ---- an ask at which it stops

  run_failed : (fed : List FedRow) (before now : ℕ) (ask : Ask) (more : List Ask) (old : Turning) (answers : List (List ℕ)) (memory : Memory) (new : Turning) (answers_now : List (List ℕ)) → before ≤ now → IsRun fed before now (ask ∷ more) old answers (Err memory) new answers_now
  run_failed fed before now ask more old answers memory new answers_now later = record {
    lines = [];
    few = few_none before now later;
    fair = λ fair. fair;
    is_fed = tt;
    heard = λ told links trace n rows last was ended is at.
        let left = left_over number n rows fed in
        record { met = λ k. None; rest = left.rest; unmarked = left.unmarked; fed_is = left.fed_is };
  }

  pub no_subscribe : (query : Query) (more : List Ask) (n : ℕ) (rows : List Row) (ended : Bool) → asks.Subscribe query ∷ more ≡ line_asks n rows ++ end_ask ended → ⊥
  no_subscribe query more n [] true is = absurd cc
  no_subscribe query more n [] false is = absurd cc
  no_subscribe query more n (Some text ∷ rows) ended is = absurd cc
  no_subscribe query more n (None ∷ rows) ended is = absurd cc

  pub no_begin : (more : List Ask) (n : ℕ) (rows : List Row) (ended : Bool) → asks.FeedBegins ∷ more ≡ line_asks n rows ++ end_ask ended → ⊥
  no_begin more n [] true is = absurd cc
  no_begin more n [] false is = absurd cc
  no_begin more n (Some text ∷ rows) ended is = absurd cc
  no_begin more n (None ∷ rows) ended is = absurd cc

  run_refused : (fed : List FedRow) (before now : ℕ) (ask : Ask) (more : List Ask) (old : Turning) (answers : List (List ℕ)) (new : Turning) (answers_now : List (List ℕ)) → before ≤ now → Holds config limits pat fed (state_of old.hub.hub) → StaysFed old new
      → ((n : ℕ) (rows : List Row) (ended : Bool) → ask ∷ more ≡ line_asks n rows ++ end_ask ended → ⊥) → IsRun fed before now (ask ∷ more) old answers (Ok false) new answers_now
  run_refused fed before now ask more old answers new answers_now later holds stays never = record {
    lines = [];
    few = few_none before now later;
    fair = λ fair. fair;
    is_fed = fed_none config limits pat tells refuses before now fed old new later holds stays;
    heard = λ told links trace n rows last was ended is at. never n rows last is;
  }

  pub stays_refused : (old new : Turning) → IsRefused old new → StaysFed old new
  stays_refused old new refused = record {
    holds = λ config limits pat fed holds. subst (λ st. Holds config limits pat fed st) (sym refused.turned_away.state) holds;
    stopped = refused.turned_away.same.stopped;
    same_config = refused.turned_away.same.config;
  }

  pub stays_subscribed : (query : Query) (old new : Turning) (id : SubId) → IsSubscribed query old.hub new.hub id → StaysFed old new
  stays_subscribed query old new id is = record {
    holds = λ config limits pat fed holds. subst (λ st. Holds config limits pat fed st) (sym is.state)
        (subst (λ refusal. Holds config limits pat fed (unless_refused refusal (state_of old.hub.hub) (record (state_of old.hub.hub) { subs = (state_of old.hub.hub).subs ++ record { id = id_at (old.hub.requests + 1); query = query; shown = None } ∷ []; last = Some (old.hub.requests + 1) }))) (sym is.accepted)
        (record { config_is = holds.config_is; limits_are = holds.limits_are; objects = holds.objects; going = holds.going }));
    stopped = is.same.stopped;
    same_config = is.same.config;
  }

  -- ---- an ask that feeds nothing

  pub few_sooner : (lines : List FedRow) (before mid now : ℕ) → before ≤ mid → AreFew (rows_fed lines) mid now → AreFew (rows_fed lines) before now
  few_sooner lines before mid now later few = least (marks (rows_fed lines)) before mid now later few
    where
      least : (a before mid now : ℕ) → before ≤ mid → min (a + mid) (2 ^ 64 - 1) ≤ now → min (a + before) (2 ^ 64 - 1) ≤ now
      least a before mid now later few = omega arith

  pub on_ok : (P Q : Type 0) (result : Result Bool Memory) → (P → Q) → OnOk result P → OnOk result Q
  on_ok P Q (Ok done) turn p = turn p
  on_ok P Q (Err memory) turn p = tt

  module _ (fed : List FedRow) (before mid now : ℕ) (ask : Ask) (more : List Ask) (old between : Turning) (answers answers_mid : List (List ℕ)) (result : Result Bool Memory) (new : Turning) (answers_now : List (List ℕ)) (later : before ≤ mid) where
    pub fed_past : (lines : List FedRow) → StaysFed old between → IsFed config limits pat (known_of tells refuses mid now) fed lines between new → IsFed config limits pat (known_of tells refuses before now) fed lines old new
    fed_past lines stays is = record {
      holds = is.holds;
      few = few_sooner lines before mid now later is.few;
      fair = is.fair;
      stopped = is.stopped ∙ ap (λ b. b || list_any (is_stop (serve_of config limits pat)) lines) stays.stopped;
      same_config = is.same_config ∙ stays.same_config;
    }

    run_past : StaysFed old between → (rest : IsRun fed mid now more between answers_mid result new answers_now)
        → (IsTold (serve_of config limits pat) tells (rows_fed rest.lines) → (links : List LinkState) (trace : List LinkCall) (n : ℕ) (rows : List Row) (last was ended : Bool) → ask ∷ more ≡ line_asks n rows ++ end_ask last
        → IsHearing config limits pat fed number was ended links trace old → AreHeard fed rest.lines n rows (last || was) ended answers result answers_now links trace new)
        → IsRun fed before now (ask ∷ more) old answers result new answers_now
    run_past stays rest heard = record {
      lines = rest.lines;
      few = few_sooner rest.lines before mid now later rest.few;
      fair = rest.fair;
      is_fed = on_ok (IsFed config limits pat (known_of tells refuses mid now) fed rest.lines between new) (IsFed config limits pat (known_of tells refuses before now) fed rest.lines old new) result (fed_past rest.lines stays) rest.is_fed;
      heard = heard;
    }

  -- answers are added to the same
  added_to : (fed lines : List FedRow) (n : ℕ) (was ended : Bool) (answers answers_mid : List (List ℕ)) (result : Result Bool Memory) (answers_now : List (List ℕ)) (links : List LinkState) (trace : List LinkCall) (new : Turning) → answers_mid ≡ answers
      → AreHeard fed lines n [] was ended answers_mid result answers_now links trace new → AreHeard fed lines n [] was ended answers result answers_now links trace new
  added_to fed lines n was ended answers answers_mid (Ok true) answers_now links trace new same one = record { met = one.met; fed_is = one.fed_is; answers_are = one.answers_are ∙ ap (λ (items : List (List ℕ)). items ++ []) same; at = one.at }
  added_to fed lines n was ended answers answers_mid (Ok false) answers_now links trace new same one = one
  added_to fed lines n was ended answers answers_mid (Err memory) answers_now links trace new same one = record { met = one.met; rest = one.rest; unmarked = one.unmarked; fed_is = one.fed_is }

  -- the end of the input is the last ask
  end_by : (fed lines : List FedRow) (more : List Ask) (old between : Turning) (answers answers_mid : List (List ℕ)) (result : Result Bool Memory) (new : Turning) (answers_now : List (List ℕ)) → answers_mid ≡ answers → EndsInput number old between
      → ((links : List LinkState) (trace : List LinkCall) (n : ℕ) (rows : List Row) (last was ended : Bool) → more ≡ line_asks n rows ++ end_ask last → IsHearing config limits pat fed number was ended links trace between → AreHeard fed lines n rows (last || was) ended answers_mid result answers_now links trace new)
      → (links : List LinkState) (trace : List LinkCall) (n : ℕ) (rows : List Row) (last was ended : Bool) → asks.Ended ∷ more ≡ line_asks n rows ++ end_ask last → IsHearing config limits pat fed number was ended links trace old → AreHeard fed lines n rows (last || was) ended answers result answers_now links trace new
  end_by fed lines more old between answers answers_mid result new answers_now same ends rest links trace n [] true was ended is at =
      let none : more ≡ [] = cc in
      added_to fed lines n true ended answers answers_mid result answers_now links trace new same
      (rest links trace n [] false true ended none (end_heard config limits pat fed number was links trace old between ends.same ends.entries ends.settled ended at))
  end_by fed lines more old between answers answers_mid result new answers_now same ends rest links trace n [] false was ended is at = absurd cc
  end_by fed lines more old between answers answers_mid result new answers_now same ends rest links trace n (Some text ∷ rows) last was ended is at = absurd cc
  end_by fed lines more old between answers answers_mid result new answers_now same ends rest links trace n (None ∷ rows) last was ended is at = absurd cc

  -- ---- a line

  -- the ask is the first of these lines
  record IsLineOf (line : ℕ) (row : Row) (more : List Ask) (n : ℕ) (rows : List Row) (last : Bool) : Type 0 where
    later : List Row
    rows_are : rows ≡ row ∷ later
    number_is : line ≡ n + 1
    rest : more ≡ line_asks (n + 1) later ++ end_ask last

  whole_line : (line : ℕ) (text : List ℕ) (more : List Ask) (n : ℕ) (rows : List Row) (last : Bool) → asks.Line line text ∷ more ≡ line_asks n rows ++ end_ask last → IsLineOf line (Some text) more n rows last
  whole_line line text more n [] true is = absurd cc
  whole_line line text more n [] false is = absurd cc
  whole_line line text more n (Some found ∷ rows) last is =
      let row : Some found ≡ Some text = cc in
      let number : line ≡ n + 1 = cc in
      let rest : more ≡ line_asks (n + 1) rows ++ end_ask last = cc in
      record { later = rows; rows_are = ap (λ r. r ∷ rows) row; number_is = number; rest = rest }
  whole_line line text more n (None ∷ rows) last is = absurd cc

  long_line : (line : ℕ) (more : List Ask) (n : ℕ) (rows : List Row) (last : Bool) → asks.LongLine line ∷ more ≡ line_asks n rows ++ end_ask last → IsLineOf line None more n rows last
  long_line line more n [] true is = absurd cc
  long_line line more n [] false is = absurd cc
  long_line line more n (Some found ∷ rows) last is = absurd cc
  long_line line more n (None ∷ rows) last is =
      let number : line ≡ n + 1 = cc in
      let rest : more ≡ line_asks (n + 1) rows ++ end_ask last = cc in
      record { later = rows; rows_are = refl; number_is = number; rest = rest }

  module _ (fed : List FedRow) (line : ℕ) (row : Row) (met : Option SimFault) (n : ℕ) (number_is : line ≡ n + 1) (later : List Row) (met_later : ℕ → Option SimFault) where
    abbrev f : FedRow
    f = fed_row number line row met

    abbrev met_all : ℕ → Option SimFault
    met_all = met_at (n + 1) met met_later

    all_lines : f ∷ fed_rows number met_later (n + 1) later ≡ fed_rows number met_all n (row ∷ later)
    all_lines =
        ap (λ k. fed_row number k row met ∷ fed_rows number met_later (n + 1) later) number_is
        ∙ ap (λ own. fed_row number (n + 1) row own ∷ fed_rows number met_later (n + 1) later) (sym (own_at (n + 1) met met_later))
        ∙ ap (λ more. fed_row number (n + 1) row (met_all (n + 1)) ∷ more) (rows_same number met met_later (n + 1) (n + 1) later (omega arith))

    fed_on : (lines : List FedRow) → lines ++ (f ∷ fed) ≡ fed_after (f ∷ fed) (fed_rows number met_later (n + 1) later) → (lines ++ f ∷ []) ++ fed ≡ fed_after fed (fed_rows number met_all n (row ∷ later))
    fed_on lines is = append_assoc lines (f ∷ []) fed ∙ is ∙ ap (fed_after fed) all_lines

    answered_on : (answers answers_mid answers_now : List (List ℕ)) → answers_mid ≡ answers ++ answer_to (serve_of config limits pat) fed f → answers_now ≡ answers_mid ++ answers_then serving (f ∷ fed) (fed_rows number met_later (n + 1) later)
        → answers_now ≡ answers ++ answers_then serving fed (fed_rows number met_all n (row ∷ later))
    answered_on answers answers_mid answers_now one more =
        let others : List (List ℕ) = answers_then serving (f ∷ fed) (fed_rows number met_later (n + 1) later) in
        more ∙ ap (λ (items : List (List ℕ)). items ++ others) one ∙ append_assoc answers (answer_to (serve_of config limits pat) fed f) others ∙ ap (λ ls. answers ++ answers_then serving fed ls) all_lines

    rest_on : (rest lines : List FedRow) → rest ++ (lines ++ (f ∷ fed)) ≡ fed_after (f ∷ fed) (fed_rows number met_later (n + 1) later) → rest ++ ((lines ++ f ∷ []) ++ fed) ≡ fed_after fed (fed_rows number met_all n (row ∷ later))
    rest_on rest lines is = ap (λ all. rest ++ all) (append_assoc lines (f ∷ []) fed) ∙ is ∙ ap (fed_after fed) all_lines

  line_by : (fed : List FedRow) (line : ℕ) (row : Row) (met : Option SimFault) (n : ℕ) → line ≡ n + 1 → (later : List Row) (lines : List FedRow) (was ended : Bool) (answers answers_mid : List (List ℕ)) (result : Result Bool Memory) (answers_now : List (List ℕ)) (links : List LinkState) (trace : List LinkCall) (new : Turning)
      → answers_mid ≡ answers ++ answer_to (serve_of config limits pat) fed (fed_row number line row met) → AreHeard (fed_row number line row met ∷ fed) lines (n + 1) later was ended answers_mid result answers_now links trace new
      → AreHeard fed (lines ++ fed_row number line row met ∷ []) n (row ∷ later) was ended answers result answers_now links trace new
  line_by fed line row met n is later lines was ended answers answers_mid (Ok true) answers_now links trace new answered one = record {
    met = met_at (n + 1) met one.met;
    fed_is = fed_on fed line row met n is later one.met lines one.fed_is;
    answers_are = answered_on fed line row met n is later one.met answers answers_mid answers_now answered one.answers_are;
    at = subst (λ fs. IsHearing config limits pat fs number was ended links trace new) (sym (append_assoc lines (fed_row number line row met ∷ []) fed)) one.at;
  }
  line_by fed line row met n is later lines was ended answers answers_mid (Ok false) answers_now links trace new answered one = one
  line_by fed line row met n is later lines was ended answers answers_mid (Err memory) answers_now links trace new answered one = record {
    met = met_at (n + 1) met one.met;
    rest = one.rest;
    unmarked = one.unmarked;
    fed_is = rest_on fed line row met n is later one.met one.rest lines one.fed_is;
  }

  run_line : (fed : List FedRow) (before mid now line : ℕ) (row : Row) (ask : Ask) (more : List Ask) (old between : Turning) (answers answers_mid : List (List ℕ)) (result : Result Bool Memory) (new : Turning) (answers_now : List (List ℕ))
      → (a : Applies config limits pat (known_of tells refuses before mid) fed number line row answers answers_mid old.hub between.hub) → between ≡ record old { hub = between.hub } → ((n : ℕ) (rows : List Row) (last : Bool) → ask ∷ more ≡ line_asks n rows ++ end_ask last → IsLineOf line row more n rows last)
      → IsRun (fed_row number line row a.met ∷ fed) mid now more between answers_mid result new answers_now → IsRun fed before now (ask ∷ more) old answers result new answers_now
  run_line fed before mid now line row ask more old between answers answers_mid result new answers_now a same is_line rest =
      let program = serve_of config limits pat in
      let known = known_of tells refuses before mid in
      let f : FedRow = fed_row number line row a.met in
      let first : IsFed config limits pat known fed (f ∷ []) old between = record {
        holds = a.holds;
        few = a.few;
        fair = λ fair. (a.fair, fair);
        stopped = a.stopped ∙ ap (λ b. old.hub.stopped || b) (or_none (is_stop program f));
        same_config = a.same_config;
      } in
      record {
        lines = rest.lines ++ f ∷ [];
        few = few_joined rest.lines (f ∷ []) before mid now a.few rest.few;
        fair = fair_joined config limits pat tells refuses (known_of tells refuses before now) fed (f ∷ []) rest.lines (λ fair. (a.fair, fair)) rest.fair;
        is_fed = on_ok (IsFed config limits pat (known_of tells refuses mid now) (f ∷ fed) rest.lines between new) (IsFed config limits pat (known_of tells refuses before now) fed (rest.lines ++ f ∷ []) old new) result
            (λ last. fed_joined config limits pat tells refuses before mid now fed (f ∷ []) rest.lines old between new first last) rest.is_fed;
        heard = λ told links trace n rows last was ended is at.
            let l = is_line n rows last is in
            let mid_at = line_heard config limits pat known fed number line row answers answers_mid old.hub between.hub a number was ended links trace old between refl same at in
            let one = rest.heard (told_late config limits pat tells rest.lines (f ∷ []) told) links trace (n + 1) l.later last was ended l.rest mid_at in
            subst (λ rs. AreHeard fed (rest.lines ++ f ∷ []) n rs (last || was) ended answers result answers_now links trace new) (sym l.rows_are)
            (line_by fed line row a.met n l.number_is l.later rest.lines (last || was) ended answers answers_mid result answers_now links trace new (a.answered (told_early config limits pat tells rest.lines (f ∷ []) told)) one);
      }

  -- ---- one ask

  run_stops : (fed : List FedRow) (before now : ℕ) (ask : Ask) (more : List Ask) (old : Turning) (answers : List (List ℕ)) (result : Result Bool Memory) (new : Turning) (answers_now : List (List ℕ)) → Holds config limits pat fed (state_of old.hub.hub)
      → StopsAt number ask (known_of tells refuses before now) old answers result new answers_now → IsRun fed before now (ask ∷ more) old answers result new answers_now
  run_stops fed before now ask more old answers (Ok true) new answers_now holds stops = absurd stops
  run_stops fed before now (asks.Subscribe query) more old answers (Ok false) new answers_now holds stops =
      run_refused fed before now (asks.Subscribe query) more old answers new answers_now stops.1 holds (stays_refused old new stops.0.1) (no_subscribe query more)
  run_stops fed before now asks.FeedBegins more old answers (Ok false) new answers_now holds stops =
      run_refused fed before now asks.FeedBegins more old answers new answers_now stops.1 holds (stays_same old new (ap (λ (now : Turning). now.hub) stops.0.1.same)) (no_begin more)
  run_stops fed before now (asks.Line line text) more old answers (Ok false) new answers_now holds stops = absurd (let not_so : false ≡ true = stops.0.0 in cc)
  run_stops fed before now (asks.LongLine line) more old answers (Ok false) new answers_now holds stops = absurd (let not_so : false ≡ true = stops.0.0 in cc)
  run_stops fed before now asks.Ended more old answers (Ok false) new answers_now holds stops = absurd (let not_so : false ≡ true = stops.0.0 in cc)
  run_stops fed before now ask more old answers (Err memory) new answers_now holds stops = run_failed fed before now ask more old answers memory new answers_now stops.1

  -- a line is applied under the configuration of the server
  applied : (fed : List FedRow) (before mid line : ℕ) (row : Row) (old between : Turning) (answers answers_mid : List (List ℕ)) → Holds config limits pat fed (state_of old.hub.hub) → old.hub.config ≡ config → FeedsLine line row (known_of tells refuses before mid) old answers between answers_mid
      → Applies config limits pat (known_of tells refuses before mid) fed number line row answers answers_mid old.hub between.hub
  applied fed before mid line row old between answers answers_mid holds config_is feeds =
      subst (λ c. Applies c limits pat (known_of tells refuses before mid) fed number line row answers answers_mid old.hub between.hub) config_is
      (feeds.applies limits pat fed number (subst (λ c. Holds c limits pat fed (state_of old.hub.hub)) (sym config_is) holds))

  -- what follows an ask that was done
  abbrev Follows : List FedRow → ℕ → ℕ → List Ask → Turning → List (List ℕ) → Result Bool Memory → Turning → List (List ℕ) → Type 0
  Follows first mid now more between answers_mid result new answers_now = (fed : List FedRow) → Holds config limits pat fed (state_of between.hub.hub) → between.hub.config ≡ config → IsRun fed mid now more between answers_mid result new answers_now

  run_on : (fed : List FedRow) (before mid now : ℕ) (ask : Ask) (more : List Ask) (old between : Turning) (answers answers_mid : List (List ℕ)) (result : Result Bool Memory) (new : Turning) (answers_now : List (List ℕ)) → Holds config limits pat fed (state_of old.hub.hub) → old.hub.config ≡ config
      → before ≤ mid → IsDone number ask (known_of tells refuses before mid) old answers true between answers_mid → Follows fed mid now more between answers_mid result new answers_now → IsRun fed before now (ask ∷ more) old answers result new answers_now
  run_on fed before mid now (asks.Subscribe query) more old between answers answers_mid result new answers_now holds config_is later is follows =
      let subscribed = is.1.subscribed in
      let stays = stays_subscribed query old between is.1.id subscribed in
      run_past fed before mid now (asks.Subscribe query) more old between answers answers_mid result new answers_now later stays (follows fed (stays.holds config limits pat fed holds) (stays.same_config ∙ config_is))
      (λ told links trace n rows last was ended asked at. absurd (no_subscribe query more n rows last asked))
  run_on fed before mid now asks.FeedBegins more old between answers answers_mid result new answers_now holds config_is later is follows =
      let stays = stays_same old between (ap (λ (now : Turning). now.hub) is.1.same) in
      run_past fed before mid now asks.FeedBegins more old between answers answers_mid result new answers_now later stays (follows fed (stays.holds config limits pat fed holds) (stays.same_config ∙ config_is))
      (λ told links trace n rows last was ended asked at. absurd (no_begin more n rows last asked))
  run_on fed before mid now (asks.Line line text) more old between answers answers_mid result new answers_now holds config_is later is follows =
      let a = applied fed before mid line (Some text) old between answers answers_mid holds config_is is.1 in
      run_line fed before mid now line (Some text) (asks.Line line text) more old between answers answers_mid result new answers_now a is.1.same (whole_line line text more)
      (follows (fed_row number line (Some text) a.met ∷ fed) a.holds (a.same_config ∙ config_is))
  run_on fed before mid now (asks.LongLine line) more old between answers answers_mid result new answers_now holds config_is later is follows =
      let a = applied fed before mid line None old between answers answers_mid holds config_is is.1 in
      run_line fed before mid now line None (asks.LongLine line) more old between answers answers_mid result new answers_now a is.1.same (long_line line more)
      (follows (fed_row number line None a.met ∷ fed) a.holds (a.same_config ∙ config_is))
  run_on fed before mid now asks.Ended more old between answers answers_mid result new answers_now holds config_is later is follows =
      let stays = stays_same old between (ap (λ (now : Turning). now.hub) is.2.same) in
      let rest = follows fed (stays.holds config limits pat fed holds) (stays.same_config ∙ config_is) in
      run_past fed before mid now asks.Ended more old between answers answers_mid result new answers_now later stays rest
      (λ told. end_by fed rest.lines more old between answers answers_mid result new answers_now is.1 is.2 (rest.heard told))

  -- ---- all of them

  pub run : (asked : List Ask) (fed : List FedRow) (before now : ℕ) (old : Turning) (answers : List (List ℕ)) (result : Result Bool Memory) (new : Turning) (answers_now : List (List ℕ)) → Holds config limits pat fed (state_of old.hub.hub) → old.hub.config ≡ config → TakesEach number tells refuses asked before old answers result now new answers_now
      → IsRun fed before now asked old answers result new answers_now
  run [] fed before now old answers result new answers_now holds config_is each = run_end fed before now old answers result new answers_now holds each
  run (ask ∷ more) fed before now old answers result new answers_now holds config_is (inl stops) = run_stops fed before now ask more old answers result new answers_now holds stops
  run (ask ∷ more) fed before now old answers result new answers_now holds config_is (inr goes) =
      run_on fed before goes.0 now ask more old goes.1 answers goes.2 result new answers_now holds config_is goes.3 goes.4
      (λ fed_mid holds_mid config_mid. run more fed_mid goes.0 now goes.1 goes.2 result new answers_now holds_mid config_mid goes.5)
