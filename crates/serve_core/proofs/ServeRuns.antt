-- Turns of a server, one after another, to the last.
use Rattle.std.proofs.Common.{◌≡◌, inl, ◌≤◌, ℕ, Bool, true, false, List, [], ◌∷◌, ◌++◌, Option, Some, None, Result, Ok, Err, refl, sym, ap, ◌∙◌, subst, append_assoc, append-nil}
use Rattle.std.specs.List.{list_any}
use Rattle.mesh_links.specs.Calls.{last_in}
use Rattle.mesh_links.specs.declared.call.LinkCall.{LinkCall}
use Rattle.mesh_links.specs.declared.call.LinkEvent.{LinkEvent}
use Rattle.route_match.specs.Asking.{PatternFacts}
use Rattle.route_match.specs.Matching.{Pat}
use Rattle.feed_history.specs.KnownPatterns.{PatternsNow, facts_in, known_of}
use Rattle.feed_history.specs.MarkCauses.{AreFair}
use Rattle.feed_history.specs.Marks.{AreFew}
use Rattle.serve_config.specs.declared.ServeConfig.{ServeConfig}
use Rattle.serve_rules.specs.Batches.{Serving}
use Rattle.serve_rules.specs.FedLines.{FedRow, is_stop, rows_fed, serve_of}
use Rattle.serve_rules.specs.LinkOrder.{AreAboveIn}
use Rattle.serve_rules.specs.LinkStates.{LinkState}
use Rattle.serve_rules.specs.TraceExtension.{IsNext}
use Rattle.serve_rules.specs.Traces.{StandsFor, fed_in, links_in, opened, trace_of, waits}
use Rattle.serve_rules.specs.Turns.{Turn, calls_of, has_stop}
use Rattle.serve_rules.proofs.Total.{some_turn_goes_on}
use Rattle.serve_core.specs.Ends.{AllGoOn, Ends, MayBeTaken, answer_by, answer_of}
use Rattle.serve_core.specs.Served.{IsAt, serving_of}
use Rattle.serve_core.specs.TurnCalls.{turn_by}
use Rattle.serve_core.specs.Turned.{Turns}
use Rattle.serve_core.specs.declared.serve.ServeStatus.TheVariants as statuses
use Rattle.serve_core.specs.declared.server.ServeFault.{ServeFault}
use Rattle.serve_core.specs.declared.server.ServeFault.TheVariants as faults
use Rattle.serve_core.specs.declared.server.Turn.{Turn as Answer}
use Rattle.serve_core.specs.declared.server.Turn.TheVariants as answers
use Rattle.serve_core.specs.declared.turning.Turning.{Turning}
use Rattle.serve_core.proofs.FedParts.{few_later, few_none, few_then, few_unmarked, stop_is}
use Rattle.serve_core.proofs.Numbers.{last_is, numbers_last}
use Rattle.serve_core.proofs.RunParts.{fed_on, links_on, trace_on, turns_on, waits_on}

-- ---- turns from the first on

module _ (serving : Serving) (facts : PatternFacts) where
  -- a server that took these turns stands for them
  stands_after : (turns : List Turn) → MayBeTaken serving turns → AreFair serving.program facts (rows_fed (fed_in [] turns)) → StandsFor serving facts (trace_of turns) (fed_in [] turns) (links_in [] turns)
  stands_after turns taken fair = record { leads = record { rounds = turns; turns = taken.are; wait = taken.wait; trace_is = refl; fed_is = refl; links_are = refl }; fair = fair }

  record IsLonger (turns : List Turn) (r : Turn) : Type 0 where
    taken : MayBeTaken serving (turns ++ r ∷ [])
    trace_is : trace_of turns ++ calls_of r ≡ trace_of (turns ++ r ∷ [])
    fed_is : r.fed ≡ fed_in [] (turns ++ r ∷ [])
    links_are : opened r.links ≡ links_in [] (turns ++ r ∷ [])
    fair : AreFair serving.program facts (rows_fed (fed_in [] (turns ++ r ∷ [])))

  -- one turn more
  longer : (turns : List Turn) (r : Turn) → MayBeTaken serving turns → AreFair serving.program facts (rows_fed (fed_in [] turns)) → IsNext serving facts (fed_in [] turns) (links_in [] turns) r → AreAboveIn (last_in (trace_of turns)) r.shown → IsLonger turns r
  longer turns r taken fair next above = record {
    taken = record {
      are = turns_on serving false [] [] turns (r ∷ []) taken.are (next.turn, tt);
      wait = waits_on serving [] [] turns (r ∷ []) taken.wait (next.wait, tt);
      numbers = numbers_last 0 turns r taken.numbers (subst (λ n. AreAboveIn n r.shown) (last_is serving [] [] turns 0 taken.are) above);
    };
    trace_is = sym (trace_on turns r);
    fed_is = sym (fed_on [] turns (r ∷ []));
    links_are = sym (links_on [] turns (r ∷ []));
    fair = subst (λ fs. AreFair serving.program facts (rows_fed fs)) (sym (fed_on [] turns (r ∷ []))) next.fair;
  }

module _ (serving : Serving) where
  none_taken : MayBeTaken serving []
  none_taken = record { are = tt; wait = tt; numbers = tt }

  go_on_last : (fed : List FedRow) (turns : List Turn) (r : Turn) → AllGoOn serving fed turns → answer_of serving (fed_in fed turns) r ≡ Ok answers.Going → AllGoOn serving fed (turns ++ r ∷ [])
  go_on_last fed [] r all going = (going, tt)
  go_on_last fed (first ∷ turns) r all going = (all.0, go_on_last first.fed turns r all.1 going)

  -- what a turn answered is what it is to answer
  answered_as : (fed lines : List FedRow) (r : Turn) (shown : List LinkEvent) (answer : Answer) → r.shown ≡ Some shown → r.fed ≡ lines ++ fed → answer ≡ turn_by (list_any (is_stop serving.program) lines) → answer_of serving fed r ≡ Ok answer
  answered_as fed lines r shown answer polled fed_is is =
      ap (λ s. answer_by serving fed s r.fed) polled
      ∙ ap (λ (fs : List FedRow). Ok (turn_by (has_stop serving fed fs))) fed_is
      ∙ ap (λ b. Ok (turn_by b)) (stop_is serving lines fed)
      ∙ ap Ok (sym is)

-- Turns were taken that answered Going, and the server stands for them.
pub record IsRun (config : ServeConfig) (pat : Pat) (known : PatternsNow) (trace_now : Option (List LinkCall)) (now : Turning) : Type 0 where
  pub turns : List Turn
  pub grew : trace_now ≡ Some (trace_of turns)
  pub at : IsAt config.config config.limits pat (fed_in [] turns) (links_in [] turns) (trace_of turns) now
  pub taken : MayBeTaken (serving_of config.config config.limits pat) turns
  pub going : AllGoOn (serving_of config.config config.limits pat) [] turns
  pub fair : AreFair (serve_of config.config config.limits pat) (facts_in known) (rows_fed (fed_in [] turns))
  pub few : AreFew (rows_fed (fed_in [] turns)) known.before known.now

abbrev pub Runs : ServeConfig → PatternsNow → Option (List LinkCall) → Option (List LinkCall) → Turning → Type 0
Runs config known traced traced_now now = traced ≡ Some [] → (pat : Pat) → known.tells ≡ Some pat → IsRun config pat known traced_now now

pub turns_as : (tells tells_now : Option Pat) (refuses refuses_now : Option (List ℕ → Bool)) (before now : ℕ) (traced : Option (List LinkCall)) (old : Turning) (result : Result Answer ServeFault) (traced_now : Option (List LinkCall)) (new : Turning) → tells_now ≡ tells → refuses_now ≡ refuses
    → Turns (known_of tells_now refuses_now before now) traced old result traced_now new → Turns (known_of tells refuses before now) traced old result traced_now new
turns_as tells tells_now refuses refuses_now before now traced old result traced_now new same_tells same_refuses turns =
    subst (λ r. Turns (known_of tells r before now) traced old result traced_now new) same_refuses (subst (λ t. Turns (known_of t refuses_now before now) traced old result traced_now new) same_tells turns)

module _ (config : ServeConfig) (tells : Option Pat) (refuses : Option (List ℕ → Bool)) (before : ℕ) (traced : Option (List LinkCall)) where
  pub run_begins : (new : Turning) → ((pat : Pat) → IsAt config.config config.limits pat [] [] [] new) → before ≤ before → Runs config (known_of tells refuses before before) traced traced new
  run_begins new at later told pat is = record {
    turns = [];
    grew = told;
    at = at pat;
    taken = none_taken (serving_of config.config config.limits pat);
    going = tt;
    fair = tt;
    few = few_none before before later;
  }

  -- there was no memory for a server
  pub run_fails : before ≤ before → traced ≡ Some [] → Ends config (known_of tells refuses before before) statuses.Memory traced
  run_fails later told pat is =
      let serving = serving_of config.config config.limits pat in
      let facts = facts_in (known_of tells refuses before before) in
      let some = some_turn_goes_on serving [] [] None in
      let all = longer serving facts [] some.round (none_taken serving) tt (record { turn = some.turn; wait = some.wait; fair = subst (λ fs. AreFair serving.program facts (rows_fed fs)) (sym some.same) tt }) (subst (λ shown. AreAboveIn 0 shown) (sym some.showed) tt) in
      record {
        turns = [];
        last = some.round;
        taken = all.taken;
        going = tt;
        part = [];
        more = calls_of some.round;
        cut = refl;
        trace_is = told;
        whole = λ other. absurd (other refl);
        polled = λ same none. refl;
        fair = all.fair;
        few = subst (λ fs. AreFew (rows_fed fs) before before) (sym some.same ∙ all.fed_is) (few_none before before later);
      }

  module _ (mid : ℕ) (traced_mid : Option (List LinkCall)) (between : Turning) (runs : Runs config (known_of tells refuses before mid) traced traced_mid between) (now : ℕ) (traced_now : Option (List LinkCall)) (new : Turning) where
    pub run_goes_on : Turns (known_of tells refuses mid now) traced_mid between (Ok answers.Going) traced_now new → Runs config (known_of tells refuses before now) traced traced_now new
    run_goes_on turned told pat is =
        let serving = serving_of config.config config.limits pat in
        let facts = facts_in (known_of tells refuses before now) in
        let one = runs told pat is in
        let fed = fed_in [] one.turns in
        let two = turned config.config config.limits pat fed (links_in [] one.turns) (trace_of one.turns) one.grew one.at (stands_after serving facts one.turns one.taken one.fair) in
        let taken = two.takes (inl is) in
        let round = taken.round in
        let all = longer serving facts one.turns round one.taken one.fair taken.next (subst (λ shown. AreAboveIn (last_in (trace_of one.turns)) shown) (sym taken.polled) taken.fresh) in
        let calls_now = ap (λ calls. trace_of one.turns ++ calls) taken.calls_are ∙ all.trace_is in
        let fed_now = sym taken.fed_is ∙ all.fed_is in
        record {
          turns = one.turns ++ round ∷ [];
          grew = two.grew ∙ ap Some calls_now;
          at = subst (λ calls. IsAt config.config config.limits pat (fed_in [] (one.turns ++ round ∷ [])) (links_in [] (one.turns ++ round ∷ [])) calls new) calls_now
              (subst (λ ls. IsAt config.config config.limits pat (fed_in [] (one.turns ++ round ∷ [])) ls (trace_of one.turns ++ two.made) new) all.links_are
              (subst (λ fs. IsAt config.config config.limits pat fs (opened round.links) (trace_of one.turns ++ two.made) new) fed_now taken.at));
          taken = all.taken;
          going = go_on_last serving [] one.turns round one.going (answered_as serving fed two.lines round taken.shown answers.Going taken.polled taken.fed_is two.answer_is);
          fair = all.fair;
          few = subst (λ fs. AreFew (rows_fed fs) before now) fed_now (few_then two.lines fed before mid now one.few two.few);
        }

    pub run_stops : Turns (known_of tells refuses mid now) traced_mid between (Ok answers.Stopped) traced_now new → traced ≡ Some [] → Ends config (known_of tells refuses before now) statuses.Stopped traced_now
    run_stops turned told pat is =
        let serving = serving_of config.config config.limits pat in
        let facts = facts_in (known_of tells refuses before now) in
        let one = runs told pat is in
        let fed = fed_in [] one.turns in
        let two = turned config.config config.limits pat fed (links_in [] one.turns) (trace_of one.turns) one.grew one.at (stands_after serving facts one.turns one.taken one.fair) in
        let taken = two.takes (inl is) in
        let round = taken.round in
        let all = longer serving facts one.turns round one.taken one.fair taken.next (subst (λ shown. AreAboveIn (last_in (trace_of one.turns)) shown) (sym taken.polled) taken.fresh) in
        record {
          turns = one.turns;
          last = round;
          taken = all.taken;
          going = one.going;
          part = two.made;
          more = [];
          cut = sym taken.calls_are ∙ sym (append-nil two.made);
          trace_is = two.grew;
          whole = λ other. (refl, answered_as serving fed two.lines round taken.shown answers.Stopped taken.polled taken.fed_is two.answer_is);
          polled = λ same. absurd cc;
          fair = all.fair;
          few = subst (λ fs. AreFew (rows_fed fs) before now) (sym taken.fed_is ∙ all.fed_is) (few_then two.lines fed before mid now one.few two.few);
        }

    pub run_cut : Turns (known_of tells refuses mid now) traced_mid between (Err faults.Memory) traced_now new → traced ≡ Some [] → Ends config (known_of tells refuses before now) statuses.Memory traced_now
    run_cut turned told pat is =
        let serving = serving_of config.config config.limits pat in
        let facts = facts_in (known_of tells refuses before now) in
        let one = runs told pat is in
        let fed = fed_in [] one.turns in
        let two = turned config.config config.limits pat fed (links_in [] one.turns) (trace_of one.turns) one.grew one.at (stands_after serving facts one.turns one.taken one.fair) in
        let cut = two.cut (inl is) in
        let all = longer serving facts one.turns cut.round one.taken one.fair cut.next cut.fresh in
        let lines : List FedRow = cut.rest ++ two.lines in
        record {
          turns = one.turns;
          last = cut.round;
          taken = all.taken;
          going = one.going;
          part = two.part;
          more = cut.more;
          cut = cut.cut;
          trace_is = two.grew;
          whole = λ other. absurd (other refl);
          polled = λ same none. cut.polled none;
          fair = all.fair;
          few = subst (λ fs. AreFew (rows_fed fs) before now) (append_assoc cut.rest two.lines fed ∙ sym cut.fed_is ∙ all.fed_is) (few_then lines fed before mid now one.few (few_unmarked cut.rest two.lines mid now cut.unmarked two.few));
        }

    pub run_unpolled : mid ≤ now → Turns (known_of tells refuses mid now) traced_mid between (Err faults.Links) traced_now new → traced ≡ Some [] → Ends config (known_of tells refuses before now) statuses.LinksFault traced_now
    run_unpolled later turned told pat is =
        let serving = serving_of config.config config.limits pat in
        let facts = facts_in (known_of tells refuses before now) in
        let one = runs told pat is in
        let fed = fed_in [] one.turns in
        let links = links_in [] one.turns in
        let two = turned config.config config.limits pat fed links (trace_of one.turns) one.grew one.at (stands_after serving facts one.turns one.taken one.fair) in
        let last : Turn = record { waited = waits serving fed links; shown = None; made = []; fed = fed; links = links } in
        let all = longer serving facts one.turns last one.taken one.fair (record { turn = (refl, refl, refl); wait = refl; fair = one.fair }) tt in
        record {
          turns = one.turns;
          last = last;
          taken = all.taken;
          going = one.going;
          part = calls_of last;
          more = [];
          cut = sym (append-nil (calls_of last));
          trace_is = two.grew;
          whole = λ other. (refl, refl);
          polled = λ same. absurd cc;
          fair = all.fair;
          few = subst (λ fs. AreFew (rows_fed fs) before now) all.fed_is (few_later fed before mid now one.few later);
        }
