-- A pass goes on, and ends.
use Rattle.std.proofs.Common.{◌≡◌, suc, ℕ, ◌≤◌, ◌<◌, ◌^◌, Bool, true, List, [], ◌∷◌, ◌++◌, Option, Some, None, Result, Ok, Err, sym, ap, ◌∙◌, subst, append_assoc, append-nil, arith}
use Rattle.mesh_base.specs.declared.limits.Limits.{Limits}
use Rattle.mesh_base.specs.declared.memory.Memory.{Memory}
use Rattle.mesh_links.specs.Calls.{last_in}
use Rattle.mesh_links.specs.declared.call.LinkCall.{LinkCall}
use Rattle.view_types.specs.declared.config.Config.{Config}
use Rattle.route_match.specs.Matching.{Pat}
use Rattle.feed_history.specs.KnownPatterns.{known_of}
use Rattle.link_sessions.specs.Settled.{IsSettled}
use Rattle.link_sessions.specs.Sets.{IsFirstFrom}
use Rattle.serve_rules.specs.FedLines.{FedRow, serve_of}
use Rattle.serve_rules.specs.LinkStates.{LinkState}
use Rattle.serve_rules.specs.Turns.{Step}
use Rattle.serve_core.specs.LinkTurns.{IsReady, turn_at}
use Rattle.serve_core.specs.Served.{IsAt, serving_of}
use Rattle.serve_core.specs.Steps.{IsPassBegun, IsStepped, TakesPass, TakesStep, has_turn, step_of}
use Rattle.serve_core.specs.declared.turning.Pass.{Pass}
use Rattle.serve_core.specs.declared.turning.Turning.{Turning}
use Rattle.serve_core.proofs.FedParts.{fair_then, fed_none, fed_then, few_then, stays_here, told_early, told_late}
use Rattle.serve_core.proofs.Finding.{NoneTurns, none_left, skip_all, split}
use Rattle.serve_core.proofs.KeptLinks.{AreBelow}
use Rattle.serve_core.proofs.PassSteps.{IsLeft, IsPassedTo, PassesUntil, behind, below_all, below_join, below_raise, between_behind, found_again, from_between, from_zero, left_first, left_on, none_from, same_number, step_total}
use Rattle.serve_core.proofs.Passing.{IsSoFar, begin, cut_in, finish, one_more, rests}

-- ---- the next link that has its turn

-- The links before it were passed over; it is the next, and these are behind it.
record IsNextLink (pass : Pass) (config : Config) (limits : Limits) (pat : Pat) (fed lines : List FedRow) (links : List LinkState) (trace made : List LinkCall) (from n : ℕ) (now : Turning) : Type 0 where
  done : List LinkState
  idle : List LinkState
  link : LinkState
  rest : List LinkState
  number : link.number ≡ n
  turns : has_turn (serving_of config limits pat) (lines ++ fed) pass link ≡ true
  so_far : IsSoFar (step_of pass (serving_of config limits pat)) fed links (done ++ idle) (lines ++ fed) (link ∷ rest) made
  at : IsAt config limits pat (lines ++ fed) ((done ++ idle) ++ link ∷ rest) (trace ++ made) now
  to : IsPassedTo pass config limits pat fed lines links trace made from now
  rest_is : to.rest ≡ idle ++ link ∷ rest

next_link : (pass : Pass) (config : Config) (limits : Limits) (pat : Pat) (fed lines : List FedRow) (links : List LinkState) (trace made : List LinkCall) (from n : ℕ) (now : Turning)
    → IsPassedTo pass config limits pat fed lines links trace made from now → (IsSettled now.kept → IsFirstFrom (turn_at pass now) from (Some n)) → IsNextLink pass config limits pat fed lines links trace made from n now
next_link pass config limits pat fed lines links trace made from n now to first_if =
    let serving = serving_of config limits pat in
    let test : LinkState → Bool = has_turn serving (lines ++ fed) pass in
    let first = first_if to.at.keeps.settled in
    let found = found_again pass config limits pat (lines ++ fed) from to.done to.rest (trace ++ made) now to.at to.below to.left in
    let back = behind 0 to.done to.rest (last_in (trace ++ made)) to.at.is.in_order in
    let sp = split test (turn_at pass now) n from back.low to.rest (last_in (trace ++ made)) back.between found.agrees (found.among n first.0 first.1) to.are_from first.1 first.2 in
    let step : Step = step_of pass serving in
    record {
      done = to.done;
      idle = sp.idle;
      link = sp.link;
      rest = sp.rest;
      number = sp.number;
      turns = sp.turns;
      so_far = skip_all step test fed links (lines ++ fed) (λ others s idle. rests serving pass others (lines ++ fed) s idle) to.done sp.idle (sp.link ∷ sp.rest) made sp.none
          (subst (λ ls. IsSoFar step fed links to.done (lines ++ fed) ls made) sp.links_are to.so_far);
      at = subst (λ ls. IsAt config limits pat (lines ++ fed) ls (trace ++ made) now) (ap (λ ls. to.done ++ ls) sp.links_are ∙ sym (append_assoc to.done sp.idle (sp.link ∷ sp.rest))) to.at;
      to = to;
      rest_is = sp.links_are;
    }

below_front : (n : ℕ) (done idle : List LinkState) → AreBelow n (done ++ idle) → AreBelow n idle
below_front n [] idle below = below
below_front n (d ∷ done) idle below = below_front n done idle below.1

-- ---- after its step

to_next : (pass : Pass) (config : Config) (limits : Limits) (pat : Pat) (fed lines late : List FedRow) (links : List LinkState) (trace made called : List LinkCall) (from n after : ℕ) (mid new : Turning)
    → from ≤ n → after ≡ suc n → (next : IsNextLink pass config limits pat fed lines links trace made from n mid) → new.to_drain ≡ mid.to_drain
    → IsStepped (step_of pass (serving_of config limits pat)) config limits pat (lines ++ fed) (next.done ++ next.idle) next.link next.rest (trace ++ made) called (late ++ (lines ++ fed)) new
    → IsPassedTo pass config limits pat fed (late ++ lines) links trace (made ++ called) after new
to_next pass config limits pat fed lines late links trace made called from n after mid new le is next drains stepped =
    let serving = serving_of config limits pat in
    let step : Step = step_of pass serving in
    let front = next.done ++ next.idle in
    let high = last_in (trace ++ made) in
    let before = below_all 0 front next.link next.rest high next.at.is.in_order in
    let number = next.number in
    let less : next.link.number < after = omega arith in
    let same = same_number pass serving (front ++ next.rest) (lines ++ fed) next.link called (late ++ (lines ++ fed)) stepped.after stepped.stepped in
    let less_now : stepped.after.number < after = omega arith in
    let joined = sym (append_assoc late lines fed) in
    record {
      done = front ++ stepped.after ∷ [];
      rest = next.rest;
      so_far = subst (λ fs. IsSoFar step fed links (front ++ stepped.after ∷ []) fs next.rest (made ++ called)) joined
          (one_more step fed links front (lines ++ fed) next.link next.rest made called (late ++ (lines ++ fed)) stepped.after next.so_far stepped.stepped);
      below = below_join after front stepped.after (below_raise next.link.number after front (omega arith) before) less_now;
      are_from = from_between next.link.number next.rest high after (omega arith) (between_behind 0 front next.link next.rest high next.at.is.in_order);
      at = subst (λ fs. IsAt config limits pat fs ((front ++ stepped.after ∷ []) ++ next.rest) (trace ++ (made ++ called)) new) joined
          (subst (λ ls. IsAt config limits pat (late ++ (lines ++ fed)) ls (trace ++ (made ++ called)) new) (sym (append_assoc front (stepped.after ∷ []) next.rest))
          (subst (λ calls. IsAt config limits pat (late ++ (lines ++ fed)) (front ++ stepped.after ∷ next.rest) calls new) (append_assoc trace made called) stepped.at));
      left = subst (λ fs. IsLeft pass serving fs after next.rest new) joined
          (left_on pass serving (lines ++ fed) late from after (front ++ next.rest) next.idle next.link next.rest called stepped.after mid new (omega arith) (below_raise next.link.number after next.idle (omega arith) (below_front next.link.number next.done next.idle before)) less drains
          stepped.stepped (subst (λ ls. IsLeft pass serving (lines ++ fed) from ls mid) next.rest_is next.to.left));
    }

-- ---- what is known of patterns

pub step_as : (pass : Pass) (n : ℕ) (tells tells_now : Option Pat) (refuses refuses_now : Option (List ℕ → Bool)) (before now : ℕ) (trace_before : Option (List LinkCall)) (old : Turning) (result : Result (Unit {0}) Memory) (trace_now : Option (List LinkCall)) (new : Turning)
    → tells_now ≡ tells → refuses_now ≡ refuses → TakesStep pass n (known_of tells_now refuses_now before now) trace_before old result trace_now new → TakesStep pass n (known_of tells refuses before now) trace_before old result trace_now new
step_as pass n tells tells_now refuses refuses_now before now trace_before old result trace_now new same_tells same_refuses takes =
    subst (λ r. TakesStep pass n (known_of tells r before now) trace_before old result trace_now new) same_refuses
    (subst (λ t. TakesStep pass n (known_of t refuses_now before now) trace_before old result trace_now new) same_tells takes)

module _ (pass : Pass) (tells : Option Pat) (refuses : Option (List ℕ → Bool)) (before : ℕ) (trace_before : Option (List LinkCall)) (old : Turning) where
  -- ---- the pass begins

  pub pass_begins : PassesUntil pass (known_of tells refuses before before) trace_before old 0 trace_before old
  pass_begins config limits pat fed trace is holds config_is ready = record {
    lines = [];
    made = [];
    grew = is ∙ ap Some (sym (append-nil trace));
    is_fed = fed_none config limits pat tells refuses before before fed old old (omega arith) holds (stays_here old);
    passes = λ told links at. record {
      done = [];
      rest = links;
      so_far = begin (step_of pass (serving_of config limits pat)) fed links;
      below = tt;
      are_from = from_zero links;
      at = subst (λ calls. IsAt config limits pat fed links calls old) (sym (append-nil trace)) at;
      left = left_first pass config limits pat fed links trace old at ready;
    };
  }

  module _ (mid now from : ℕ) (trace_mid : Option (List LinkCall)) (between : Turning) (so_far : PassesUntil pass (known_of tells refuses before mid) trace_before old from trace_mid between) where
    -- ---- it goes on

    module _ (n : ℕ) (first : IsSettled between.kept → IsFirstFrom (turn_at pass between) from (Some n)) (trace_now : Option (List LinkCall)) (new : Turning) where
      pub pass_goes_on : (after : ℕ) → from ≤ n → after ≡ suc n → new.to_drain ≡ between.to_drain → TakesStep pass n (known_of tells refuses mid now) trace_mid between (Ok tt) trace_now new
          → PassesUntil pass (known_of tells refuses before now) trace_before old after trace_now new
      pass_goes_on after le is drains takes config limits pat fed trace told_is holds config_is ready =
          let one = so_far config limits pat fed trace told_is holds config_is ready in
          let two = takes config limits pat (one.lines ++ fed) (trace ++ one.made) one.grew one.is_fed.holds (one.is_fed.same_config ∙ config_is) in
          let program = serve_of config limits pat in
          record {
            lines = two.lines ++ one.lines;
            made = one.made ++ two.made;
            grew = two.grew ∙ ap Some (append_assoc trace one.made two.made);
            is_fed = fed_then config limits pat tells refuses before mid now fed one.lines two.lines old between new one.is_fed two.is_fed;
            passes = λ told links at.
                let to = one.passes (told_early config limits pat tells two.lines one.lines told) links at in
                let next = next_link pass config limits pat fed one.lines links trace one.made from n between to first in
                to_next pass config limits pat fed one.lines two.lines links trace one.made two.made from n after between new le is next drains
                (two.steps (told_late config limits pat tells two.lines one.lines told) (next.done ++ next.idle) next.link next.rest next.number next.turns next.at);
          }

      pub pass_cut : (memory : Memory) → TakesStep pass n (known_of tells refuses mid now) trace_mid between (Err memory) trace_now new → IsReady pass old
          → TakesPass (step_of pass) (known_of tells refuses before now) trace_before old (Err memory) trace_now new
      pass_cut memory takes ready config limits pat fed trace told_is holds config_is =
          let one = so_far config limits pat fed trace told_is holds config_is ready in
          let two = takes config limits pat (one.lines ++ fed) (trace ++ one.made) one.grew one.is_fed.holds (one.is_fed.same_config ∙ config_is) in
          let program = serve_of config limits pat in
          let serving = serving_of config limits pat in
          let step : Step = step_of pass serving in
          record {
            lines = two.lines ++ one.lines;
            made = one.made ++ two.made;
            grew = two.grew ∙ ap Some (append_assoc trace one.made two.made);
            few = few_then two.lines one.lines before mid now one.is_fed.few two.few;
            fair = fair_then config limits pat tells refuses (known_of tells refuses before now) fed one.lines two.lines one.is_fed.fair two.fair;
            begins = λ told links at.
                let to = one.passes (told_early config limits pat tells two.lines one.lines told) links at in
                let next = next_link pass config limits pat fed one.lines links trace one.made from n between to first in
                let begun = two.begins (told_late config limits pat tells two.lines one.lines told) (next.done ++ next.idle) next.link next.rest next.number next.turns next.at in
                subst (λ fs. IsPassBegun step fed links (one.made ++ two.made) fs) (sym (append_assoc two.lines one.lines fed))
                (cut_in step fed links (step_total pass serving) (next.done ++ next.idle) (one.lines ++ fed) next.link next.rest one.made two.made (two.lines ++ (one.lines ++ fed)) next.so_far begun);
          }

    -- ---- it ends

    pass_over : IsReady pass old
        → ((config : Config) (limits : Limits) (pat : Pat) (fed lines : List FedRow) (links : List LinkState) (trace made : List LinkCall)
        → (to : IsPassedTo pass config limits pat fed lines links trace made from between) → NoneTurns (has_turn (serving_of config limits pat) (lines ++ fed) pass) to.rest)
        → TakesPass (step_of pass) (known_of tells refuses before mid) trace_before old (Ok tt) trace_mid between
    pass_over ready none config limits pat fed trace told_is holds config_is =
        let one = so_far config limits pat fed trace told_is holds config_is ready in
        let serving = serving_of config limits pat in
        let step : Step = step_of pass serving in
        let test : LinkState → Bool = has_turn serving (one.lines ++ fed) pass in
        record {
          lines = one.lines;
          made = one.made;
          grew = one.grew;
          is_fed = one.is_fed;
          passes = λ told links at.
              let to = one.passes told links at in
              let all = skip_all step test fed links (one.lines ++ fed) (λ others s idle. rests serving pass others (one.lines ++ fed) s idle) to.done to.rest [] one.made (none config limits pat fed one.lines links trace one.made to)
              (subst (λ ls. IsSoFar step fed links to.done (one.lines ++ fed) ls one.made) (sym (append-nil to.rest)) to.so_far) in
              record { after = to.done ++ to.rest; passed = finish step fed links (to.done ++ to.rest) (one.lines ++ fed) one.made all; at = to.at };
        }

    pub pass_ends : IsReady pass old → (IsSettled between.kept → IsFirstFrom (turn_at pass between) from None) → TakesPass (step_of pass) (known_of tells refuses before mid) trace_before old (Ok tt) trace_mid between
    pass_ends ready none_if = pass_over ready (λ config limits pat fed lines links trace made to.
        let serving = serving_of config limits pat in
        let found = found_again pass config limits pat (lines ++ fed) from to.done to.rest (trace ++ made) between to.at to.below to.left in
        none_left (has_turn serving (lines ++ fed) pass) (turn_at pass between) from to.rest found.agrees to.are_from (none_if to.at.keeps.settled))

    -- at the end of the numbers
    pub pass_full : IsReady pass old → 2 ^ 32 ≤ from → TakesPass (step_of pass) (known_of tells refuses before mid) trace_before old (Ok tt) trace_mid between
    pass_full ready full = pass_over ready (λ config limits pat fed lines links trace made to.
        let serving = serving_of config limits pat in
        let numbers = to.at.is.numbered in
        let back = behind 0 to.done to.rest numbers.last numbers.between in
        let few : numbers.last < 2 ^ 32 = numbers.less in
        none_from (has_turn serving (lines ++ fed) pass) from back.low to.rest numbers.last (omega arith) back.between to.are_from)
