-- Each link is closed, in the order of their numbers.
use Rattle.std.proofs.Common.{◌≡◌, suc, ℕ, ◌≤◌, ◌<◌, ◌^◌, Bool, true, false, cond, eqb, ◌&&◌, List, [], ◌∷◌, ◌++◌, Option, Some, None, Ok, refl, sym, ap, ◌∙◌, subst, append_assoc, append-nil, arith}
use Rattle.std.specs.Prelude.{is_some}
use Rattle.std.proofs.lemmas.List.{append_cancel_left}
use Rattle.mesh_base.specs.declared.limits.Limits.{Limits}
use Rattle.mesh_links.specs.Calls.{last_in}
use Rattle.mesh_links.specs.declared.call.LinkCall.{LinkCall}
use Rattle.mesh_links.specs.declared.call.LinkCall.TheVariants as calls
use Rattle.view_types.specs.declared.config.Config.{Config}
use Rattle.route_match.specs.Matching.{Pat}
use Rattle.feed_history.specs.KnownPatterns.{known_of}
use Rattle.link_sessions.specs.Entries.{Entries, entries_of, link_at, passes, passes_at, with_link}
use Rattle.link_sessions.specs.Sets.{IsFirstFrom}
use Rattle.link_sessions.specs.declared.link.Link.{Link}
use Rattle.link_sessions.proofs.Settling.{but_one}
use Rattle.serve_rules.specs.FedLines.{FedRow}
use Rattle.serve_rules.specs.LinkStates.{LinkState, closed, closing}
use Rattle.serve_rules.specs.Traces.{opened}
use Rattle.serve_rules.specs.Turns.{Step, StopStep}
use Rattle.serve_core.specs.Linked.{AreKept}
use Rattle.serve_core.specs.Served.{IsAt, IsAtBut, serving_of}
use Rattle.serve_core.specs.Steps.{ClosesAt, IsPassed, StaysFed, TakesPass, stop_step}
use Rattle.serve_core.specs.declared.turning.Turning.{Turning}
use Rattle.serve_core.proofs.FedParts.{fed_none}
use Rattle.serve_core.proofs.Finding.{Agrees, Among, AreFrom, NoneTurns, none_left, skip_all, split}
use Rattle.serve_core.proofs.KeptLinks.{AreBelow, found_at}
use Rattle.serve_core.proofs.KeptTests.{AllOpen, agrees, among, here_at, is_head, not_head, not_same}
use Rattle.serve_core.proofs.PassSteps.{agrees_behind, among_behind, behind, below_all, below_join, below_raise, between_behind, from_between, from_zero, none_from}
use Rattle.serve_core.proofs.Passing.{IsSoFar, begin, finish, one_more, stays_closed}

-- ---- a link that did not change

same_link : (n : ℕ) (link : Link) (entries : Entries) → link_at n entries ≡ Some link → with_link n entries link ≡ entries
same_link n link [] at = refl
same_link n link (e ∷ es) at = by_number (same_link n link es) (eqb e.0 n) refl
  where
    by_number : (link_at n es ≡ Some link → with_link n es link ≡ es) → (b : Bool) → eqb e.0 n ≡ b → with_link n (e ∷ es) link ≡ e ∷ es
    by_number rest true eq =
        let here : Some e.1 ≡ Some link = sym (is_head n e es eq) ∙ at in
        let same : e.1 ≡ link = cc in
        ap (λ b. cond b ((e.0, link) ∷ es) (e ∷ with_link n es link)) (here_at n e.0 eq) ∙ ap (λ l. (e.0, l) ∷ es) (sym same)
    by_number rest false eq = ap (λ b. cond b ((e.0, link) ∷ es) (e ∷ with_link n es link)) (not_same n e.0 eq) ∙ ap (λ es. e ∷ es) (rest (sym (not_head n e es eq) ∙ at))

at_but : (config : Config) (limits : Limits) (pat : Pat) (fed : List FedRow) (done : List LinkState) (s : LinkState) (links : List LinkState) (trace : List LinkCall) (now : Turning) → s.is_open ≡ true → IsAt config limits pat fed (done ++ s ∷ links) trace now
    → IsAtBut config limits pat fed s.number (done ++ s ∷ links) trace now
at_but config limits pat fed done s links trace now is_open at =
    let serving = serving_of config limits pat in
    let found = found_at serving at.id_of done s links 0 (last_in trace) (entries_of now.kept) at.is.in_order is_open at.keeps.links_are in
    record {
      id_of = at.id_of;
      is = at.is;
      keeps = record {
        before = found.link;
        now = found.link;
        is = found.at;
        same = refl;
        links_are = subst (λ es. AreKept serving at.id_of (opened (done ++ s ∷ links)) es) (sym (same_link s.number found.link (entries_of now.kept) found.at)) at.keeps.links_are;
        settled = but_one s.number now.kept at.keeps.settled;
      };
    }

-- ---- those that are open

some_passes : (found : Option Link) → is_some found ≡ passes (λ link. true) found
some_passes None = refl
some_passes (Some link) = refl

any_holds : (links : List LinkState) → AllOpen (λ s. Unit {0}) links
any_holds [] = tt
any_holds (s ∷ links) = ((λ is_open. tt), any_holds links)

abbrev is_kept_open : Entries → ℕ → Bool
is_kept_open entries n = passes_at (λ link. true) entries n

module _ (config : Config) (limits : Limits) (pat : Pat) (fed : List FedRow) (links : List LinkState) (trace : List LinkCall) (now : Turning) (at : IsAt config limits pat fed links trace now) where
  open_agrees : Agrees (λ s. s.is_open) (is_kept_open (entries_of now.kept)) links
  open_agrees =
      agrees (serving_of config limits pat) at.id_of (λ s. Unit {0}) (λ link. true) (λ s. s.is_open) (λ s link is_open holds kept. sym is_open) (λ s closed. closed) links 0 (last_in trace) (entries_of now.kept) at.is.in_order (any_holds links) at.keeps.links_are

  open_among : (n : ℕ) → is_kept_open (entries_of now.kept) n ≡ true → Among n links
  open_among n is = among (serving_of config limits pat) at.id_of (λ s. Unit {0}) (λ link. true) (λ s. s.is_open) (λ s link is_open holds kept. sym is_open) (λ s closed. closed) n links (entries_of now.kept) at.keeps.links_are is

-- ---- one after another

pub record IsClosedTo (config : Config) (limits : Limits) (pat : Pat) (fed : List FedRow) (links : List LinkState) (trace : List LinkCall) (from : ℕ) (traced_now : Option (List LinkCall)) (new : Turning) : Type 0 where
  pub made : List LinkCall
  pub done : List LinkState
  pub rest : List LinkState
  pub grew : traced_now ≡ Some (trace ++ made)
  pub so_far : IsSoFar (StopStep true) fed links done fed rest made
  pub below : AreBelow from done
  pub are_from : AreFrom from rest
  pub at : IsAt config limits pat fed (done ++ rest) (trace ++ made) new

abbrev pub ClosesTo : Option (List LinkCall) → Turning → ℕ → Option (List LinkCall) → Turning → Type 0
ClosesTo traced old from traced_now new = (config : Config) (limits : Limits) (pat : Pat) (fed : List FedRow) (links : List LinkState) (trace : List LinkCall) → traced ≡ Some trace → IsAt config limits pat fed links trace old → IsClosedTo config limits pat fed links trace from traced_now new

pub close_begins : (traced : Option (List LinkCall)) (old : Turning) → ClosesTo traced old 0 traced old
close_begins traced old config limits pat fed links trace told at = record {
  made = [];
  done = [];
  rest = links;
  grew = told ∙ ap Some (sym (append-nil trace));
  so_far = begin (StopStep true) fed links;
  below = tt;
  are_from = from_zero links;
  at = subst (λ calls. IsAt config limits pat fed links calls old) (sym (append-nil trace)) at;
}

closing_is : (s : LinkState) (n : ℕ) → s.is_open ≡ true → s.number ≡ n → calls.Close n ∷ [] ≡ closing s (closed s)
closing_is s n is_open number = ap (λ k. calls.Close k ∷ []) (sym number) ∙ ap (λ b. cond (b && true) (calls.Close s.number ∷ []) []) (sym is_open)

module _ (traced : Option (List LinkCall)) (old : Turning) (from : ℕ) (traced_mid : Option (List LinkCall)) (mid : Turning) (before : ClosesTo traced old from traced_mid mid) where
  pub close_goes_on : (n after : ℕ) (traced_now : Option (List LinkCall)) (new : Turning) → IsFirstFrom (λ n. is_some (link_at n (entries_of mid.kept))) from (Some n) → after ≡ suc n → ClosesAt n traced_mid mid traced_now new → ClosesTo traced old after traced_now new
  close_goes_on n after traced_now new first is closes config limits pat fed links trace told at =
      let serving = serving_of config limits pat in
      let step : Step = StopStep true in
      let to = before config limits pat fed links trace told at in
      let calls_so_far : List LinkCall = trace ++ to.made in
      let high = last_in calls_so_far in
      let member = is_kept_open (entries_of mid.kept) in
      let all = to.done ++ to.rest in
      let le = first.0 in
      let back = behind 0 to.done to.rest high to.at.is.in_order in
      let is_member = sym (some_passes (link_at n (entries_of mid.kept))) ∙ first.1 in
      let sp = split (λ s. s.is_open) member n from back.low to.rest high back.between (agrees_behind (λ s. s.is_open) member to.done to.rest (open_agrees config limits pat fed all calls_so_far mid to.at)) (among_behind from n to.done to.rest le to.below (open_among config limits pat fed all calls_so_far mid to.at n is_member))
      to.are_from is_member (λ m from_m less. sym (some_passes (link_at m (entries_of mid.kept))) ∙ first.2 m from_m less) in
      let front = to.done ++ sp.idle in
      let passed = skip_all step (λ s. s.is_open) fed links fed (λ others s closed. stays_closed serving others fed s closed) to.done sp.idle (sp.link ∷ sp.rest) to.made sp.none (subst (λ ls. IsSoFar step fed links to.done fed ls to.made) sp.links_are to.so_far) in
      let at_next = subst (λ ls. IsAt config limits pat fed ls calls_so_far mid) (ap (λ ls. to.done ++ ls) sp.links_are ∙ sym (append_assoc to.done sp.idle (sp.link ∷ sp.rest))) to.at in
      let but = subst (λ k. IsAtBut config limits pat fed k (front ++ sp.link ∷ sp.rest) calls_so_far mid) sp.number (at_but config limits pat fed front sp.link sp.rest calls_so_far mid sp.turns at_next) in
      let two = closes config limits pat fed front sp.link sp.rest calls_so_far to.grew sp.number sp.turns but in
      let number = sp.number in
      let less : sp.link.number < after = omega arith in
      let prior = below_all 0 front sp.link sp.rest high at_next.is.in_order in
      let joined = append_assoc trace to.made (calls.Close n ∷ []) in
      record {
        made = to.made ++ calls.Close n ∷ [];
        done = front ++ closed sp.link ∷ [];
        rest = sp.rest;
        grew = two.grew ∙ ap Some joined;
        so_far = one_more step fed links front fed sp.link sp.rest to.made (calls.Close n ∷ []) fed (closed sp.link) passed (record { calls = closing_is sp.link n sp.turns sp.number; fed_now = refl; link = refl });
        below = below_join after front (closed sp.link) (below_raise sp.link.number after front (omega arith) prior) less;
        are_from = from_between sp.link.number sp.rest high after (omega arith) (between_behind 0 front sp.link sp.rest high at_next.is.in_order);
        at = subst (λ ls. IsAt config limits pat fed ls (trace ++ (to.made ++ calls.Close n ∷ [])) new) (sym (append_assoc front (closed sp.link ∷ []) sp.rest))
            (subst (λ calls. IsAt config limits pat fed (front ++ closed sp.link ∷ sp.rest) calls new) joined (two.at (closed sp.link) sp.number refl));
      }

  -- ---- it ends

  -- the calls that were made
  pub record IsMade (trace : List LinkCall) : Type 0 where
    pub made : List LinkCall
    pub grew : traced_mid ≡ Some (trace ++ made)

  pub close_made : (trace made : List LinkCall) → traced_mid ≡ Some (trace ++ made) → IsMade trace
  close_made trace made grew = record { made = made; grew = grew }

  close_over : (tells : Option Pat) (refuses : Option (List ℕ → Bool)) (count : ℕ) → count ≤ count → StaysFed old mid → ((trace : List LinkCall) → traced ≡ Some trace → IsMade trace)
      → ((config : Config) (limits : Limits) (pat : Pat) (fed : List FedRow) (links : List LinkState) (trace : List LinkCall) → (to : IsClosedTo config limits pat fed links trace from traced_mid mid) → NoneTurns (λ s. s.is_open) to.rest)
      → TakesPass stop_step (known_of tells refuses count count) traced old (Ok tt) traced_mid mid
  close_over tells refuses count same stays made none config limits pat fed trace told holds config_is =
      let serving = serving_of config limits pat in
      let step : Step = StopStep true in
      let known = made trace told in
      record {
        lines = [];
        made = known.made;
        grew = known.grew;
        is_fed = fed_none config limits pat tells refuses count count fed old mid same holds stays;
        passes = λ told_rows links at.
            let to = before config limits pat fed links trace told at in
            let both : Some (trace ++ known.made) ≡ Some (trace ++ to.made) = sym known.grew ∙ to.grew in
            let joined : trace ++ known.made ≡ trace ++ to.made = cc in
            let equal = append_cancel_left trace known.made to.made joined in
            let all = skip_all step (λ s. s.is_open) fed links fed (λ others s closed. stays_closed serving others fed s closed) to.done to.rest [] to.made (none config limits pat fed links trace to)
            (subst (λ ls. IsSoFar step fed links to.done fed ls to.made) (sym (append-nil to.rest)) to.so_far) in
            subst (λ calls. IsPassed step config limits pat fed links trace calls fed mid) (sym equal) (record { after = to.done ++ to.rest; passed = finish step fed links (to.done ++ to.rest) fed to.made all; at = to.at });
      }

  pub close_ends : (tells : Option Pat) (refuses : Option (List ℕ → Bool)) (count : ℕ) → StaysFed old mid → ((trace : List LinkCall) → traced ≡ Some trace → IsMade trace) → IsFirstFrom (λ n. is_some (link_at n (entries_of mid.kept))) from None
      → TakesPass stop_step (known_of tells refuses count count) traced old (Ok tt) traced_mid mid
  close_ends tells refuses count stays made none = close_over tells refuses count (omega arith) stays made (λ config limits pat fed links trace to.
      let member = is_kept_open (entries_of mid.kept) in
      none_left (λ s. s.is_open) member from to.rest (agrees_behind (λ s. s.is_open) member to.done to.rest (open_agrees config limits pat fed (to.done ++ to.rest) (trace ++ to.made) mid to.at)) to.are_from
      (λ m from_m. sym (some_passes (link_at m (entries_of mid.kept))) ∙ none m from_m))

  pub close_full : (tells : Option Pat) (refuses : Option (List ℕ → Bool)) (count : ℕ) → StaysFed old mid → ((trace : List LinkCall) → traced ≡ Some trace → IsMade trace) → 2 ^ 32 ≤ from → TakesPass stop_step (known_of tells refuses count count) traced old (Ok tt) traced_mid mid
  close_full tells refuses count stays made full = close_over tells refuses count (omega arith) stays made (λ config limits pat fed links trace to.
      let numbers = to.at.is.numbered in
      let back = behind 0 to.done to.rest numbers.last numbers.between in
      let few : numbers.last < 2 ^ 32 = numbers.less in
      none_from (λ s. s.is_open) from back.low to.rest numbers.last (omega arith) back.between to.are_from)
