-- What a poll makes of what a server stands for.
use Rattle.std.proofs.Common.{◌≡◌, ℕ, ◌+◌, ◌≤◌, ◌==◌, max, Bool, true, false, ◌||◌, List, [], ◌∷◌, ◌++◌, Some, None, refl, sym, ap, ◌∙◌, subst, arith, eq-eqb}
use Rattle.mesh_base.specs.declared.limits.Limits.{Limits}
use Rattle.mesh_links.specs.Calls.{AreNew, is_open_after_events, is_open_in, last_in, last_of_events}
use Rattle.mesh_links.specs.declared.call.LinkCall.{LinkCall}
use Rattle.mesh_links.specs.declared.call.LinkCall.TheVariants as calls
use Rattle.mesh_links.specs.declared.call.LinkEvent.{LinkEvent}
use Rattle.mesh_links.specs.declared.call.LinkEvent.TheVariants as events
use Rattle.view_types.specs.declared.config.Config.{Config}
use Rattle.route_match.specs.Matching.{Pat}
use Rattle.serve_rules.specs.FedLines.{FedRow}
use Rattle.serve_rules.specs.LinkOrder.{AreBetween}
use Rattle.serve_rules.specs.LinkStates.{LinkState}
use Rattle.serve_core.specs.Served.{AreShown, IsAt, serving_of, unasked}
use Rattle.serve_core.specs.Shown.{AreOpenNew, Awaits}
use Rattle.serve_core.specs.declared.turning.Turning.{Turning}
use Rattle.serve_core.proofs.NewLinks.{higher}
use Rattle.serve_core.proofs.OpenTraces.{last_then, open_then}

-- ---- events

pub rises : (last : ℕ) (shown : List LinkEvent) → last ≤ last_of_events last shown
rises last [] = omega arith
rises last (events.New n ∷ more) = let rest = rises (max last n) more in omega (arith, rest)
rises last (events.Readable n ∷ more) = rises last more
rises last (events.Writable n ∷ more) = rises last more

stays_open : (k : ℕ) (shown : List LinkEvent) → is_open_after_events k true shown ≡ true
stays_open k [] = refl
stays_open k (events.New n ∷ more) = stays_open k more
stays_open k (events.Readable n ∷ more) = stays_open k more
stays_open k (events.Writable n ∷ more) = stays_open k more

open_still : (k : ℕ) (b : Bool) (shown : List LinkEvent) → b ≡ true → is_open_after_events k b shown ≡ true
open_still k b shown is = ap (λ c. is_open_after_events k c shown) is ∙ stays_open k shown

open_at : (n : ℕ) (b : Bool) → (b || (n == n)) ≡ true
open_at n true = refl
open_at n false = eq-eqb n n refl

greatest : (last n most : ℕ) → max last n ≤ most → n ≤ most
greatest last n most le = omega arith

new_open : (trace : List LinkCall) (flags : ℕ → Bool) (last : ℕ) (shown : List LinkEvent) → ((k : ℕ) → is_open_in trace k ≡ is_open_after_events k (flags k) shown) → last_in trace ≡ last_of_events last shown → AreOpenNew trace shown
new_open trace flags last [] same last_is = tt
new_open trace flags last (events.New n ∷ more) same last_is = (
  same n ∙ open_still n (flags n || (n == n)) more (open_at n (flags n)),
  subst (λ m. n ≤ m) (sym last_is) (greatest last n (last_of_events (max last n) more) (rises (max last n) more)),
  new_open trace (λ k. flags k || (n == k)) (max last n) more same last_is,
)
new_open trace flags last (events.Readable n ∷ more) same last_is = new_open trace flags last more same last_is
new_open trace flags last (events.Writable n ∷ more) same last_is = new_open trace flags last more same last_is

few_still : (a last most : ℕ) → a ≤ last → last ≤ most → a ≤ most
few_still a last most few later = omega arith

-- ---- the trace

shown_poll : (trace : List LinkCall) (wait : Bool) (shown : List LinkEvent) (links : List LinkState) → AreShown trace links → AreShown (trace ++ calls.Poll wait (Some shown) ∷ []) links
shown_poll trace wait shown [] is = tt
shown_poll trace wait shown (s ∷ links) is = (
  (λ is_open. open_then s.number false trace (calls.Poll wait (Some shown) ∷ []) ∙ open_still s.number (is_open_in trace s.number) shown (is.0 is_open)),
  shown_poll trace wait shown links is.1,
)

shown_none : (trace : List LinkCall) (wait : Bool) (links : List LinkState) → AreShown trace links → AreShown (trace ++ calls.Poll wait None ∷ []) links
shown_none trace wait [] is = tt
shown_none trace wait (s ∷ links) is = ((λ is_open. open_then s.number false trace (calls.Poll wait None ∷ []) ∙ is.0 is_open), shown_none trace wait links is.1)

module _ (config : Config) (limits : Limits) (pat : Pat) (fed : List FedRow) (links : List LinkState) (trace : List LinkCall) (now : Turning) (at : IsAt config limits pat fed links trace now) (wait : Bool) where
  pub failed_at : IsAt config limits pat fed links (trace ++ calls.Poll wait None ∷ []) now
  failed_at =
      let serving = serving_of config limits pat in
      let same = sym (last_then 0 trace (calls.Poll wait None ∷ [])) in
      record {
        id_of = at.id_of;
        is = record {
          config_is = at.is.config_is;
          line_config_is = at.is.line_config_is;
          limits_are = at.is.limits_are;
          in_order = subst (λ m. AreBetween 0 links m) same at.is.in_order;
          shown = shown_none trace wait links at.is.shown;
          few_requests = subst (λ m. now.hub.requests + unasked serving links ≤ m) same at.is.few_requests;
          numbered = at.is.numbered;
          last_id = at.is.last_id;
          few_subs = at.is.few_subs;
          hub = at.is.hub;
          served = at.is.served;
        };
        keeps = at.keeps;
      }

  module _ (shown : List LinkEvent) where
    last_is : last_in (trace ++ calls.Poll wait (Some shown) ∷ []) ≡ last_of_events (last_in trace) shown
    last_is = last_then 0 trace (calls.Poll wait (Some shown) ∷ [])

    pub polled_at : IsAt config limits pat fed links (trace ++ calls.Poll wait (Some shown) ∷ []) now
    polled_at =
        let serving = serving_of config limits pat in
        let later = rises (last_in trace) shown in
        let same = sym last_is in
        let few = at.is.few_requests in
        record {
          id_of = at.id_of;
          is = record {
            config_is = at.is.config_is;
            line_config_is = at.is.line_config_is;
            limits_are = at.is.limits_are;
            in_order = subst (λ m. AreBetween 0 links m) same (higher 0 links (last_in trace) (last_of_events (last_in trace) shown) later at.is.in_order);
            shown = shown_poll trace wait shown links at.is.shown;
            few_requests = subst (λ m. now.hub.requests + unasked serving links ≤ m) same (few_still (now.hub.requests + unasked serving links) (last_in trace) (last_of_events (last_in trace) shown) few later);
            numbered = at.is.numbered;
            last_id = at.is.last_id;
            few_subs = at.is.few_subs;
            hub = at.is.hub;
            served = at.is.served;
          };
          keeps = at.keeps;
        }

    pub polled_awaits : AreNew trace shown → Awaits config limits pat links (trace ++ calls.Poll wait (Some shown) ∷ []) shown now
    polled_awaits new = record {
      last = last_in trace;
      between = at.is.in_order;
      few_requests = at.is.few_requests;
      above = new;
      open_new = new_open (trace ++ calls.Poll wait (Some shown) ∷ []) (λ k. is_open_in trace k) (last_in trace) shown (λ k. open_then k false trace (calls.Poll wait (Some shown) ∷ [])) last_is;
    }
