-- A link that is open after its turn is closed unless it goes on.
use Rattle.std.proofs.Common.{◌≡◌, ℕ, ◌≤◌, ◌^◌, ◌-◌, ◌+◌, Bool, true, false, not, ◌&&◌, ◌||◌, cond, min, List, [], ◌∷◌, ◌++◌, Option, Some, refl, sym, ap, ◌∙◌, subst, append-nil, arith}
use Rattle.mesh_base.specs.declared.limits.Limits.{Limits}
use Rattle.mesh_links.specs.declared.call.LinkCall.{LinkCall}
use Rattle.mesh_links.specs.declared.call.LinkCall.TheVariants as calls
use Rattle.view_types.specs.declared.config.Config.{Config}
use Rattle.feed_history.specs.KnownPatterns.{known_of}
use Rattle.route_match.specs.Matching.{Pat}
use Rattle.mesh_hub.specs.Hub.{state_of}
use Rattle.link_sessions.specs.Entries.{entries_of, link_at, stays}
use Rattle.link_sessions.specs.declared.link.Role.{Role}
use Rattle.link_sessions.specs.declared.link.Role.TheVariants as roles
use Rattle.fed_hub.specs.LineSteps.{Holds}
use Rattle.fed_hub.specs.declared.hub.FedHub.{FedHub}
use Rattle.serve_rules.specs.FedLines.{FedRow}
use Rattle.serve_rules.specs.LinkStates.{LinkState, closing}
use Rattle.serve_core.specs.Served.{IsAt, serving_of}
use Rattle.serve_core.specs.Steps.{ClosesAt, Ends, IsFed, SettlesAt, StaysFed, gone_on}
use Rattle.serve_core.specs.declared.turning.Turning.{Turning}
use Rattle.serve_core.proofs.Roles.{stays_is}
use Rattle.serve_core.proofs.Staying.{at_but, found_here, found_number}

-- ---- what is called then

pub closing_open : (s t : LinkState) → t.is_open ≡ s.is_open → [] ≡ closing s t
closing_open s t same = by_open s.is_open ∙ ap (λ b. cond (s.is_open && not b) (calls.Close s.number ∷ []) []) (sym same)
  where
    by_open : (b : Bool) → [] ≡ cond (b && not b) (calls.Close s.number ∷ []) []
    by_open true = refl
    by_open false = refl

pub closing_closed : (s t : LinkState) → s.is_open ≡ true → t.is_open ≡ false → closing s t ≡ calls.Close s.number ∷ []
closing_closed s t is_open closed = rw (is_open, closed) refl

pub append_cancel : {A : Type 0} (xs ys zs : List A) → xs ++ ys ≡ xs ++ zs → ys ≡ zs
append_cancel [] ys zs same = same
append_cancel (x ∷ xs) ys zs same = append_cancel xs ys zs (let rest : xs ++ ys ≡ xs ++ zs = cc in rest)

pub same_made : (trace made other : List LinkCall) (now : Option (List LinkCall)) → now ≡ Some (trace ++ made) → now ≡ Some (trace ++ other) → made ≡ other
same_made trace made other now a b = let same : Some (trace ++ made) ≡ Some (trace ++ other) = sym a ∙ b in append_cancel trace made other (let rest : trace ++ made ≡ trace ++ other = cc in rest)

-- ---- a link that goes on, or doesn't

module _ (number : ℕ) (trace_before trace_now : Option (List LinkCall)) (old new : Turning) where
  goes_is : (config : Config) (limits : Limits) (pat : Pat) (fed : List FedRow) (done : List LinkState) (s : LinkState) (links : List LinkState) (trace : List LinkCall) (b : Bool) → stays (link_at number (entries_of old.kept)) ≡ b → s.number ≡ number → s.is_open ≡ true
      → IsAt config limits pat fed (done ++ s ∷ links) trace old → (gone_on (serving_of config limits pat) s).is_open ≡ b
  goes_is config limits pat fed done s links trace b is same is_open at =
      let found = found_here config limits pat fed number done s links trace old same is_open at in
      sym (stays_is (serving_of config limits pat) at.id_of s found.link found.is found.is.fine) ∙ ap stays (sym (found_number config limits pat fed number done s links trace old same is_open at)) ∙ is

  pub settles_open : trace_now ≡ trace_before → new ≡ old → stays (link_at number (entries_of old.kept)) ≡ true → SettlesAt number trace_before old trace_now new
  settles_open same_trace same_now is config limits pat fed done s links trace told same is_open at =
      let serving = serving_of config limits pat in
      let t = gone_on serving s in
      let on : t.is_open ≡ s.is_open = goes_is config limits pat fed done s links trace true is same is_open at ∙ sym is_open in
      let none : [] ≡ closing s t = closing_open s t on in
      let whole : trace ≡ trace ++ closing s t = sym (append-nil trace) ∙ ap (λ made. trace ++ made) none in
      let same_link : s ≡ t = ap (λ b. record s { is_open = b }) (sym on) in
      record {
        grew = same_trace ∙ told ∙ ap Some whole;
        at = subst (λ now. IsAt config limits pat fed (done ++ t ∷ links) (trace ++ closing s t) now) (sym same_now)
            (subst (λ calls_so_far. IsAt config limits pat fed (done ++ t ∷ links) calls_so_far old) whole
            (subst (λ u. IsAt config limits pat fed (done ++ u ∷ links) trace old) same_link at));
      }

  pub settles_closed : stays (link_at number (entries_of old.kept)) ≡ false → ClosesAt number trace_before old trace_now new → SettlesAt number trace_before old trace_now new
  settles_closed is closes config limits pat fed done s links trace told same is_open at =
      let serving = serving_of config limits pat in
      let t = gone_on serving s in
      let closed : t.is_open ≡ false = goes_is config limits pat fed done s links trace false is same is_open at in
      let one : closing s t ≡ calls.Close number ∷ [] = closing_closed s t is_open closed ∙ ap (λ n. calls.Close n ∷ []) same in
      let ends = closes config limits pat fed done s links trace told same is_open (at_but config limits pat fed number done s links trace old same is_open at) in
      record {
        grew = ends.grew ∙ ap (λ made. Some (trace ++ made)) (sym one);
        at = subst (λ made. IsAt config limits pat fed (done ++ t ∷ links) (trace ++ made) new) (sym one) (ends.at t same closed);
      }

-- ---- what was fed

pub stays_here : (now : Turning) → StaysFed now now
stays_here now = record { holds = λ config limits pat fed holds. holds; stopped = refl; same_config = refl }

pub stays_then : (old mid new : Turning) → StaysFed old mid → StaysFed mid new → StaysFed old new
stays_then old mid new a b = record {
  holds = λ config limits pat fed holds. b.holds config limits pat fed (a.holds config limits pat fed holds);
  stopped = b.stopped ∙ a.stopped;
  same_config = b.same_config ∙ a.same_config;
}

pub stays_same : (old new : Turning) → new.hub ≡ old.hub → StaysFed old new
stays_same old new same = record {
  holds = λ config limits pat fed holds. subst (λ (hub : FedHub). Holds config limits pat fed (state_of hub.hub)) (sym same) holds;
  stopped = ap (λ (hub : FedHub). hub.stopped) same;
  same_config = ap (λ (hub : FedHub). hub.config) same;
}

pub stays_ended : (old new : Turning) (role : Role) → Ends role old.hub new.hub → StaysFed old new
stays_ended old new roles.Opening ends = stays_same old new ends
stays_ended old new roles.Feed ends = stays_same old new ends
stays_ended old new (roles.Subscriber id) ends = record {
  holds = λ config limits pat fed holds. subst (λ st. Holds config limits pat fed st) (sym ends.state) (record { config_is = holds.config_is; limits_are = holds.limits_are; objects = holds.objects; going = holds.going });
  stopped = ends.same.stopped;
  same_config = ends.same.config;
}

none_later : (end count : ℕ) → min (0 + count) end ≤ count
none_later end count = omega arith

pub few_none : (count : ℕ) → min (0 + count) (2 ^ 64 - 1) ≤ count
few_none count = none_later (2 ^ 64 - 1) count

no_stop : (b : Bool) → b ≡ (b || false)
no_stop true = refl
no_stop false = refl

-- no line was fed
pub none_fed : (config : Config) (limits : Limits) (pat : Pat) (tells : Option Pat) (refuses : Option (List ℕ → Bool)) (count : ℕ) (fed : List FedRow) (old new : Turning) → StaysFed old new → Holds config limits pat fed (state_of old.hub.hub)
    → IsFed config limits pat (known_of tells refuses count count) fed [] old new
none_fed config limits pat tells refuses count fed old new same holds = record {
  holds = same.holds config limits pat fed holds;
  few = few_none count;
  fair = λ fair. fair;
  stopped = same.stopped ∙ no_stop old.hub.stopped;
  same_config = same.same_config;
}
