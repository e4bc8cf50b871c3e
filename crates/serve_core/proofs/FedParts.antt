-- Lines that are fed in parts, one after another.
use Rattle.std.proofs.Common.{◌≡◌, inl, inr, ℕ, ◌+◌, ◌-◌, ◌^◌, ◌≤◌, min, Bool, true, false, ◌||◌, List, [], ◌∷◌, ◌++◌, length, take, Option, refl, sym, ap, ◌∙◌, subst, append_assoc, arith}
use Rattle.std.specs.List.{list_any}
use Rattle.std.proofs.lemmas.List.Folds.{list_any-append}
use Rattle.mesh_base.specs.declared.limits.Limits.{Limits}
use Rattle.view_types.specs.declared.config.Config.{Config}
use Rattle.route_match.specs.Matching.{Pat}
use Rattle.mesh_hub.specs.Hub.{state_of}
use Rattle.feed_history.specs.KnownPatterns.{PatternsNow, facts_in, known_of}
use Rattle.feed_history.specs.History.{after}
use Rattle.feed_history.specs.MarkCauses.{AreFair, IsTold, MayBeMarked, NoneSimulates}
use Rattle.route_match.specs.Asking.{PatternFacts}
use Rattle.feed_history.specs.Marks.{AreFew, mark, marks}
use Rattle.feed_history.specs.Program.{Program}
use Rattle.serve_rules.specs.FedLines.{FedRow, is_stop, lines_since, rows_fed, serve_of}
use Rattle.serve_rules.specs.Turns.{has_stop}
use Rattle.serve_rules.specs.Batches.{Serving}
use Rattle.fed_hub.specs.LineSteps.{Holds}
use Rattle.serve_core.specs.Steps.{AreUnmarked, IsFed, StaysFed}
use Rattle.serve_core.specs.declared.turning.Turning.{Turning}

-- ---- what is told

-- What a line of a feed says does not depend on the lines before it.
module _ (config : Config) (limits : Limits) (pat : Pat) where
  abbrev program : Program
  program = serve_of config limits pat

  none_late : (late early : List FedRow) → NoneSimulates program (rows_fed (late ++ early)) → NoneSimulates program (rows_fed late)
  none_late [] early none = tt
  none_late (f ∷ late) early none = (none.0, none_late late early none.1)

  none_early : (late early : List FedRow) → NoneSimulates program (rows_fed (late ++ early)) → NoneSimulates program (rows_fed early)
  none_early [] early none = none
  none_early (f ∷ late) early none = none_early late early none.1

  module _ (tells : Option Pat) (late early : List FedRow) where
    pub told_late : IsTold program tells (rows_fed (late ++ early)) → IsTold program tells (rows_fed late)
    told_late (inl is) = inl is
    told_late (inr none) = inr (none_late late early none)

    pub told_early : IsTold program tells (rows_fed (late ++ early)) → IsTold program tells (rows_fed early)
    told_early (inl is) = inl is
    told_early (inr none) = inr (none_early late early none)

-- ---- marks

marks_joined : (late early : List FedRow) → marks (rows_fed (late ++ early)) ≡ marks (rows_fed late) + marks (rows_fed early)
marks_joined [] early = omega arith
marks_joined (f ∷ late) early = let rest = marks_joined late early in omega (arith, rest)

few_sum : (a b before mid now : ℕ) → min (a + before) (2 ^ 64 - 1) ≤ mid → min (b + mid) (2 ^ 64 - 1) ≤ now → min ((b + a) + before) (2 ^ 64 - 1) ≤ now
few_sum a b before mid now first second = omega arith

pub few_then : (late early : List FedRow) (before mid now : ℕ) → AreFew (rows_fed early) before mid → AreFew (rows_fed late) mid now → AreFew (rows_fed (late ++ early)) before now
few_then late early before mid now first second =
    subst (λ n. min (n + before) (2 ^ 64 - 1) ≤ now) (sym (marks_joined late early)) (few_sum (marks (rows_fed early)) (marks (rows_fed late)) before mid now first second)

few_same : (before now : ℕ) → before ≤ now → min (0 + before) (2 ^ 64 - 1) ≤ now
few_same before now later = omega arith

pub few_none : (before now : ℕ) → before ≤ now → AreFew (rows_fed []) before now
few_none before now later = few_same before now later

few_most : (a before mid now : ℕ) → min (a + before) (2 ^ 64 - 1) ≤ mid → mid ≤ now → min (a + before) (2 ^ 64 - 1) ≤ now
few_most a before mid now few later = omega arith

pub few_later : (lines : List FedRow) (before mid now : ℕ) → AreFew (rows_fed lines) before mid → mid ≤ now → AreFew (rows_fed lines) before now
few_later lines before mid now few later = few_most (marks (rows_fed lines)) before mid now few later

-- lines that met no fault add none
few_more : (rest : List FedRow) (lines : List FedRow) → AreUnmarked rest → marks (rows_fed (rest ++ lines)) ≡ marks (rows_fed lines)
few_more [] lines unmarked = refl
few_more (f ∷ rest) lines unmarked = let none : mark f.row.1 ≡ 0 = ap mark unmarked.0 in let more = few_more rest lines unmarked.1 in omega (arith, none, more)

pub few_unmarked : (rest lines : List FedRow) (before now : ℕ) → AreUnmarked rest → AreFew (rows_fed lines) before now → AreFew (rows_fed (rest ++ lines)) before now
few_unmarked rest lines before now unmarked few = subst (λ n. min (n + before) (2 ^ 64 - 1) ≤ now) (sym (few_more rest lines unmarked)) few

pub fair_unmarked : (program : Program) (facts : PatternFacts) (rest fed : List FedRow) → AreUnmarked rest → AreFair program facts (rows_fed fed) → AreFair program facts (rows_fed (rest ++ fed))
fair_unmarked program facts [] fed unmarked fair = fair
fair_unmarked program facts (f ∷ rest) fed unmarked fair =
    (subst (λ met. MayBeMarked program (after program (rows_fed (rest ++ fed))) facts f.row met) (sym unmarked.0) tt, fair_unmarked program facts rest fed unmarked.1 fair)

-- ---- the lines since

take_first : (late fed : List FedRow) → take (length late) (late ++ fed) ≡ late
take_first [] fed = refl
take_first (f ∷ late) fed = ap (λ fs. f ∷ fs) (take_first late fed)

length_joined : (late fed : List FedRow) → length (late ++ fed) ≡ length late + length fed
length_joined [] fed = omega arith
length_joined (f ∷ late) fed = let rest = length_joined late fed in omega (arith, rest)

less_rest : (all late fed : ℕ) → all ≡ late + fed → all - fed ≡ late
less_rest all late fed is = omega arith

pub since_is : (late fed : List FedRow) → lines_since fed (late ++ fed) ≡ late
since_is late fed = ap (λ n. take n (late ++ fed)) (less_rest (length (late ++ fed)) (length late) (length fed) (length_joined late fed)) ∙ take_first late fed

pub stop_is : (serving : Serving) (late fed : List FedRow) → has_stop serving fed (late ++ fed) ≡ list_any (is_stop serving.program) late
stop_is serving late fed = ap (λ fs. list_any (is_stop serving.program) fs) (since_is late fed)

-- ---- what is fed

or_else : (a b c : Bool) → ((a || b) || c) ≡ (a || (c || b))
or_else true b c = refl
or_else false true true = refl
or_else false true false = refl
or_else false false true = refl
or_else false false false = refl

stopped_then : (test : FedRow → Bool) (late early : List FedRow) (was mid now : Bool) → mid ≡ (was || list_any test early) → now ≡ (mid || list_any test late) → now ≡ (was || list_any test (late ++ early))
stopped_then test late early was mid now first second =
    second ∙ ap (λ b. b || list_any test late) first ∙ or_else was (list_any test early) (list_any test late) ∙ ap (λ b. was || b) (sym (list_any-append test late early))

or_none : (b : Bool) → b ≡ (b || false)
or_none true = refl
or_none false = refl

module _ (config : Config) (limits : Limits) (pat : Pat) (tells : Option Pat) (refuses : Option (List ℕ → Bool)) where
  pub fair_then : (known : PatternsNow) (fed early late : List FedRow) → (AreFair (serve_of config limits pat) (facts_in known) (rows_fed fed) → AreFair (serve_of config limits pat) (facts_in known) (rows_fed (early ++ fed)))
      → (AreFair (serve_of config limits pat) (facts_in known) (rows_fed (early ++ fed)) → AreFair (serve_of config limits pat) (facts_in known) (rows_fed (late ++ (early ++ fed))))
      → AreFair (serve_of config limits pat) (facts_in known) (rows_fed fed) → AreFair (serve_of config limits pat) (facts_in known) (rows_fed ((late ++ early) ++ fed))
  fair_then known fed early late first second fair = subst (λ fs. AreFair (serve_of config limits pat) (facts_in known) (rows_fed fs)) (sym (append_assoc late early fed)) (second (first fair))

  pub fed_then : (before mid now : ℕ) (fed early late : List FedRow) (old between new : Turning) → IsFed config limits pat (known_of tells refuses before mid) fed early old between
      → IsFed config limits pat (known_of tells refuses mid now) (early ++ fed) late between new → IsFed config limits pat (known_of tells refuses before now) fed (late ++ early) old new
  fed_then before mid now fed early late old between new first second = record {
    holds = subst (λ fs. Holds config limits pat fs (state_of new.hub.hub)) (sym (append_assoc late early fed)) second.holds;
    few = few_then late early before mid now first.few second.few;
    fair = fair_then (known_of tells refuses before now) fed early late first.fair second.fair;
    stopped = stopped_then (is_stop (serve_of config limits pat)) late early old.hub.stopped between.hub.stopped new.hub.stopped first.stopped second.stopped;
    same_config = second.same_config ∙ first.same_config;
  }

  pub fed_none : (before now : ℕ) (fed : List FedRow) (old new : Turning) → before ≤ now → Holds config limits pat fed (state_of old.hub.hub) → StaysFed old new → IsFed config limits pat (known_of tells refuses before now) fed [] old new
  fed_none before now fed old new later holds stays = record {
    holds = stays.holds config limits pat fed holds;
    few = few_same before now later;
    fair = λ fair. fair;
    stopped = stays.stopped ∙ or_none old.hub.stopped;
    same_config = stays.same_config;
  }

pub stays_here : (now : Turning) → StaysFed now now
stays_here now = record { holds = λ config limits pat fed holds. holds; stopped = refl; same_config = refl }

pub stays_then : (old mid new : Turning) → StaysFed old mid → StaysFed mid new → StaysFed old new
stays_then old mid new first second = record {
  holds = λ config limits pat fed holds. second.holds config limits pat fed (first.holds config limits pat fed holds);
  stopped = second.stopped ∙ first.stopped;
  same_config = second.same_config ∙ first.same_config;
}
