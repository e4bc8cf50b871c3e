-- What a piece of a link's bytes comes to, by what the link asks for.
use Rattle.std.proofs.Common.{◌≡◌, ◌⊎◌, inl, inr, ℕ, ◌+◌, ◌^◌, ◌≤◌, ◌<◌, Bool, true, false, ◌||◌, List, [], ◌∷◌, ◌++◌, length, Option, Some, None, Ok, Err, refl, sym, ap, ◌∙◌, subst, arith}
use Rattle.std.specs.Prelude.{Result, OnOk, is_ok, nat_lt}
use Rattle.mesh_base.specs.declared.limits.Limits.{Limits}
use Rattle.mesh_base.specs.declared.memory.Memory.{Memory}
use Rattle.mesh_links.specs.declared.call.LinkCall.{LinkCall}
use Rattle.line_run.specs.Rows.{Row}
use Rattle.view_types.specs.declared.config.Config.{Config}
use Rattle.view_types.specs.declared.query.Query.{Query}
use Rattle.session_core.specs.Phases.{Phase, rows_in}
use Rattle.session_core.specs.declared.session.Ask.{Ask}
use Rattle.session_core.specs.declared.session.Ask.TheVariants as asks
use Rattle.session_core.specs.declared.session.SessionFault.{SessionFault}
use Rattle.route_match.specs.Asking.{PatternFacts}
use Rattle.route_match.specs.Matching.{Pat}
use Rattle.feed_history.specs.KnownPatterns.{known_of}
use Rattle.feed_history.specs.MarkCauses.{AreFair, IsTold}
use Rattle.feed_history.specs.Marks.{AreFew}
use Rattle.mesh_hub.specs.Hub.{state_of}
use Rattle.fed_hub.specs.LineSteps.{Holds}
use Rattle.link_sessions.specs.Entries.{entries_of, with_link}
use Rattle.link_sessions.specs.Roles.{is_feed as is_feed_role}
use Rattle.serve_rules.specs.Batches.{Serving}
use Rattle.serve_rules.specs.FedLines.{FedRow, rows_fed, serve_of}
use Rattle.serve_rules.specs.LinkStates.{LinkState, admits_by, feeds, is_empty, is_feed, phase_in, query_of, subs}
use Rattle.fed_hub.specs.HubSteps.{IsSubscribed, id_at}
use Rattle.serve_core.specs.Hearing.{BeginsFeed, IsRefused, IsSubscriber, StopsAt, TakesEach}
use Rattle.serve_core.specs.Served.{one_unasked, serving_of, unasked as unasked_in}
use Rattle.serve_core.specs.Steps.{IsFed, StaysFed}
use Rattle.serve_core.specs.declared.turning.Turning.{Turning}
use Rattle.serve_core.proofs.Admitting.{admits_ask, admits_feed, admits_same, feeds_others, feeds_with, subs_others}
use Rattle.serve_core.proofs.AskShapes.{Heads, IsSame, new_rows, rest_of, shape_of}
use Rattle.serve_core.proofs.AsksTaken.{AreAllHeard, AreHeard, AreSomeHeard, IsRun, fed_past, few_sooner, left_over, no_begin, no_subscribe, on_ok, run, stays_refused, stays_subscribed}
use Rattle.serve_core.proofs.FedParts.{fed_none, few_none}
use Rattle.serve_core.proofs.HeardHeads.{IsTakenIn, heard_feed, heard_same, heard_sub, is_opening_still, t, taken_kept, taken_refused}
use Rattle.serve_core.proofs.HeardSubs.{has_room, is_full}
use Rattle.serve_core.proofs.KeptLinks.{count_feeds}
use Rattle.serve_core.proofs.LinesHeard.{IsHearing}
use Rattle.serve_core.proofs.OpenOnes.{sum_without}
use Rattle.serve_core.proofs.Settles.{stays_same}

module _ (config : Config) (limits : Limits) (pat : Pat) (tells : Option Pat) (refuses : Option (List ℕ → Bool)) (number : ℕ) where
  abbrev serving : Serving
  serving = serving_of config limits pat

  abbrev facts : PatternFacts
  facts = record { tells = tells; refuses = refuses }

  abbrev pub first_of : LinkState → ℕ
  first_of s = length (rows_in limits.line false (phase_in serving s.bytes))

  abbrev pub rows_now : LinkState → List ℕ → List Row
  rows_now s piece = new_rows limits.line (is_empty piece) (phase_in serving s.bytes) (phase_in serving (s.bytes ++ piece))

  abbrev pub admitted : List LinkState → LinkState → List ℕ → Bool
  admitted others s piece = admits_by limits (feeds serving others) (subs serving others) (phase_in serving s.bytes) (phase_in serving (s.bytes ++ piece))

  module _ (fed : List FedRow) (lines : List FedRow) (done : List LinkState) (s : LinkState) (links : List LinkState) (trace : List LinkCall) (same : s.number ≡ number) (is_open : s.is_open ≡ true) (going : s.ended ≡ false) (piece : List ℕ) where
    -- the limits admit it, and its lines were fed
    pub record IsAdmitted (answers_now : List (List ℕ)) (new : Turning) : Type 0 where
      pub admits : admitted (done ++ links) s piece ≡ true
      pub heard : AreAllHeard config limits pat tells refuses number fed lines (first_of s) (rows_now s piece) (is_empty piece || false) (is_empty piece) [] answers_now (done ++ t config limits pat fed number done s links trace same is_open going piece ∷ links) trace new

    -- they don't, and nothing was fed
    pub record IsTurnedBack (new : Turning) : Type 0 where
      pub admits : admitted (done ++ links) s piece ≡ false
      pub none : lines ≡ []
      pub taken : IsTakenIn config limits pat fed number done s links trace same is_open going piece new

    -- memory ran out
    pub record IsCutOff : Type 0 where
      pub admits : (admitted (done ++ links) s piece ≡ true) ⊎ (rows_now s piece ≡ [])
      pub some : AreSomeHeard config limits pat tells refuses number fed lines (first_of s) (rows_now s piece)

    abbrev pub ReadsTo : Result Bool Memory → List (List ℕ) → Turning → Type 0
    ReadsTo (Ok true) answers_now new = IsAdmitted answers_now new
    ReadsTo (Ok false) answers_now new = IsTurnedBack new
    ReadsTo (Err memory) answers_now new = IsCutOff

    -- where the lines are those that follow what the link has come to be
    reads_by : (result : Result Bool Memory) (answers_now : List (List ℕ)) (new : Turning) → admitted (done ++ links) s piece ≡ true
        → AreHeard config limits pat tells refuses number fed lines (first_of s) (rows_now s piece) (is_empty piece || false) (is_empty piece) [] result answers_now (done ++ t config limits pat fed number done s links trace same is_open going piece ∷ links) trace new → ReadsTo result answers_now new
    reads_by (Ok true) answers_now new admits heard = record { admits = admits; heard = heard }
    reads_by (Ok false) answers_now new admits heard = absurd heard
    reads_by (Err memory) answers_now new admits heard = record { admits = inl admits; some = heard }

  -- What was asked for was done, and its lines were fed.
  pub record IsAskedFor (fed : List FedRow) (before now : ℕ) (asked : List Ask) (mid : Turning) (result : Result Bool Memory) (new : Turning) (answers_now : List (List ℕ)) : Type 0 where
    pub lines : List FedRow
    pub few : AreFew (rows_fed lines) before now
    pub fair : AreFair (serve_of config limits pat) facts (rows_fed fed) → AreFair (serve_of config limits pat) facts (rows_fed (lines ++ fed))
    pub is_fed : OnOk result (IsFed config limits pat (known_of tells refuses before now) fed lines mid new)
    pub reads : IsTold (serve_of config limits pat) tells (rows_fed lines) → (done : List LinkState) (s : LinkState) (links : List LinkState) (trace : List LinkCall) (same : s.number ≡ number) (is_open : s.is_open ≡ true) (going : s.ended ≡ false) (piece : List ℕ)
        → IsTakenIn config limits pat fed number done s links trace same is_open going piece mid → is_ok (phase_in serving (s.bytes ++ piece)) ≡ true → Heads (phase_in serving s.bytes) (phase_in serving (s.bytes ++ piece))
        → asked ≡ shape_of limits.line (is_empty piece) (phase_in serving s.bytes) (phase_in serving (s.bytes ++ piece)) → ReadsTo fed lines done s links trace same is_open going piece result answers_now new

  no_lines_feed : (more : List Ask) (limit : ℕ) (ended : Bool) (was now : Result Phase SessionFault) → IsSame was now → asks.FeedBegins ∷ more ≡ shape_of limit ended was now → ⊥
  no_lines_feed more limit ended was now same shape = no_begin config limits pat tells refuses number more (length (rows_in limit false was)) (new_rows limit ended was now) ended (shape ∙ ap (λ head. head ++ rest_of limit ended was now) same.head)

  no_lines_ask : (query : Query) (more : List Ask) (limit : ℕ) (ended : Bool) (was now : Result Phase SessionFault) → IsSame was now → asks.Subscribe query ∷ more ≡ shape_of limit ended was now → ⊥
  no_lines_ask query more limit ended was now same shape = no_subscribe config limits pat tells refuses number query more (length (rows_in limit false was)) (new_rows limit ended was now) ended (shape ∙ ap (λ head. head ++ rest_of limit ended was now) same.head)

  -- ---- nothing that the link comes to be is asked for

  plain : (fed : List FedRow) (before now : ℕ) (asked : List Ask) (mid : Turning) (result : Result Bool Memory) (new : Turning) (answers_now : List (List ℕ)) → ((more : List Ask) → asked ≡ asks.FeedBegins ∷ more → ⊥) → ((query : Query) (more : List Ask) → asked ≡ asks.Subscribe query ∷ more → ⊥)
      → IsRun config limits pat tells refuses number fed before now asked mid [] result new answers_now → IsAskedFor fed before now asked mid result new answers_now
  plain fed before now asked mid result new answers_now no_feed no_ask all = record {
    lines = all.lines;
    few = all.few;
    fair = all.fair;
    is_fed = all.is_fed;
    reads = λ told done s links trace same is_open going piece taken fine heads shape. elim heads as (λ h. ReadsTo fed all.lines done s links trace same is_open going piece result answers_now new) [
      | inl one ↦
          let was = phase_in serving s.bytes in
          let is = phase_in serving (s.bytes ++ piece) in
          let asked_is = shape ∙ ap (λ head. head ++ rest_of limits.line (is_empty piece) was is) one.head in
          reads_by fed all.lines done s links trace same is_open going piece result answers_now new (admits_same limits (feeds serving (done ++ links)) (subs serving (done ++ links)) was is one)
          (all.heard told (done ++ t config limits pat fed number done s links trace same is_open going piece ∷ links) trace (first_of s) (rows_now s piece) (is_empty piece) false (is_empty piece) asked_is
          (heard_same config limits pat fed number done s links trace same is_open going piece fine one.query one.feed mid taken))
      | inr (inl feed) ↦ absurd (no_feed (rest_of limits.line (is_empty piece) (phase_in serving s.bytes) (phase_in serving (s.bytes ++ piece))) (shape ∙ ap (λ head. head ++ rest_of limits.line (is_empty piece) (phase_in serving s.bytes) (phase_in serving (s.bytes ++ piece))) feed.head))
      | inr (inr ask) ↦ absurd (no_ask ask.query (rest_of limits.line (is_empty piece) (phase_in serving s.bytes) (phase_in serving (s.bytes ++ piece))) (shape ∙ ap (λ head. head ++ rest_of limits.line (is_empty piece) (phase_in serving s.bytes) (phase_in serving (s.bytes ++ piece))) ask.head))
    ];
  }

  -- ---- a feed begins

  is_less : (a b : ℕ) → a < b → nat_lt a b ≡ true
  is_less a b less = grind arith

  not_less : (a b : ℕ) → a ≡ b → nat_lt a b ≡ false
  not_less a b same = grind (arith, same)

  -- the feeds that are kept are those of the others
  feeds_are : (fed : List FedRow) (done : List LinkState) (s : LinkState) (links : List LinkState) (trace : List LinkCall) (same : s.number ≡ number) (is_open : s.is_open ≡ true) (going : s.ended ≡ false) (piece : List ℕ) (mid : Turning) → IsTakenIn config limits pat fed number done s links trace same is_open going piece mid
      → is_feed serving s.bytes ≡ false → nat_lt mid.kept.feeds mid.limits.feeds ≡ nat_lt (feeds serving (done ++ links)) limits.feeds
  feeds_are fed done s links trace same is_open going piece mid taken unfed =
      let count : mid.kept.feeds ≡ feeds serving (done ++ links) =
      taken.settled.found.feeds_are ∙ feeds_with number (entries_of mid.kept) taken.was taken.link taken.at (ap is_feed_role taken.role) ∙ count_feeds serving taken.id_of (done ++ s ∷ links) (with_link number (entries_of mid.kept) taken.was) taken.links_are ∙ feeds_others serving done s links unfed in
      ap (λ n. nat_lt n mid.limits.feeds) count ∙ ap (λ (l : Limits). nat_lt (feeds serving (done ++ links)) l.feeds) taken.is.limits_are

  begins_not : (fed : List FedRow) (before now : ℕ) (more : List Ask) (mid : Turning) (new : Turning) (answers_now : List (List ℕ)) → before ≤ now → Holds config limits pat fed (state_of mid.hub.hub) → BeginsFeed number mid false new → IsAskedFor fed before now (asks.FeedBegins ∷ more) mid (Ok false) new answers_now
  begins_not fed before now more mid new answers_now later holds begins = record {
    lines = [];
    few = few_none before now later;
    fair = λ fair. fair;
    is_fed = fed_none config limits pat tells refuses before now fed mid new later holds (stays_same mid new (ap (λ (now : Turning). now.hub) begins.same));
    reads = λ told done s links trace same is_open going piece taken fine heads shape. elim heads as (λ h. ReadsTo fed [] done s links trace same is_open going piece (Ok false) answers_now new) [
      | inl one ↦ absurd (no_lines_feed more limits.line (is_empty piece) (phase_in serving s.bytes) (phase_in serving (s.bytes ++ piece)) one shape)
      | inr (inl feed) ↦ record {
        admits = admits_feed limits (feeds serving (done ++ links)) (subs serving (done ++ links)) (phase_in serving s.bytes) (phase_in serving (s.bytes ++ piece)) feed ∙ sym (feeds_are fed done s links trace same is_open going piece mid taken feed.unfed) ∙ sym begins.admits;
        none = refl;
        taken = taken_kept config limits pat fed number done s links trace same is_open going piece mid new taken begins.same begins.entries (begins.settled (is_opening_still config limits pat fed number done s links trace same is_open going piece feed.unfed feed.unasked mid taken) taken.settled);
      }
      | inr (inr ask) ↦ absurd (let not_so : asks.FeedBegins ∷ more ≡ asks.Subscribe ask.query ∷ rest_of limits.line (is_empty piece) (phase_in serving s.bytes) (phase_in serving (s.bytes ++ piece)) = shape ∙ ap (λ head. head ++ rest_of limits.line (is_empty piece) (phase_in serving s.bytes) (phase_in serving (s.bytes ++ piece))) ask.head in cc)
    ];
  }

  -- an ask that feeds no line, and those behind it
  module _ (fed : List FedRow) (before mid_count now : ℕ) (later : before ≤ mid_count) (ask : Ask) (more : List Ask) (mid between : Turning) (answers_mid : List (List ℕ)) (result : Result Bool Memory) (new : Turning) (answers_now : List (List ℕ)) (none : answers_mid ≡ [])
      (stays : StaysFed mid between) (rest : IsRun config limits pat tells refuses number fed mid_count now more between answers_mid result new answers_now) where
    is_fed_then : OnOk result (IsFed config limits pat (known_of tells refuses before now) fed rest.lines mid new)
    is_fed_then =
        on_ok config limits pat tells refuses number (IsFed config limits pat (known_of tells refuses mid_count now) fed rest.lines between new) (IsFed config limits pat (known_of tells refuses before now) fed rest.lines mid new) result
        (fed_past config limits pat tells refuses number fed before mid_count now ask more mid between [] answers_mid result new answers_now later rest.lines stays) rest.is_fed

    reads_then : IsTold (serve_of config limits pat) tells (rows_fed rest.lines) → (done : List LinkState) (s : LinkState) (links : List LinkState) (trace : List LinkCall) (same : s.number ≡ number) (is_open : s.is_open ≡ true) (going : s.ended ≡ false) (piece : List ℕ) → admitted (done ++ links) s piece ≡ true
        → more ≡ rest_of limits.line (is_empty piece) (phase_in serving s.bytes) (phase_in serving (s.bytes ++ piece)) → IsHearing config limits pat fed number false (is_empty piece) (done ++ t config limits pat fed number done s links trace same is_open going piece ∷ links) trace between
        → ReadsTo fed rest.lines done s links trace same is_open going piece result answers_now new
    reads_then told done s links trace same is_open going piece admits is at =
        reads_by fed rest.lines done s links trace same is_open going piece result answers_now new admits
        (subst (λ items. AreHeard config limits pat tells refuses number fed rest.lines (first_of s) (rows_now s piece) (is_empty piece || false) (is_empty piece) items result answers_now (done ++ t config limits pat fed number done s links trace same is_open going piece ∷ links) trace new) none
        (rest.heard told (done ++ t config limits pat fed number done s links trace same is_open going piece ∷ links) trace (first_of s) (rows_now s piece) (is_empty piece) false (is_empty piece) is at))

  begins_so : (fed : List FedRow) (before mid_count now : ℕ) (more : List Ask) (mid between : Turning) (answers_mid : List (List ℕ)) (result : Result Bool Memory) (new : Turning) (answers_now : List (List ℕ)) → before ≤ mid_count → answers_mid ≡ [] → BeginsFeed number mid true between
      → IsRun config limits pat tells refuses number fed mid_count now more between answers_mid result new answers_now → IsAskedFor fed before now (asks.FeedBegins ∷ more) mid result new answers_now
  begins_so fed before mid_count now more mid between answers_mid result new answers_now later none begins rest =
      let stays = stays_same mid between (ap (λ (now : Turning). now.hub) begins.same) in
      record {
        lines = rest.lines;
        few = few_sooner config limits pat tells refuses number rest.lines before mid_count now later rest.few;
        fair = rest.fair;
        is_fed = is_fed_then fed before mid_count now later asks.FeedBegins more mid between answers_mid result new answers_now none stays rest;
        reads = λ told done s links trace same is_open going piece taken fine heads shape. elim heads as (λ h. ReadsTo fed rest.lines done s links trace same is_open going piece result answers_now new) [
          | inl one ↦ absurd (no_lines_feed more limits.line (is_empty piece) (phase_in serving s.bytes) (phase_in serving (s.bytes ++ piece)) one shape)
          | inr (inl feed) ↦
              let was = phase_in serving s.bytes in
              let is = phase_in serving (s.bytes ++ piece) in
              let asked_is : asks.FeedBegins ∷ more ≡ asks.FeedBegins ∷ rest_of limits.line (is_empty piece) was is = shape ∙ ap (λ head. head ++ rest_of limits.line (is_empty piece) was is) feed.head in
              let more_is : more ≡ rest_of limits.line (is_empty piece) was is = cc in
              reads_then fed before mid_count now later asks.FeedBegins more mid between answers_mid result new answers_now none stays rest told done s links trace same is_open going piece
              (admits_feed limits (feeds serving (done ++ links)) (subs serving (done ++ links)) was is feed ∙ sym (feeds_are fed done s links trace same is_open going piece mid taken feed.unfed) ∙ sym begins.admits)
              more_is
              (heard_feed config limits pat fed number done s links trace same is_open going piece fine (feed.none ∙ sym feed.unasked) feed.feed mid between taken begins.same begins.entries
              (begins.settled (is_opening_still config limits pat fed number done s links trace same is_open going piece feed.unfed feed.unasked mid taken) taken.settled))
          | inr (inr ask) ↦ absurd (let not_so : asks.FeedBegins ∷ more ≡ asks.Subscribe ask.query ∷ rest_of limits.line (is_empty piece) (phase_in serving s.bytes) (phase_in serving (s.bytes ++ piece)) = shape ∙ ap (λ head. head ++ rest_of limits.line (is_empty piece) (phase_in serving s.bytes) (phase_in serving (s.bytes ++ piece))) ask.head in cc)
        ];
      }

  -- ---- a request

  same_query : (a b : Query) (more rest : List Ask) → asks.Subscribe a ∷ more ≡ asks.Subscribe b ∷ rest → (a ≡ b) × (more ≡ rest)
  same_query a b more rest is = ((let one : a ≡ b = cc in one), (let others : more ≡ rest = cc in others))

  -- this link has not subscribed, so that a number is left for its request
  next_fits : (fed : List FedRow) (done : List LinkState) (s : LinkState) (links : List LinkState) (trace : List LinkCall) (same : s.number ≡ number) (is_open : s.is_open ≡ true) (going : s.ended ≡ false) (piece : List ℕ) (mid : Turning) (taken : IsTakenIn config limits pat fed number done s links trace same is_open going piece mid)
      → query_of serving s.bytes ≡ None → mid.hub.requests + 1 < 2 ^ 32
  next_fits fed done s links trace same is_open going piece mid taken unasked =
      let all : unasked_in serving (done ++ s ∷ links) ≡ one_unasked serving s + unasked_in serving (done ++ links) = sum_without (one_unasked serving) done s links in
      let one : one_unasked serving s ≡ 1 = rw (is_open, unasked) refl in
      let few = taken.is.numbered.few_requests in
      let less = taken.is.numbered.less in
      omega (arith, all, one, few, less)

  subscribes_not : (fed : List FedRow) (before now : ℕ) (query : Query) (more : List Ask) (mid new : Turning) (answers_now : List (List ℕ)) → before ≤ now → Holds config limits pat fed (state_of mid.hub.hub) → IsRefused mid new → IsAskedFor fed before now (asks.Subscribe query ∷ more) mid (Ok false) new answers_now
  subscribes_not fed before now query more mid new answers_now later holds refused = record {
    lines = [];
    few = few_none before now later;
    fair = λ fair. fair;
    is_fed = fed_none config limits pat tells refuses before now fed mid new later holds (stays_refused config limits pat tells refuses number mid new refused);
    reads = λ told done s links trace same is_open going piece taken fine heads shape. elim heads as (λ h. ReadsTo fed [] done s links trace same is_open going piece (Ok false) answers_now new) [
      | inl one ↦ absurd (no_lines_ask query more limits.line (is_empty piece) (phase_in serving s.bytes) (phase_in serving (s.bytes ++ piece)) one shape)
      | inr (inl feed) ↦ absurd (let not_so : asks.Subscribe query ∷ more ≡ asks.FeedBegins ∷ rest_of limits.line (is_empty piece) (phase_in serving s.bytes) (phase_in serving (s.bytes ++ piece)) = shape ∙ ap (λ head. head ++ rest_of limits.line (is_empty piece) (phase_in serving s.bytes) (phase_in serving (s.bytes ++ piece))) feed.head in cc)
      | inr (inr ask) ↦
          let full = is_full config limits pat fed (done ++ s ∷ links) trace taken.id_of mid new refused.turned_away (next_fits fed done s links trace same is_open going piece mid taken ask.unasked) taken.is in
          record {
            admits = admits_ask limits (feeds serving (done ++ links)) (subs serving (done ++ links)) (phase_in serving s.bytes) (phase_in serving (s.bytes ++ piece)) ask
                ∙ not_less (subs serving (done ++ links)) limits.subs (sym (subs_others serving done s links ask.unasked) ∙ full);
            none = refl;
            taken = taken_refused config limits pat fed number done s links trace same is_open going piece mid new taken refused;
          }
    ];
  }

  subscribes_so : (fed : List FedRow) (before mid_count now : ℕ) (query : Query) (more : List Ask) (mid between : Turning) (answers_mid : List (List ℕ)) (result : Result Bool Memory) (new : Turning) (answers_now : List (List ℕ)) → before ≤ mid_count → answers_mid ≡ [] → IsSubscriber number query mid between
      → IsRun config limits pat tells refuses number fed mid_count now more between answers_mid result new answers_now → IsAskedFor fed before now (asks.Subscribe query ∷ more) mid result new answers_now
  subscribes_so fed before mid_count now query more mid between answers_mid result new answers_now later none sub rest =
      let stays = stays_subscribed config limits pat tells refuses number query mid between sub.id sub.subscribed in
      let subscribed : IsSubscribed query mid.hub between.hub (id_at (mid.hub.requests + 1)) = subst (λ id. IsSubscribed query mid.hub between.hub id) sub.subscribed.id_is sub.subscribed in
      record {
        lines = rest.lines;
        few = few_sooner config limits pat tells refuses number rest.lines before mid_count now later rest.few;
        fair = rest.fair;
        is_fed = is_fed_then fed before mid_count now later (asks.Subscribe query) more mid between answers_mid result new answers_now none stays rest;
        reads = λ told done s links trace same is_open going piece taken fine heads shape. elim heads as (λ h. ReadsTo fed rest.lines done s links trace same is_open going piece result answers_now new) [
          | inl one ↦ absurd (no_lines_ask query more limits.line (is_empty piece) (phase_in serving s.bytes) (phase_in serving (s.bytes ++ piece)) one shape)
          | inr (inl feed) ↦ absurd (let not_so : asks.Subscribe query ∷ more ≡ asks.FeedBegins ∷ rest_of limits.line (is_empty piece) (phase_in serving s.bytes) (phase_in serving (s.bytes ++ piece)) = shape ∙ ap (λ head. head ++ rest_of limits.line (is_empty piece) (phase_in serving s.bytes) (phase_in serving (s.bytes ++ piece))) feed.head in cc)
          | inr (inr ask) ↦
              let was = phase_in serving s.bytes in
              let is = phase_in serving (s.bytes ++ piece) in
              let parts = same_query query ask.query more (rest_of limits.line (is_empty piece) was is) (shape ∙ ap (λ head. head ++ rest_of limits.line (is_empty piece) was is) ask.head) in
              let room = has_room config limits pat fed (done ++ s ∷ links) trace taken.id_of mid between query subscribed taken.is in
              reads_then fed before mid_count now later (asks.Subscribe query) more mid between answers_mid result new answers_now none stays rest told done s links trace same is_open going piece
              (admits_ask limits (feeds serving (done ++ links)) (subs serving (done ++ links)) was is ask ∙ is_less (subs serving (done ++ links)) limits.subs (subst (λ n. n < limits.subs) (subs_others serving done s links ask.unasked) room))
              parts.1
              (heard_sub config limits pat fed number done s links trace same is_open going piece ask.unfed ask.unasked fine ask.unfed_now query (ask.asked ∙ ap Some (sym parts.0)) mid between taken sub)
        ];
      }

  -- memory ran out at the request
  subscribes_cut : (fed : List FedRow) (before now : ℕ) (query : Query) (more : List Ask) (mid : Turning) (memory : Memory) (new : Turning) (answers_now : List (List ℕ)) → before ≤ now → IsAskedFor fed before now (asks.Subscribe query ∷ more) mid (Err memory) new answers_now
  subscribes_cut fed before now query more mid memory new answers_now later = record {
    lines = [];
    few = few_none before now later;
    fair = λ fair. fair;
    is_fed = tt;
    reads = λ told done s links trace same is_open going piece taken fine heads shape. elim heads as (λ h. ReadsTo fed [] done s links trace same is_open going piece (Err memory) answers_now new) [
      | inl one ↦ absurd (no_lines_ask query more limits.line (is_empty piece) (phase_in serving s.bytes) (phase_in serving (s.bytes ++ piece)) one shape)
      | inr (inl feed) ↦ absurd (let not_so : asks.Subscribe query ∷ more ≡ asks.FeedBegins ∷ rest_of limits.line (is_empty piece) (phase_in serving s.bytes) (phase_in serving (s.bytes ++ piece)) = shape ∙ ap (λ head. head ++ rest_of limits.line (is_empty piece) (phase_in serving s.bytes) (phase_in serving (s.bytes ++ piece))) feed.head in cc)
      | inr (inr ask) ↦
          let left = left_over number (first_of s) (rows_now s piece) fed in
          record { admits = inr (ask.rows limits.line (is_empty piece)); some = record { met = λ k. None; rest = left.rest; unmarked = left.unmarked; fed_is = left.fed_is } }
    ];
  }

  -- ---- all that is asked for

  at_request : (fed : List FedRow) (before now : ℕ) (query : Query) (more : List Ask) (mid : Turning) (result : Result Bool Memory) (new : Turning) (answers_now : List (List ℕ)) → Holds config limits pat fed (state_of mid.hub.hub) → StopsAt number (asks.Subscribe query) (known_of tells refuses before now) mid [] result new answers_now
      → IsAskedFor fed before now (asks.Subscribe query ∷ more) mid result new answers_now
  at_request fed before now query more mid (Ok true) new answers_now holds stops = absurd stops
  at_request fed before now query more mid (Ok false) new answers_now holds stops = subscribes_not fed before now query more mid new answers_now stops.1 holds stops.0.1
  at_request fed before now query more mid (Err memory) new answers_now holds stops = subscribes_cut fed before now query more mid memory new answers_now stops.1

  at_feed : (fed : List FedRow) (before now : ℕ) (more : List Ask) (mid : Turning) (result : Result Bool Memory) (new : Turning) (answers_now : List (List ℕ)) → Holds config limits pat fed (state_of mid.hub.hub) → StopsAt number asks.FeedBegins (known_of tells refuses before now) mid [] result new answers_now
      → IsAskedFor fed before now (asks.FeedBegins ∷ more) mid result new answers_now
  at_feed fed before now more mid (Ok true) new answers_now holds stops = absurd stops
  at_feed fed before now more mid (Ok false) new answers_now holds stops = begins_not fed before now more mid new answers_now stops.1 holds stops.0.1
  at_feed fed before now more mid (Err memory) new answers_now holds stops = absurd stops.0

  pub asked_for : (asked : List Ask) (fed : List FedRow) (before now : ℕ) (mid : Turning) (result : Result Bool Memory) (new : Turning) (answers_now : List (List ℕ)) → Holds config limits pat fed (state_of mid.hub.hub) → mid.hub.config ≡ config → TakesEach number tells refuses asked before mid [] result now new answers_now
      → IsAskedFor fed before now asked mid result new answers_now
  asked_for [] fed before now mid result new answers_now holds config_is each =
      plain fed before now [] mid result new answers_now (λ more is. absurd cc) (λ query more is. absurd cc) (run config limits pat tells refuses number [] fed before now mid [] result new answers_now holds config_is each)
  asked_for (asks.Subscribe query ∷ more) fed before now mid result new answers_now holds config_is (inl stops) = at_request fed before now query more mid result new answers_now holds stops
  asked_for (asks.Subscribe query ∷ more) fed before now mid result new answers_now holds config_is (inr goes) =
      let stays = stays_subscribed config limits pat tells refuses number query mid goes.1 goes.4.1.id goes.4.1.subscribed in
      subscribes_so fed before goes.0 now query more mid goes.1 goes.2 result new answers_now goes.3 goes.4.0 goes.4.1
      (run config limits pat tells refuses number more fed goes.0 now goes.1 goes.2 result new answers_now (stays.holds config limits pat fed holds) (stays.same_config ∙ config_is) goes.5)
  asked_for (asks.FeedBegins ∷ more) fed before now mid result new answers_now holds config_is (inl stops) = at_feed fed before now more mid result new answers_now holds stops
  asked_for (asks.FeedBegins ∷ more) fed before now mid result new answers_now holds config_is (inr goes) =
      let stays = stays_same mid goes.1 (ap (λ (now : Turning). now.hub) goes.4.1.same) in
      begins_so fed before goes.0 now more mid goes.1 goes.2 result new answers_now goes.3 goes.4.0 goes.4.1
      (run config limits pat tells refuses number more fed goes.0 now goes.1 goes.2 result new answers_now (stays.holds config limits pat fed holds) (stays.same_config ∙ config_is) goes.5)
  asked_for (asks.Line line text ∷ more) fed before now mid result new answers_now holds config_is each =
      plain fed before now (asks.Line line text ∷ more) mid result new answers_now (λ others is. absurd cc) (λ query others is. absurd cc) (run config limits pat tells refuses number (asks.Line line text ∷ more) fed before now mid [] result new answers_now holds config_is each)
  asked_for (asks.LongLine line ∷ more) fed before now mid result new answers_now holds config_is each =
      plain fed before now (asks.LongLine line ∷ more) mid result new answers_now (λ others is. absurd cc) (λ query others is. absurd cc) (run config limits pat tells refuses number (asks.LongLine line ∷ more) fed before now mid [] result new answers_now holds config_is each)
  asked_for (asks.Ended ∷ more) fed before now mid result new answers_now holds config_is each =
      plain fed before now (asks.Ended ∷ more) mid result new answers_now (λ others is. absurd cc) (λ query others is. absurd cc) (run config limits pat tells refuses number (asks.Ended ∷ more) fed before now mid [] result new answers_now holds config_is each)
