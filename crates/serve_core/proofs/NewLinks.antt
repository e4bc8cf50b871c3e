-- New links, which a poll has shown.
use Rattle.std.proofs.Common.{◌≡◌, ℕ, ◌+◌, ◌≤◌, ◌<◌, ◌==◌, ◌^◌, Bool, true, false, ◌&&◌, not, cond, eqb, List, [], ◌∷◌, ◌++◌, None, Ok, refl, sym, ap, ◌∙◌, subst, arith}
use Rattle.std.specs.Prelude.{is_ok, is_some}
use Rattle.std.proofs.lemmas.List.Sums.{sum_by-append, sum_by-cons}
use Rattle.mesh_base.specs.declared.limits.Limits.{Limits}
use Rattle.mesh_links.specs.Calls.{AreAbove, is_open_in, last_in}
use Rattle.mesh_links.specs.declared.call.LinkCall.{LinkCall}
use Rattle.mesh_links.specs.declared.call.LinkCall.TheVariants as calls
use Rattle.mesh_links.specs.declared.call.LinkEvent.{LinkEvent}
use Rattle.mesh_links.specs.declared.call.LinkEvent.TheVariants as events
use Rattle.view_types.specs.declared.config.Config.{Config}
use Rattle.route_match.specs.Matching.{Pat}
use Rattle.session_core.specs.Phases.{Opening, is_feeding, phase_of, query_in}
use Rattle.session_core.specs.Pieces.{given_first}
use Rattle.session_core.specs.Sessions.{Stands}
use Rattle.subscriptions.specs.Live.{LiveSubscription}
use Rattle.mesh_hub.specs.Hub.{state_of}
use Rattle.fed_hub.specs.declared.hub.FedHub.{FedHub}
use Rattle.link_sessions.specs.Entries.{Entries, entries_of, link_at}
use Rattle.link_sessions.specs.Entries.{opened as opened_in, opened_by}
use Rattle.link_sessions.specs.Settled.{IsSettled}
use Rattle.link_sessions.specs.declared.link.Link.{Link}
use Rattle.link_sessions.specs.declared.link.Role.TheVariants as roles
use Rattle.serve_rules.specs.Batches.{Serving}
use Rattle.serve_rules.specs.FedLines.{FedRow}
use Rattle.serve_rules.specs.Hubs.{AreLive, IsLiveFor}
use Rattle.serve_rules.specs.LinkOrder.{AreBetween}
use Rattle.serve_rules.specs.LinkStates.{LinkState, fresh, one_sub, phase_in, query_of, subs}
use Rattle.serve_rules.specs.Traces.{opened}
use Rattle.serve_core.specs.Linked.{AreKept, IsKept, role_by}
use Rattle.serve_core.specs.Served.{AreServed, AreShown, IsAt, IsNearly, one_unasked, serving_of, unasked}
use Rattle.serve_core.specs.Shown.{AreOpenNew}
use Rattle.serve_core.specs.declared.turning.Turning.{Turning}
use Rattle.serve_core.proofs.KeptLinks.{AreBelow, Kept, added_at}
use Rattle.serve_core.proofs.KeptTests.{apart_above, not_head}
use Rattle.serve_core.proofs.Noted.{nearly_kept}
use Rattle.serve_core.proofs.OpenTraces.{AreOthers, last_close, open_then, shown_close}

-- ---- numbers

pub higher : (low : ℕ) (links : List LinkState) (high other : ℕ) → high ≤ other → AreBetween low links high → AreBetween low links other
higher low [] high other le between = omega arith
higher low (s ∷ links) high other le between = (between.0, higher s.number links high other le between.1)

pub between_more : (low : ℕ) (links : List LinkState) (high : ℕ) (t : LinkState) → high < t.number → AreBetween low links high → AreBetween low (links ++ t ∷ []) t.number
between_more low [] high t less between = (omega arith, omega arith)
between_more low (s ∷ links) high t less between = (between.0, between_more s.number links high t less between.1)

highest : (low : ℕ) (links : List LinkState) (high : ℕ) → AreBetween low links high → low ≤ high
highest low [] high between = between
highest low (s ∷ links) high between = let first : low < s.number = between.0 in let rest : s.number ≤ high = highest s.number links high between.1 in omega arith

below_new : (low : ℕ) (links : List LinkState) (high n : ℕ) → high < n → AreBetween low links high → AreBelow n links
below_new low [] high n less between = tt
below_new low (s ∷ links) high n less between = (let rest : s.number ≤ high = highest s.number links high between.1 in omega arith, below_new s.number links high n less between.1)

differ : (n k : ℕ) → k < n → (n == k) ≡ false
differ n k less = grind arith

others_below : (n : ℕ) (links : List LinkState) → AreBelow n links → AreOthers n links
others_below n [] below = tt
others_below n (s ∷ links) below = ((λ is_open. differ n s.number below.0), others_below n links below.1)

-- ---- a new link

abbrev counted : Bool → ℕ
counted b = cond b 1 0

phase_none : (serving : Serving) → phase_in serving [] ≡ Ok Opening
unfolding phase_of
phase_none serving = refl

query_none : (serving : Serving) → query_of serving [] ≡ None
query_none serving = ap query_in (phase_none serving)

module _ (n : ℕ) where
  shown_more : (trace : List LinkCall) (links : List LinkState) → is_open_in trace n ≡ true → AreShown trace links → AreShown trace (links ++ fresh n ∷ [])
  shown_more trace [] is shown = ((λ is_open. is), tt)
  shown_more trace (s ∷ links) is shown = (shown.0, shown_more trace links is shown.1)

  live_more : (serving : Serving) (fed : List FedRow) (id_of : ℕ → ℕ) (all : List LiveSubscription) (links : List LinkState) → AreLive serving fed id_of all links → AreLive serving fed id_of all (links ++ fresh n ∷ [])
  live_more serving fed id_of all [] live = ((λ is_open. subst (λ query. IsLiveFor serving fed all (id_of n) None query) (sym (query_none serving)) tt), tt)
  live_more serving fed id_of all (s ∷ links) live = (live.0, live_more serving fed id_of all links live.1)

  not_asked : (serving : Serving) → {A : Type 0} → is_some (query_of serving []) ≡ true → A
  not_asked serving is = absurd (let none : is_some (query_of serving []) ≡ false = ap (λ query. is_some query) (query_none serving) in let not_so : true ≡ false = sym is ∙ none in cc)

  served_more : (serving : Serving) (fed : List FedRow) (id_of : ℕ → ℕ) (hub : FedHub) (links : List LinkState) → AreServed serving fed id_of hub links → AreServed serving fed id_of hub (links ++ fresh n ∷ [])
  served_more serving fed id_of hub [] served = ((λ is_open. record { due = λ is. not_asked serving is; given = λ is. not_asked serving is; placed = tt; undrained = λ unasked. refl }), tt)
  served_more serving fed id_of hub (s ∷ links) served = (served.0, served_more serving fed id_of hub links served.1)

  one_none : (serving : Serving) → one_sub serving (fresh n) ≡ 0
  one_none serving = ap (λ query. counted (true && is_some query)) (query_none serving)

  one_more : (serving : Serving) → one_unasked serving (fresh n) ≡ 1
  one_more serving = ap (λ query. counted (true && not (is_some query))) (query_none serving)

  subs_more : (serving : Serving) (links : List LinkState) → subs serving (links ++ fresh n ∷ []) ≡ subs serving links
  subs_more serving links =
      let all = sum_by-append (one_sub serving) links (fresh n ∷ []) in
      let last = sum_by-cons (one_sub serving) (fresh n) [] in
      let one = one_none serving in
      omega (arith, all, last, one)

  pub unasked_more : (serving : Serving) (links : List LinkState) → unasked serving (links ++ fresh n ∷ []) ≡ unasked serving links + 1
  unasked_more serving links =
      let all = sum_by-append (one_unasked serving) links (fresh n ∷ []) in
      let last = sum_by-cons (one_unasked serving) (fresh n) [] in
      let one = one_more serving in
      omega (arith, all, last, one)

-- ---- the entries

-- all of them are below it
pub none_at : (serving : Serving) (id_of : ℕ → ℕ) (n : ℕ) (links : List LinkState) (entries : Entries) → AreBelow n links → Kept serving id_of links entries → link_at n entries ≡ None
none_at serving id_of n [] [] below kept = refl
none_at serving id_of n [] (e ∷ es) below kept = absurd kept
none_at serving id_of n (s ∷ links) entries below kept = by_open (λ es more. none_at serving id_of n links es below.1 more) s.is_open kept
  where
    by_head : ((es : Entries) → Kept serving id_of links es → link_at n es ≡ None) → (es : Entries) → AreKept serving id_of (s ∷ opened links) es → link_at n es ≡ None
    by_head rest [] more = absurd more
    by_head rest (e ∷ es) more = not_head n e es (ap (λ k. eqb k n) more.0 ∙ apart_above n s.number below.0) ∙ rest es more.2

    by_open : ((es : Entries) → Kept serving id_of links es → link_at n es ≡ None) → (b : Bool) → AreKept serving id_of (cond b (s ∷ opened links) (opened links)) entries → link_at n entries ≡ None
    by_open rest true more = by_head rest entries more
    by_open rest false more = rest entries more

few_more : (requests asked asked_now last n most : ℕ) → asked_now ≡ asked + 1 → requests + asked ≤ last → last < n → n ≤ most → requests + asked_now ≤ most
few_more requests asked asked_now last n most more few less least = omega arith

-- what a new link is
pub record IsFresh (config : Config) (limits : Limits) (link : Link) : Type 0 where
  pub stands : Stands config limits given_first link.session
  pub outbox : link.session.outbox ≡ []
  pub role : link.role ≡ roles.Opening
  pub readable : link.readable ≡ true
  pub writable : link.writable ≡ true
  pub ended : link.ended ≡ false

module _ (config : Config) (limits : Limits) (pat : Pat) (fed : List FedRow) (links : List LinkState) (trace : List LinkCall) (last n : ℕ) (between : AreBetween 0 links last) (less : last < n) where
  fresh_kept : (id_of : ℕ → ℕ) (link : Link) → IsFresh config limits link → IsKept (serving_of config limits pat) id_of (fresh n) link
  fresh_kept id_of link is =
      let serving = serving_of config limits pat in
      record {
        fine = ap (λ phase. is_ok phase) (phase_none serving);
        readable = is.readable;
        writable = is.writable;
        ended = is.ended;
        role = is.role ∙ sym (ap (λ phase. role_by id_of n (is_feeding phase) (query_in phase)) (phase_none serving));
        session = is.stands;
        outbox = is.outbox;
        quiet = λ no_feed unasked. refl;
      }

  -- it is opened
  pub opens_at : (old new : Turning) (link : Link) → IsAt config limits pat fed links trace old → new ≡ record old { kept = new.kept } → IsSettled new.kept → entries_of new.kept ≡ opened_in n link (entries_of old.kept) → IsFresh config limits link
      → is_open_in trace n ≡ true → n ≤ last_in trace → n < 2 ^ 32 → old.hub.requests + unasked (serving_of config limits pat) links ≤ last → IsAt config limits pat fed (links ++ fresh n ∷ []) trace new
  opens_at old new link at same settled entries is shown least fits few =
      let serving = serving_of config limits pat in
      let below = below_new 0 links last n less between in
      let none = none_at serving at.id_of n links (entries_of old.kept) below at.keeps.links_are in
      let added = entries ∙ ap (λ found. opened_by n link (entries_of old.kept) found) none in
      let more = unasked_more n serving links in
      let now : IsNearly config limits pat fed (links ++ fresh n ∷ []) trace at.id_of old = record {
        config_is = at.is.config_is;
        line_config_is = at.is.line_config_is;
        limits_are = at.is.limits_are;
        in_order = higher 0 (links ++ fresh n ∷ []) n (last_in trace) least (between_more 0 links last (fresh n) less between);
        shown = shown_more n trace links shown at.is.shown;
        few_requests = few_more old.hub.requests (unasked serving links) (unasked serving (links ++ fresh n ∷ [])) last n (last_in trace) more few less least;
        numbered = record {
          last = n;
          between = between_more 0 links last (fresh n) less between;
          few_requests = few_more old.hub.requests (unasked serving links) (unasked serving (links ++ fresh n ∷ [])) last n n more few less (omega arith);
          less = fits;
        };
        last_id = at.is.last_id;
        few_subs = at.is.few_subs;
        hub = record {
          config = at.is.hub.config;
          limits = at.is.hub.limits;
          objects = at.is.hub.objects;
          going = at.is.hub.going;
          live = live_more n serving fed at.id_of (state_of old.hub.hub).subs links at.is.hub.live;
          count = at.is.hub.count ∙ sym (subs_more n serving links);
        };
        served = served_more n serving fed at.id_of old.hub links at.is.served;
      } in
      record {
        id_of = at.id_of;
        is = nearly_kept config limits pat fed (links ++ fresh n ∷ []) trace at.id_of old new same now;
        keeps = record {
          links_are = subst (λ es. Kept serving at.id_of (links ++ fresh n ∷ []) es) (sym added) (added_at serving at.id_of n link (fresh n) refl (fresh_kept at.id_of link is) links (entries_of old.kept) below refl at.keeps.links_are);
          settled = settled;
        };
      }

  -- it is closed
  pub closes_at : (now : Turning) → IsAt config limits pat fed links trace now → IsAt config limits pat fed links (trace ++ calls.Close n ∷ []) now
  closes_at now at =
      let serving = serving_of config limits pat in
      let same = sym (last_close trace n) in
      record {
        id_of = at.id_of;
        is = record {
          config_is = at.is.config_is;
          line_config_is = at.is.line_config_is;
          limits_are = at.is.limits_are;
          in_order = subst (λ m. AreBetween 0 links m) same at.is.in_order;
          shown = shown_close trace n links (others_below n links (below_new 0 links last n less between)) at.is.shown;
          few_requests = subst (λ m. now.hub.requests + unasked serving links ≤ m) same at.is.few_requests;
          numbered = at.is.numbered;
          last_id = at.is.last_id;
          few_subs = at.is.few_subs;
          hub = at.is.hub;
          served = at.is.served;
        };
        keeps = at.keeps;
      }

-- ---- the events that are left

still_open : (trace : List LinkCall) (n m : ℕ) → n < m → is_open_in trace m ≡ true → is_open_in (trace ++ calls.Close n ∷ []) m ≡ true
still_open trace n m less is = open_then m false trace (calls.Close n ∷ []) ∙ ap (λ b. cond b false (is_open_in trace m)) (apart_above m n less) ∙ is

pub open_later : (trace : List LinkCall) (n last : ℕ) (more : List LinkEvent) → n ≤ last → AreAbove last more → AreOpenNew trace more → AreOpenNew (trace ++ calls.Close n ∷ []) more
open_later trace n last [] le above is = tt
open_later trace n last (events.New m ∷ more) le above is =
    let first : last < m = above.0 in
    let less : n < m = omega arith in (
      still_open trace n m less is.0,
      subst (λ k. m ≤ k) (sym (last_close trace n)) is.1,
      open_later trace n m more (omega arith) above.1 is.2,
    )
open_later trace n last (events.Readable m ∷ more) le above is = open_later trace n last more le above is
open_later trace n last (events.Writable m ∷ more) le above is = open_later trace n last more le above is
