-- Links of which it is noted that they may be read or written.
use Rattle.std.proofs.Common.{◌≡◌, ℕ, ◌+◌, ◌≤◌, ◌<◌, Bool, true, false, ◌||◌, ◌&&◌, cond, eqb, List, [], ◌∷◌, map, Option, Some, None, refl, sym, ap, ◌∙◌, subst, arith, eqb-true}
use Rattle.std.proofs.lemmas.List.Sums.{sum_by-cons}
use Rattle.mesh_base.specs.declared.limits.Limits.{Limits}
use Rattle.mesh_links.specs.Calls.{last_in}
use Rattle.mesh_links.specs.declared.call.LinkCall.{LinkCall}
use Rattle.view_types.specs.declared.config.Config.{Config}
use Rattle.route_match.specs.Matching.{Pat}
use Rattle.subscriptions.specs.Live.{LiveSubscription}
use Rattle.mesh_hub.specs.Hub.{state_of}
use Rattle.fed_hub.specs.declared.hub.FedHub.{FedHub}
use Rattle.link_sessions.specs.Entries.{Entries, changed, changed_by, entries_of, link_at, with_link}
use Rattle.link_sessions.specs.Settled.{IsSettled}
use Rattle.link_sessions.specs.declared.link.Link.{Link}
use Rattle.serve_rules.specs.Batches.{Serving}
use Rattle.serve_rules.specs.FedLines.{FedRow}
use Rattle.serve_rules.specs.Hubs.{AreLive}
use Rattle.serve_rules.specs.LinkOrder.{AreBetween}
use Rattle.serve_rules.specs.LinkStates.{LinkState, one_sub, subs}
use Rattle.serve_rules.specs.Traces.{opened}
use Rattle.serve_core.specs.Linked.{AreKept, IsKept}
use Rattle.serve_core.specs.Served.{AreServed, AreShown, IsAt, IsNearly, one_unasked, serving_of, unasked}
use Rattle.serve_core.specs.declared.turning.Turning.{Turning}
use Rattle.serve_core.proofs.KeptLinks.{Kept}
use Rattle.serve_core.proofs.KeptTests.{apart_below, here_at, is_head, not_head, not_same}

abbrev pub noted : (LinkState → Bool) → (LinkState → Bool) → LinkState → LinkState
noted p q s = record s { readable = p s; writable = q s }

-- ---- what stays

module _ (p q : LinkState → Bool) where
  pub between_noted : (low : ℕ) (links : List LinkState) (high : ℕ) → AreBetween low links high → AreBetween low (map (noted p q) links) high
  between_noted low [] high between = between
  between_noted low (s ∷ links) high between = (between.0, between_noted s.number links high between.1)

  shown_noted : (trace : List LinkCall) (links : List LinkState) → AreShown trace links → AreShown trace (map (noted p q) links)
  shown_noted trace [] shown = tt
  shown_noted trace (s ∷ links) shown = (shown.0, shown_noted trace links shown.1)

  live_noted : (serving : Serving) (fed : List FedRow) (id_of : ℕ → ℕ) (all : List LiveSubscription) (links : List LinkState) → AreLive serving fed id_of all links → AreLive serving fed id_of all (map (noted p q) links)
  live_noted serving fed id_of all [] live = tt
  live_noted serving fed id_of all (s ∷ links) live = (live.0, live_noted serving fed id_of all links live.1)

  served_noted : (serving : Serving) (fed : List FedRow) (id_of : ℕ → ℕ) (hub : FedHub) (links : List LinkState) → AreServed serving fed id_of hub links → AreServed serving fed id_of hub (map (noted p q) links)
  served_noted serving fed id_of hub [] served = tt
  served_noted serving fed id_of hub (s ∷ links) served =
      ((λ is_open. let one = served.0 is_open in record { due = one.due; given = one.given; placed = one.placed; undrained = one.undrained }), served_noted serving fed id_of hub links served.1)

  subs_noted : (serving : Serving) (links : List LinkState) → subs serving (map (noted p q) links) ≡ subs serving links
  subs_noted serving [] = refl
  subs_noted serving (s ∷ links) =
      sum_by-cons (one_sub serving) (noted p q s) (map (noted p q) links) ∙ ap (λ n. one_sub serving s + n) (subs_noted serving links) ∙ sym (sum_by-cons (one_sub serving) s links)

  pub unasked_noted : (serving : Serving) (links : List LinkState) → unasked serving (map (noted p q) links) ≡ unasked serving links
  unasked_noted serving [] = refl
  unasked_noted serving (s ∷ links) =
      sum_by-cons (one_unasked serving) (noted p q s) (map (noted p q) links) ∙ ap (λ n. one_unasked serving s + n) (unasked_noted serving links) ∙ sym (sum_by-cons (one_unasked serving) s links)

  nearly_noted : (config : Config) (limits : Limits) (pat : Pat) (fed : List FedRow) (links : List LinkState) (trace : List LinkCall) (id_of : ℕ → ℕ) (now : Turning)
      → IsNearly config limits pat fed links trace id_of now → IsNearly config limits pat fed (map (noted p q) links) trace id_of now
  nearly_noted config limits pat fed links trace id_of now is =
      let serving = serving_of config limits pat in
      record {
        config_is = is.config_is;
        line_config_is = is.line_config_is;
        limits_are = is.limits_are;
        in_order = between_noted 0 links (last_in trace) is.in_order;
        shown = shown_noted trace links is.shown;
        few_requests = subst (λ n. now.hub.requests + n ≤ last_in trace) (sym (unasked_noted serving links)) is.few_requests;
        numbered = record {
          last = is.numbered.last;
          between = between_noted 0 links is.numbered.last is.numbered.between;
          few_requests = subst (λ n. now.hub.requests + n ≤ is.numbered.last) (sym (unasked_noted serving links)) is.numbered.few_requests;
          less = is.numbered.less;
        };
        last_id = is.last_id;
        few_subs = is.few_subs;
        hub = record {
          config = is.hub.config;
          limits = is.hub.limits;
          objects = is.hub.objects;
          going = is.hub.going;
          live = live_noted serving fed id_of (state_of now.hub.hub).subs links is.hub.live;
          count = is.hub.count ∙ sym (subs_noted serving links);
        };
        served = served_noted serving fed id_of now.hub links is.served;
      }

-- nothing but the open links changes
pub nearly_kept : (config : Config) (limits : Limits) (pat : Pat) (fed : List FedRow) (links : List LinkState) (trace : List LinkCall) (id_of : ℕ → ℕ) (old new : Turning)
    → new ≡ record old { kept = new.kept } → IsNearly config limits pat fed links trace id_of old → IsNearly config limits pat fed links trace id_of new
nearly_kept config limits pat fed links trace id_of old new same is =
    subst (λ t. IsNearly config limits pat fed links trace id_of t) (sym same)
    (record {
      config_is = is.config_is;
      line_config_is = is.line_config_is;
      limits_are = is.limits_are;
      in_order = is.in_order;
      shown = is.shown;
      few_requests = is.few_requests;
      numbered = is.numbered;
      last_id = is.last_id;
      few_subs = is.few_subs;
      hub = is.hub;
      served = is.served;
    })

-- ---- the entries

changed_head : (n : ℕ) (f : Link → Link) (e : ℕ × Link) (es : Entries) → eqb e.0 n ≡ true → changed n f (e ∷ es) ≡ (e.0, f e.1) ∷ es
changed_head n f e es same =
    ap (λ found. changed_by n f (e ∷ es) found) (is_head n e es same) ∙ ap (λ b. cond b ((e.0, f e.1) ∷ es) (e ∷ with_link n es (f e.1))) (here_at n e.0 same)

tail_by : (n : ℕ) (f : Link → Link) (e : ℕ × Link) (es : Entries) → eqb e.0 n ≡ false → (found : Option Link) → changed_by n f (e ∷ es) found ≡ e ∷ changed_by n f es found
tail_by n f e es apart None = refl
tail_by n f e es apart (Some link) = ap (λ b. cond b ((e.0, f link) ∷ es) (e ∷ with_link n es (f link))) (not_same n e.0 apart)

changed_tail : (n : ℕ) (f : Link → Link) (e : ℕ × Link) (es : Entries) → eqb e.0 n ≡ false → changed n f (e ∷ es) ≡ e ∷ changed n f es
changed_tail n f e es apart = ap (λ found. changed_by n f (e ∷ es) found) (not_head n e es apart) ∙ tail_by n f e es apart (link_at n es)

module _ (serving : Serving) (id_of : ℕ → ℕ) (n : ℕ) (f : Link → Link) (p q : LinkState → Bool) (here : (s : LinkState) (link : Link) → eqb s.number n ≡ true → s.is_open ≡ true → IsKept serving id_of s link → IsKept serving id_of (noted p q s) (f link))
    (there : (s : LinkState) (link : Link) → eqb s.number n ≡ false → IsKept serving id_of s link → IsKept serving id_of (noted p q s) link) where
  -- those above the number stay
  others_noted : (links : List LinkState) (low high : ℕ) (entries : Entries) → n ≤ low → AreBetween low links high → Kept serving id_of links entries → Kept serving id_of (map (noted p q) links) entries
  others_noted [] low high entries le between kept = kept
  others_noted (s ∷ links) low high entries le between kept =
      let above : n < s.number = beyond le between.0 in
      let least : n ≤ s.number = omega arith in
      by_open above (λ es more. others_noted links s.number high es least between.1 more) s.is_open kept
    where
      beyond : n ≤ low → low < s.number → n < s.number
      beyond le first = omega arith

      by_head : n < s.number → ((es : Entries) → Kept serving id_of links es → Kept serving id_of (map (noted p q) links) es) → (es : Entries) → AreKept serving id_of (s ∷ opened links) es → AreKept serving id_of (noted p q s ∷ opened (map (noted p q) links)) es
      by_head above rest [] more = absurd more
      by_head above rest (e ∷ es) more = (more.0, there s e.1 (apart_below n s.number above) more.1, rest es more.2)

      by_open : n < s.number → ((es : Entries) → Kept serving id_of links es → Kept serving id_of (map (noted p q) links) es) → (b : Bool) → AreKept serving id_of (cond b (s ∷ opened links) (opened links)) entries
          → AreKept serving id_of (cond b (noted p q s ∷ opened (map (noted p q) links)) (opened (map (noted p q) links))) entries
      by_open above rest true more = by_head above rest entries more
      by_open above rest false more = rest entries more

  pub kept_noted : (links : List LinkState) (low high : ℕ) (entries : Entries) → AreBetween low links high → Kept serving id_of links entries → Kept serving id_of (map (noted p q) links) (changed n f entries)
  kept_noted [] low high [] between kept = tt
  kept_noted [] low high (e ∷ es) between kept = absurd kept
  kept_noted (s ∷ links) low high entries between kept =
      by_open (λ es more. kept_noted links s.number high es between.1 more) (λ es le more. others_noted links s.number high es le between.1 more) s.is_open refl kept
    where
      by_number : ((es : Entries) → Kept serving id_of links es → Kept serving id_of (map (noted p q) links) (changed n f es)) → ((es : Entries) → n ≤ s.number → Kept serving id_of links es → Kept serving id_of (map (noted p q) links) es)
          → s.is_open ≡ true → (e : ℕ × Link) (es : Entries) → e.0 ≡ s.number → IsKept serving id_of s e.1 → Kept serving id_of links es → (b : Bool) → eqb e.0 n ≡ b
          → AreKept serving id_of (noted p q s ∷ opened (map (noted p q) links)) (changed n f (e ∷ es))
      by_number rest others is_open e es number is more true eq =
          let same : eqb s.number n ≡ true = ap (λ k. eqb k n) (sym number) ∙ eq in
          let equal : s.number ≡ n = eqb-true s.number n same in
          subst (λ entries. AreKept serving id_of (noted p q s ∷ opened (map (noted p q) links)) entries) (sym (changed_head n f e es eq)) (number, here s e.1 same is_open is, others es (omega arith) more)
      by_number rest others is_open e es number is more false eq =
          subst (λ entries. AreKept serving id_of (noted p q s ∷ opened (map (noted p q) links)) entries) (sym (changed_tail n f e es eq)) (number, there s e.1 (ap (λ k. eqb k n) (sym number) ∙ eq) is, rest es more)

      by_head : ((es : Entries) → Kept serving id_of links es → Kept serving id_of (map (noted p q) links) (changed n f es)) → ((es : Entries) → n ≤ s.number → Kept serving id_of links es → Kept serving id_of (map (noted p q) links) es)
          → s.is_open ≡ true → (es : Entries) → AreKept serving id_of (s ∷ opened links) es → AreKept serving id_of (noted p q s ∷ opened (map (noted p q) links)) (changed n f es)
      by_head rest others is_open [] more = absurd more
      by_head rest others is_open (e ∷ es) more = by_number rest others is_open e es more.0 more.1 more.2 (eqb e.0 n) refl

      by_open : ((es : Entries) → Kept serving id_of links es → Kept serving id_of (map (noted p q) links) (changed n f es)) → ((es : Entries) → n ≤ s.number → Kept serving id_of links es → Kept serving id_of (map (noted p q) links) es)
          → (b : Bool) → s.is_open ≡ b → AreKept serving id_of (cond b (s ∷ opened links) (opened links)) entries
          → AreKept serving id_of (cond b (noted p q s ∷ opened (map (noted p q) links)) (opened (map (noted p q) links))) (changed n f entries)
      by_open rest others true e more = by_head rest others e entries more
      by_open rest others false e more = rest entries more

-- ---- what is kept

all_true : (a b c : Bool) → b ≡ true → c ≡ true → (a || (b && c)) ≡ true
all_true true b c e g = refl
all_true false b c e g = ap (λ x. x && c) e ∙ g

none_true : (a b c : Bool) → c ≡ false → a ≡ (a || (b && c))
none_true true b c e = refl
none_true false true c e = sym e
none_true false false c e = refl

module _ (config : Config) (limits : Limits) (pat : Pat) (fed : List FedRow) (links : List LinkState) (trace : List LinkCall) (old new : Turning) (at : IsAt config limits pat fed links trace old) (same : new ≡ record old { kept = new.kept }) (settled : IsSettled new.kept) where
  at_noted : (n : ℕ) (f : Link → Link) (p q : LinkState → Bool) → ((s : LinkState) (link : Link) → eqb s.number n ≡ true → s.is_open ≡ true → IsKept (serving_of config limits pat) at.id_of s link → IsKept (serving_of config limits pat) at.id_of (noted p q s) (f link))
      → ((s : LinkState) (link : Link) → eqb s.number n ≡ false → IsKept (serving_of config limits pat) at.id_of s link → IsKept (serving_of config limits pat) at.id_of (noted p q s) link)
      → entries_of new.kept ≡ changed n f (entries_of old.kept) → IsAt config limits pat fed (map (noted p q) links) trace new
  at_noted n f p q here there entries =
      let serving = serving_of config limits pat in
      record {
        id_of = at.id_of;
        is = nearly_kept config limits pat fed (map (noted p q) links) trace at.id_of old new same (nearly_noted p q config limits pat fed links trace at.id_of old at.is);
        keeps = record {
          links_are = subst (λ es. Kept serving at.id_of (map (noted p q) links) es) (sym entries) (kept_noted serving at.id_of n f p q here there links 0 (last_in trace) (entries_of old.kept) at.is.in_order at.keeps.links_are);
          settled = settled;
        };
      }

  pub readable_at : (n : ℕ) → entries_of new.kept ≡ changed n (λ (link : Link). record link { readable = true }) (entries_of old.kept)
      → IsAt config limits pat fed (map (λ (s : LinkState). record s { readable = s.readable || (s.is_open && eqb s.number n) }) links) trace new
  readable_at n entries =
      at_noted n (λ (link : Link). record link { readable = true }) (λ (s : LinkState). s.readable || (s.is_open && eqb s.number n)) (λ s. s.writable)
      (λ s link here is_open kept. record { fine = kept.fine; readable = sym (all_true s.readable s.is_open (eqb s.number n) is_open here); writable = kept.writable; ended = kept.ended; role = kept.role; session = kept.session; outbox = kept.outbox; quiet = kept.quiet })
      (λ s link there kept. record { fine = kept.fine; readable = kept.readable ∙ none_true s.readable s.is_open (eqb s.number n) there; writable = kept.writable; ended = kept.ended; role = kept.role; session = kept.session; outbox = kept.outbox; quiet = kept.quiet }) entries

  pub writable_at : (n : ℕ) → entries_of new.kept ≡ changed n (λ (link : Link). record link { writable = true }) (entries_of old.kept)
      → IsAt config limits pat fed (map (λ (s : LinkState). record s { writable = s.writable || (s.is_open && eqb s.number n) }) links) trace new
  writable_at n entries =
      at_noted n (λ (link : Link). record link { writable = true }) (λ (s : LinkState). s.readable) (λ s. s.writable || (s.is_open && eqb s.number n))
      (λ s link here is_open kept. record { fine = kept.fine; readable = kept.readable; writable = sym (all_true s.writable s.is_open (eqb s.number n) is_open here); ended = kept.ended; role = kept.role; session = kept.session; outbox = kept.outbox; quiet = kept.quiet })
      (λ s link there kept. record { fine = kept.fine; readable = kept.readable; writable = kept.writable ∙ none_true s.writable s.is_open (eqb s.number n) there; ended = kept.ended; role = kept.role; session = kept.session; outbox = kept.outbox; quiet = kept.quiet }) entries
