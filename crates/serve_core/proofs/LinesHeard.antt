-- What a server keeps while the bytes of one link are heard, and what a line that it feeds makes of that.
use Rattle.std.proofs.Common.{◌≡◌, ℕ, ◌+◌, ◌≤◌, Bool, true, false, ◌&&◌, ◌||◌, cond, List, [], ◌∷◌, length, Option, Some, None, refl, sym, ap, ◌∙◌, subst, arith}
use Rattle.std.specs.Prelude.{is_some, nat_le, option_map}
use Rattle.std.specs.BTreeMap.{is_at}
use Rattle.std.specs.Ordering.{nat_cmp}
use Rattle.mesh_base.specs.declared.limits.Limits.{Limits}
use Rattle.mesh_links.specs.Calls.{last_in}
use Rattle.mesh_links.specs.declared.call.LinkCall.{LinkCall}
use Rattle.line_run.specs.Rows.{Row}
use Rattle.view_types.specs.declared.config.Config.{Config}
use Rattle.view_types.specs.declared.query.Query.{Query}
use Rattle.view_types.specs.declared.view.View.{View}
use Rattle.watch_events.specs.Lines.{row_says, text_line}
use Rattle.route_match.specs.Matching.{Pat}
use Rattle.feed_history.specs.History.{after}
use Rattle.feed_history.specs.KnownPatterns.{PatternsNow}
use Rattle.feed_history.specs.Program.{refused_unread}
use Rattle.subscriptions.specs.Live.{LiveSubscription, query_at, sub_at}
use Rattle.mesh_hub.specs.Due.{is_due as is_due_in}
use Rattle.mesh_hub.specs.Hub.{state_of}
use Rattle.link_sessions.specs.Entries.{Entries, changed, changed_by, entries_of, link_at, with_link}
use Rattle.link_sessions.specs.declared.link.Link.{Link}
use Rattle.link_sessions.specs.Settled.{IsSettledBut}
use Rattle.fed_hub.specs.LineSteps.{Applies, fed_row, touches_by}
use Rattle.fed_hub.specs.declared.hub.FedHub.{FedHub}
use Rattle.serve_rules.specs.Batches.{Serving, is_due_since, is_touched_since}
use Rattle.serve_rules.specs.Due.{IsPlaced}
use Rattle.serve_rules.specs.FedLines.{FedRow, rows_fed, serve_of}
use Rattle.serve_rules.specs.Hubs.{IsHubOf, IsLiveFor}
use Rattle.serve_rules.specs.LinkStates.{LinkState, is_due_for, query_of}
use Rattle.serve_rules.specs.Traces.{opened}
use Rattle.serve_rules.proofs.Hubs.{shown_stays}
use Rattle.serve_core.specs.Linked.{AreKept}
use Rattle.serve_core.specs.Served.{AreUnder, IsNearly, IsServed, last_of, serving_of, unasked}
use Rattle.serve_core.specs.declared.turning.Turning.{Turning}
use Rattle.serve_core.proofs.Closes.{same_here}
use Rattle.serve_core.proofs.HubLinks.{IsLive, each_live, each_served, live_each, served_each}
use Rattle.serve_core.proofs.Noted.{nearly_kept}
use Rattle.serve_core.proofs.OpenOnes.{AllOpen, both_open, map_open}

-- The server stands for these links, but for the turns of one, which are not noted yet; and whether the input of that one has ended
-- is noted last.
pub record IsHearing (config : Config) (limits : Limits) (pat : Pat) (fed : List FedRow) (number : ℕ) (was ended : Bool) (links : List LinkState) (trace : List LinkCall) (now : Turning) : Type 0 where
  pub id_of : ℕ → ℕ
  pub is : IsNearly config limits pat fed links trace id_of now
  pub link : Link
  pub at : link_at number (entries_of now.kept) ≡ Some link
  pub was_is : link.ended ≡ was
  pub links_are : AreKept (serving_of config limits pat) id_of (opened links) (with_link number (entries_of now.kept) (record link { ended = ended }))
  pub settled : IsSettledBut number now.kept

-- ---- a link that is changed twice

pub with_twice : (n : ℕ) (first last : Link) (es : Entries) → with_link n (with_link n es first) last ≡ with_link n es last
with_twice n first last [] = refl
with_twice n first last (e ∷ es) = by_test (with_twice n first last es) (is_at (nat_cmp n) e.0) refl
  where
    by_test : with_link n (with_link n es first) last ≡ with_link n es last → (b : Bool) → is_at (nat_cmp n) e.0 ≡ b → with_link n (cond b ((e.0, first) ∷ es) (e ∷ with_link n es first)) last ≡ cond b ((e.0, last) ∷ es) (e ∷ with_link n es last)
    by_test rest true is = ap (λ b. cond b ((e.0, last) ∷ es) ((e.0, first) ∷ with_link n es last)) is
    by_test rest false is = ap (λ b. cond b ((e.0, last) ∷ with_link n es first) (e ∷ with_link n (with_link n es first) last)) is ∙ ap (λ more. e ∷ more) rest

-- ---- places

placed_more : (drained : Option ℕ) (fed : List FedRow) (f : FedRow) → IsPlaced drained fed → IsPlaced drained (f ∷ fed)
placed_more None fed f placed = tt
placed_more (Some p) fed f placed = let before : p ≤ length fed = placed in omega (arith, before)

is_le : (a b : ℕ) → a ≤ b → nat_le a b ≡ true
is_le a b le = grind arith

or_so : (b : Bool) → true ≡ (b || true)
or_so true = refl
or_so false = refl

-- a subscriber is due after a line if the line touches its query, or it was due
due_more : (serving : Serving) (query : Query) (drained : Option ℕ) (fed : List FedRow) (f : FedRow) → IsPlaced drained fed → is_due_since serving query drained (f ∷ fed) ≡ (serving.touches query (rows_fed fed) f.row || is_due_since serving query drained fed)
due_more serving query None fed f placed = or_so (serving.touches query (rows_fed fed) f.row)
due_more serving query (Some p) fed f placed = ap (λ b. b && (serving.touches query (rows_fed fed) f.row || is_touched_since serving query p fed)) (is_le p (length fed) placed)

abbrev sub_with : ℕ → Query → Option View → Option LiveSubscription
sub_with id query shown = Some (record { id = record { 0 = id }; query = query; shown = shown })

-- ---- one more line

module _ (config : Config) (limits : Limits) (pat : Pat) (known : PatternsNow) (fed : List FedRow) (link number : ℕ) (row : Row) (answers answers_now : List (List ℕ)) (old new : FedHub) (line : Applies config limits pat known fed link number row answers answers_now old new) where
  abbrev serving : Serving
  serving = serving_of config limits pat

  abbrev f : FedRow
  f = fed_row link number row line.met

  -- what a line does to one subscriber
  due_by : (id : ℕ) (drained : Option ℕ) (found : Option Query) → is_some found ≡ true → IsPlaced drained fed → IsLiveFor serving fed (state_of old.hub).subs id drained found → is_due_in old.hub id ≡ is_due_for serving fed drained found
      → is_due_in new.hub id ≡ is_due_for serving (f ∷ fed) drained found
  due_by id drained None some placed live due = absurd cc
  due_by id drained (Some query) some placed live due =
      let program = serve_of config limits pat in
      let touched : Option Query → Bool = λ found. touches_by program (after program (rows_fed fed)) line.met (refused_unread (row_says (text_line config) row)) found in
      let asked : query_at id (state_of old.hub).subs ≡ Some query = ap (option_map (λ (sub : LiveSubscription). sub.query)) live in
      line.due id ∙ ap (λ found. touched found || is_due_in old.hub id) asked ∙ ap (λ b. touched (Some query) || b) due ∙ sym (due_more serving query drained fed f placed)

  live_by : (id : ℕ) (drained : Option ℕ) (found : Option Query) → IsPlaced drained fed → IsLiveFor serving fed (state_of old.hub).subs id drained found → IsLiveFor serving (f ∷ fed) (state_of new.hub).subs id drained found
  live_by id drained None placed live = tt
  live_by id drained (Some query) placed live =
      ap (sub_at id) line.subs ∙ live ∙ ap (sub_with id query) (sym (shown_stays serving fed f query drained placed))

  module _ (id_of : ℕ → ℕ) (links : List LinkState) (hub : IsHubOf serving fed links id_of (state_of old.hub)) (served : AllOpen (IsServed serving fed id_of old) links) where
    abbrev IsBoth : LinkState → Type 0
    IsBoth u = IsLive serving fed id_of (state_of old.hub).subs u × IsServed serving fed id_of old u

    each_both : AllOpen IsBoth links
    each_both = both_open (IsLive serving fed id_of (state_of old.hub).subs) (IsServed serving fed id_of old) links (live_each serving fed id_of (state_of old.hub).subs links hub.live) served

    served_now : (u : LinkState) → IsBoth u → IsServed serving (f ∷ fed) id_of new u
    served_now u both = record {
      due = λ some. due_by (id_of u.number) u.drained (query_of serving u.bytes) some both.1.placed both.0 (both.1.due some);
      given = λ some. subst (λ m. id_of u.number ≤ m) (sym line.requests) (both.1.given some);
      placed = placed_more u.drained fed f both.1.placed;
      undrained = both.1.undrained;
    }

    pub each_served_now : AllOpen (IsServed serving (f ∷ fed) id_of new) links
    each_served_now = map_open IsBoth (IsServed serving (f ∷ fed) id_of new) (λ u is_open both. served_now u both) links each_both

    pub hub_now : IsHubOf serving (f ∷ fed) links id_of (state_of new.hub)
    hub_now = record {
      config = line.holds.config_is;
      limits = line.holds.limits_are;
      objects = line.holds.objects;
      going = line.holds.going;
      live = each_live serving (f ∷ fed) id_of (state_of new.hub).subs links
          (map_open IsBoth (IsLive serving (f ∷ fed) id_of (state_of new.hub).subs) (λ u is_open both. live_by (id_of u.number) u.drained (query_of serving u.bytes) both.1.placed both.0) links each_both);
      count = ap (λ (subs : List LiveSubscription). length subs) line.subs ∙ hub.count;
    }

  -- the server stands for the same links, with this line
  pub line_heard : (on : ℕ) (ended_now ended : Bool) (links : List LinkState) (trace : List LinkCall) (was now : Turning) → was.hub ≡ old → now ≡ record was { hub = new } → IsHearing config limits pat fed on ended_now ended links trace was → IsHearing config limits pat (f ∷ fed) on ended_now ended links trace now
  line_heard on ended_now ended links trace was now was_is now_is at =
      subst (λ t. IsHearing config limits pat (f ∷ fed) on ended_now ended links trace t) (sym now_is) (record {
        id_of = at.id_of;
        is = nearly (subst (λ hub. IsHubOf serving fed links at.id_of (state_of hub.hub)) was_is at.is.hub) (subst (λ hub. AllOpen (IsServed serving fed at.id_of hub) links) was_is (served_each serving fed at.id_of was.hub links at.is.served));
        link = at.link;
        at = at.at;
        was_is = at.was_is;
        links_are = at.links_are;
        settled = at.settled;
      })
    where
      le_by : (a b c most : ℕ) → b ≡ a → a + c ≤ most → b + c ≤ most
      le_by a b c most same le = omega (arith, same, le)

      nearly : IsHubOf serving fed links at.id_of (state_of old.hub) → AllOpen (IsServed serving fed at.id_of old) links → IsNearly config limits pat (f ∷ fed) links trace at.id_of (record was { hub = new })
      nearly hub served =
          let requests : new.requests ≡ was.hub.requests = line.requests ∙ ap (λ (hub : FedHub). hub.requests) (sym was_is) in
          let subs : (state_of new.hub).subs ≡ (state_of was.hub.hub).subs = line.subs ∙ ap (λ (hub : FedHub). (state_of hub.hub).subs) (sym was_is) in
          record {
            config_is = at.is.config_is;
            line_config_is = line.same_config ∙ ap (λ (hub : FedHub). hub.config) (sym was_is) ∙ at.is.line_config_is;
            limits_are = at.is.limits_are;
            in_order = at.is.in_order;
            shown = at.is.shown;
            few_requests = le_by was.hub.requests new.requests (unasked serving links) (last_in trace) requests at.is.few_requests;
            numbered = record {
              last = at.is.numbered.last;
              between = at.is.numbered.between;
              few_requests = le_by was.hub.requests new.requests (unasked serving links) at.is.numbered.last requests at.is.numbered.few_requests;
              less = at.is.numbered.less;
            };
            last_id = line.last ∙ ap (λ (hub : FedHub). (state_of hub.hub).last) (sym was_is) ∙ at.is.last_id ∙ ap last_of (sym requests);
            few_subs = subst (λ all. AreUnder new.requests limits.subs all) (sym subs) (subst (λ m. AreUnder m limits.subs (state_of was.hub.hub).subs) (sym requests) at.is.few_subs);
            hub = hub_now at.id_of links hub served;
            served = each_served serving (f ∷ fed) at.id_of new links (each_served_now at.id_of links hub served);
          }

-- ---- the end of the input

-- it is noted
pub end_heard : (config : Config) (limits : Limits) (pat : Pat) (fed : List FedRow) (number : ℕ) (was : Bool) (links : List LinkState) (trace : List LinkCall) (old new : Turning) → new ≡ record old { kept = new.kept } → entries_of new.kept ≡ changed number (λ link. record link { ended = true }) (entries_of old.kept)
    → (IsSettledBut number old.kept → IsSettledBut number new.kept) → (ended : Bool) → IsHearing config limits pat fed number was ended links trace old → IsHearing config limits pat fed number true ended links trace new
end_heard config limits pat fed number was links trace old new is entries settled ended at =
    let link : Link = record at.link { ended = true } in
    let es = entries_of old.kept in
    let made : entries_of new.kept ≡ with_link number es link = entries ∙ ap (changed_by number (λ link. record link { ended = true }) es) at.at in
    record {
      id_of = at.id_of;
      is = nearly_kept config limits pat fed links trace at.id_of old new is at.is;
      link = link;
      at = ap (link_at number) made ∙ same_here number es link at.link at.at;
      was_is = refl;
      links_are = subst (λ all. AreKept (serving_of config limits pat) at.id_of (opened links) all) (sym (ap (λ all. with_link number all (record link { ended = ended })) made ∙ with_twice number link (record link { ended = ended }) es)) at.links_are;
      settled = settled at.settled;
    }
