-- What a server keeps where one link changes, and its bytes, its query and the hub stay.
use Rattle.std.proofs.Common.{◌≡◌, ℕ, ◌+◌, ◌≤◌, Bool, true, List, ◌∷◌, ◌++◌, Option, Some, refl, sym, ap, ◌∙◌, subst, arith}
use Rattle.std.specs.BTreeMap.{is_at}
use Rattle.std.specs.Ordering.{nat_cmp}
use Rattle.std.proofs.lemmas.Map.Steps.{set_value_same}
use Rattle.mesh_base.specs.declared.limits.Limits.{Limits}
use Rattle.mesh_links.specs.Calls.{last_in}
use Rattle.mesh_links.specs.declared.call.LinkCall.{LinkCall}
use Rattle.view_types.specs.declared.config.Config.{Config}
use Rattle.route_match.specs.Matching.{Pat}
use Rattle.mesh_hub.specs.Hub.{state_of}
use Rattle.link_sessions.specs.Entries.{changed, changed_by, entries_of, link_at}
use Rattle.link_sessions.specs.Settled.{IsSettled}
use Rattle.link_sessions.specs.declared.link.Link.{Link}
use Rattle.link_sessions.proofs.Settling.{but_one}
use Rattle.fed_hub.specs.declared.hub.FedHub.{FedHub}
use Rattle.serve_rules.specs.Batches.{Serving}
use Rattle.serve_rules.specs.FedLines.{FedRow}
use Rattle.serve_rules.specs.LinkOrder.{AreBetween}
use Rattle.serve_rules.specs.LinkStates.{LinkState, one_sub, subs}
use Rattle.serve_core.specs.Linked.{IsKept}
use Rattle.serve_core.specs.Served.{AreShown, IsAt, IsAtBut, IsServed, last_of, one_unasked, serving_of, unasked}
use Rattle.serve_core.specs.declared.turning.Turning.{Turning}
use Rattle.serve_core.proofs.KeptLinks.{IsFound, Kept, found_at, replaced_at}
use Rattle.serve_core.proofs.Closes.{GoesWith}
use Rattle.serve_core.proofs.HubLinks.{IsLive, each_live, each_served, here_open, live_each, served_each}
use Rattle.serve_core.proofs.OpenOnes.{all_replaced, sum_replaced}
use Rattle.serve_core.proofs.Replaced.{between_replaced, shown_replaced}

-- the same links after calls that open and close none
abbrev pub at_later : (config : Config) (limits : Limits) (pat : Pat) (fed : List FedRow) (links : List LinkState) (trace trace_now : List LinkCall) (now : Turning) → last_in trace_now ≡ last_in trace → (AreShown trace links → AreShown trace_now links)
    → IsAt config limits pat fed links trace now → IsAt config limits pat fed links trace_now now
at_later config limits pat fed links trace trace_now now last shown at = record {
  id_of = at.id_of;
  is = record {
    config_is = at.is.config_is;
    line_config_is = at.is.line_config_is;
    limits_are = at.is.limits_are;
    in_order = subst (λ high. AreBetween 0 links high) (sym last) at.is.in_order;
    shown = shown at.is.shown;
    few_requests = subst (λ high. now.hub.requests + unasked (serving_of config limits pat) links ≤ high) (sym last) at.is.few_requests;
    numbered = at.is.numbered;
    last_id = at.is.last_id;
    few_subs = at.is.few_subs;
    hub = at.is.hub;
    served = at.is.served;
  };
  keeps = at.keeps;
}

module _ (config : Config) (limits : Limits) (pat : Pat) (fed : List FedRow) (number : ℕ) (done : List LinkState) (s : LinkState) (links : List LinkState) (trace : List LinkCall) (old : Turning) (same : s.number ≡ number) (is_open : s.is_open ≡ true) where
  abbrev serving : Serving
  serving = serving_of config limits pat

  -- what is kept of the link
  abbrev pub found_here : (at : IsAt config limits pat fed (done ++ s ∷ links) trace old) → IsFound serving at.id_of s (entries_of old.kept)
  found_here at = found_at serving at.id_of done s links 0 (last_in trace) (entries_of old.kept) at.is.in_order is_open at.keeps.links_are

  pub found_number : (at : IsAt config limits pat fed (done ++ s ∷ links) trace old) → link_at number (entries_of old.kept) ≡ Some (found_here at).link
  found_number at = subst (λ m. link_at m (entries_of old.kept) ≡ Some (found_here at).link) same (found_here at).at

  -- a link that may change from here on
  abbrev pub at_but : IsAt config limits pat fed (done ++ s ∷ links) trace old → IsAtBut config limits pat fed number (done ++ s ∷ links) trace old
  at_but at =
      let found = found_here at in
      record {
        id_of = at.id_of;
        is = at.is;
        keeps = record {
          before = found.link;
          now = found.link;
          is = found_number at;
          same = refl;
          links_are = subst (λ es. Kept serving at.id_of (done ++ s ∷ links) es) (sym (set_value_same (is_at (nat_cmp number)) (entries_of old.kept) found.link (found_number at))) at.keeps.links_are;
          settled = but_one number old.kept at.keeps.settled;
        };
      }

  -- what changes of a link that stays open and is given no bytes
  module _ (readable writable : Bool) (outbox : List (List ℕ)) (drained : Option ℕ) where
    abbrev pub changed_link : LinkState
    changed_link = record s { readable = readable; writable = writable; outbox = outbox; drained = drained }

    pub at_changed : (at : IsAt config limits pat fed (done ++ s ∷ links) trace old) (change : Link → Link) (new : Turning) → new.config ≡ old.config → new.limits ≡ old.limits
        → GoesWith serving fed at.id_of (done ++ changed_link ∷ links) old.hub new.hub → entries_of new.kept ≡ changed number change (entries_of old.kept) → IsSettled new.kept
        → ((link : Link) → IsKept serving at.id_of s link → IsKept serving at.id_of changed_link (change link)) → IsAt config limits pat fed (done ++ changed_link ∷ links) trace new
    at_changed at change new config_same limits_same goes entries settled kept =
        let found = found_here at in
        record {
          id_of = at.id_of;
          is = record {
            config_is = config_same ∙ at.is.config_is;
            line_config_is = goes.config ∙ at.is.line_config_is;
            limits_are = limits_same ∙ at.is.limits_are;
            in_order = between_replaced s changed_link refl 0 done links (last_in trace) at.is.in_order;
            shown = shown_replaced trace s changed_link (λ e. is_open) refl done links at.is.shown;
            few_requests = sum_same old.hub.requests new.hub.requests (unasked serving (done ++ s ∷ links)) (unasked serving (done ++ changed_link ∷ links)) (one_unasked serving s) (last_in trace) goes.requests (sum_replaced (one_unasked serving) done s changed_link links) at.is.few_requests;
            numbered = record {
              last = at.is.numbered.last;
              between = between_replaced s changed_link refl 0 done links at.is.numbered.last at.is.numbered.between;
              few_requests = sum_same old.hub.requests new.hub.requests (unasked serving (done ++ s ∷ links)) (unasked serving (done ++ changed_link ∷ links)) (one_unasked serving s) at.is.numbered.last goes.requests (sum_replaced (one_unasked serving) done s changed_link links) at.is.numbered.few_requests;
              less = at.is.numbered.less;
            };
            last_id = goes.last ∙ at.is.last_id ∙ ap last_of (sym goes.requests);
            few_subs = goes.few limits.subs at.is.few_subs;
            hub = goes.hub;
            served = goes.served;
          };
          keeps = record {
            links_are = subst (λ es. Kept serving at.id_of (done ++ changed_link ∷ links) es) (sym (entries ∙ ap (changed_by number change (entries_of old.kept)) (found_number at)))
                (replaced_at serving at.id_of number (change found.link) changed_link same (kept found.link found.is) done s links 0 (last_in trace) (entries_of old.kept) at.is.in_order same is_open is_open at.keeps.links_are);
            settled = settled;
          };
        }
      where
        sum_same : (a b x y one c : ℕ) → b ≡ a → y + one ≡ x + one → a + x ≤ c → b + y ≤ c
        sum_same a b x y one c e sum le = omega (arith, e, sum, le)

  -- a hub that stays goes with a link whose last drain stays
  module _ (readable writable : Bool) (outbox : List (List ℕ)) (at : IsAt config limits pat fed (done ++ s ∷ links) trace old) where
    abbrev t : LinkState
    t = changed_link readable writable outbox s.drained

    same_sum : (now was x : ℕ) → now + x ≡ was + x → was ≡ now
    same_sum now was x sum = omega (arith, sum)

    goes_here : GoesWith serving fed at.id_of (done ++ t ∷ links) old.hub old.hub
    goes_here =
        let live : LinkState → Type 0 = IsLive serving fed at.id_of (state_of old.hub.hub).subs in
        let served : LinkState → Type 0 = IsServed serving fed at.id_of old.hub in
        let lives = live_each serving fed at.id_of (state_of old.hub.hub).subs (done ++ s ∷ links) at.is.hub.live in
        let serves = served_each serving fed at.id_of old.hub (done ++ s ∷ links) at.is.served in
        let own = here_open served done s links is_open serves in
        record {
          config = refl;
          requests = refl;
          last = refl;
          few = λ limit under. under;
          hub = record {
            config = at.is.hub.config;
            limits = at.is.hub.limits;
            objects = at.is.hub.objects;
            going = at.is.hub.going;
            live = each_live serving fed at.id_of (state_of old.hub.hub).subs (done ++ t ∷ links)
                (all_replaced live live number (λ u apart is_open p. p) s t same (λ e. here_open live done s links is_open lives) 0 done links (last_in trace) at.is.in_order lives);
            count = at.is.hub.count ∙ same_sum (subs serving (done ++ t ∷ links)) (subs serving (done ++ s ∷ links)) (one_sub serving s) (sum_replaced (one_sub serving) done s t links);
          };
          served = each_served serving fed at.id_of old.hub (done ++ t ∷ links)
              (all_replaced served served number (λ u apart is_open p. p) s t same (λ e. record { due = own.due; given = own.given; placed = own.placed; undrained = own.undrained }) 0 done links (last_in trace) at.is.in_order serves);
        }

    pub goes_on_with : (hub : FedHub) → hub ≡ old.hub → GoesWith serving fed at.id_of (done ++ t ∷ links) old.hub hub
    goes_on_with hub is = subst (λ h. GoesWith serving fed at.id_of (done ++ t ∷ links) old.hub h) (sym is) goes_here
