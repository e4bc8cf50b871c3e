-- The events of a poll, one after another.
use Rattle.std.proofs.Common.{◌≡◌, ℕ, ◌+◌, ◌≤◌, ◌<◌, ◌^◌, add-one, drop, get_or, Bool, true, false, ◌&&◌, ◌||◌, eqb, List, [], ◌∷◌, ◌++◌, map, Option, Some, Result, Ok, Err, if◌then◌else◌, refl, sym, ap, ◌∙◌, subst, append-nil, append_assoc, arith}
use Rattle.std.specs.Prelude.{OnOk, nat_lt, length}
use Rattle.std.proofs.Math.Seq.{drop-cons}
use Rattle.mesh_base.specs.declared.limits.Limits.{Limits}
use Rattle.mesh_base.specs.declared.memory.Memory.{Memory}
use Rattle.mesh_links.specs.Calls.{is_open_in}
use Rattle.mesh_links.specs.declared.call.LinkCall.{LinkCall}
use Rattle.mesh_links.specs.declared.call.LinkCall.TheVariants as calls
use Rattle.mesh_links.specs.declared.call.LinkEvent.{LinkEvent}
use Rattle.mesh_links.specs.declared.call.LinkEvent.TheVariants as events
use Rattle.view_types.specs.declared.config.Config.{Config}
use Rattle.route_match.specs.Matching.{Pat}
use Rattle.link_sessions.specs.Entries.{changed, entries_of}
use Rattle.link_sessions.specs.Entries.{opened as opened_in}
use Rattle.link_sessions.specs.Settled.{IsSettled}
use Rattle.link_sessions.specs.declared.link.Link.{Link}
use Rattle.link_sessions.specs.declared.open_links.OpenLinks.{OpenLinks}
use Rattle.serve_rules.specs.FedLines.{FedRow}
use Rattle.serve_rules.specs.LinkStates.{LinkState, fresh, open_links}
use Rattle.serve_rules.specs.Turns.{Events, admits_link, event_closes, event_to, made_readable, made_writable}
use Rattle.serve_core.specs.Served.{IsAt, serving_of, unasked}
use Rattle.serve_core.specs.Shown.{AreOpenNew, Awaits, IsShown, Shows, ShowsAll}
use Rattle.serve_core.specs.declared.turning.Turning.{Turning}
use Rattle.serve_core.proofs.KeptLinks.{count_links}
use Rattle.serve_core.proofs.NewLinks.{IsFresh, between_more, closes_at, higher, open_later, opens_at, unasked_more}
use Rattle.serve_core.proofs.Noted.{between_noted, readable_at, unasked_noted, writable_at}

-- ---- one event

told_nothing : (trace_now : Option (List LinkCall)) (trace : List LinkCall) → trace_now ≡ Some trace → trace_now ≡ Some (trace ++ [])
told_nothing trace_now trace told = told ∙ ap Some (sym (append-nil trace))

pub readable_shown : (n : ℕ) (old : Turning) (kept : OpenLinks) (traced : Option (List LinkCall)) (result : Result (Unit {0}) Memory) → OnOk result (entries_of kept ≡ changed n (λ (link : Link). record link { readable = true }) (entries_of old.kept))
    → OnOk result (IsSettled old.kept → IsSettled kept) → Shows (events.Readable n) traced old result traced (record old { kept = kept })
readable_shown n old kept traced (Err memory) entries settled config limits pat fed links trace more told at awaits = told
readable_shown n old kept traced (Ok done) entries settled config limits pat fed links trace more told at awaits =
    let serving = serving_of config limits pat in
    let p : LinkState → Bool = λ s. s.readable || (s.is_open && eqb s.number n) in
    let q : LinkState → Bool = λ s. s.writable in
    let new : Turning = record old { kept = kept } in
    record {
      grew = told_nothing traced trace told;
      at = subst (λ calls. IsAt config limits pat fed (map (made_readable n) links) calls new) (sym (append-nil trace)) (readable_at config limits pat fed links trace old new at refl (settled at.keeps.settled) n entries);
      awaits = record {
        last = awaits.last;
        between = between_noted p q 0 links awaits.last awaits.between;
        few_requests = subst (λ n. old.hub.requests + n ≤ awaits.last) (sym (unasked_noted p q serving links)) awaits.few_requests;
        above = awaits.above;
        open_new = subst (λ calls. AreOpenNew calls more) (sym (append-nil trace)) awaits.open_new;
      };
    }

pub writable_shown : (n : ℕ) (old : Turning) (kept : OpenLinks) (traced : Option (List LinkCall)) (result : Result (Unit {0}) Memory) → OnOk result (entries_of kept ≡ changed n (λ (link : Link). record link { writable = true }) (entries_of old.kept))
    → OnOk result (IsSettled old.kept → IsSettled kept) → Shows (events.Writable n) traced old result traced (record old { kept = kept })
writable_shown n old kept traced (Err memory) entries settled config limits pat fed links trace more told at awaits = told
writable_shown n old kept traced (Ok done) entries settled config limits pat fed links trace more told at awaits =
    let serving = serving_of config limits pat in
    let p : LinkState → Bool = λ s. s.readable in
    let q : LinkState → Bool = λ s. s.writable || (s.is_open && eqb s.number n) in
    let new : Turning = record old { kept = kept } in
    record {
      grew = told_nothing traced trace told;
      at = subst (λ calls. IsAt config limits pat fed (map (made_writable n) links) calls new) (sym (append-nil trace)) (writable_at config limits pat fed links trace old new at refl (settled at.keeps.settled) n entries);
      awaits = record {
        last = awaits.last;
        between = between_noted p q 0 links awaits.last awaits.between;
        few_requests = subst (λ n. old.hub.requests + n ≤ awaits.last) (sym (unasked_noted p q serving links)) awaits.few_requests;
        above = awaits.above;
        open_new = subst (λ calls. AreOpenNew calls more) (sym (append-nil trace)) awaits.open_new;
      };
    }

few_on : (requests asked asked_now last n : ℕ) → asked_now ≡ asked + 1 → requests + asked ≤ last → last < n → requests + asked_now ≤ n
few_on requests asked asked_now last n more few less = omega arith

few_less : (requests asked last n : ℕ) → requests + asked ≤ last → last < n → requests + asked ≤ n
few_less requests asked last n few less = omega arith

-- a new link is opened
pub new_opened : (n : ℕ) (old : Turning) (kept : OpenLinks) (link : Link) (traced : Option (List LinkCall)) (result : Result (Unit {0}) Memory) → n < 2 ^ 32 → nat_lt (length (entries_of old.kept)) old.limits.links ≡ true → IsFresh old.config old.limits link
    → OnOk result (entries_of kept ≡ opened_in n link (entries_of old.kept)) → OnOk result (IsSettled old.kept → IsSettled kept) → Shows (events.New n) traced old result traced (record old { kept = kept })
new_opened n old kept link traced (Err memory) fits room is entries settled config limits pat fed links trace more told at awaits = told
new_opened n old kept link traced (Ok done) fits room is entries settled config limits pat fed links trace more told at awaits =
    let serving = serving_of config limits pat in
    let new : Turning = record old { kept = kept } in
    let less : awaits.last < n = awaits.above.0 in
    let fresh_link : IsFresh config limits link = subst (λ l. IsFresh config l link) at.is.limits_are (subst (λ c. IsFresh c old.limits link) at.is.config_is is) in
    let count = count_links serving at.id_of links (entries_of old.kept) at.keeps.links_are in
    let admits : admits_link serving links ≡ true = ap (λ l. nat_lt (open_links links) l.links) (sym at.is.limits_are) ∙ ap (λ k. nat_lt k old.limits.links) (sym count) ∙ room in
    let opens = opens_at config limits pat fed links trace awaits.last n awaits.between less old new link at refl (settled at.keeps.settled) entries fresh_link awaits.open_new.0 awaits.open_new.1 fits awaits.few_requests in
    subst (λ (b : Bool). IsShown config limits pat fed trace more (if b then links ++ fresh n ∷ [] else links) (if b then [] else calls.Close n ∷ []) traced new) (sym admits)
    (record {
      grew = told_nothing traced trace told;
      at = subst (λ calls. IsAt config limits pat fed (links ++ fresh n ∷ []) calls new) (sym (append-nil trace)) opens;
      awaits = record {
        last = n;
        between = between_more 0 links awaits.last (fresh n) less awaits.between;
        few_requests = few_on old.hub.requests (unasked serving links) (unasked serving (links ++ fresh n ∷ [])) awaits.last n (unasked_more n serving links) awaits.few_requests less;
        above = awaits.above.1;
        open_new = subst (λ calls. AreOpenNew calls more) (sym (append-nil trace)) awaits.open_new.2;
      };
    })

-- a new link above the limit is closed
pub new_closed : (n : ℕ) (old : Turning) (traced traced_now : Option (List LinkCall)) → nat_lt (length (entries_of old.kept)) old.limits.links ≡ false
    → ((trace : List LinkCall) → traced ≡ Some trace → is_open_in trace n ≡ true → traced_now ≡ Some (trace ++ calls.Close n ∷ [])) → Shows (events.New n) traced old (Ok tt) traced_now old
new_closed n old traced traced_now full closes config limits pat fed links trace more told at awaits =
    let serving = serving_of config limits pat in
    let less : awaits.last < n = awaits.above.0 in
    let least : awaits.last ≤ n = omega arith in
    let count = count_links serving at.id_of links (entries_of old.kept) at.keeps.links_are in
    let admits : admits_link serving links ≡ false = ap (λ l. nat_lt (open_links links) l.links) (sym at.is.limits_are) ∙ ap (λ k. nat_lt k old.limits.links) (sym count) ∙ full in
    subst (λ (b : Bool). IsShown config limits pat fed trace more (if b then links ++ fresh n ∷ [] else links) (if b then [] else calls.Close n ∷ []) traced_now old) (sym admits)
    (record {
      grew = closes trace told awaits.open_new.0;
      at = closes_at config limits pat fed links trace awaits.last n awaits.between less old at;
      awaits = record {
        last = n;
        between = higher 0 links awaits.last n least awaits.between;
        few_requests = few_less old.hub.requests (unasked serving links) awaits.last n awaits.few_requests less;
        above = awaits.above.1;
        open_new = open_later trace n n more (omega arith) awaits.above.1 awaits.open_new.2;
      };
    })

-- ---- the events so far

pub next_event : (shown : List LinkEvent) (i : ℕ) (d : LinkEvent) → i < length shown → drop i shown ≡ get_or shown i d ∷ drop (i + 1) shown
next_event shown i d less = rw add-one (drop-cons shown i d less)

-- what the events that are left may lead to
record IsSomeway (config : Config) (limits : Limits) (pat : Pat) (shown : List LinkEvent) (links : List LinkState) : Type 0 where
  made : List LinkCall
  after : List LinkState
  events : Events (serving_of config limits pat) false shown links made after

someway : (config : Config) (limits : Limits) (pat : Pat) (shown : List LinkEvent) (links : List LinkState) → IsSomeway config limits pat shown links
someway config limits pat [] links = record { made = []; after = links; events = (refl, refl) }
someway config limits pat (event ∷ shown) links =
    let serving = serving_of config limits pat in
    let rest = someway config limits pat shown (event_to serving links event) in
    record { made = event_closes serving links event ++ rest.made; after = rest.after; events = (rest.made, refl, tt, rest.events) }

pub record IsShownTo (config : Config) (limits : Limits) (pat : Pat) (fed : List FedRow) (links : List LinkState) (trace : List LinkCall) (shown left : List LinkEvent) (trace_now : Option (List LinkCall)) (new : Turning) : Type 0 where
  pub made : List LinkCall
  pub now : List LinkState
  pub grew : trace_now ≡ Some (trace ++ made)
  pub so_far : (more : List LinkCall) (after : List LinkState) → Events (serving_of config limits pat) false left now more after → Events (serving_of config limits pat) false shown links (made ++ more) after
  pub at : IsAt config limits pat fed now (trace ++ made) new
  pub awaits : Awaits config limits pat now (trace ++ made) left new

abbrev pub ShowsTo : List LinkEvent → List LinkEvent → Option (List LinkCall) → Turning → Option (List LinkCall) → Turning → Type 0
ShowsTo shown left traced old trace_now new = (config : Config) (limits : Limits) (pat : Pat) (fed : List FedRow) (links : List LinkState) (trace : List LinkCall)
    → traced ≡ Some trace → IsAt config limits pat fed links trace old → Awaits config limits pat links trace shown old → IsShownTo config limits pat fed links trace shown left trace_now new

pub show_begins : (shown left : List LinkEvent) (traced : Option (List LinkCall)) (old : Turning) → left ≡ shown → ShowsTo shown left traced old traced old
show_begins shown left traced old is config limits pat fed links trace told at awaits =
    subst (λ events. IsShownTo config limits pat fed links trace shown events traced old) (sym is)
    (record {
      made = [];
      now = links;
      grew = told_nothing traced trace told;
      so_far = λ more after events. events;
      at = subst (λ calls. IsAt config limits pat fed links calls old) (sym (append-nil trace)) at;
      awaits = subst (λ calls. Awaits config limits pat links calls shown old) (sym (append-nil trace)) awaits;
    })

module _ (shown left : List LinkEvent) (traced : Option (List LinkCall)) (old : Turning) (traced_mid : Option (List LinkCall)) (mid : Turning) (before : ShowsTo shown left traced old traced_mid mid) where
  pub show_goes_on : (event : LinkEvent) (more : List LinkEvent) (traced_now : Option (List LinkCall)) (new : Turning) → left ≡ event ∷ more → Shows event traced_mid mid (Ok tt) traced_now new → ShowsTo shown more traced old traced_now new
  show_goes_on event more traced_now new left_is shows config limits pat fed links trace told at awaits =
      let serving = serving_of config limits pat in
      let one = before config limits pat fed links trace told at awaits in
      let two = shows config limits pat fed one.now (trace ++ one.made) more one.grew one.at (subst (λ events. Awaits config limits pat one.now (trace ++ one.made) events mid) left_is one.awaits) in
      let closes = event_closes serving one.now event in
      let next = event_to serving one.now event in
      let joined = append_assoc trace one.made closes in
      record {
        made = one.made ++ closes;
        now = next;
        grew = two.grew ∙ ap Some joined;
        so_far = λ rest after events.
            subst (λ calls. Events serving false shown links calls after) (sym (append_assoc one.made closes rest))
            (one.so_far (closes ++ rest) after (subst (λ events. Events serving false events one.now (closes ++ rest) after) (sym left_is) (rest, refl, tt, events)));
        at = subst (λ calls. IsAt config limits pat fed next calls new) joined two.at;
        awaits = subst (λ calls. Awaits config limits pat next calls more new) joined two.awaits;
      }

  pub show_ends : left ≡ [] → ShowsAll shown traced old (Ok tt) traced_mid mid
  show_ends left_is config limits pat fed links trace told at awaits =
      let serving = serving_of config limits pat in
      let one = before config limits pat fed links trace told at awaits in
      record {
        made = one.made;
        after = one.now;
        grew = one.grew;
        events = subst (λ calls. Events serving false shown links calls one.now) (append-nil one.made)
            (one.so_far [] one.now (subst (λ events. Events serving false events one.now [] one.now) (sym left_is) (refl, refl)));
        at = one.at;
      }

  pub show_cut : (event : LinkEvent) (more : List LinkEvent) (memory : Memory) (traced_now : Option (List LinkCall)) (new : Turning) → left ≡ event ∷ more → Shows event traced_mid mid (Err memory) traced_now new → ShowsAll shown traced old (Err memory) traced_now new
  show_cut event more memory traced_now new left_is shows config limits pat fed links trace told at awaits =
      let serving = serving_of config limits pat in
      let one = before config limits pat fed links trace told at awaits in
      let two = shows config limits pat fed one.now (trace ++ one.made) more one.grew one.at (subst (λ events. Awaits config limits pat one.now (trace ++ one.made) events mid) left_is one.awaits) in
      let rest = someway config limits pat left one.now in
      record { made = one.made; more = rest.made; after = rest.after; grew = two; events = one.so_far rest.made rest.after rest.events }
