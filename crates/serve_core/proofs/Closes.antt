-- What a server keeps once it has closed a link.
use Rattle.std.proofs.Common.{◌≡◌, ◌≢◌, ℕ, suc, ◌+◌, ◌≤◌, true, false, List, [], ◌∷◌, ◌++◌, length, Option, Some, None, Ok, Err, refl, sym, ap, ◌∙◌, subst, arith, eq-eqb}
use Rattle.std.specs.Prelude.{Result, is_some, option_map, if◌then◌else◌}
use Rattle.std.specs.BTreeMap.{get}
use Rattle.std.specs.Ordering.{nat_cmp}
use Rattle.mesh_base.specs.declared.limits.Limits.{Limits}
use Rattle.mesh_links.specs.Calls.{Continues, close_made, is_open_in, last_in, with_call}
use Rattle.mesh_links.specs.declared.call.LinkCall.{LinkCall}
use Rattle.mesh_links.specs.declared.call.LinkCall.TheVariants as calls
use Rattle.view_types.specs.declared.config.Config.{Config}
use Rattle.view_types.specs.declared.query.Query.{Query}
use Rattle.session_core.specs.Phases.{Phase, Opening, Feeding, Asking, Asked, is_feeding, query_in}
use Rattle.session_core.specs.declared.session.SessionFault.{SessionFault}
use Rattle.route_match.specs.Matching.{Pat}
use Rattle.mesh_hub.specs.Due.{Undue}
use Rattle.mesh_hub.specs.Hub.{HubState, cancelled, state_of}
use Rattle.link_sessions.specs.Entries.{Entries, changed_by, entries_of, link_at, passes, passes_at, with_link, without}
use Rattle.link_sessions.specs.Roles.{is_subscriber}
use Rattle.link_sessions.specs.Settled.{AreFound, IsSettled, IsSettledBut, subscribes}
use Rattle.link_sessions.specs.declared.link.Link.{Link}
use Rattle.link_sessions.specs.declared.link.Role.{Role}
use Rattle.link_sessions.specs.declared.link.Role.TheVariants as roles
use Rattle.link_sessions.specs.declared.open_links.OpenLinks.{OpenLinks}
use Rattle.link_sessions.proofs.Changes.{here_at, other_at}
use Rattle.fed_hub.specs.HubSteps.{CancelsAt}
use Rattle.fed_hub.specs.declared.hub.FedHub.{FedHub}
use Rattle.serve_rules.specs.Batches.{Serving}
use Rattle.serve_rules.specs.FedLines.{FedRow}
use Rattle.serve_rules.specs.Hubs.{IsHubOf}
use Rattle.serve_rules.specs.LinkOrder.{AreBetween}
use Rattle.serve_rules.specs.LinkStates.{LinkState, phase_in, query_of}
use Rattle.serve_core.specs.Linked.{role_by, role_of}
use Rattle.serve_core.specs.Served.{AreServed, AreShown, AreUnder, IsAt, IsAtBut, last_of, serving_of, unasked}
use Rattle.serve_core.specs.Steps.{ClosesAt, Ends}
use Rattle.serve_core.specs.declared.turning.Turning.{Turning}
use Rattle.serve_core.proofs.Cancelled.{under_left}
use Rattle.serve_core.proofs.HubLinks.{IsApart, fewer_unasked, hub_left, hub_same, one_less, served_left, served_same}
use Rattle.serve_core.proofs.KeptLinks.{IsFound, Kept, found_at, removed_at}
use Rattle.serve_core.proofs.OpenOnes.{AllOpen, all_found, map_open}
use Rattle.serve_core.proofs.OpenTraces.{last_close, shown_close}
use Rattle.serve_core.proofs.Replaced.{between_replaced, others_apart, shown_replaced, without_with}

-- ---- roles

pub asked_role : (id_of : ℕ → ℕ) (m : ℕ) (phase : Result Phase SessionFault) → is_some (query_in phase) ≡ true → role_by id_of m (is_feeding phase) (query_in phase) ≡ roles.Subscriber (record { 0 = id_of m })
asked_role id_of m (Ok Opening) some = absurd cc
asked_role id_of m (Ok (Feeding text)) some = absurd cc
asked_role id_of m (Ok Asking) some = absurd cc
asked_role id_of m (Ok (Asked query)) some = refl
asked_role id_of m (Err fault) some = absurd cc

unasked_ends : (id_of : ℕ → ℕ) (m : ℕ) (phase : Result Phase SessionFault) (role : Role) (old new : FedHub) → role ≡ role_by id_of m (is_feeding phase) (query_in phase) → query_in phase ≡ None → Ends role old new → new ≡ old
unasked_ends id_of m (Ok Opening) role old new is none ends = subst (λ r. Ends r old new) is ends
unasked_ends id_of m (Ok (Feeding text)) role old new is none ends = subst (λ r. Ends r old new) is ends
unasked_ends id_of m (Ok Asking) role old new is none ends = subst (λ r. Ends r old new) is ends
unasked_ends id_of m (Ok (Asked query)) role old new is none ends = absurd cc
unasked_ends id_of m (Err fault) role old new is none ends = subst (λ r. Ends r old new) is ends

-- ---- a link that may have changed

module _ (n : ℕ) (es : Entries) (before now : Link) (is : link_at n es ≡ Some now) where
  pub others_same : (m : ℕ) → m ≢ n → link_at m (with_link n es before) ≡ link_at m es
  others_same m apart = ap (λ found. link_at m (changed_by n (λ v. before) es found)) (sym is) ∙ other_at n es (λ v. before) m apart

  pub same_here : link_at n (with_link n es before) ≡ Some before
  same_here = ap (λ found. link_at n (changed_by n (λ v. before) es found)) (sym is) ∙ here_at n es (λ v. before) ∙ ap (option_map (λ v. before)) is

one_of : {A : Type 0} (x y : A) (found : Option A) → found ≡ Some x → found ≡ Some y → x ≡ y
one_of x y found e g = let same : Some x ≡ Some y = sym e ∙ g in cc

-- ---- the ids of open subscribers differ

module _ (serving : Serving) (id_of : ℕ → ℕ) (n : ℕ) (kept : OpenLinks) (before now : Link) (is : link_at n (entries_of kept) ≡ Some now) (same : now.role ≡ before.role) where
  subscribes_at : (u : LinkState) (link : Link) → link_at u.number (entries_of kept) ≡ Some link → link.role ≡ role_of serving id_of u → is_some (query_of serving u.bytes) ≡ true → passes_at (subscribes (id_of u.number)) (entries_of kept) u.number ≡ true
  subscribes_at u link at role some =
      ap (passes (subscribes (id_of u.number))) at ∙ ap (is_subscriber (id_of u.number)) (role ∙ asked_role id_of u.number (phase_in serving u.bytes) some) ∙ eq-eqb (id_of u.number) (id_of u.number) refl

  pub apart_all : (s : LinkState) (same_number : s.number ≡ n) (closed_t : LinkState) (t_closed : closed_t.is_open ≡ false) (low : ℕ) (done links : List LinkState) (high : ℕ) (between : AreBetween low (done ++ s ∷ links) high)
      → now.role ≡ role_of serving id_of s → is_some (query_of serving s.bytes) ≡ true → AreFound kept → Kept serving id_of (done ++ s ∷ links) (with_link n (entries_of kept) before)
      → AllOpen (IsApart serving [] id_of n s closed_t same_number t_closed low done links high between) (done ++ s ∷ links)
  apart_all s same_number closed_t t_closed low done links high between role some found kept_are =
      map_open (λ u. IsFound serving id_of u (with_link n (entries_of kept) before)) (IsApart serving [] id_of n s closed_t same_number t_closed low done links high between)
      (λ u is_open at other asked one. differ u at other asked one) (done ++ s ∷ links)
      (all_found serving id_of [] (done ++ s ∷ links) low high (with_link n (entries_of kept) before) between kept_are)
    where
      here : passes_at (subscribes (id_of n)) (entries_of kept) n ≡ true
      here = subst (λ m. passes_at (subscribes (id_of m)) (entries_of kept) m ≡ true) same_number (subscribes_at s now (subst (λ m. link_at m (entries_of kept) ≡ Some now) (sym same_number) is) role some)

      differ : (u : LinkState) → IsFound serving id_of u (with_link n (entries_of kept) before) → n ≢ u.number → is_some (query_of serving u.bytes) ≡ true → id_of u.number ≢ id_of n
      differ u at other asked one =
          let there = subscribes_at u at.link (sym (others_same n (entries_of kept) before now is u.number (λ e. other (sym e))) ∙ at.at) at.is.role asked in
          let first : get nat_cmp kept.by_sub (id_of n) ≡ Some u.number = ap (get nat_cmp kept.by_sub) (sym one) ∙ found.there (id_of u.number) u.number there in
          other (one_of n u.number (get nat_cmp kept.by_sub (id_of n)) (found.there (id_of n) n here) first)

-- ---- what is kept then

-- a link is let go
pub record IsLetGo (number : ℕ) (old new : Turning) : Type 0 where
  pub config : new.config ≡ old.config
  pub limits : new.limits ≡ old.limits
  pub entries : entries_of new.kept ≡ without number (entries_of old.kept)
  pub settled : IsSettledBut number old.kept → IsSettled new.kept

-- the hub goes with these links
pub record GoesWith (serving : Serving) (fed : List FedRow) (id_of : ℕ → ℕ) (links : List LinkState) (old new : FedHub) : Type 0 where
  pub config : new.config ≡ old.config
  pub requests : new.requests ≡ old.requests
  pub last : (state_of new.hub).last ≡ (state_of old.hub).last
  pub few : (limit : ℕ) → AreUnder old.requests limit (state_of old.hub).subs → AreUnder new.requests limit (state_of new.hub).subs
  pub hub : IsHubOf serving fed links id_of (state_of new.hub)
  pub served : AreServed serving fed id_of new links

pub le_then : (a b c : ℕ) → a ≤ b → b ≤ c → a ≤ c
le_then a b c le further = omega (arith, le, further)

sum_then : (a b x y c : ℕ) → a + x ≤ c → b ≡ a → y ≤ x → b + y ≤ c
sum_then a b x y c le same less = omega (arith, le, same, less)

no_more : (a b : ℕ) → a ≡ suc b → b ≤ a
no_more a b e = omega (arith, e)

module _ (config : Config) (limits : Limits) (pat : Pat) (fed : List FedRow) (number : ℕ) (done : List LinkState) (s : LinkState) (links : List LinkState) (trace : List LinkCall) (old : Turning) (same : s.number ≡ number) (is_open : s.is_open ≡ true)
    (t : LinkState) (same_t : t.number ≡ number) (closed : t.is_open ≡ false) where
  abbrev serving : Serving
  serving = serving_of config limits pat

  module _ (at : IsAtBut config limits pat fed number (done ++ s ∷ links) trace old) where
    pub let_go : (new : Turning) → IsLetGo number old new → GoesWith serving fed at.id_of (done ++ t ∷ links) old.hub new.hub → IsAt config limits pat fed (done ++ t ∷ links) (trace ++ calls.Close number ∷ []) new
    let_go new kept hub =
        let in_order = between_replaced s t (same_t ∙ sym same) 0 done links (last_in trace) at.is.in_order in
        let one : last_in (trace ++ calls.Close number ∷ []) ≡ last_in trace = last_close trace number in
        record {
          id_of = at.id_of;
          is = record {
            config_is = kept.config ∙ at.is.config_is;
            line_config_is = hub.config ∙ at.is.line_config_is;
            limits_are = kept.limits ∙ at.is.limits_are;
            in_order = subst (λ high. AreBetween 0 (done ++ t ∷ links) high) (sym one) in_order;
            shown = shown_close trace number (done ++ t ∷ links) (others_apart t number same_t closed 0 done links (last_in trace) in_order)
                (shown_replaced trace s t (λ e. is_open) (same_t ∙ sym same) done links at.is.shown);
            few_requests = subst (λ high. new.hub.requests + unasked serving (done ++ t ∷ links) ≤ high) (sym one)
                (sum_then old.hub.requests new.hub.requests (unasked serving (done ++ s ∷ links)) (unasked serving (done ++ t ∷ links)) (last_in trace) at.is.few_requests hub.requests (fewer_unasked serving done s t links closed));
            numbered = record {
              last = at.is.numbered.last;
              between = between_replaced s t (same_t ∙ sym same) 0 done links at.is.numbered.last at.is.numbered.between;
              few_requests = sum_then old.hub.requests new.hub.requests (unasked serving (done ++ s ∷ links)) (unasked serving (done ++ t ∷ links)) at.is.numbered.last at.is.numbered.few_requests hub.requests (fewer_unasked serving done s t links closed);
              less = at.is.numbered.less;
            };
            last_id = hub.last ∙ at.is.last_id ∙ ap last_of (sym hub.requests);
            few_subs = hub.few limits.subs at.is.few_subs;
            hub = hub.hub;
            served = hub.served;
          };
          keeps = record {
            links_are = subst (λ es. Kept serving at.id_of (done ++ t ∷ links) es) (without_with number (entries_of old.kept) at.keeps.before ∙ sym kept.entries)
                (removed_at serving at.id_of number t closed done s links 0 (last_in trace) (with_link number (entries_of old.kept) at.keeps.before) at.is.in_order same is_open at.keeps.links_are);
            settled = kept.settled at.keeps.settled;
          };
        }

    -- what the link is
    pub role_is : at.keeps.now.role ≡ role_of serving at.id_of s
    role_is =
        let found = found_at serving at.id_of done s links 0 (last_in trace) (with_link number (entries_of old.kept) at.keeps.before) at.is.in_order is_open at.keeps.links_are in
        let here = subst (λ m. link_at m (with_link number (entries_of old.kept) at.keeps.before) ≡ Some at.keeps.before) (sym same) (same_here number (entries_of old.kept) at.keeps.before at.keeps.now at.keeps.is) in
        at.keeps.same ∙ ap (λ link. link.role) (one_of at.keeps.before found.link (link_at s.number (with_link number (entries_of old.kept) at.keeps.before)) here found.at) ∙ found.is.role

    -- a hub whose subscription of the link ended
    pub goes_left : (new : FedHub) (query : Query) → query_of serving s.bytes ≡ Some query → new.config ≡ old.hub.config → new.requests ≡ old.hub.requests → state_of new.hub ≡ cancelled (state_of old.hub.hub) (at.id_of number)
        → Undue (at.id_of number) old.hub.hub new.hub → GoesWith serving fed at.id_of (done ++ t ∷ links) old.hub new
    goes_left new query asked config_same requests state undue =
        let some : is_some (query_of serving s.bytes) ≡ true = ap is_some asked in
        let apart = apart_all serving at.id_of number old.kept at.keeps.before at.keeps.now at.keeps.is at.keeps.same s same t closed 0 done links (last_in trace) at.is.in_order role_is some at.keeps.settled.found at.keeps.links_are in
        let one = one_less serving fed at.id_of number s t same closed 0 done links (last_in trace) at.is.in_order query asked is_open apart (state_of old.hub.hub) at.is.hub in
        record {
          config = config_same;
          requests = requests;
          last = ap (λ (st : HubState). st.last) state;
          few = λ limit under. subst (λ (st : HubState). AreUnder new.requests limit st.subs) (sym state) (subst (λ m. AreUnder m limit (cancelled (state_of old.hub.hub) (at.id_of number)).subs) (sym requests)
              (under_left old.hub.requests limit (at.id_of number) (state_of old.hub.hub).subs (no_more (length (state_of old.hub.hub).subs) (length (cancelled (state_of old.hub.hub) (at.id_of number)).subs) one) under));
          hub = subst (λ st. IsHubOf serving fed (done ++ t ∷ links) at.id_of st) (sym state)
              (hub_left serving fed at.id_of number s t same closed 0 done links (last_in trace) at.is.in_order query asked is_open apart (state_of old.hub.hub) at.is.hub);
          served = served_left serving fed at.id_of number s t same closed 0 done links (last_in trace) at.is.in_order query asked is_open apart old.hub new undue requests at.is.served;
        }

    goes_same : (new : FedHub) → query_of serving s.bytes ≡ None → new ≡ old.hub → GoesWith serving fed at.id_of (done ++ t ∷ links) old.hub new
    goes_same new none is =
        subst (λ hub. GoesWith serving fed at.id_of (done ++ t ∷ links) old.hub hub) (sym is) (record {
          config = refl;
          requests = refl;
          last = refl;
          few = λ limit under. under;
          hub = hub_same serving fed at.id_of number s t same closed 0 done links (last_in trace) at.is.in_order (state_of old.hub.hub) none at.is.hub;
          served = served_same serving fed at.id_of number s t same closed 0 done links (last_in trace) at.is.in_order old.hub at.is.served;
        })

    goes_by : (new : FedHub) (role : Role) → role ≡ role_of serving at.id_of s → Ends role old.hub new → (query : Option Query) → query_of serving s.bytes ≡ query → GoesWith serving fed at.id_of (done ++ t ∷ links) old.hub new
    goes_by new role is ends None asked = goes_same new asked (unasked_ends at.id_of s.number (phase_in serving s.bytes) role old.hub new is asked ends)
    goes_by new role is ends (Some query) asked =
        let cancels : CancelsAt (at.id_of s.number) old.hub new = subst (λ r. Ends r old.hub new) (is ∙ asked_role at.id_of s.number (phase_in serving s.bytes) (ap is_some asked)) ends in
        let here : CancelsAt (at.id_of number) old.hub new = subst (λ m. CancelsAt (at.id_of m) old.hub new) same cancels in
        goes_left new query asked here.same.config here.requests here.state here.due

    -- the subscription of what the link was ends
    pub goes_ended : (new : FedHub) (role : Role) → role ≡ role_of serving at.id_of s → Ends role old.hub new → GoesWith serving fed at.id_of (done ++ t ∷ links) old.hub new
    goes_ended new role is ends = goes_by new role is ends (query_of serving s.bytes) refl

-- the trace grows by the close of an open link
pub close_grows : (number : ℕ) (trace : List LinkCall) (trace_before trace_now : Option (List LinkCall)) → trace_before ≡ Some trace → is_open_in trace number ≡ true → Continues trace_before trace_now (λ t. close_made t number) → trace_now ≡ Some (trace ++ calls.Close number ∷ [])
close_grows number trace trace_before trace_now told is_open continues = continues trace told ∙ ap (λ b. Some (with_call trace (if b then Some (calls.Close number) else None))) is_open

-- it is open in the trace
pub shown_at : (trace : List LinkCall) (done : List LinkState) (s : LinkState) (links : List LinkState) → s.is_open ≡ true → AreShown trace (done ++ s ∷ links) → is_open_in trace s.number ≡ true
shown_at trace [] s links is_open shown = shown.0 is_open
shown_at trace (d ∷ done) s links is_open shown = shown_at trace done s links is_open shown.1

pub closes : (number : ℕ) (trace_before trace_now : Option (List LinkCall)) (old new : Turning) (role : Role) → Some role ≡ option_map (λ link. link.role) (link_at number (entries_of old.kept)) → IsLetGo number old new → Ends role old.hub new.hub
    → Continues trace_before trace_now (λ t. close_made t number) → ClosesAt number trace_before old trace_now new
closes number trace_before trace_now old new role was kept ends continues config limits pat fed done s links trace told same is_open at =
    let one : Some role ≡ Some at.keeps.now.role = was ∙ ap (option_map (λ link. link.role)) at.keeps.is in
    let role_now : role ≡ at.keeps.now.role = cc in
    record {
      grew = close_grows number trace trace_before trace_now told (subst (λ m. is_open_in trace m ≡ true) same (shown_at trace done s links is_open at.is.shown)) continues;
      at = λ t same_t closed. let_go config limits pat fed number done s links trace old same is_open t same_t closed at new kept
          (goes_ended config limits pat fed number done s links trace old same is_open t same_t closed at new.hub role (role_now ∙ role_is config limits pat fed number done s links trace old same is_open t same_t closed at) ends);
    }

-- a link that isn't there is none that changes
pub none_closes : (number : ℕ) (trace_before trace_now : Option (List LinkCall)) (old new : Turning) → None ≡ option_map (λ link. link.role) (link_at number (entries_of old.kept)) → ClosesAt number trace_before old trace_now new
none_closes number trace_before trace_now old new none config limits pat fed done s links trace told same is_open at =
    absurd (let not_so : None ≡ Some at.keeps.now.role = none ∙ ap (option_map (λ link. link.role)) at.keeps.is in cc)
